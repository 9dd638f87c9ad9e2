use Rattle.std.proofs.lemmas.Result.{err_from_is_err_and}
use Rattle.model.specs.Kit.{sym, ap, ◌∙◌}
use Rattle.model.specs.Refusals.{verdict_from}
use Rattle.sheet.proofs.{Whole.whole_no, Whole.whole_yes, Whole.formed, Whole.compile_no, Whole.tables_asked, Whole.compile_yes}
use Rattle.sheet.proofs.compile.Goals as goal

pub returns-in_err-h : goal.returns-in_err-h
returns-in_err-h c =
    let p = err_from_is_err_and c.from_residual.result c.from_residual.ensures.1 in
    rw (p.1, p.2) (compile_no _ _ _ _ _ (whole_no _ _ _ _ c.read.ensures _ c.in_err-h.was))

pub ask-requires : goal.ask-requires
ask-requires c = (formed _ _ _ _ c.read.ensures _ c.in_ok-h.was, c.read.ensures.headed _ c.in_ok-h.was)

pub returns-in_err-ask : goal.returns-in_err-ask
returns-in_err-ask c =
    let p = err_from_is_err_and c.from_residual-in_err-ask.result c.from_residual-in_err-ask.ensures.1 in
    rw (p.1, p.2)
    (compile_no _ _ _ _ _ (sym (ap verdict_from c.in_err-ask.was) ∙ whole_yes _ _ _ _ c.read.ensures _ c.ask.result c.in_ok-h.was c.ask.ensures))

pub decode_all-requires : goal.decode_all-requires
decode_all-requires c = (
  tables_asked _ _ _ c.ask.result (formed _ _ _ _ c.read.ensures _ c.in_ok-h.was) c.in_ok-ask.was c.ask.ensures,
  c.read.ensures.headed _ c.in_ok-h.was,
)

pub returns : goal.returns
returns c =
    let yes = formed _ _ _ _ c.read.ensures _ c.in_ok-h.was in
    compile_yes _ _ _ _ _ yes (sym (whole_yes _ _ _ _ c.read.ensures _ c.ask.result c.in_ok-h.was c.ask.ensures) ∙ ap verdict_from c.in_ok-ask.was)
    (tables_asked _ _ _ c.ask.result yes c.in_ok-ask.was c.ask.ensures) c.decode_all.ensures
