-- `passes`: a table that moves a number that is no pair is refused; of any other the questions say it. Assumes nothing.
use Rattle.std.specs.Prelude.{Result, Ok, Err}
use Rattle.std.specs.Result.{is_ok}
use Rattle.model.specs.{Refusals.verdict_from, declared.refusals.Refusal.Refusal}
use Rattle.model.specs.Kit.{◌≡◌, refl, sym, ap, ◌∙◌, ◌-◌, ◌%◌, arith, length-take-le}
use Rattle.model.specs.Verdict.{is_accepted}
use Rattle.sheet_small.specs.Small.{is_sheet}
use Rattle.sheet_small.proofs.{Pruned.parts, Pruned.few, Pruned.moved_refused}
use Rattle.sheet_small.proofs.passes.Goals as goal

ok_accepts : (r : Result Unit Refusal) → is_ok r ≡ is_accepted (verdict_from r)
ok_accepts (Ok done) = refl
ok_accepts (Err by) = refl

pub moved-requires : goal.moved-requires
moved-requires c =
    let q = parts c.args.n c.requires in
    let t = few ((c.args.n - 144) % 24) c.permuted.result q.1 c.permuted.ensures in
    (q.0, t.0, t.1, t.2, t.3)

pub returns-then-moved-gt0 : goal.returns-then-moved-gt0
returns-then-moved-gt0 c =
    moved_refused c.args.n c.moved.result c.permuted.result c.if-n-ge144.true c.requires c.permuted.ensures
    c.moved.ensures c.if-moved-gt0.true

pub slice_bounds-question-end : goal.slice_bounds-question-end
slice_bounds-question-end c =
    sym (length-take-le c.numbered-d.result.size c.numbered-d.result.bytes (omega (arith, c.numbered-d.ensures.length_bytes, c.numbered-d.ensures.fits)))

pub returns : goal.returns
unfolding is_sheet
returns c = c.is_ok.ensures.value ∙ ok_accepts c.question.result ∙ ap is_accepted c.question.ensures ∙ ap is_sheet c.numbered-d.ensures.is
