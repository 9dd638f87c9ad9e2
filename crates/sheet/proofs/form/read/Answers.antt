use Rattle.std.proofs.lemmas.Result.{err_from_is_err_and}
use Rattle.sheet.proofs.{FormTurn.read_short, FormTurn.read_yes, FormTurn.read_no}
use Rattle.sheet.proofs.form.read.Goals as goal

pub returns-then-sheet-lt16 : goal.returns-then-sheet-lt16
returns-then-sheet-lt16 c = read_short _ _ _ _ c.into.ensures c.if-sheet-lt16.true

pub returns-in_err-ask : goal.returns-in_err-ask
returns-in_err-ask c =
    let p = err_from_is_err_and c.from_residual.result c.from_residual.ensures.1 in
    rw (p.1, p.2) (read_no _ _ _ _ _ c.in_err-ask.was c.ask.ensures)

pub returns : goal.returns
returns c = read_yes _ _ _ c.read_header-h.result _ c.read_header-h.ensures c.in_ok-ask.was c.ask.ensures
