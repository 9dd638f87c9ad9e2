use Rattle.std.proofs.lemmas.Result.{err_from_is_err_and}
use Rattle.sheet.proofs.{Whole.zeros, Whole.whole_no, Whole.whole_yes, Whole.formed}
use Rattle.arrays.specs.Inner.Places.{NUMBERS, SUPPORTS}
use Rattle.sheet.proofs.question.Goals as goal

pub read-requires : goal.read-requires
read-requires c = (zeros NUMBERS, zeros SUPPORTS)

pub returns-in_err-h : goal.returns-in_err-h
returns-in_err-h c =
    let p = err_from_is_err_and c.from_residual.result c.from_residual.ensures.1 in
    rw (p.1, p.2) (whole_no _ _ _ _ c.read.ensures _ c.in_err-h.was)

pub ask-requires : goal.ask-requires
ask-requires c = (formed _ _ _ _ c.read.ensures _ c.in_ok-h.was, c.read.ensures.headed _ c.in_ok-h.was)

pub returns : goal.returns
returns c = whole_yes _ _ _ _ c.read.ensures _ c.ask.result c.in_ok-h.was c.ask.ensures
