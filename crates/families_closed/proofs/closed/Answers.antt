-- The questions, then the test. Assumes nothing.
use Rattle.model.specs.Kit.{refl, ap}
use Rattle.model.specs.{Verdict.accepted, Verdict.refused, Refusals.number_of}
use Rattle.arrays.specs.Inner.Places.{NUMBERS, SUPPORTS}
use Rattle.sheet.proofs.Whole.{zeros}
use Rattle.std.proofs.lemmas.Result.{err_from_is_err_and}
use Rattle.families_closed.specs.Lent.{told}
use Rattle.families_closed.proofs.{Testing.passed_of, Testing.told_for}
use Rattle.families_closed.proofs.closed.Goals as goal

pub ask-requires : goal.ask-requires
ask-requires c = (zeros NUMBERS, zeros SUPPORTS, refl, refl)

pub returns-in_err-ask : goal.returns-in_err-ask
returns-in_err-ask c =
    let p = err_from_is_err_and c.from_residual.result c.from_residual.ensures.1 in
    let f = c.in_err-ask.field-0.0 in
    rw (p.1, p.2) (told_for _ _ _ _ _ _ _ _ c.in_err-ask.ensures (refused (number_of f.question) f.item) _ refl refl)

pub test-requires : goal.test-requires
test-requires c = (_, _, passed_of _ _ _ _ _ _ _ _ c.in_ok-ask.ensures refl)

pub returns : goal.returns
returns c = told_for _ _ _ _ _ _ _ _ c.in_ok-ask.ensures accepted _ refl (ap told (c.test.ensures _ _ (passed_of _ _ _ _ _ _ _ _ c.in_ok-ask.ensures refl)))
