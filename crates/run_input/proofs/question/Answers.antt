-- On new arrays. Assumes nothing.
use Rattle.model.specs.Kit.{refl}
use Rattle.sheet.proofs.Whole.{zeros}
use Rattle.arrays.specs.Inner.Places.{NUMBERS, SUPPORTS}
use Rattle.run_input.proofs.question.Goals as goal

pub ask-requires : goal.ask-requires
ask-requires c = (zeros NUMBERS, zeros SUPPORTS, refl, refl)
