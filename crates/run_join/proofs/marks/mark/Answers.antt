-- `mark`: one bit more. Assumes nothing.
use Rattle.model.specs.Kit.{arith}
use Rattle.model.specs.Lists.{at}
use Rattle.model.proofs.Members.{one_has}
use Rattle.run_join.proofs.{Bits.marked_too}
use Rattle.run_join.proofs.marks.mark.Goals as goal

pub returns : goal.returns
unfolding at
returns c = marked_too _ _ _ c.requires.1 c.requires.0 (λ y. one_has 64 _ y (omega arith))
