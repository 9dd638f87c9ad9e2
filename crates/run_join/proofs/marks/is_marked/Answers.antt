-- `is_marked`: one bit. Assumes nothing.
use Rattle.model.specs.Lists.{at}
use Rattle.model.proofs.Masks.{contains_op}
use Rattle.run_join.specs.Inner.Inner.{marked}
use Rattle.run_join.proofs.marks.is_marked.Goals as goal

pub returns : goal.returns
unfolding marked at
returns c = contains_op _ _
