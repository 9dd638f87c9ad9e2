-- `head_shaped`: question by question. Assumes nothing.
use Rattle.model.specs.Kit.{arith}
use Rattle.std.proofs.lemmas.Grind.{common_steps}
use Rattle.run_join.specs.Join.{head_shaped}
use Rattle.run_join.proofs.heads.head_shaped.Goals as goal

pub returns-then-path_shaped-2 : goal.returns-then-path_shaped-2
unfolding head_shaped
returns-then-path_shaped-2 c = grind (arith, common_steps)

pub returns-else-path_shaped-2 : goal.returns-else-path_shaped-2
unfolding head_shaped
returns-else-path_shaped-2 c = grind (arith, common_steps)
