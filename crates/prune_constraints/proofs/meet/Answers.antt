-- The loop: the sets below v are met. Assumes nothing.
use Rattle.model.specs.Kit.{arith, rules}
use Rattle.model.specs.Lists.{at}
use Rattle.prune_constraints.proofs.{Sixteen.meeting_begin, Sixteen.meeting_turn, Sixteen.meeting_end}
use Rattle.prune_constraints.proofs.meet.Goals as goal

pub loop-v-init : goal.loop-v-init
loop-v-init c = (search rules, meeting_begin _ _ _ _)

pub loop-v-preserved : goal.loop-v-preserved
unfolding at
loop-v-preserved c = (search rules, meeting_turn _ _ _ _ _ (omega arith) c.loop-v.invariant.1)

pub returns : goal.returns
returns c = meeting_end _ _ _ _ _ (search rules) (search rules) c.loop-v.invariant.1
