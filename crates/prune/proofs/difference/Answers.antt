-- The variables whose sets differ are gathered, one after another. Assumes nothing.
use Rattle.model.specs.Kit.{rules}
use Rattle.model.specs.Lists.{at}
use Rattle.prune.proofs.{Copies.differing_begin, Copies.differing_turn, Copies.differing_end}
use Rattle.prune.proofs.difference.Goals as goal

pub loop-i-init : goal.loop-i-init
loop-i-init c = (search rules, differing_begin _ _)

pub loop-i-preserved : goal.loop-i-preserved
unfolding at
loop-i-preserved c = (
  search rules,
  differing_turn c.args.old.now c.args.new.now _ _ _
      c.loop-i.invariant.1 c.moved-all.ensures,
)

pub returns : goal.returns
returns c = differing_end _ _ _ _ (search rules) c.loop-i.invariant.1
