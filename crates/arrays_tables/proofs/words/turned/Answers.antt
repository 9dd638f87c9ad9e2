-- A value of each lane, the last number's first. Assumes nothing.
use Rattle.model.specs.Kit.{rules}
use Rattle.model.specs.Lists.{at}
use Rattle.arrays_tables.proofs.{Lanes.turned_begin, Lanes.turned_fit, Lanes.turned_turn, Lanes.turned_end}
use Rattle.arrays_tables.proofs.words.turned.Goals as goal

pub loop-t-init : goal.loop-t-init
loop-t-init c = turned_begin _ _

pub loop-t-preserved : goal.loop-t-preserved
unfolding at
loop-t-preserved c = turned_turn _ _ _ _ c.loop-t.invariant c.loop-t-test.true

pub returns : goal.returns
returns c = turned_end _ _ _ _ (search rules) c.loop-t.invariant

pub overflow_mul-all : goal.overflow_mul-all
overflow_mul-all c = record { fits = turned_fit _ _ _ _ c.loop-t.invariant c.loop-t-test.true }
