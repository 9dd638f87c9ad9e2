-- All of the lanes of two sets a turn, from those of their half. Assumes nothing.
use Rattle.model.specs.Kit.{◌+◌, arith, set, length-set}
use Rattle.model.specs.Lists.{at}
use Rattle.model.proofs.Filling.{filled_end}
use Rattle.arrays.specs.Inner.Places.{SPREAD}
use Rattle.arrays_tables.proofs.{Lanes.spreads_two, Lanes.spreads_begin, Lanes.spreads_end, Lanes.spread_fits}
use Rattle.arrays_tables.proofs.spreads.spreads.Goals as goal

pub loop-h-init : goal.loop-h-init
loop-h-init c = spreads_begin c.args.numbers.now (omega arith)

pub overflow_mul-moved : goal.overflow_mul-moved
unfolding at
overflow_mul-moved c = record { fits = omega (arith, spread_fits _ _ _ c.loop-h.invariant (omega arith) (omega arith)) }

pub overflow_add-numbers-in-loop-h-2 : goal.overflow_add-numbers-in-loop-h-2
unfolding at
overflow_add-numbers-in-loop-h-2 c = record { fits = omega (arith, spread_fits _ _ _ c.loop-h.invariant (omega arith) (omega arith)) }

pub loop-h-preserved : goal.loop-h-preserved
unfolding at
loop-h-preserved c = spreads_two _ _ _ _ c.loop-h.invariant (omega (
  arith,
  length-set (set c.args.numbers.now SPREAD 0) (SPREAD + 1) 255,
  length-set c.args.numbers.now SPREAD 0,
)) (c.loop-h.invariant.here _ (omega arith))

pub returns : goal.returns
returns c = spreads_end _ _ (omega arith) (filled_end _ _ _ _ _ _ (omega arith) (omega arith) c.loop-h.invariant)
