-- `run_between::last_values` meets its contract: proofs/Ends. Assumes nothing.
use Rattle.model.specs.Kit.{arith}
use Rattle.model.specs.Lists.{at}
use Rattle.run_between.proofs.{Ends.valuing_next}
use Rattle.run_between.proofs.last_values.Goals as goal

pub offset_bounds-work-i : goal.offset_bounds-work-i
unfolding at
offset_bounds-work-i c = record { fits = omega (arith, c.requires.0) }

pub bounds-work-i : goal.bounds-work-i
unfolding at
bounds-work-i c = omega (arith, c.requires.0)

pub overflow_cast-last : goal.overflow_cast-last
unfolding at
overflow_cast-last c = record { fits = c.requires.1 _ (omega arith) }

pub bounds-last-i : goal.bounds-last-i
unfolding at
bounds-last-i c = omega (arith, c.requires.0)

pub loop-i-preserved : goal.loop-i-preserved
unfolding at
loop-i-preserved c =
    valuing_next c.args.work.now _ _ (omega (arith, c.requires.0)) c.loop-i.invariant

pub returns : goal.returns
unfolding at
returns c = record { twelve = c.loop-i.invariant.twelve; values = λ i l. c.loop-i.invariant.values i (omega (arith, l)) }
