-- The loop: the images of the first of the queue were all looked at.
use Rattle.model.specs.Kit.{arith}
use Rattle.families.proofs.{Turns.spread_head, Turns.flooding_spread, Turns.flooding_turn, Turns.flooding_end}
use Rattle.families.proofs.Solutions.flood.Goals as goal

pub loop-first-init : goal.loop-first-init
loop-first-init c = λ p starts count f. f

pub loop-first-preserved : goal.loop-first-preserved
loop-first-preserved c =
    λ p starts count f.
    let g = c.loop-first.invariant p starts count f in
    flooding_turn g (c.spread-end.ensures p starts count (flooding_spread g c.loop-first-test.true))

pub returns : goal.returns
returns c = λ p starts count f. flooding_end (c.loop-first.invariant p starts count f) c.loop-first-test.false

pub spread-end-requires : goal.spread-end-requires
spread-end-requires c =
    (_, _, _, (flooding_spread (c.loop-first.invariant c.requires.0 c.requires.1 c.requires.2 c.requires.3) c.loop-first-test.true))

pub overflow_add-first : goal.overflow_add-first
overflow_add-first c =
    omega (arith, spread_head (flooding_spread (c.loop-first.invariant c.requires.0 c.requires.1 c.requires.2 c.requires.3) c.loop-first-test.true))

pub loop-first-smaller : goal.loop-first-smaller
loop-first-smaller c =
    omega (arith, spread_head (flooding_spread (c.loop-first.invariant c.requires.0 c.requires.1 c.requires.2 c.requires.3) c.loop-first-test.true))
