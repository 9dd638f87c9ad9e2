-- The constraints with two variables left. Assumes nothing.
use Rattle.model.specs.Kit.{refl, arith}
use Rattle.model.specs.Lists.{at}
use Rattle.run_key.proofs.{Loops.seen_turn, Loops.pending_turn}
use Rattle.run_key.proofs.pending_at.Goals as goal

pub loop-x-init : goal.loop-x-init
unfolding at
loop-x-init c = (refl, (λ d i l u t. absurd (omega arith)), (λ d i j l m u t t'. absurd (omega arith)))

pub loop-x-preserved : goal.loop-x-preserved
unfolding at
loop-x-preserved c = (
  refl,
  seen_turn c.args.numbers.now c.args.k c.loop-x.x c.loop-x.once c.loop-x.invariant.1,
  pending_turn
      c.args.numbers.now c.args.k c.loop-x.x c.loop-x.once c.loop-x.twice c.loop-x.invariant.1 c.loop-x.invariant.2,
)

pub returns : goal.returns
unfolding at
returns c = λ d i j a b u t t'. c.loop-x.invariant.2 d i j a b (omega (arith, c.loop-x.invariant.0)) t t'
