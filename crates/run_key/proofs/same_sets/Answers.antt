-- Whether the sets that are compared are those of an entry. Assumes nothing.
use Rattle.model.specs.Kit.{refl, sym, subst, T, arith}
use Rattle.model.specs.Lists.{at}
use Rattle.run_key.proofs.{Loops.same_turn}
use Rattle.run_key.proofs.same_sets.Goals as goal

pub loop-x-init : goal.loop-x-init
unfolding at
loop-x-init c = (refl, omega arith, (λ y l t. absurd (omega arith)))

pub returns-then-not-agrees : goal.returns-then-not-agrees
returns-then-not-agrees c = λ e. absurd (subst T (sym e) tt)

pub loop-x-preserved : goal.loop-x-preserved
unfolding at
loop-x-preserved c = (
  refl,
  c.loop-x.invariant.1,
  same_turn c.args.stack.now c.args.numbers.now c.args.work.now c.args.k c.args.pending c.args.low c.args.s c.loop-x.x c.loop-x.invariant.2
      (c.agrees.ensures c.if-not-agrees.false),
)

pub returns : goal.returns
unfolding at
returns c = λ e y l t. c.loop-x.invariant.2 y (omega (arith, c.loop-x.invariant.0)) t
