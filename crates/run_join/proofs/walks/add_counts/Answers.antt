-- `add_counts`: after i turns the first i counts are raised. Assumes nothing.
use Rattle.model.specs.Kit.{refl, arith, rules}
use Rattle.model.specs.Lists.{at}
use Rattle.run_join.proofs.{Sums.counts_turn}
use Rattle.run_join.proofs.walks.add_counts.Goals as goal

pub loop-i-init : goal.loop-i-init
loop-i-init c = (search rules, λ x h. absurd (omega arith), λ x h. absurd (omega arith), λ x h. refl)

pub overflow_add-sums : goal.overflow_add-sums
unfolding at
overflow_add-sums c =
    omega (arith, c.four_at.ensures.1, c.requires.1 c.loop-i.i (omega arith), c.loop-i.invariant.3 c.loop-i.i (omega arith))

pub loop-i-preserved : goal.loop-i-preserved
unfolding at
loop-i-preserved c =
    counts_turn c.args.counts c.args.l.now c.loop-i.sums c.args.k c.loop-i.i _ c.four_at.result (omega arith) c.loop-i.invariant
    c.four_at.ensures.0 c.four_at.ensures.1 refl

pub returns : goal.returns
returns c =
    record { each = λ x h. c.loop-i.invariant.1 x (omega arith); few = λ x h. c.loop-i.invariant.2 x (omega arith) }
