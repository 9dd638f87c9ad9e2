-- The loop: the pairs below c are weighed.
use Rattle.model.specs.Kit.{◌≡◌, ◌∙◌, ℕ, ◌-◌, ◌*◌, ◌/◌, ◌%◌, ◌^◌, arith, length-set}
use Rattle.model.specs.Lists.{at}
use Rattle.model.proofs.Lists.{set_each}
use Rattle.families.proofs.{Keys.digit_shifted}
use Rattle.families.proofs.weigh.Goals as goal

pub loop-c-init : goal.loop-c-init
loop-c-init c = (omega arith, c.requires.1, λ d l. absurd (omega arith))

pub loop-c-preserved : goal.loop-c-preserved
unfolding at
loop-c-preserved c = (
  omega arith,
  length-set c.loop-c.weights c.loop-c.c _ ∙ c.loop-c.invariant.1,
  λ d h.
      let new = digit_shifted c.args.variables (c.loop-c.c / 16) (c.loop-c.c % 16) c.requires.0 (omega arith) in
      set_each (λ (d w : ℕ). w ≡ d % 16 * 2 ^ (4 * (c.args.variables - 1 - d / 16))) c.loop-c.weights c.loop-c.c _ d (omega (arith, c.loop-c.invariant.1)) new
      (λ n. c.loop-c.invariant.2 d (omega arith)),
)

pub returns : goal.returns
returns c = λ d l. c.loop-c.invariant.2 d (omega arith)

pub overflow_mul-end : goal.overflow_mul-end
overflow_mul-end c = omega (arith, c.requires.0)

pub overflow_mul-weights : goal.overflow_mul-weights
overflow_mul-weights c = omega (arith, c.requires.0)

pub overflow_shl-weights : goal.overflow_shl-weights
overflow_shl-weights c = omega (arith, c.requires.0)

pub offset_bounds-weights-c : goal.offset_bounds-weights-c
offset_bounds-weights-c c = omega (arith, c.requires.0)

pub bounds-weights-c : goal.bounds-weights-c
bounds-weights-c c = omega (arith, c.requires.0)
