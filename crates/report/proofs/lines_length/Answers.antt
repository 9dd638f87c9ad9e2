-- `lines_length`: after i turns five bytes a plan and the fields of the first i values are counted. Assumes nothing.
use Rattle.model.specs.Kit.{◌≡◌, ap, List, ℕ, ◌+◌, ◌*◌, ◌≤◌, ◌<◌, arith, length, take, get_or-take, length-take-le}
use Rattle.model.specs.Lists.{flat}
use native.Mathlib.Nat.{mul-le-mul_left}
use Rattle.report.specs.{Report.decimal, Inner.Text.fields}
use Rattle.report.proofs.{Lines.fields_step, Lines.lines_length}
use Rattle.report.proofs.lines_length.Goals as goal

-- at most twelve values a plan
few : (plans n : ℕ) → n ≤ 12 → plans * n ≤ 12 * plans
few plans n h = omega (arith, mul-le-mul_left plans h)

start : (plans : ℕ) (list : List ℕ) → 5 * plans ≡ 5 * plans + length (fields (take 0 list))
unfolding fields flat
start plans list = omega arith

pub loop-value-init : goal.loop-value-init
loop-value-init c = (start c.args.plans c.args.list.now, omega arith)

pub overflow_add-length-in-loop-value : goal.overflow_add-length-in-loop-value
overflow_add-length-in-loop-value c =
    omega (arith, length-take-le (c.args.plans * c.args.n) c.args.list.now c.requires.2, few c.args.plans c.args.n c.requires.0, c.requires.1, c.digit_count.ensures.1, c.loop-value.invariant.1)

pub loop-value-preserved : goal.loop-value-preserved
loop-value-preserved c =
    let i = c.loop-value.value-index in
    let within : i < c.args.plans * c.args.n = omega (arith, length-take-le (c.args.plans * c.args.n) c.args.list.now c.requires.2) in
    let value = get_or-take (c.args.plans * c.args.n) c.args.list.now i 0 within in
    let digits = ap (λ (x : ℕ). length (decimal x)) value in (
      omega (arith, fields_step c.args.list.now i (omega (arith, c.requires.2)), digits, c.digit_count.ensures.0, c.loop-value.invariant.0),
      omega (arith, c.digit_count.ensures.1, c.loop-value.invariant.1),
    )

pub returns : goal.returns
returns c =
    let values = c.args.plans * c.args.n in
    let last : c.loop-value.value-index ≡ values = omega (arith, length-take-le (c.args.plans * c.args.n) c.args.list.now c.requires.2) in
    let counted = ap (λ (k : ℕ). length (fields (take k c.args.list.now))) last in (
      omega (arith, counted, c.loop-value.invariant.0, lines_length c.args.n c.args.plans c.args.list.now),
      omega (arith, last, c.loop-value.invariant.1, few c.args.plans c.args.n c.requires.0),
    )

pub overflow_mul-values : goal.overflow_mul-values
overflow_mul-values c = omega (arith, few c.args.plans c.args.n c.requires.0, c.requires)

pub overflow_mul-length : goal.overflow_mul-length
overflow_mul-length c = omega (arith, c.requires.1)

pub overflow_add-length : goal.overflow_add-length
overflow_add-length c = omega (arith, c.digit_count.ensures.1)
