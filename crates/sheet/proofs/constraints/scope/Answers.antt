use Rattle.model.specs.Kit.{arith}
use Rattle.sheet.proofs.ScopeTurn.{scope_none, scope_more, scope_low, scope_high, scope_end, part, unit_small}
use Rattle.sheet.proofs.constraints.scope.Goals as goal

pub loop-i-init : goal.loop-i-init
loop-i-init c = (omega arith, scope_none _ _ _ _ _ _ c.requires.1)

pub returns-then-x-least : goal.returns-then-x-least
returns-then-x-least c = scope_low _ _ _ _ _ _ _ _ _ _ _ c.loop-i.invariant.1 _ c.read_word-x.ensures (omega arith) c.if-x-least.true

pub returns-then-n-x : goal.returns-then-n-x
returns-then-n-x c = scope_high _ _ _ _ _ _ _ _ _ _ _ c.loop-i.invariant.1 _ c.read_word-x.ensures (omega arith) c.if-n-x.true

pub overflow_mul-packed : goal.overflow_mul-packed
overflow_mul-packed c = omega (
  arith,
  part c.read_word-x.result c.loop-i.unit
      (omega (arith, c.if-n-x.false, c.requires.2)),
  unit_small
      c.loop-i.i c.loop-i.unit
      (omega (arith, c.requires.1))
      c.loop-i.invariant.1.power,
)

pub overflow_add-packed : goal.overflow_add-packed
overflow_add-packed c = omega (
  arith,
  c.loop-i.invariant.1.small,
  part c.read_word-x.result
      c.loop-i.unit (omega (arith, c.if-n-x.false, c.requires.2)),
  unit_small c.loop-i.i c.loop-i.unit
      (omega (arith, c.requires.1))
      c.loop-i.invariant.1.power,
)

pub overflow_mul-unit : goal.overflow_mul-unit
overflow_mul-unit c = omega (
  arith,
  unit_small c.loop-i.i c.loop-i.unit
      (omega (arith, c.requires.1))
      c.loop-i.invariant.1.power,
)

pub loop-i-preserved : goal.loop-i-preserved
loop-i-preserved c = (
  omega (arith),
  scope_more _ _ _ _ _ _ _ _ _ _ _ c.loop-i.invariant.1 _
      c.read_word-x.ensures _ c.touch.ensures c.if-x-least.false c.if-n-x.false
      c.requires.2,
)

pub returns : goal.returns
returns c = scope_end _ _ _ _ _ _ _ _ _ _ _ c.loop-i.invariant.1 (omega arith) c.loop-i.invariant.0
