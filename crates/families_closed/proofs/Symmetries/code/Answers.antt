-- A quotient and a remainder are no larger than the number. Assumes nothing.
use Rattle.model.specs.Kit.{arith}
use native.Mathlib.Nat.{div-le_self, mod-le}
use Rattle.families_closed.proofs.Symmetries.code.Goals as goal

pub overflow_mul-result : goal.overflow_mul-result
overflow_mul-result c = omega (arith, div-le_self c.args.q c.args.self.now.values)

pub overflow_add-result : goal.overflow_add-result
overflow_add-result c = omega (arith, div-le_self c.args.q c.args.self.now.values, mod-le c.args.q c.args.self.now.values)
