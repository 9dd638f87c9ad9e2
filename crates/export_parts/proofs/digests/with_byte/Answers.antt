-- `with_byte`: no step wraps. Assumes nothing.
use Rattle.model.specs.Kit.{◌*◌, ◌≤◌, mul-le-mul_right, arith}
use Rattle.export_parts.proofs.digests.with_byte.Goals as goal

pub overflow_mul-result : goal.overflow_mul-result
overflow_mul-result c = let m : c.args.h * c.args.base ≤ 2147483647 * c.args.base = mul-le-mul_right c.args.base (omega arith) in omega arith

pub overflow_add-result : goal.overflow_add-result
overflow_add-result c = let m : c.args.h * c.args.base ≤ 2147483647 * c.args.base = mul-le-mul_right c.args.base (omega arith) in omega arith

pub overflow_add-result-2 : goal.overflow_add-result-2
overflow_add-result-2 c = let m : c.args.h * c.args.base ≤ 2147483647 * c.args.base = mul-le-mul_right c.args.base (omega arith) in omega arith
