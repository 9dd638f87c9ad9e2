use Rattle.model.specs.Kit.{refl, arith}
use Rattle.sheet_table.proofs.{Codes.code_small}
use Rattle.sheet_table.proofs.pair_code.Goals as goal

pub returns : goal.returns
returns c = (refl, code_small c.args.q c.args.d c.requires.0 c.requires.1 c.requires.2)

pub overflow_mul-result : goal.overflow_mul-result
overflow_mul-result c = omega (arith, code_small c.args.q c.args.d c.requires.0 c.requires.1 c.requires.2)

pub overflow_add-result : goal.overflow_add-result
overflow_add-result c = omega (arith, code_small c.args.q c.args.d c.requires.0 c.requires.1 c.requires.2)
