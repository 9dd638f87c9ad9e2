use Rattle.model.specs.Kit.{arith}
use Rattle.sheet.proofs.{FormTurn.tables_room, FormTurn.pair_room}
use Rattle.sheet.proofs.form.tables_fit.Goals as goal

pub overflow_mul-result-2 : goal.overflow_mul-result-2
overflow_mul-result-2 c = omega (
  arith,
  tables_room c.args.h.symmetries c.args.h.variables c.args.h.values c.requires.2
      c.requires.0 c.requires.1,
)

pub overflow_mul-result-3 : goal.overflow_mul-result-3
overflow_mul-result-3 c = omega (
  arith,
  tables_room c.args.h.symmetries c.args.h.variables c.args.h.values c.requires.2
      c.requires.0 c.requires.1,
)

pub overflow_add-result : goal.overflow_add-result
overflow_add-result c = omega (
  arith,
  tables_room c.args.h.symmetries c.args.h.variables c.args.h.values
      c.requires.2 c.requires.0 c.requires.1,
  c.requires.3,
)
