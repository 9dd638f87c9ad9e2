-- The unions of both halves. Assumes nothing.
use Rattle.model.specs.Kit.{◌<◌, lt_of_le_of_lt, arith, bit_and, lit<}
use Rattle.model.specs.Lists.{at}
use lib.Bits.{and_le_r}
use Rattle.prune_constraints.proofs.{Lanes.halves_together}
use Rattle.prune_constraints.proofs.together.Goals as goal

pub returns : goal.returns
unfolding at
returns c = λ lane f. halves_together c.args.numbers.now c.args.base _ lane c.requires.bits_bound f

pub overflow_cast-lower : goal.overflow_cast-lower
overflow_cast-lower c =
    let low : bit_and c.args.a.bits 15 < 16 = lt_of_le_of_lt (and_le_r c.args.a.bits 15) (lit< tt) in
    omega (arith, low)

pub overflow_add-lower : goal.overflow_add-lower
overflow_add-lower c =
    let low : bit_and c.args.a.bits 15 < 16 = lt_of_le_of_lt (and_le_r c.args.a.bits 15) (lit< tt) in
    omega (arith, low)

pub offset_bounds-numbers-base : goal.offset_bounds-numbers-base
offset_bounds-numbers-base c =
    let low : bit_and c.args.a.bits 15 < 16 = lt_of_le_of_lt (and_le_r c.args.a.bits 15) (lit< tt) in
    omega (arith, low)

pub bounds-numbers-base : goal.bounds-numbers-base
bounds-numbers-base c =
    let low : bit_and c.args.a.bits 15 < 16 = lt_of_le_of_lt (and_le_r c.args.a.bits 15) (lit< tt) in
    omega (arith, low)
