-- Room for the plans of as many variables as the numbers say. Assumes nothing.
use Rattle.model.specs.Kit.{sym, ◌*◌, arith, length-take-le}
use Rattle.model.specs.Lists.{at}
use Rattle.arrays.specs.Inner.Places.{VARIABLES}
use Rattle.families_count.proofs.{Bare.room_long, Bare.whole_few, Bare.whole_roomy, Bare.counted_so}
use Rattle.families_count.proofs.counted.Goals as goal

pub overflow_mul-used : goal.overflow_mul-used
unfolding at
overflow_mul-used c = omega (arith, whole_few _ _ _ _ _ _ _ _ _ _ c.requires.3)

pub slice_bounds-list-end : goal.slice_bounds-list-end
unfolding at
slice_bounds-list-end c = omega (arith, whole_few _ _ _ _ _ _ _ _ _ _ c.requires.3, room_long _ c.plan_room-list.ensures)

pub slice_bounds-figure-end : goal.slice_bounds-figure-end
unfolding at
slice_bounds-figure-end c = sym (length-take-le _ _
    (omega (arith, whole_few _ _ _ _ _ _ _ _ _ _ c.requires.3, room_long _ c.plan_room-list.ensures)))

pub figure-requires : goal.figure-requires
unfolding at
figure-requires c =
    (_, _, _, c.requires.3, whole_roomy _ _ _ _ _ _ _ _ _ _ c.requires.3 _ (length-take-le _ _ (omega (arith, whole_few _ _ _ _ _ _ _ _ _ _ c.requires.3, room_long _ c.plan_room-list.ensures))))

pub returns : goal.returns
unfolding at
returns c = λ b pairs block h.
    let n = at c.args.numbers.now VARIABLES in
    let l = length-take-le (4096 * n) c.plan_room-list.result (omega (arith, whole_few _ _ _ _ _ _ _ _ _ _ h, room_long _ c.plan_room-list.ensures)) in
    let r = whole_roomy _ _ _ _ _ _ _ _ _ _ h _ l in
    counted_so _ _ _ _ _ _ _ _ _ _ h _ _ r _ _ (c.figure.ensures _ _ _ h r)
