-- The loop: the problem's own and the rows below `row` have their images. Assumes nothing.
use Rattle.model.specs.Kit.{ap, ℕ, ◌+◌, ◌<◌, arith, get_or}
use Rattle.block.specs.Block.{factorial}
use Rattle.block.proofs.Block.{block_is}
use Rattle.arrays_block.proofs.Putting.{put_to, put_own, row_of, own_are, row_room, put_more, put_all}
use Rattle.arrays_block.proofs.put_rows.Goals as goal

pub loop-row-init : goal.loop-row-init
loop-row-init c = (omega arith, λ p i is. put_to p _ _ _ _ _ _ (let e = own_are p _ _ _ _ i is in omega arith) (put_own p _ _ _ _ i))

pub put_row-requires : goal.put_row-requires
put_row-requires c =
    let used : c.loop-row.row < factorial c.args.m = omega (arith, c.row_count-count.ensures.0) in
    let room : get_or c.args.numbers.now 67 0 + c.loop-row.row < 136 =
    omega (arith, own_are c.requires.0 _ _ _ _ c.requires.1 c.requires.2, row_room c.requires.0 _ _ _ _ c.requires.1 c.requires.2 _ used) in
    ((c.requires.0, row_of c.requires.0 _ _ _ _ c.requires.1 c.requires.2 _ _ c.rows-rows.ensures used), omega (arith, room))

pub loop-row-preserved : goal.loop-row-preserved
loop-row-preserved c =
    let used : c.loop-row.row < factorial c.args.m = omega (arith, c.row_count-count.ensures.0) in
    let g = get_or c.args.numbers.now 67 0 in (
      omega (arith),
      λ p i is.
          put_to p _ _ ((g + c.loop-row.row) + 1) (g + (c.loop-row.row + 1)) _ _ (omega arith)
          (put_more p _ _ _ _ i is (g + c.loop-row.row) c.loop-row.row _ _ (ap (λ (k : ℕ). k + c.loop-row.row) (own_are p _ _ _ _ i is)) used (c.loop-row.invariant.1 p i is)
          (c.put_row.ensures p (row_of p _ _ _ _ i is _ _ c.rows-rows.ensures used))),
    )

pub returns : goal.returns
returns c = λ p i is.
    let g = get_or c.args.numbers.now 67 0 in
    put_all p _ _ _ _ i is _ _ (let o = own_are p _ _ _ _ i is in omega arith)
    (put_to p _ _ (g + c.loop-row.row) (g + c.row_count-count.result) _ _ (omega (arith, c.loop-row.invariant.0)) (c.loop-row.invariant.1 p i is))

pub row_count-count-requires : goal.row_count-count-requires
row_count-count-requires c = (block_is c.requires.0 _ _ c.requires.2).0

pub overflow_add-g : goal.overflow_add-g
overflow_add-g c =
    let used : c.loop-row.row < factorial c.args.m = omega (arith, c.row_count-count.ensures.0) in
    let room : get_or c.args.numbers.now 67 0 + c.loop-row.row < 136 =
    omega (arith, own_are c.requires.0 _ _ _ _ c.requires.1 c.requires.2, row_room c.requires.0 _ _ _ _ c.requires.1 c.requires.2 _ used) in
    omega (arith, room)

pub overflow_mul-g : goal.overflow_mul-g
overflow_mul-g c =
    let used : c.loop-row.row < factorial c.args.m = omega (arith, c.row_count-count.ensures.0) in
    let room : get_or c.args.numbers.now 67 0 + c.loop-row.row < 136 =
    omega (arith, own_are c.requires.0 _ _ _ _ c.requires.1 c.requires.2, row_room c.requires.0 _ _ _ _ c.requires.1 c.requires.2 _ used) in
    omega (arith, room)

pub overflow_add-result : goal.overflow_add-result
overflow_add-result c = omega (arith, own_are c.requires.0 _ _ _ _ c.requires.1 c.requires.2, c.requires.1.symmetries, c.row_count-count.ensures.1)
