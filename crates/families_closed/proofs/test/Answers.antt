-- The images are copied, the block's are put after them, and the pairs are tried. Assumes nothing.
use Rattle.model.specs.Sheet.{problem_of}
use Rattle.arrays.specs.Inner.Places.{WIDE}
use Rattle.sheet.proofs.Whole.{zeros}
use Rattle.run_input.specs.Lent.{problem_with}
use Rattle.families_closed.proofs.{Testing.imaged_of, Testing.block_passed, Testing.held_of}
use Rattle.families_closed.proofs.test.Goals as goal

pub put_images-count-requires : goal.put_images-count-requires
put_images-count-requires c =
    (problem_of c.requires.0, imaged_of _ _ _ _ _ c.requires.2 _ _ c.widen.ensures (zeros WIDE).sized, block_passed _ _ _ _ _ c.requires.2)

pub first_missing-requires : goal.first_missing-requires
first_missing-requires c =
    let t = c.put_images-count.ensures (problem_of c.requires.0) (imaged_of _ _ _ _ _ c.requires.2 _ _ c.widen.ensures (zeros WIDE).sized) (block_passed _ _ _ _ _ c.requires.2) in
    (problem_with c.requires.0 _, held_of _ _ _ _ _ c.requires.2 _ _ _ t, t.put.all)

pub returns : goal.returns
returns c = λ b pairs h.
    let t = c.put_images-count.ensures (problem_of b) (imaged_of _ _ _ _ _ h _ _ c.widen.ensures (zeros WIDE).sized) (block_passed _ _ _ _ _ h) in
    let p = problem_with b _ in
    c.first_missing.ensures p (held_of _ _ _ _ _ h _ _ _ t) t.put.all

pub widen-requires : goal.widen-requires
widen-requires c = (zeros WIDE).sized
