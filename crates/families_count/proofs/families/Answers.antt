-- All questions once; the images and the count where there is no "no". Assumes nothing.
use Rattle.model.specs.Kit.{sym}
use Rattle.model.specs.Lists.{at}
use Rattle.arrays.specs.Inner.Places.{IMAGES, NUMBERS, SUPPORTS, WIDE}
use Rattle.sheet.proofs.Whole.{zeros}
use Rattle.std.proofs.lemmas.Result.{err_from_is_err_and}
use Rattle.families_count.proofs.{Bare.new_whole, Bare.counted_refused}
use Rattle.families_count.proofs.families.Goals as goal

pub ask-asked-requires : goal.ask-asked-requires
ask-asked-requires c = (zeros NUMBERS, zeros SUPPORTS, (zeros IMAGES).sized, (zeros 16).sized)

pub returns-in_err-asked : goal.returns-in_err-asked
returns-in_err-asked c =
    let p = err_from_is_err_and c.from_residual.result c.from_residual.ensures.1 in
    rw (p.1, p.2) (counted_refused _ _ _ _ _ _ c.in_err-asked.ensures.answers)

pub put_images-symmetries-requires : goal.put_images-symmetries-requires
unfolding at
put_images-symmetries-requires c = ((_, c.in_ok-asked.ensures), (zeros WIDE).sized)

-- the wide array keeps its length
pub slice_bounds-counted-end : goal.slice_bounds-counted-end
unfolding at
slice_bounds-counted-end c = sym (c.put_images-symmetries.ensures _ c.in_ok-asked.ensures).1

pub counted-requires : goal.counted-requires
unfolding at
counted-requires c = (_, _, _, new_whole _ _ _ _ _ _ _ (c.put_images-symmetries.ensures _ c.in_ok-asked.ensures).0)

pub returns : goal.returns
unfolding at
returns c = c.counted.ensures _ _ _ (new_whole _ _ _ _ _ _ _ (c.put_images-symmetries.ensures _ c.in_ok-asked.ensures).0)
