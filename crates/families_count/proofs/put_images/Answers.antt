-- The images by place, those of the block after the sheet's, and the settling order where pairs are lent. Assumes nothing.
use Rattle.model.specs.Kit.{◌∙◌, rules}
use Rattle.model.specs.Lists.{at}
use Rattle.families_count.proofs.{Images.lent_images, Images.lent_block, Images.movable, Images.put_moved, Images.put_same}
use Rattle.families_count.proofs.put_images.Goals as goal

pub widen-requires : goal.widen-requires
unfolding at
widen-requires c = c.requires.1

pub put_images-symmetries-requires : goal.put_images-symmetries-requires
unfolding at
put_images-symmetries-requires c =
    (_, lent_images _ _ _ _ _ _ _ c.requires.0.1 _ _ c.widen.ensures c.requires.1, lent_block _ _ _ _ _ _ _ c.requires.0.1)

pub reorder-requires : goal.reorder-requires
unfolding at
reorder-requires c = (
  _,
  movable _ _ _ _ _ _ _ c.requires.0.1 _ _
      (c.put_images-symmetries.ensures _ (lent_images _ _ _ _ _ _ _ c.requires.0.1 _ _ c.widen.ensures c.requires.1) (lent_block _ _ _ _ _ _ _ c.requires.0.1)).put,
)

pub returns-then-pairs-ne0 : goal.returns-then-pairs-ne0
unfolding at
returns-then-pairs-ne0 c = λ b a.
    let t = (c.put_images-symmetries.ensures _ (lent_images _ _ _ _ _ _ _ a _ _ c.widen.ensures c.requires.1) (lent_block _ _ _ _ _ _ _ a)).put in
    let m = c.reorder.ensures _ (movable _ _ _ _ _ _ _ a _ _ t) in
    (put_moved _ _ _ _ _ _ _ a _ _ t _ _ _ m, m.images_length ∙ t.sized)

pub returns-else-pairs-ne0 : goal.returns-else-pairs-ne0
unfolding at
returns-else-pairs-ne0 c = λ b a.
    let t = (c.put_images-symmetries.ensures _ (lent_images _ _ _ _ _ _ _ a _ _ c.widen.ensures c.requires.1) (lent_block _ _ _ _ _ _ _ a)).put in
    (put_same _ _ _ _ _ _ _ a _ _ t (search rules), t.sized)
