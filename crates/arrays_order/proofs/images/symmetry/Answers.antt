-- One pair after another. Assumes nothing.
use Rattle.model.specs.Kit.{refl, ap, ◌∙◌, ℕ, ◌+◌, ◌*◌, ◌/◌, ◌%◌, ◌<◌, arith, rules}
use Rattle.model.specs.{Lists.at}
use Rattle.model.proofs.Filling.{filled_begin, filled_turn, filled_end}
use Rattle.arrays_order.specs.Inner.Steps.{renamed_to}
use Rattle.arrays.proofs.Copies.{copied_at}
use Rattle.arrays_order.proofs.images.symmetry.Goals as goal

pub loop-j-init : goal.loop-j-init
loop-j-init c = (λ i. copied_at c.args.images.now _ c.args.from 192 i c.copy_from_slice.ensures.after, filled_begin _ _ _)

pub image-requires : goal.image-requires
image-requires c = (let l : c.loop-j.j / 16 < c.args.order.n = omega arith in omega (
  arith,
  (c.from-x.ensures ∙ c.entry.ensures),
  c.args.order.small
      (c.loop-j.j / 16) l,
))

pub loop-j-preserved : goal.loop-j-preserved
loop-j-preserved c =
    let l : c.loop-j.j / 16 < c.args.order.n = omega arith in
    let s : 16 * c.from-x.result + c.loop-j.j % 16 < 192 = omega (
      arith,
      (c.from-x.ensures ∙ c.entry.ensures),
      c.args.order.small
          (c.loop-j.j / 16) l,
    ) in (
      c.loop-j.invariant.0,
      filled_turn _ _ _ _ _ _ _ c.loop-j.invariant.1 refl (omega arith)
          (λ v l e. omega arith) (c.renamed.ensures ∙ ap (renamed_to c.args.stands.now)
          (c.image.ensures ∙ c.loop-j.invariant.0 _ s ∙ ap
          (λ (z : ℕ). at c.args.images.now
          (c.args.from + (16 * z + c.loop-j.j % 16)))
          (c.from-x.ensures ∙ c.entry.ensures))),
    )

pub returns : goal.returns
returns c = filled_end _ _ _ _ _ _ (search rules) (search rules) c.loop-j.invariant.1

pub bounds-images-from : goal.bounds-images-from
bounds-images-from c = omega (arith, c.loop-j.invariant.1.size)

pub shape_of-images : goal.shape_of-images
shape_of-images c = c.loop-j.invariant.1.size
