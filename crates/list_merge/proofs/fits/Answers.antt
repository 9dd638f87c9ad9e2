-- `fits`: it is counted where the room is short of both lists. Assumes nothing.
use Rattle.model.specs.Kit.{refl, sym, ◌∙◌, subst, T}
use Rattle.list_merge.proofs.{Asking.fits_both, Asking.told}
use Rattle.list_merge.proofs.fits.Goals as goal

pub returns-then-not-short : goal.returns-then-not-short
returns-then-not-short c = (
  fits_both c.args.n c.args.order.now c.args.first.now c.args.second.now c.requires.0 _
      (sym c.short.ensures ∙ c.if-not-short.true),
  refl,
)

pub returns : goal.returns
returns c = (c.is_ok.ensures.value ∙ told _ _ _ _ _ c.walk.ensures, c.walk.ensures.kept refl)

pub walk-requires : goal.walk-requires
walk-requires c = (c.requires.0, c.requires.1, λ z. absurd (subst T (sym z) tt))
