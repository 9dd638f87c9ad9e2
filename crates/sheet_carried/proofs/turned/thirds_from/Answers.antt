use Rattle.model.specs.Kit.{◌∙◌, sym, subst, ℕ, ◌+◌, ◌*◌, ◌^◌, ◌<◌, arith, T}
use Rattle.model.proofs.{Sets.mask_lt}
use Rattle.arrays.specs.Inner.Places.{SUPPORTS}
use Rattle.sheet_table.specs.Inner.Forbidden.{FirstsFrom}
use Rattle.sheet_table.proofs.{Codes.init_small, Laws.swept_none, Laws.swept_over, Laws.swept_small, Laws.swept_rest}
use Rattle.sheet_carried.proofs.{Surely.lacking_place, Wholes.firsts_from}
use Rattle.sheet_carried.proofs.turned.thirds_from.Goals as goal

pub loop-u-init : goal.loop-u-init
loop-u-init c =
    rw c.into_iter-u-iterator.ensures.into_iter_gives (λ p h. swept_none _ _ _ (c.members-u-items.ensures ∙ c.initial.ensures p h.0 h.2) (init_small p h.0.stated _ h.2))

pub firsts_from-requires : goal.firsts_from-requires
firsts_from-requires c = (
  omega (arith, c.requires.0.1.1, c.requires.0.1.0.stated.few),
  subst (λ (n : ℕ). n < 2 ^ 16) (sym c.common-set.ensures) (mask_lt 16 _),
  omega (arith, c.place.ensures.0, c.requires.3 (16 * c.args.z + c.in-Some.u)),
  c.requires.1,
  c.requires.3,
)

pub loop-u-preserved : goal.loop-u-preserved
loop-u-preserved c =
    λ p h.
    swept_rest (c.loop-u.invariant p h) c.in-Some.ensures.steps
    (subst (FirstsFrom p _ _ _ _ _) c.place.ensures.0
    (firsts_from p h.0.stated _ _ _ _ _ _ h.1 _ _ _ (c.initial-first.ensures p h.0 h.1) c.support.ensures c.common-set.ensures
    (c.firsts_from.ensures c.if-not-firsts_from.false)))

pub returns : goal.returns
returns c = λ q p h. swept_over (c.loop-u.invariant p h) c.in-None.ensures.steps

pub support-requires : goal.support-requires
support-requires c =
    let low : c.in-Some.u < 16 = swept_small (c.loop-u.invariant c.requires.0.0 c.requires.0.1) c.in-Some.ensures.steps in
    let Fits : ℕ → Type 0 = λ u. c.args.base + c.args.step * u < SUPPORTS in
    lacking_place _ _ _ c.requires.2 low

pub place-requires : goal.place-requires
place-requires c =
    let low : c.in-Some.u < 16 = swept_small (c.loop-u.invariant c.requires.0.0 c.requires.0.1) c.in-Some.ensures.steps in
    omega (arith, c.requires.0.1.2, c.requires.0.1.0.stated.few, low)
