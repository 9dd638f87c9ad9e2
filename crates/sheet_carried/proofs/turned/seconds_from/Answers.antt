use Rattle.model.specs.Kit.{◌∙◌, sym, subst, ℕ, ◌+◌, ◌*◌, ◌<◌, arith, T}
use Rattle.arrays.specs.Inner.Places.{SUPPORTS}
use Rattle.sheet_table.specs.Inner.Forbidden.{ThirdsFrom}
use Rattle.sheet_table.proofs.{Codes.init_small, Laws.swept_none, Laws.swept_over, Laws.swept_small, Laws.swept_rest}
use Rattle.sheet_carried.proofs.{Surely.lacking_place}
use Rattle.sheet_carried.proofs.turned.seconds_from.Goals as goal

pub loop-v-init : goal.loop-v-init
loop-v-init c =
    rw c.into_iter-v-iterator.ensures.into_iter_gives (λ p h l. swept_none _ _ _ (c.members-v-items.ensures ∙ c.initial.ensures p h.0 l) (init_small p h.0.stated _ l))

pub loop-v-preserved : goal.loop-v-preserved
loop-v-preserved c =
    λ p h l.
    swept_rest (c.loop-v.invariant p h l) c.in-Some.ensures.steps
    (subst (λ (n : ℕ). ThirdsFrom p c.args.supports.now c.args.moves.now (256 * c.args.k + n) (c.args.base + c.args.step * c.in-Some.v) c.args.third c.args.x c.args.z)
    c.place.ensures.0
    (c.thirds_from.ensures c.if-not-thirds_from.false p h))

pub returns : goal.returns
returns c = λ q p h l. swept_over (c.loop-v.invariant p h l) c.in-None.ensures.steps

pub place-requires : goal.place-requires
place-requires c =
    let low : c.in-Some.v < 16 = swept_small (c.loop-v.invariant c.requires.0.0 c.requires.0.1 c.requires.0.2) c.in-Some.ensures.steps in
    omega (arith, c.requires.0.2, c.requires.0.1.0.stated.few, low)

pub thirds_from-requires : goal.thirds_from-requires
thirds_from-requires c =
    let low : c.in-Some.v < 16 = swept_small (c.loop-v.invariant c.requires.0.0 c.requires.0.1 c.requires.0.2) c.in-Some.ensures.steps in
    let row : c.place.result < 16 = omega (arith, c.place.ensures.0, c.requires.3 (16 * c.args.y + c.in-Some.v)) in
    let Fits : ℕ → Type 0 = λ v. c.args.base + c.args.step * v + 15 * c.args.third < SUPPORTS in
    let set_spot : Fits c.in-Some.v = omega (arith, lacking_place (c.args.base + 15 * c.args.third) c.args.step c.in-Some.v (omega (arith, c.requires.2)) low) in
    ((c.requires.0.0, c.requires.0.1), omega (arith, row, c.requires.1), set_spot, c.requires.3)
