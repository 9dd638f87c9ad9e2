use Rattle.model.specs.Kit.{◌∙◌, sym, subst, ℕ, ◌+◌, ◌*◌, ◌^◌, ◌<◌, arith, T}
use Rattle.model.proofs.{Sets.mask_lt}
use Rattle.sheet_table.proofs.{Codes.init_small, Laws.swept_none, Laws.swept_over, Laws.swept_small, Laws.swept_rest}
use Rattle.sheet_carried.proofs.{Surely.lacking_place, Across.set_from}
use Rattle.sheet_carried.proofs.carried.sets_from.Goals as goal

pub loop-v-init : goal.loop-v-init
loop-v-init c =
    rw c.into_iter-v-iterator.ensures.into_iter_gives (λ p f ly lz. swept_none _ _ _ (c.members-v-items.ensures ∙ c.initial.ensures p f ly) (init_small p f.stated _ ly))

pub all_from-requires : goal.all_from-requires
all_from-requires c = (omega (arith, c.requires.0.3, c.requires.0.1.stated.few), subst (λ (s : ℕ). s < 2 ^ 16) (sym c.common-free.ensures) (mask_lt 16 _), c.requires.3)

pub loop-v-preserved : goal.loop-v-preserved
loop-v-preserved c =
    λ p f ly lz.
    let i = c.loop-v.invariant p f ly lz in
    swept_rest i c.in-Some.ensures.steps
    (set_from p f.stated _ _ _ _ _ _ lz _ _ _ _ _ (c.initial-last.ensures p f lz) c.support.ensures
    c.common-free.ensures c.place.ensures.0 c.support-rows.ensures
    (c.all_from.ensures c.if-not-all_from.false))

pub returns : goal.returns
returns c = λ q p f ly lz. swept_over (c.loop-v.invariant p f ly lz) c.in-None.ensures.steps

pub support-requires : goal.support-requires
support-requires c =
    let low : c.in-Some.v < 16 = swept_small (c.loop-v.invariant c.requires.0.0 c.requires.0.1 c.requires.0.2 c.requires.0.3) c.in-Some.ensures.steps in
    lacking_place _ _ _ c.requires.2 low

pub place-requires : goal.place-requires
place-requires c =
    let low : c.in-Some.v < 16 = swept_small (c.loop-v.invariant c.requires.0.0 c.requires.0.1 c.requires.0.2 c.requires.0.3) c.in-Some.ensures.steps in
    omega (arith, c.requires.0.2, c.requires.0.1.stated.few, low)

pub support-rows-requires : goal.support-rows-requires
support-rows-requires c =
    omega
    (arith, c.requires.1, c.place.ensures.0, c.requires.3 (16 * c.args.y + c.in-Some.v))
