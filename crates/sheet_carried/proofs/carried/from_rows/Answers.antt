use Rattle.model.specs.Kit.{◌∙◌, sym, subst, ℕ, ◌+◌, ◌*◌, ◌^◌, ◌<◌, arith, T}
use Rattle.model.proofs.{Sets.mask_lt}
use Rattle.sheet_table.proofs.{Codes.init_small, Laws.swept_none, Laws.swept_over, Laws.swept_in, Laws.swept_small, Laws.swept_rest}
use Rattle.sheet_carried.proofs.{Across.across_second, Across.across_third, Across.across_few, Across.across_on, Across.across_rows}
use Rattle.sheet_carried.proofs.carried.from_rows.Goals as goal

pub loop-v-init : goal.loop-v-init
loop-v-init c =
    rw c.into_iter-v-iterator.ensures.into_iter_gives (λ p x. let l = across_second p _ _ _ _ _ _ x in
    swept_none _ _ _ (c.members-v-items.ensures ∙ c.initial.ensures p x.ready.framed l) (init_small p x.ready.framed.stated _ l))

pub all_from-requires : goal.all_from-requires
all_from-requires c = (omega (arith, (across_few c.requires.0.0 _ _ _ _ _ _ c.requires.0.1).1), subst (λ (s : ℕ). s < 2 ^ 16) (sym c.common-free.ensures) (mask_lt 16 _), c.requires.2)

pub loop-v-preserved : goal.loop-v-preserved
loop-v-preserved c =
    λ p x.
    let i = c.loop-v.invariant p x in
    let t = swept_in i c.in-Some.ensures.steps in
    swept_rest i c.in-Some.ensures.steps
    (across_rows p _ _ _ _ _ _ x _ t _ _ _ _ _ _ _ _ (c.refusing.ensures p _ (across_on p _ _ _ _ _ _ x _ t))
    (c.initial-last.ensures p x.ready.framed (across_third p _ _ _ _ _ _ x)) c.complement.ensures
    c.common-free.ensures
    c.place.ensures.0 c.support.ensures (c.all_from.ensures c.if-not-all_from.false))

pub returns : goal.returns
returns c = λ q p x. swept_over (c.loop-v.invariant p x) c.in-None.ensures.steps

pub initial-last-requires : goal.initial-last-requires
initial-last-requires c = (c.requires.0.0, c.requires.0.1.ready.framed, across_third c.requires.0.0 _ _ _ _ _ _ c.requires.0.1)

pub initial-requires : goal.initial-requires
initial-requires c = (c.requires.0.0, c.requires.0.1.ready.framed, across_second c.requires.0.0 _ _ _ _ _ _ c.requires.0.1)

pub refusing-requires : goal.refusing-requires
refusing-requires c = (across_few c.requires.0.0 _ _ _ _ _ _ c.requires.0.1).2

pub overflow_mul-e : goal.overflow_mul-e
overflow_mul-e c = omega (arith, (across_few c.requires.0.0 _ _ _ _ _ _ c.requires.0.1).0)

pub overflow_add-e : goal.overflow_add-e
overflow_add-e c = omega (arith, (across_few c.requires.0.0 _ _ _ _ _ _ c.requires.0.1).0)

pub place-requires : goal.place-requires
place-requires c =
    let low : c.in-Some.v < 16 = swept_small (c.loop-v.invariant c.requires.0.0 c.requires.0.1) c.in-Some.ensures.steps in
    omega (arith, (across_few c.requires.0.0 _ _ _ _ _ _ c.requires.0.1).0, low)

pub support-requires : goal.support-requires
support-requires c = omega (arith, c.requires.1, c.place.ensures.0, c.requires.2 (16 * c.args.y + c.in-Some.v))
