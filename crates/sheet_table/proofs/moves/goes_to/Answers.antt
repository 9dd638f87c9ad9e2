use Rattle.model.specs.Kit.{sym, ◌∙◌, ap, ℕ, ◌/◌, arith}
use Rattle.model.proofs.Lowest.{lowest_le}
use Rattle.sheet_table.proofs.{Codes.init_small, Laws.swept_none, Laws.swept_over, Laws.swept_small, Laws.swept_rest}
use Rattle.sheet_table.proofs.moves.goes_to.Goals as goal

pub place-y-requires : goal.place-y-requires
place-y-requires c = omega (arith, c.requires.2, c.requires.1.stated.few, c.lowest.ensures, lowest_le c.initial-values.result.bits)

pub loop-v-init : goal.loop-v-init
loop-v-init c = rw c.into_iter-v-iterator.ensures.into_iter_gives (λ p f h. swept_none _ _ _ (c.members-v-items.ensures ∙ c.initial-values.ensures p f h) (init_small p f.stated _ h))

pub place-requires : goal.place-requires
place-requires c =
    let small = swept_small (c.loop-v.invariant c.requires.0 c.requires.1 c.requires.2) c.in-Some.ensures.steps in
    omega (arith, c.requires.2, c.requires.1.stated.few)

pub loop-v-preserved : goal.loop-v-preserved
loop-v-preserved c = λ p f h. swept_rest (c.loop-v.invariant p f h) c.in-Some.ensures.steps (ap (λ (n : ℕ). n / 16) (sym c.place.ensures.0) ∙ c.if-place-y.false)

pub returns : goal.returns
returns c = (
  omega (arith, c.place-y.ensures.1),
  λ p f h v t n. swept_over (c.loop-v.invariant p f h) c.in-None.ensures.steps v t,
)
