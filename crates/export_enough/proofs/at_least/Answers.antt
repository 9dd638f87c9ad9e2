-- `at_least`: the answer's length is asked first; then whether there are so many plans. Assumes nothing.
use Rattle.model.specs.Kit.{◌≡◌, refl, sym, ap, ◌∙◌, subst}
use Rattle.std.specs.Prelude.{Ok}
use Rattle.run.specs.{declared.Enough.Enough, Meaning.said_enough}
use Rattle.run_enough.specs.Lent.{EnoughAnswer}
use Rattle.export_enough.specs.{Enough.said_code, Inner.Inner.SmallSaid}
use Rattle.export_enough.proofs.{AtLeast.small_said, AtLeast.wrong_size, AtLeast.right_size}
use Rattle.export_enough.proofs.at_least.Goals as goal
use Rattle.run.specs.declared.Enough.TheVariants as E

-- an answer that is no refusal has code 0
no_refusal : (e : Enough) → 0 ≡ said_code (said_enough (Ok e))
no_refusal (E.Yes plans nodes) = refl
no_refusal (E.No plans nodes) = refl
no_refusal (E.Spent plans nodes) = refl

pub returns-then-answer-ne12 : goal.returns-then-answer-ne12
returns-then-answer-ne12 c = wrong_size _ _ _ _ _ _ c.if-answer-ne12.true

pub refusal_code-requires : goal.refusal_code-requires
refusal_code-requires c =
    subst (λ (z : EnoughAnswer). SmallSaid z) (sym c.at_least.ensures ∙ ap said_enough c.in-Err.is) (small_said _ _ _ _ _ c.ranges.limit.fits c.ranges.plans.fits)

pub said-requires : goal.said-requires
said-requires c = (
  c.if-answer-ne12.false,
  subst (λ (z : EnoughAnswer). SmallSaid z) (sym c.at_least.ensures ∙ ap said_enough c.in-Ok.is)
      (small_said _ _ _ _ _ c.ranges.limit.fits c.ranges.plans.fits),
)

pub returns-in-Ok : goal.returns-in-Ok
returns-in-Ok c =
    right_size _ _ _ _ _ _ (said_enough (Ok c.in-Ok.e)) _ _ c.if-answer-ne12.false (sym (ap said_enough c.in-Ok.is) ∙ c.at_least.ensures) (no_refusal c.in-Ok.e)
    c.said.ensures

pub returns-in-Err : goal.returns-in-Err
returns-in-Err c =
    right_size _ _ _ _ _ _ _ _ _ c.if-answer-ne12.false (sym (ap said_enough c.in-Err.is) ∙ c.at_least.ensures) c.refusal_code.ensures refl
