-- `give`: no turns, a slot that doesn't wait, a slot that is served. Assumes nothing.
use Rattle.model.specs.Kit.{◌≡◌, sym, ◌∙◌, ℕ, ◌≤◌, arith, not-false}
use Rattle.model.specs.Lists.{at}
use Rattle.desk_turns.proofs.{Rounding.no_turns, Rounding.no_wait, Rounding.some_due}
use Rattle.desk_turns.proofs.round.give.Goals as goal

some : (n : ℕ) → (n ≡ 0 → ⊥) → 1 ≤ n
some n h = omega arith

pub returns-then-turns-eq0 : goal.returns-then-turns-eq0
returns-then-turns-eq0 c = no_turns _ _ _ c.if-turns-eq0.true

pub returns-then-not-waits : goal.returns-then-not-waits
returns-then-not-waits c = no_wait _ _ _ (sym c.waits.ensures ∙ c.if-not-waits.true)

pub serve-requires : goal.serve-requires
serve-requires c = (
  c.requires.0,
  c.requires.1,
  sym c.waits.ensures ∙ not-false _
      c.if-not-waits.false-raw,
  omega (arith, some _ c.if-turns-eq0.false),
)

pub returns : goal.returns
unfolding at
returns c = some_due _ _ _ (
  c.requires.0,
  λ i. (c.slice_known-1.given i).fits,
) c.requires.1
    (sym c.waits.ensures ∙ c.if-not-waits.false)
    (some _ c.if-turns-eq0.false) _ _ c.serve.ensures
