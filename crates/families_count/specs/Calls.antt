-- A call of `families`: what it was lent, and what comes back. It is the function's contract; promises' `FamilyCalls` says what a caller may rely on.
use Rattle.std.specs.Prelude.{◌≡◌, List, ℕ, Option, Result}
use Rattle.model.specs.declared.refusals.Refusal.{Refusal}
use Rattle.families_count.specs.{Told.counted_lent, Told.means}

-- a call of `families`: r comes back
abbrev pub CallFamilies : List ℕ → List ℕ → List ℕ → ℕ → Result (Option ℕ) Refusal → Type 0
CallFamilies b pairs block limit r = means r ≡ counted_lent b pairs block limit
