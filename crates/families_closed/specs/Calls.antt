-- A call of `closed`: a sheet, pairs and a block, and the answer. It is the function's contract. And what a caller may rely on (paper 02, #112);
-- proofs/Calls has the theorem.
use Rattle.std.specs.Prelude.{◌≡◌, ◌↔◌, List, ℕ, Option, None, Some, Result, Ok, Err}
use Rattle.model.specs.{Verdict.accepted, Verdict.refused, Refusals.number_of, declared.refusals.Question.Question, declared.refusals.Refusal.Refusal}
use Rattle.run_input.specs.Lent.{verdict_lent, problem_with}
use Rattle.families.specs.Families.{Closed}
use Rattle.families_closed.specs.{Open.FirstOpen, Lent.means, Lent.closed_lent, declared.Missing.Missing}

abbrev pub CallClosed : List ℕ → List ℕ → List ℕ → Result (Option Missing) Refusal → Type 0
CallClosed b pairs block r = means r ≡ closed_lent b pairs block

pub record ClosedHeld (b pairs block : List ℕ) (r : Result (Option Missing) Refusal) : Type 0 where
  -- the refusal of the run
  pub refuses : (number item : ℕ) → ((q : Question) × (r ≡ Err (record { question = q; item = item })) × (number_of q ≡ number)) ↔ (verdict_lent b pairs block ≡ refused number item)
  -- closed exactly if the exchanges are
  pub closed : verdict_lent b pairs block ≡ accepted → (r ≡ Ok None) ↔ Closed (problem_with b block)
  -- else two are told: the first whose product is missing; and only those
  pub missing : verdict_lent b pairs block ≡ accepted → (first second : ℕ) → (r ≡ Ok (Some (record { first = first; second = second }))) ↔ FirstOpen (problem_with b block) first second

abbrev pub ClosedCalls : Type 0
ClosedCalls = (b pairs block : List ℕ) (r : Result (Option Missing) Refusal) → CallClosed b pairs block r → ClosedHeld b pairs block r
