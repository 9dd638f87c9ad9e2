-- A call of `question`: bytes of a sheet, pairs and a block, and the answer. proofs/Calls has the theorem; what the verdict is, is `QuestionsLentClaim`.
use Rattle.std.specs.Prelude.{◌≡◌, List, ℕ, Result}
use Rattle.model.specs.{Refusals.verdict_from, declared.refusals.Refusal.Refusal}
use Rattle.sheet.specs.Calls.{Says}
use Rattle.run_input.specs.Lent.{verdict_lent}

-- It is the function's contract.
abbrev pub CallQuestionLent : List ℕ → List ℕ → List ℕ → Result Unit Refusal → Type 0
CallQuestionLent b pairs block r = verdict_from r ≡ verdict_lent b pairs block

abbrev pub QuestionLentCalls : Type 0
QuestionLentCalls = (b pairs block : List ℕ) (r : Result Unit Refusal) → CallQuestionLent b pairs block r → Says r (verdict_lent b pairs block)
