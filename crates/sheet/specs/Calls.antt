-- A call of `question`, and what a caller may rely on: the answer is the first "no" with its number and item, or that there is none. proofs/Calls has the
-- theorems.
use Rattle.std.specs.Prelude.{◌≡◌, ◌↔◌, List, ℕ, ◌<◌, Result, Ok, T}
use Rattle.model.specs.{Problem.respects, Verdict.Verdict, Verdict.accepted, Verdict.refused, Sheet.header_of, Sheet.problem_of, Sheet.permutes_pairs, Sheet.verdict_of, Claims.OneMore}
use Rattle.model.specs.{Claims.exchange_in, Refusals.verdict_from, Refusals.IsRefusal, declared.refusals.Refusal.Refusal}

-- bytes b, answer r. It is the function's contract.
abbrev pub CallQuestion : List ℕ → Result Unit Refusal → Type 0
CallQuestion b r = verdict_from r ≡ verdict_of b

-- the answer says the verdict
pub record Says (r : Result Unit Refusal) (v : Verdict) : Type 0 where
  pub accepts : (r ≡ Ok tt) ↔ (v ≡ accepted)
  pub refuses : (number item : ℕ) → IsRefusal r number item ↔ (v ≡ refused number item)

abbrev pub QuestionCalls : Type 0
QuestionCalls = (b : List ℕ) (r : Result Unit Refusal) → CallQuestion b r → Says r (verdict_of b)

-- one exchange more than an accepted sheet has: accepted exactly if it is at most the sixteenth and passes 15 and 16
abbrev pub OneMoreCalls : Type 0
OneMoreCalls =
    (b c t : List ℕ) (k : ℕ) (r : Result Unit Refusal) → OneMore b c k t → CallQuestion b (Ok tt) → CallQuestion c r →
    (r ≡ Ok tt) ↔ (((header_of b).symmetries < 16) × T (permutes_pairs (problem_of b) (exchange_in b t)) × T (respects (problem_of b) (exchange_in b t)))
