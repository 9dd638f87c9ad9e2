-- Retyped exchanges (paper 02, #109), of what two callers of `run_lent` hold: their sheets differ only in the order of the exchanges, and they lend the
-- same pairs and block under one limit, with lists of one length, whatever stands in these and in the tallies. proofs/RetypedCalls has the theorem.
use Rattle.std.specs.Prelude.{◌≡◌, List, ℕ, ◌*◌, length, drop, Result, Ok}
use Rattle.model.specs.{Run.plans_in, Verdict.accepted, Sheet.problem_of}
use Rattle.run_input.specs.Lent.{verdict_lent}
use Rattle.run_retyped.specs.Retyped.{SameButOrder}
use Rattle.run_state.specs.{Meaning.ending_of, declared.Tally.Tally, declared.Ending.Ending}
use Rattle.run.specs.{Calls.CallLent}
use Rattle.model.specs.declared.refusals.Refusal.{Refusal}
use Rattle.promises.specs.DemandsLent.{plans_from}

-- the first caller has sheet b, a list that came as out, answer r, list and tally at the end; the second has sheet c, and the others with a 2
pub record RetypedHeld (b out : List ℕ) (r : Result Ending Refusal) (after : List ℕ) (tally : Tally) (c out₂ : List ℕ) (r₂ : Result Ending Refusal) (after₂ : List ℕ) (tally₂ : Tally) : Type 0 where
  -- the same ending, plans and trials ..
  pub answer : r₂ ≡ r
  -- .. the same plans in the lists, the bytes behind them as they came ..
  pub plans : (e : Ending) → r ≡ Ok e → plans_from c (plans_in (ending_of e)) after₂ ≡ plans_from b (plans_in (ending_of e)) after
  pub rest : (e : Ending) → r ≡ Ok e → drop (plans_in (ending_of e) * (problem_of c).variables) after₂ ≡ drop (plans_in (ending_of e) * (problem_of c).variables) out₂
  -- .. so that lists that came alike are alike ..
  pub whole : out₂ ≡ out → after₂ ≡ after
  -- .. and the same thirteen numbers
  pub nodes : tally₂.nodes ≡ tally.nodes
  pub counts : tally₂.counts ≡ tally.counts

abbrev pub RetypedCalls : Type 0
RetypedCalls =
    (b c pairs block : List ℕ) → verdict_lent b pairs block ≡ accepted → SameButOrder b c → (limit : ℕ) →
    (out : List ℕ) (tally : Tally) (r : Result Ending Refusal) (after : List ℕ) (tally' : Tally) → CallLent b pairs block limit out tally r after tally' →
    (out₂ : List ℕ) (tally₂ : Tally) (r₂ : Result Ending Refusal) (after₂ : List ℕ) (tally₂' : Tally) → CallLent c pairs block limit out₂ tally₂ r₂ after₂ tally₂' →
    length out₂ ≡ length out → RetypedHeld b out r after tally' c out₂ r₂ after₂ tally₂'
