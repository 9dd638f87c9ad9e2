-- What is claimed of parts of a run that are run apart, of what callers of `run_part` hold, and beside them a caller of `run_lent` with the same sheet, pairs
-- and block. The statements can be read without the proofs.
use Rattle.std.specs.Prelude.{◌≡◌, List, [], ◌∷◌, ℕ, ◌*◌, ◌≤◌, length, Result}
use Rattle.model.specs.{Verdict.accepted, Sheet.problem_of}
use Rattle.run_input.specs.Lent.{verdict_lent}
use Rattle.run_state.specs.{Meaning.tally_in, declared.Tally.Tally, declared.Ending.Ending}
use Rattle.run.specs.{Meaning.means, Calls.CallLent}
use Rattle.model.specs.declared.refusals.Refusal.{Refusal}
use Rattle.run_ranges.specs.Claims.{Part, Chain, sum_plans, sum_nodes, Together}
use Rattle.run_part.specs.{Calls.CallPart, declared.PartRun.PartRun}

-- parts that go one behind the other from the empty path to the path 255, each finished or spent, whatever their limits and lists: a run with limit and room
-- enough is finished; its plans are theirs, one behind the other, its nodes and each of its counts are the sums
abbrev pub PartsCalls : Type 0
PartsCalls =
    (b pairs block : List ℕ) (cs : List Part) → verdict_lent b pairs block ≡ accepted → Chain b pairs block [] cs (255 ∷ []) →
    (limit : ℕ) (out : List ℕ) (tally : Tally) (r : Result Ending Refusal) (after : List ℕ) (tally' : Tally) → CallLent b pairs block limit out tally r after tally' →
    sum_nodes cs ≤ limit → sum_plans cs * (problem_of b).variables ≤ length out → Together (problem_of b).variables cs out (means r) after (tally_in tally')

-- from the empty path to the path 255 it is the run: the same answer, the same list, the same counts
abbrev pub WholeCalls : Type 0
WholeCalls =
    (b pairs block : List ℕ) (limit : ℕ) (out : List ℕ) (r : PartRun) (after : List ℕ) → CallPart b pairs block [] (255 ∷ []) limit out r after →
    (tally : Tally) (r' : Result Ending Refusal) (after' : List ℕ) (tally' : Tally) → CallLent b pairs block limit out tally r' after' tally' → verdict_lent b pairs block ≡ accepted →
    (means r.answer ≡ means r') × (after ≡ after') × (tally_in r.tally ≡ tally_in tally')
