-- Of what a caller of `run_counted` holds. proofs/CountedCalls has the theorem.
use Rattle.std.specs.Prelude.{List, ℕ}
use Rattle.run.specs.{Calls.CallLent, Calls.CallCounted, Calls.no_tally, declared.CountedRun.CountedRun}

-- all that is said of a call of `run_lent` holds of one of `run_counted`: `demands_lent` and its like
abbrev pub CountedCalls : Type 0
CountedCalls =
    (b pairs block : List ℕ) (limit : ℕ) (out : List ℕ) (r : CountedRun) (after : List ℕ) → CallCounted b pairs block limit out r after →
    CallLent b pairs block limit out no_tally r.answer after r.tally
