-- A call of `run`, `run_with`, `run_lent`, `run_counted` and `at_least`: what it was lent, what it answered, and what the lent bytes are at the end. Each is the function's contract;
-- promises' `Demands` and its like say what a caller may rely on.
use Rattle.std.specs.Prelude.{◌≡◌, List, ℕ, Result, replicate}
use Rattle.model.specs.declared.refusals.Refusal.{Refusal}
use Rattle.model.specs.Run.{answer_of, list_of, tally_of}
use Rattle.run_input.specs.Lent.{answer_lent, list_lent, tally_lent}
use Rattle.run_enough.specs.Lent.{enough_lent}
use Rattle.run_state.specs.{Meaning.tally_in, declared.Tally.Tally, declared.Ending.Ending}
use Rattle.run.specs.{Meaning.means, Meaning.said_enough, declared.CountedRun.CountedRun, declared.Enough.Enough}

-- `run`: sheet b, node limit, list `out` as it came, answer r, list `after` at the end
pub record CallRun (b : List ℕ) (limit : ℕ) (out : List ℕ) (r : Result Ending Refusal) (after : List ℕ) : Type 0 where
  pub answers : means r ≡ answer_of b limit out
  pub leaves : after ≡ list_of b limit out

-- `run_with`, which is lent a tally besides: as it came, and at the end
pub record CallWith (b : List ℕ) (limit : ℕ) (out : List ℕ) (tally : Tally) (r : Result Ending Refusal) (after : List ℕ) (tally' : Tally) : Type 0 where
  pub call : CallRun b limit out r after
  pub counts : tally_in tally' ≡ tally_of b limit out (tally_in tally)

-- `run_lent`, which is lent pairs and a block besides
pub record CallLent (b pairs block : List ℕ) (limit : ℕ) (out : List ℕ) (tally : Tally) (r : Result Ending Refusal) (after : List ℕ) (tally' : Tally) : Type 0 where
  pub answers : means r ≡ answer_lent b pairs block limit out
  pub leaves : after ≡ list_lent b pairs block limit out
  pub counts : tally_in tally' ≡ tally_lent b pairs block limit out (tally_in tally)

-- a tally of nothing
abbrev pub no_tally : Tally
no_tally = record { nodes = 0; counts = replicate 12 0 }

-- `run_counted`, whose tally begins at nothing and is handed out in r
abbrev pub CallCounted : List ℕ → List ℕ → List ℕ → ℕ → List ℕ → CountedRun → List ℕ → Type 0
CallCounted b pairs block limit out r after =
    (means r.answer ≡ answer_lent b pairs block limit out) × (after ≡ list_lent b pairs block limit out) × (tally_in r.tally ≡ tally_lent b pairs block limit out (tally_in no_tally))

-- `at_least`: r comes back
abbrev pub CallEnough : List ℕ → List ℕ → List ℕ → ℕ → ℕ → Result Enough Refusal → Type 0
CallEnough b pairs block limit m r = said_enough r ≡ enough_lent b pairs block limit m
