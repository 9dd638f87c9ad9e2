-- What a run on lent arrays leaves.
use Rattle.std.specs.Prelude.{◌≡◌, List, map, ℕ, length}
use Rattle.model.specs.{Lists.at, Problem.Problem, Search.nodes, Verdict.accepted, Run.plans_in, Run.nodes_in, Run.Result, Run.result_of, Run.Tally, Sheet.problem_of}
use Rattle.order.specs.Reordered.{write}
use Rattle.run_input.specs.Lent.{verdict_lent, order_lent, problem_lent}
use Rattle.arrays.specs.Inner.Places.{PLANS, WANTED}
use Rattle.run_state.specs.Inner.Walk.{Summed, all_noted, stop_in, tally_by}
use Rattle.run_search.specs.Inner.Prepared.{bytes_for}

abbrev pub result_for : List ℕ → List ℕ → List ℕ → List ℕ → ℕ → ℕ → Result
result_for task b pairs block limit size = result_of (problem_lent b pairs block) limit (bytes_for (at task WANTED) (problem_of b).variables size)

-- the run of p, whose variables are a sheet's in an order, has come to its end: the tally, the plans, how it stopped, and the list
pub record RunTo (p : Problem) (order : List ℕ) (r : Result) (list work' list' : List ℕ) (tally' : Tally) (stop : ℕ) : Type 0 where
  pub tally : tally' ≡ tally_by order (nodes p) (nodes_in r.ending)
  pub plans : at work' PLANS ≡ plans_in r.ending
  pub stopped : stop ≡ stop_in r.ending
  pub wrote : list' ≡ all_noted (map (write order) r.rows) list

-- what is lent is accepted, its run has come to its end, and the counts add up
pub record Explored (task b pairs block : List ℕ) (limit : ℕ) (list work' list' : List ℕ) (tally' : Tally) (stop : ℕ) : Type 0 where
  pub accepted : verdict_lent b pairs block ≡ accepted
  pub ended : RunTo (problem_lent b pairs block) (order_lent b pairs) (result_for task b pairs block limit (length list)) list work' list' tally' stop
  pub summed : Summed tally'
