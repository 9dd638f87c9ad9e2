-- What the parts of a run ask and leave, around the search itself.
use Rattle.std.specs.Prelude.{◌≡◌, List, ℕ, ◌-◌, ◌*◌, Result}
use Rattle.model.specs.{Lists.at, Verdict.accepted, Verdict.refused, Run.refusal, Run.ended, Run.Ending, Run.plans_in, Run.nodes_in, Run.result_of, Sheet.problem_of, declared.refusals.Refusal.Refusal}
use Rattle.run_input.specs.Lent.{verdict_lent, problem_lent}
use Rattle.arrays.specs.Inner.Places.{PLANS}
use Rattle.run_state.specs.Inner.Walk.{stop_in}
use Rattle.run.specs.Meaning.{means}
use Rattle.run_state.specs.declared.Ending as S

-- a run that stopped so ends so
pub record Answered (work : List ℕ) (made stop : ℕ) (e : Ending) : Type 0 where
  pub plans : plans_in e ≡ at work PLANS
  pub nodes : nodes_in e ≡ made
  pub stopped : stop_in e ≡ stop

-- the answer of a run that counted up to one plan less than are asked for
pub record Wanted (wanted : ℕ) (b pairs block : List ℕ) (limit : ℕ) (r : Result S.Ending Refusal) : Type 0 where
  pub refused : (number item : ℕ) → verdict_lent b pairs block ≡ refused number item → means r ≡ refusal number item
  pub ended : verdict_lent b pairs block ≡ accepted → means r ≡ ended (result_of (problem_lent b pairs block) limit ((wanted - 1) * (problem_of b).variables)).ending
