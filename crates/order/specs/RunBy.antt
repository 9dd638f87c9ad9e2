-- A run: what its questions answered, the order in which it settles the variables, and its problem (paper 01; paper 02, #107 and #108). What it answers, lists and
-- counts, its leaders, and its sets at a prefix by place number. promises' `Demands` says what is claimed of it.
use Rattle.std.specs.Prelude.{Bool, List, map, ℕ, length, take}
use Rattle.model.specs.Run.{Ending, plans_in, Result, result_of, Answer, written, listed_plans, settled_by, counts_by, Tally, tally_for}
use Rattle.model.specs.{Lists.keep, Lists.below, Lists.at, Problem.Problem, Problem.assignments, Verdict.Verdict, Verdict.reply, Verdict.kept, Sheet.verdict_of, Sheet.problem_of, Search.sets_at}
use Rattle.model.specs.{Search.is_live, Search.nodes, Claims.is_leader}
use Rattle.order.specs.Reordered.{read, write, earlier_by, reordered}

-- ---- what a run is given
pub record Input : Type 0 where
  pub verdict : Verdict
  pub order : List ℕ
  pub problem : Problem

-- paper 01's: a sheet, whose variables are settled as they are numbered
abbrev pub sheet_input : List ℕ → Input
sheet_input b = record { verdict = verdict_of b; order = below (problem_of b).variables; problem = problem_of b }

-- ---- the run of a problem in an order
-- the run of the reordered problem, its rows written by place number
unfoldable pub result_by : List ℕ → Problem → ℕ → ℕ → Result
result_by order p limit room =
    let r = result_of (reordered order p) limit room in
    record { ending = r.ending; rows = map (write order) r.rows }

-- of the first k nodes of the tree, those that settle each of twelve places: a node of j + 1 values settles order[j]
unfoldable pub place_counts : List ℕ → Problem → ℕ → List ℕ
place_counts order p k = counts_by (λ t. at order (settled_by t)) (take k (nodes (reordered order p)))

abbrev pub place_tally : List ℕ → Problem → ℕ → Tally
place_tally order p k = record { nodes = k; counts = place_counts order p k }

-- the leaders as they read in the order, each once: of the rows drawn in the order and written by place number
abbrev pub leaders_by : List ℕ → Problem → List (List ℕ)
leaders_by order p = keep (is_leader (earlier_by order) p) (map (write order) (assignments (read order p.initial)))

-- the sets at a prefix, which gives values to order[0], .. order[k - 1], by place number, and whether it is live
abbrev pub sets_by : List ℕ → Problem → List ℕ → List ℕ
sets_by order p prefix = write order (sets_at (reordered order p) prefix)

abbrev pub is_live_by : List ℕ → Problem → List ℕ → Bool
is_live_by order p prefix = is_live (reordered order p) prefix

-- ---- what a caller holds
unfoldable pub answer_by : Input → ℕ → List ℕ → Answer
answer_by i limit out = reply i.verdict (result_by i.order i.problem limit (length out)).ending

unfoldable pub list_by : Input → ℕ → List ℕ → List ℕ
list_by i limit out = kept i.verdict out (written (result_by i.order i.problem limit (length out)).rows out)

-- the plans that a caller finds in its list after a run that ended so
abbrev pub plans_by : Input → ℕ → List ℕ → Ending → List (List ℕ)
plans_by i limit out e = listed_plans i.problem.variables (plans_in e) (list_by i limit out)

-- the caller's tally: the nodes made, by the place that each settles; as it came after a refusal
unfoldable pub tallied_by : Input → ℕ → List ℕ → Tally → Tally
tallied_by i limit out tally = tally_for (answer_by i limit out) (place_tally i.order i.problem) tally
