-- A run that is lent a sheet, pairs and a block (paper 02, #107, #108 and #111): its questions, its problem, its answer, its list and its tally.
-- Pairs: two bytes each, "this place before that place". Block: no bytes for none, else two, its first place and how many.
use Rattle.std.specs.Prelude.{List, ℕ}
use Rattle.model.specs.{Problem.Problem, Verdict.Verdict, Sheet.problem_of, Sheet.verdict_of, Run.Ending, Run.Answer, Run.Tally}
use Rattle.order.specs.{Order.settling_order, Order.order_verdict, Reordered.reordered, RunBy.Input, RunBy.answer_by, RunBy.list_by, RunBy.plans_by, RunBy.tallied_by}
use Rattle.block.specs.Block.{block_lent, with_lent}
use Rattle.sheet.specs.Meaning.{and_then}

-- ---- the questions: the sheet's, then 28 to 30, then the block's
unfoldable pub verdict_lent : List ℕ → List ℕ → List ℕ → Verdict
verdict_lent b pairs block = and_then (verdict_of b) (order_verdict (problem_of b).variables pairs (block_lent (problem_of b) block))

-- ---- the problem
-- that of the sheet with the block's symmetries after its own
abbrev pub problem_with : List ℕ → List ℕ → Problem
problem_with b block = with_lent block (problem_of b)

-- the order in which the run settles the places
abbrev pub order_lent : List ℕ → List ℕ → List ℕ
order_lent b pairs = settling_order (problem_of b).variables pairs

-- the problem whose tree the run walks
abbrev pub problem_lent : List ℕ → List ℕ → List ℕ → Problem
problem_lent b pairs block = reordered (order_lent b pairs) (problem_with b block)

-- what the run is given
abbrev pub lent_input : List ℕ → List ℕ → List ℕ → Input
lent_input b pairs block = record { verdict = verdict_lent b pairs block; order = order_lent b pairs; problem = problem_with b block }

-- ---- what a caller holds: order's, of this input
abbrev pub answer_lent : List ℕ → List ℕ → List ℕ → ℕ → List ℕ → Answer
answer_lent b pairs block limit out = answer_by (lent_input b pairs block) limit out

abbrev pub list_lent : List ℕ → List ℕ → List ℕ → ℕ → List ℕ → List ℕ
list_lent b pairs block limit out = list_by (lent_input b pairs block) limit out

abbrev pub plans_lent : List ℕ → List ℕ → List ℕ → ℕ → List ℕ → Ending → List (List ℕ)
plans_lent b pairs block limit out e = plans_by (lent_input b pairs block) limit out e

abbrev pub tally_lent : List ℕ → List ℕ → List ℕ → ℕ → List ℕ → Tally → Tally
tally_lent b pairs block limit out tally = tallied_by (lent_input b pairs block) limit out tally
