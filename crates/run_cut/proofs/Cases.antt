-- Worked cases of a run in parts, by computation. Assumes nothing.
use Rattle.model.specs.Kit.{◌≡◌, refl, [], ◌∷◌, ℕ, replicate}
use Rattle.model.specs.Lists.{all, any, keep, flat, tabulate, up_from, below, at, same, earlier, ascending, rows_ascend}
use Rattle.model.specs.ValueSets.{has, mask_below, least, members, any_empty}
use Rattle.model.specs.Problem.{values_at, satisfies, is_solution, assignments, pair, is_pair, pairs_of, within, takes, doubled, pairs_at, excluded, forbidden, respects}
use Rattle.model.specs.Sheet.{word, words, header_of, scope_at, rows_at, after_at, constraints_from, table_at, problem_of, sets_verdict, constraint_verdict, constraints_verdict, distinct}
use Rattle.model.specs.Sheet.{permutes_pairs}
use Rattle.model.specs.Sheet.{symmetries_verdict, header_verdict, form_verdict, verdict_of}
use Rattle.model.specs.Search.{entries_at, nogoods_of, row_with, supported, pruned, narrowed, rounds, sets_at, is_live, nodes_below, nodes, is_plan}
use Rattle.model.specs.{Nogood.obeys_from, Nogood.obeying, Nogood.used, Nogood.filtered, Run.search, Run.result_of, Run.written, Run.counts_by, Examples.sheet_a}
use Rattle.run_cut.specs.{Parts.after, Parts.nodes_after, Parts.last_of, Parts.progress_at, Parts.go_on, Parts.added, Parts.progress_after, Between.nodes_between, Inner.Paths.nodes_of}

-- every definition that computes
opened : ℕ
unfolding all any keep flat tabulate up_from below at same earlier ascending rows_ascend has mask_below least members any_empty values_at satisfies is_solution assignments pair is_pair pairs_of within
    takes doubled pairs_at excluded forbidden respects word words header_of scope_at rows_at after_at constraints_from table_at problem_of sets_verdict constraint_verdict constraints_verdict distinct
    permutes_pairs symmetries_verdict header_verdict form_verdict verdict_of obeys_from obeying used filtered entries_at nogoods_of row_with supported pruned narrowed rounds sets_at is_live
    nodes_below nodes
    is_plan search result_of written after nodes_after nodes_between nodes_of last_of go_on added counts_by
opened = 0

-- sheet A has the nodes 0, 01, 02, 1, 12, 2
pub after_01 : nodes_after (problem_of sheet_a) (0 ∷ 1 ∷ []) ≡ (0 ∷ 2 ∷ []) ∷ (1 ∷ []) ∷ (1 ∷ 2 ∷ []) ∷ (2 ∷ []) ∷ []
unfolding opened
after_01 = refl

-- a path that is no node
pub after_10 : nodes_after (problem_of sheet_a) (1 ∷ 0 ∷ []) ≡ (1 ∷ 2 ∷ []) ∷ (2 ∷ []) ∷ []
unfolding opened
after_10 = refl

pub between : nodes_between (problem_of sheet_a) (0 ∷ 1 ∷ []) (1 ∷ []) ≡ (0 ∷ 2 ∷ []) ∷ (1 ∷ []) ∷ []
unfolding opened
between = refl

-- after three nodes, 0, 01 and 02, the first variable was settled once and the second twice; gone on to the end each was settled three times
pub counts_3 : (progress_at (problem_of sheet_a) 3).counts ≡ 1 ∷ 2 ∷ replicate 10 0
unfolding opened
counts_3 = refl

pub counts_on : (progress_after (problem_of sheet_a) (progress_at (problem_of sheet_a) 3) (go_on (problem_of sheet_a) 9 9 (progress_at (problem_of sheet_a) 3))).counts ≡ 3 ∷ 3 ∷ replicate 10 0
unfolding opened
counts_on = refl
