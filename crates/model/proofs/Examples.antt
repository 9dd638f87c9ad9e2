-- The starred examples of paper 01 hold of the definitions. Assumes nothing.
use Rattle.model.specs.Kit.{◌≡◌, refl, ap, ap₂, ◌∙◌, Bool, false, List, [], ℕ, ◌^◌, ◌≤◌, ◌<◌, length, arith, le-leb}
use Rattle.model.specs.Lists.{both, all, any, keep, flat, tabulate, up_from, below, at, same, earlier, ascending, rows_ascend}
use Rattle.model.specs.Problem.{values_at, satisfies, is_solution, assignments, pair, is_pair, pairs_of, within, takes, doubled, pairs_at, excluded, forbidden, respects}
use Rattle.model.specs.Sheet.{word, words, header_of, scope_at, rows_at, after_at, constraints_from, table_at, problem_of, header_verdict, sets_verdict, constraint_verdict, constraints_verdict}
use Rattle.model.specs.Sheet.{form_verdict, distinct, permutes_pairs, symmetries_verdict, verdict_of}
use Rattle.model.specs.Nogood.{obeys_from, obeying, used, filtered, entries, first_wrong, filter_verdict, sets_after}
use Rattle.model.specs.Search.{entries_at, nogoods_of, row_with, supported, pruned, narrowed, rounds, sets_at, is_live, nodes_below, nodes, is_plan}
use Rattle.model.specs.Run.{search, result_of, answer_of, written, list_of, tally_of, listed_plans}
use Rattle.model.specs.Examples.{filter_of, sheet_f, tests, tests_more, tests_beside, Each}
use Rattle.model.specs.{ValueSets.has, ValueSets.mask_below, ValueSets.least, ValueSets.members, ValueSets.any_empty, Claims.leaders, Verdict.Verdict, Verdict.accepted, Verdict.ask}
use Rattle.model.proofs.Filter.{filtered_none}

-- every definition that computes
unfoldable pub opened : ℕ
unfolding all any keep flat tabulate up_from below at same earlier ascending rows_ascend has mask_below least members any_empty values_at satisfies is_solution assignments pair is_pair pairs_of within
    takes doubled pairs_at excluded forbidden respects word words header_of scope_at rows_at after_at constraints_from table_at problem_of header_verdict sets_verdict constraint_verdict
    constraints_verdict
    form_verdict distinct permutes_pairs symmetries_verdict verdict_of obeys_from obeying used filtered entries first_wrong filter_verdict sets_after entries_at nogoods_of row_with supported pruned
    narrowed
    rounds sets_at is_live nodes_below nodes is_plan search result_of answer_of written list_of tally_of listed_plans
opened = 0

-- empty lists take nothing from non-empty sets: questions 17 to 19 are passed, and each value has an assignment through it
empty_lists : (ds : List ℕ) → 1 ≤ length ds → length ds ≤ 12 → ((x : ℕ) → at ds x < 2 ^ 16) → any_empty ds ≡ false → filter_of ds [] [] [] ≡ (accepted, ds)
unfolding filter_verdict first_wrong least entries sets_after
empty_lists ds low high small some =
    let e : filter_verdict ds [] [] [] ≡ accepted = ap (λ (b : Bool). ask b 17 0 accepted) (ap₂ both (le-leb 1 (length ds) low) (le-leb (length ds) 12 high)) in
    ap₂ {C = Verdict × List ℕ} (λ v l. (v, l)) e (ap (λ (v : Verdict). sets_after v ds []) e ∙ filtered_none ds small some)

-- all of them, the others by computation
pub examples : Each tests
unfolding opened
examples =
    (refl, (refl, (empty_lists, (refl, (refl, (refl, (refl, (refl, (refl, (refl, (refl, (refl, (refl, (refl, (refl, (refl, (refl, (refl, tt))))))))))))))))))

-- beside the list: a sheet that shows a sibling's equality kept
pub free_rotation : keep (is_plan (problem_of sheet_f)) (nodes (problem_of sheet_f)) ≡ leaders (problem_of sheet_f)
unfolding opened
free_rotation = refl

-- and one exchange more
pub examples_more : Each tests_more
unfolding opened
examples_more = ((omega arith, refl, refl), ((omega arith, refl, refl), (refl, (refl, (refl, (refl, tt))))))

-- and more rounds than one, and a run that is spent
pub examples_beside : Each tests_beside
unfolding opened
examples_beside = (refl, (refl, (refl, tt)))
