-- Worked cases of the queue, by computation. Assumes nothing.
use Rattle.model.specs.Kit.{◌≡◌, refl, [], ◌∷◌, ℕ, replicate}
use Rattle.model.specs.Lists.{all, any, keep, flat, tabulate, up_from, below, at, total, same, earlier, ascending, rows_ascend}
use Rattle.model.specs.Problem.{values_at, satisfies, is_solution, assignments, pair, is_pair, pairs_of, within, takes, doubled, pairs_at, excluded, forbidden, respects}
use Rattle.model.specs.Sheet.{word, words, header_of, scope_at, rows_at, after_at, constraints_from, table_at, problem_of, sets_verdict, constraint_verdict, constraints_verdict, distinct}
use Rattle.model.specs.Sheet.{permutes_pairs}
use Rattle.model.specs.Sheet.{symmetries_verdict, header_verdict, form_verdict, verdict_of}
use Rattle.model.specs.Search.{entries_at, nogoods_of, row_with, supported, pruned, narrowed, rounds, sets_at, is_live, nodes_below, nodes, is_plan}
use Rattle.model.specs.Run.{finished, spent, search, result_of, written, counts_by}
use Rattle.model.specs.{ValueSets.has, ValueSets.mask_below, ValueSets.least, ValueSets.members, ValueSets.any_empty, Nogood.obeys_from, Nogood.obeying, Nogood.used, Nogood.filtered, Examples.sheet_a}
use Rattle.run_cut.specs.{Parts.after, Parts.nodes_after, Parts.last_of, Parts.go_on, Parts.added, Between.nodes_between, Inner.Paths.nodes_of}
use Rattle.desk.specs.Queue.{over, job_turned, first_of, empty_queue, Queue, submit, turn, release, refusal, answered, queued, idle, served, released, queue_end, queue_replies}
use Rattle.desk.specs.{Rounds.due, Rounds.rounds_queue, Rounds.turns_given, Rounds.ended_in, Rounds.going_on, Status.status_reply, Inner.Examples.Stay}

-- every definition that computes
opened : ℕ
unfolding all any keep flat tabulate up_from below at total same earlier ascending rows_ascend has mask_below least members any_empty values_at satisfies is_solution assignments pair is_pair pairs_of
    within takes doubled pairs_at excluded forbidden respects word words header_of scope_at rows_at after_at constraints_from table_at problem_of sets_verdict constraint_verdict constraints_verdict
    distinct
    permutes_pairs symmetries_verdict header_verdict form_verdict verdict_of obeys_from obeying used filtered entries_at nogoods_of row_with supported pruned narrowed rounds sets_at is_live
    nodes_below nodes
    is_plan search result_of written after nodes_after nodes_between nodes_of last_of go_on added counts_by job_turned first_of queue_end queue_replies due
opened = 0

-- two jobs, the second with limit 2, a third that may make no node; idle, releasing with short room, releasing, releasing again
pub queue_case : queue_replies empty_queue (turn ∷ submit sheet_a 1000000 ∷ submit sheet_a 2 ∷ submit sheet_a 0 ∷ submit [] 5 ∷ release 1 [] ∷ turn ∷ turn ∷ turn ∷ turn ∷ release 0
    (replicate 5 9) ∷ release 0 (replicate 8 9) ∷ release 0 [] ∷ release 8 [] ∷ submit sheet_a 7 ∷ [])
    ≡ answered idle ∷ answered (queued 0) ∷ answered (queued 1) ∷ answered (queued 2) ∷ refusal 1 0 ∷ answered (released 0 [])
    ∷ answered (served 0 (over (finished 3 6)) 3 6) ∷ answered (served 2 (over (spent 0 0)) 0 0) ∷ answered idle ∷ answered idle
    ∷ refusal 22 0 ∷ answered (released 6 (0 ∷ 1 ∷ 0 ∷ 2 ∷ 1 ∷ 2 ∷ 9 ∷ 9 ∷ [])) ∷ refusal 38 0 ∷ refusal 38 0 ∷ answered (queued 0) ∷ []
unfolding opened
queue_case = refl

-- rounds for two jobs, each of which ends in its first turn: the second is served last
abbrev two : Queue
two = queue_end empty_queue (submit sheet_a 1000000 ∷ submit sheet_a 2 ∷ [])

pub rounds_case : (turns_given two 3 ≡ 2) × ((rounds_queue two 3).next ≡ 2) × (ended_in two 3 ≡ 3) × (going_on two 3 ≡ 0)
    × (status_reply (rounds_queue two 3) 1 ≡ answered (served 1 (over (spent 1 2)) 1 2))
unfolding opened
rounds_case = (refl, refl, refl, refl, refl)

-- jobs that stay (specs/Examples)
pub stay : Stay
unfolding opened
stay = record {
  replies = refl;
  shows = refl;
  counts = refl;
  slot = refl;
  ended = refl;
  submit_done = refl;
  stays = (tt, tt);
  still_goes_on = refl;
  counted = refl;
  ends = refl;
  all = refl;
  waits = (tt, (tt, (tt, (tt, (tt, (tt, (tt, (tt, tt))))))));
}
