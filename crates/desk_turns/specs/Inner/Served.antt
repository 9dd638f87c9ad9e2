-- What going on with a slot's run, and giving it turns, says.
use Rattle.std.specs.Prelude.{◌≡◌, List, ℕ, ◌+◌, ◌^◌, ◌≤◌, ◌<◌, eqb, length}
use Rattle.model.specs.{Lists.at, Lists.flat, Lists.choose, Problem.Problem, Sheet.problem_of, Written.placed, Run.nodes_in, Run.Result, Run.Tally, Run.settled_by, Run.counts_by}
use Rattle.arrays.specs.Inner.Places.{PLANS, LAST}
use Rattle.run_cut.specs.Parts.{go_on, made_in, last_after}
use Rattle.run_state.specs.{Inner.Pair.prefix_of, Inner.Walk.stop_in}
use Rattle.desk.specs.{Inner.Places.LIST, Queue.LIST_PLANS, Queue.Job, Queue.list_room, Rounds.given, Rounds.due, Rounds.due_at, Inner.Layout.slot_place, Inner.Layout.sheet_at, Inner.Layout.job_at}
use Rattle.desk.specs.Inner.Layout.{slot_of, standing_byte, with_run}
use Rattle.desk_turns.specs.declared.serve.Served.{Served}

-- the problem of the slot at p, and its run by so many nodes more
abbrev pub problem_at : List ℕ → ℕ → Problem
problem_at b p = problem_of (sheet_at b p)

abbrev pub gone_on : List ℕ → ℕ → ℕ → Result
gone_on b p more = go_on (problem_at b p) ((job_at b p).progress.made + more) (list_room (problem_at b p)) (job_at b p).progress

-- its plans stand in the list, and where it stands in `work`
pub record PartDone (b : List ℕ) (p more : ℕ) (c work : List ℕ) (stop : ℕ) (tally : Tally) : Type 0 where
  pub stopped : stop ≡ stop_in (gone_on b p more).ending
  pub made : (job_at b p).progress.made + tally.nodes ≡ nodes_in (gone_on b p more).ending
  pub counts : tally.counts ≡ counts_by settled_by (made_in (problem_at b p) (job_at b p).progress (gone_on b p more))
  pub plans : at work PLANS ≡ length (gone_on b p more).rows
  pub last : prefix_of work (at work LAST) ≡ last_after (problem_at b p) (job_at b p).progress (gone_on b p more)
  pub short : at work LAST ≤ 12
  pub bytes : (i : ℕ) → i < at work LAST → at work i < 256
  pub listed : c ≡ placed b (p + LIST) (flat (gone_on b p more).rows)

-- a job that stands so
pub record Shows (h : Job) (number total : ℕ) (work : List ℕ) : Type 0 where
  pub standing : number ≡ standing_byte h.standing
  pub made : total ≡ h.progress.made
  pub plans : at work PLANS ≡ length h.progress.rows
  pub last : prefix_of work (at work LAST) ≡ h.progress.last
  pub short : at work LAST ≤ 12
  pub bytes : (i : ℕ) → i < at work LAST → at work i < 256
  pub few : at work PLANS ≤ LIST_PLANS
  pub narrow : total < 2 ^ 32

-- a slot was given up to so many turns: its bytes, how it stands then, and how many it took
pub record ServedAt (b : List ℕ) (k most : ℕ) (c : List ℕ) (r : Served) : Type 0 where
  pub written : c ≡ with_run b (slot_place k) (given most (job_at b (slot_place k)))
  pub standing : r.standing ≡ standing_byte (given most (job_at b (slot_place k))).standing
  pub plans : r.plans ≡ length (given most (job_at b (slot_place k))).progress.rows
  pub nodes : r.nodes ≡ (given most (job_at b (slot_place k))).progress.made
  pub turns : r.turns ≡ due most (job_at b (slot_place k))

-- a slot was given the turns that are due to it: its bytes, and how many they were
pub record GivenAt (b : List ℕ) (k most : ℕ) (c : List ℕ) (took : ℕ) : Type 0 where
  pub written : c ≡ choose (eqb (due_at most (slot_of b k)) 0) b (with_run b (slot_place k) (given most (job_at b (slot_place k))))
  pub turns : took ≡ due_at most (slot_of b k)
