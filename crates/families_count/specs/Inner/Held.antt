-- What the functions are lent and leave.
use Rattle.std.specs.Prelude.{◌≡◌, List, ℕ, ◌*◌, ◌≤◌, ◌<◌, length, take}
use Rattle.model.specs.{Lists.at, Problem.Problem, Inner.WellFormed.Respected, Verdict.accepted, Sheet.verdict_of, Sheet.problem_of, Run.plans_in, Run.nodes_in, Run.result_of, Run.written, Run.Tally}
use Rattle.run_input.specs.{Lent.verdict_lent, Lent.problem_lent, Inner.Compile.WithinLimits}
use Rattle.arrays.specs.{Inner.Places.LIMIT, Inner.Places.PLANS, Inner.Places.NUMBERS, Inner.Layout.Compiled}
use Rattle.run_state.specs.Inner.Walk.{stop_in}
use Rattle.run_search.specs.Inner.Begun.{Writable}
use Rattle.run.specs.Calls.{CallRun}
use Rattle.families_figure.specs.Figure.{report_figure}
use Rattle.families_count.specs.{Told.told, Told.figure_of, declared.ReportRun.ReportRun}

-- n is the number of variables of a sheet that is accepted, and never above 12
pub record Sized (b : List ℕ) (n : ℕ) : Type 0 where
  pub most : n ≤ 12
  pub true_of : verdict_of b ≡ accepted → n ≡ (problem_of b).variables

-- n is the number of variables of the sheet, and the list has room for 4,096 plans of them
pub record Roomy (b : List ℕ) (n : ℕ) (list : List ℕ) : Type 0 where
  pub named : n ≡ (problem_of b).variables
  pub long : length list ≡ 4096 * n

-- ---- one run on the arrays
-- they hold p, what is lent to write on has its length, no plan is listed yet, and the list has room for 4,096
pub record Runs (p : Problem) (stack work supports tables numbers images list : List ℕ) : Type 0 where
  pub compiled : Compiled p numbers supports images
  pub limits : WithinLimits p
  pub respected : Respected p
  pub long : length numbers ≡ NUMBERS
  pub writable : Writable stack work tables
  pub begun : at work PLANS ≡ 0
  pub lent : length list ≡ 4096 * p.variables

-- p's run has come to its end, and the numbers of the compiled problem are as they were
pub record Ran (p : Problem) (limit : ℕ) (numbers list stack' work' tables' numbers' list' : List ℕ) (tally' : Tally) (stop : ℕ) : Type 0 where
  pub nodes : tally'.nodes ≡ nodes_in (result_of p limit (length list)).ending
  pub plans : at work' PLANS ≡ plans_in (result_of p limit (length list)).ending
  pub stopped : stop ≡ stop_in (result_of p limit (length list)).ending
  pub wrote : list' ≡ written (result_of p limit (length list)).rows list
  pub same : (i : ℕ) → i < LIMIT → at numbers' i ≡ at numbers i
  pub long : length numbers' ≡ NUMBERS
  pub writable : Writable stack' work' tables'

-- ---- the count
-- the problem of an accepted lending, its variables in the settling order and its symmetries with those of the block, stands in the arrays
pub record Put (b pairs block numbers supports images : List ℕ) (symmetries : ℕ) : Type 0 where
  pub verdict : verdict_lent b pairs block ≡ accepted
  pub compiled : Compiled (problem_lent b pairs block) numbers supports images
  pub long : length numbers ≡ NUMBERS
  pub all : symmetries ≡ length (problem_lent b pairs block).symmetries
  pub few : symmetries ≤ 136
  pub room : 192 * symmetries ≤ length images

-- and what is lent to write on has its length
pub record Whole (b pairs block : List ℕ) (symmetries : ℕ) (stack work supports tables numbers images : List ℕ) : Type 0 where
  pub put : Put b pairs block numbers supports images symmetries
  pub writable : Writable stack work tables

-- ---- a report
-- nothing is written on what is lent to write on
pub record Fresh (stack work tables : List ℕ) : Type 0 where
  pub writable : Writable stack work tables
  pub begun : at work PLANS ≡ 0

-- the run of a report has stopped so
pub record Listed (b : List ℕ) (limit : ℕ) (stack work supports tables numbers images : List ℕ) (stop : ℕ) : Type 0 where
  pub verdict : verdict_of b ≡ accepted
  pub compiled : Compiled (problem_of b) numbers supports images
  pub room : 192 * length (problem_of b).symmetries ≤ length images
  pub long : length numbers ≡ NUMBERS
  pub writable : Writable stack work tables
  pub plans : at work PLANS ≡ plans_in (result_of (problem_of b) limit (4096 * (problem_of b).variables)).ending
  pub stopped : stop ≡ stop_in (result_of (problem_of b) limit (4096 * (problem_of b).variables)).ending

-- a call of `report_run`: that of `run` on the front of the list, and the figure where the sheet is accepted
pub record RunTold (b : List ℕ) (limit : ℕ) (list : List ℕ) (r : ReportRun) (list' : List ℕ) : Type 0 where
  pub sized : Sized b r.variables
  pub call : CallRun b limit (take (4096 * r.variables) list) r.answer (take (4096 * r.variables) list')
  pub figure : verdict_of b ≡ accepted → told (figure_of r.figure) ≡ told (report_figure b limit)
