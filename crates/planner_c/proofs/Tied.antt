-- The contract of each exported function is that of planner's function of its name: another clause is refused here. Assumes nothing.
use Rattle.model.specs.Kit.{◌≡◌, refl, SProp}
use seplogic.Ra.Ura.{Ura}
use prog.Memory.{Memory}
use prog.Routine.{Routine}
use types.Logic.{Logic}
use contract.Monad.{Fun}
use Rattle.planner.specs.contracts as library
use Rattle.planner_c.specs.contracts as exported

module _ {M : Type 1} {𝓤 : Ura M} (𝓛 : Logic 𝓤) (mem : Memory → SProp 𝓤) (of : Routine → Fun 𝓤) where
  pub version_tied : exported.planner_version.clauses 𝓛 mem of ≡ library.planner_version.clauses 𝓛 mem of
  version_tied = refl

  pub filter_tied : exported.planner_filter.clauses 𝓛 mem of ≡ library.planner_filter.clauses 𝓛 mem of
  filter_tied = refl

  pub report_tied : exported.planner_report.clauses 𝓛 mem of ≡ library.planner_report.clauses 𝓛 mem of
  report_tied = refl

  pub question_tied : exported.runs.planner_question.clauses 𝓛 mem of ≡ library.runs.planner_question.clauses 𝓛 mem of
  question_tied = refl

  pub run_tied : exported.runs.planner_run.clauses 𝓛 mem of ≡ library.runs.planner_run.clauses 𝓛 mem of
  run_tied = refl

  pub question_lent_tied : exported.runs.planner_question_lent.clauses 𝓛 mem of ≡ library.runs.planner_question_lent.clauses 𝓛 mem of
  question_lent_tied = refl

  pub run_lent_tied : exported.runs.planner_run_lent.clauses 𝓛 mem of ≡ library.runs.planner_run_lent.clauses 𝓛 mem of
  run_lent_tied = refl

  pub at_least_tied : exported.runs.planner_at_least.clauses 𝓛 mem of ≡ library.runs.planner_at_least.clauses 𝓛 mem of
  at_least_tied = refl

  pub closed_tied : exported.runs.planner_closed.clauses 𝓛 mem of ≡ library.runs.planner_closed.clauses 𝓛 mem of
  closed_tied = refl

  pub families_tied : exported.runs.planner_families.clauses 𝓛 mem of ≡ library.runs.planner_families.clauses 𝓛 mem of
  families_tied = refl

  pub run_part_tied : exported.parts.planner_run_part.clauses 𝓛 mem of ≡ library.parts.planner_run_part.clauses 𝓛 mem of
  run_part_tied = refl

  pub join_tied : exported.parts.planner_join.clauses 𝓛 mem of ≡ library.parts.planner_join.clauses 𝓛 mem of
  join_tied = refl

  pub columns_tied : exported.lists.planner_columns.clauses 𝓛 mem of ≡ library.lists.planner_columns.clauses 𝓛 mem of
  columns_tied = refl

  pub rows_tied : exported.lists.planner_rows.clauses 𝓛 mem of ≡ library.lists.planner_rows.clauses 𝓛 mem of
  rows_tied = refl

  pub merge_tied : exported.lists.planner_merge.clauses 𝓛 mem of ≡ library.lists.planner_merge.clauses 𝓛 mem of
  merge_tied = refl

  pub store_put_tied : exported.lists.planner_store_put.clauses 𝓛 mem of ≡ library.lists.planner_store_put.clauses 𝓛 mem of
  store_put_tied = refl

  pub store_fetch_tied : exported.lists.planner_store_fetch.clauses 𝓛 mem of ≡ library.lists.planner_store_fetch.clauses 𝓛 mem of
  store_fetch_tied = refl

  pub store_drop_tied : exported.lists.planner_store_drop.clauses 𝓛 mem of ≡ library.lists.planner_store_drop.clauses 𝓛 mem of
  store_drop_tied = refl

  pub small_sheet_tied : exported.lists.planner_small_sheet.clauses 𝓛 mem of ≡ library.lists.planner_small_sheet.clauses 𝓛 mem of
  small_sheet_tied = refl

  pub desk_sit_tied : exported.desks.planner_desk_sit.clauses 𝓛 mem of ≡ library.desks.planner_desk_sit.clauses 𝓛 mem of
  desk_sit_tied = refl

  pub desk_turn_tied : exported.desks.planner_desk_turn.clauses 𝓛 mem of ≡ library.desks.planner_desk_turn.clauses 𝓛 mem of
  desk_turn_tied = refl

  pub desk_rounds_tied : exported.desks.planner_desk_rounds.clauses 𝓛 mem of ≡ library.desks.planner_desk_rounds.clauses 𝓛 mem of
  desk_rounds_tied = refl

  pub desk_look_tied : exported.desks.planner_desk_look.clauses 𝓛 mem of ≡ library.desks.planner_desk_look.clauses 𝓛 mem of
  desk_look_tied = refl

  pub desk_leave_tied : exported.desks.planner_desk_leave.clauses 𝓛 mem of ≡ library.desks.planner_desk_leave.clauses 𝓛 mem of
  desk_leave_tied = refl
