-- The contracts of the exported functions, as the checker states them, are the records that what is claimed of their callers supposes, and ask for nothing.
-- Another `ensures` is refused here. Assumes nothing.
use Rattle.model.specs.Kit.{◌≡◌, refl, SProp, emp}
use seplogic.Ra.Ura.{Ura}
use prog.Memory.{Memory}
use prog.Routine.{Routine}
use types.Logic.{Logic}
use contract.Lifetimes.{Lfts}
use contract.Monad.{Fun, fact}
use denote.Triple.Entry.{Args, Res}
use denote.Triple.Clauses.{AtExit}
use Rattle.export_run.specs.Calls.{CallExported}
use Rattle.export_filter.specs.FilterBytes.{CallBytes}
use Rattle.export_parts.specs.Parts.{CallPartBytes}
use Rattle.export_join.specs.Joined.{CallJoinBytes}
use Rattle.export_merge.specs.Merged.{CallMerged}
use Rattle.export_report.specs.Report.{CallReport}
use Rattle.export_families.specs.Families.{CallFigured}
use Rattle.planner.specs.contracts.runs.planner_run as run
use Rattle.planner.specs.contracts.parts.planner_run_part as run_part
use Rattle.planner.specs.contracts.parts.planner_join as join
use Rattle.planner.specs.contracts.lists.planner_merge as merge
use Rattle.planner.specs.contracts.runs.planner_families as families
use Rattle.planner.specs.contracts.planner_filter as filter
use Rattle.planner.specs.contracts.planner_report as report

module _ {M : Type 1} {𝓤 : Ura M} (𝓛 : Logic 𝓤) (mem : Memory → SProp 𝓤) (of : Routine → Fun 𝓤) where
  pub run_tied : (κs : Lfts 3) (a : Args run.signature κs) (r : Res run.signature κs) (s : AtExit run.ended κs) →
      ((run.clauses 𝓛 mem of κs a).requires tt ≡ emp 𝓤)
      × ((run.clauses 𝓛 mem of κs a).ensures tt r s ≡ fact 𝓤 (CallExported a.0.now a.1.0 a.1.1.0.now a.1.1.1.0.now r s.1.1.0.now s.1.1.1.0.now))
  run_tied κs a r s = (refl, refl)

  pub filter_tied : (κs : Lfts 4) (a : Args filter.signature κs) (r : Res filter.signature κs) (s : AtExit filter.ended κs) →
      ((filter.clauses 𝓛 mem of κs a).requires tt ≡ emp 𝓤) × ((filter.clauses 𝓛 mem of κs a).ensures tt r s ≡ fact 𝓤
      (CallBytes a.0.now a.1.0.now a.1.1.0.now a.1.1.1.0.now r s.0.now))
  filter_tied κs a r s = (refl, refl)

  pub run_part_tied : (κs : Lfts 7) (a : Args run_part.signature κs) (r : Res run_part.signature κs) (s : AtExit run_part.ended κs) →
      ((run_part.clauses 𝓛 mem of κs a).requires tt ≡ emp 𝓤)
      × ((run_part.clauses 𝓛 mem of κs a).ensures tt r s
      ≡ fact 𝓤 (CallPartBytes a.0.now a.1.0.now a.1.1.0.now a.1.1.1.0.now a.1.1.1.1.0.now a.1.1.1.1.1.0 a.1.1.1.1.1.1.0.now
      a.1.1.1.1.1.1.1.0.now r s.1.1.1.1.1.1.0.now s.1.1.1.1.1.1.1.0.now))
  run_part_tied κs a r s = (refl, refl)

  pub join_tied : (κs : Lfts 2) (a : Args join.signature κs) (r : Res join.signature κs) (s : AtExit join.ended κs) →
      ((join.clauses 𝓛 mem of κs a).requires tt ≡ emp 𝓤) × ((join.clauses 𝓛 mem of κs a).ensures tt r s ≡ fact 𝓤 (CallJoinBytes a.0.now a.1.0.now r s.1.0.now))
  join_tied κs a r s = (refl, refl)

  pub merge_tied : (κs : Lfts 4) (a : Args merge.signature κs) (r : Res merge.signature κs) (s : AtExit merge.ended κs) →
      ((merge.clauses 𝓛 mem of κs a).requires tt ≡ emp 𝓤)
      × ((merge.clauses 𝓛 mem of κs a).ensures tt r s
      ≡ fact 𝓤 (CallMerged a.0 a.1.0.now a.1.1.0.now a.1.1.1.0.now a.1.1.1.1.0.now a.1.1.1.1.1.0.now r s.1.1.1.1.0.now s.1.1.1.1.1.0.now))
  merge_tied κs a r s = (refl, refl)

  pub report_tied : (κs : Lfts 3) (a : Args report.signature κs) (r : Res report.signature κs) (s : AtExit report.ended κs) →
      ((report.clauses 𝓛 mem of κs a).requires tt ≡ emp 𝓤)
      × ((report.clauses 𝓛 mem of κs a).ensures tt r s ≡ fact 𝓤 (CallReport a.0.now a.1.0.now a.1.1.0.now r s.1.0.now s.1.1.0.now))
  report_tied κs a r s = (refl, refl)

  pub families_tied : (κs : Lfts 4) (a : Args families.signature κs) (r : Res families.signature κs) (s : AtExit families.ended κs) →
      ((families.clauses 𝓛 mem of κs a).requires tt ≡ emp 𝓤)
      × ((families.clauses 𝓛 mem of κs a).ensures tt r s ≡ fact 𝓤 (CallFigured a.0.now a.1.0.now a.1.1.0.now a.1.1.1.0 a.1.1.1.1.0.now r s.1.1.1.1.0.now))
  families_tied κs a r s = (refl, refl)
