-- The contracts of `planner_columns`, `planner_rows`, the store's three and `planner_small_sheet`, as the checker states them, are those of
-- specs/Calls of export_columns, export_store and export_small, and ask for nothing. Assumes nothing.
use Rattle.model.specs.Kit.{◌≡◌, refl, SProp, emp}
use seplogic.Ra.Ura.{Ura}
use prog.Memory.{Memory}
use prog.Routine.{Routine}
use types.Logic.{Logic}
use contract.Lifetimes.{Lfts}
use contract.Monad.{Fun, fact}
use denote.Triple.Entry.{Args, Res}
use denote.Triple.Clauses.{AtExit}
use Rattle.export_columns.specs.Calls.{CallColumnsBytes, CallRowsBytes}
use Rattle.export_store.specs.Calls.{CallPutBytes, CallFetchBytes, CallDropBytes}
use Rattle.export_small.specs.Calls.{CallSmallBytes}
use Rattle.planner.specs.contracts.lists.planner_columns as columns
use Rattle.planner.specs.contracts.lists.planner_rows as rows
use Rattle.planner.specs.contracts.lists.planner_store_put as put
use Rattle.planner.specs.contracts.lists.planner_store_fetch as fetch
use Rattle.planner.specs.contracts.lists.planner_store_drop as drop
use Rattle.planner.specs.contracts.lists.planner_small_sheet as small_sheet

module _ {M : Type 1} {𝓤 : Ura M} (𝓛 : Logic 𝓤) (mem : Memory → SProp 𝓤) (of : Routine → Fun 𝓤) where
  pub columns_tied : (κs : Lfts 3) (a : Args columns.signature κs) (r : Res columns.signature κs) (s : AtExit columns.ended κs) →
      ((columns.clauses 𝓛 mem of κs a).requires tt ≡ emp 𝓤) × ((columns.clauses 𝓛 mem of κs a).ensures tt r s ≡ fact 𝓤
      (CallColumnsBytes a.0 a.1.0.now a.1.1.0.now a.1.1.1.0.now r s.1.1.0.now s.1.1.1.0.now))
  columns_tied κs a r s = (refl, refl)

  pub rows_tied : (κs : Lfts 3) (a : Args rows.signature κs) (r : Res rows.signature κs) (s : AtExit rows.ended κs) →
      ((rows.clauses 𝓛 mem of κs a).requires tt ≡ emp 𝓤) × ((rows.clauses 𝓛 mem of κs a).ensures tt r s ≡ fact 𝓤
      (CallRowsBytes a.0.now a.1.0.now a.1.1.0.now r s.1.0.now s.1.1.0.now))
  rows_tied κs a r s = (refl, refl)

  pub put_tied : (κs : Lfts 3) (a : Args put.signature κs) (r : Res put.signature κs) (s : AtExit put.ended κs) →
      ((put.clauses 𝓛 mem of κs a).requires tt ≡ emp 𝓤) × ((put.clauses 𝓛 mem of κs a).ensures tt r s ≡ fact 𝓤
      (CallPutBytes a.0.now a.1.0 a.1.1.0 a.1.1.1.0.now a.1.1.1.1.0.now r s.0.now s.1.1.1.1.0.now))
  put_tied κs a r s = (refl, refl)

  pub fetch_tied : (κs : Lfts 3) (a : Args fetch.signature κs) (r : Res fetch.signature κs) (s : AtExit fetch.ended κs) →
      ((fetch.clauses 𝓛 mem of κs a).requires tt ≡ emp 𝓤) × ((fetch.clauses 𝓛 mem of κs a).ensures tt r s ≡ fact 𝓤
      (CallFetchBytes a.0.now a.1.0 a.1.1.0 a.1.1.1.0.now a.1.1.1.1.0.now r s.1.1.1.0.now s.1.1.1.1.0.now))
  fetch_tied κs a r s = (refl, refl)

  pub drop_tied : (κs : Lfts 2) (a : Args drop.signature κs) (r : Res drop.signature κs) (s : AtExit drop.ended κs) →
      ((drop.clauses 𝓛 mem of κs a).requires tt ≡ emp 𝓤) × ((drop.clauses 𝓛 mem of κs a).ensures tt r s ≡ fact 𝓤
      (CallDropBytes a.0.now a.1.0 a.1.1.0 a.1.1.1.0.now r s.0.now s.1.1.1.0.now))
  drop_tied κs a r s = (refl, refl)

  pub small_sheet_tied : (κs : Lfts 2) (a : Args small_sheet.signature κs) (r : Res small_sheet.signature κs) (s : AtExit small_sheet.ended κs) →
      ((small_sheet.clauses 𝓛 mem of κs a).requires tt ≡ emp 𝓤) × ((small_sheet.clauses 𝓛 mem of κs a).ensures tt r s ≡ fact 𝓤
      (CallSmallBytes a.0 a.1.0.now a.1.1.0.now r s.1.0.now s.1.1.0.now))
  small_sheet_tied κs a r s = (refl, refl)
