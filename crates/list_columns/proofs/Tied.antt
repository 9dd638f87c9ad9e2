-- The contracts of `to_columns` and `to_rows`, as the checker states them, are what specs/Calls supposes, and ask for nothing. Assumes nothing.
use Rattle.model.specs.Kit.{◌≡◌, refl, SProp, emp}
use seplogic.Ra.Ura.{Ura}
use prog.Memory.{Memory}
use prog.Routine.{Routine}
use types.Logic.{Logic}
use contract.Lifetimes.{Lfts}
use contract.Monad.{Fun, fact}
use denote.Triple.Entry.{Args, Res}
use denote.Triple.Clauses.{AtExit}
use Rattle.list_columns.specs.Calls.{CallColumns, CallRows}
use Rattle.list_columns.specs.contracts.to_columns as to_columns
use Rattle.list_columns.specs.contracts.to_rows as to_rows

module _ {M : Type 1} {𝓤 : Ura M} (𝓛 : Logic 𝓤) (mem : Memory → SProp 𝓤) (of : Routine → Fun 𝓤) where
  pub to_columns_tied : (κs : Lfts 2) (a : Args to_columns.signature κs) (r : Res to_columns.signature κs) (s : AtExit to_columns.ended κs) →
      ((to_columns.clauses 𝓛 mem of κs a).requires tt ≡ emp 𝓤) × ((to_columns.clauses 𝓛 mem of κs a).ensures tt r s ≡ fact 𝓤
      (CallColumns a.0 a.1.0.now a.1.1.0.now r s.1.1.0.now))
  to_columns_tied κs a r s = (refl, refl)

  pub to_rows_tied : (κs : Lfts 2) (a : Args to_rows.signature κs) (r : Res to_rows.signature κs) (s : AtExit to_rows.ended κs) →
      ((to_rows.clauses 𝓛 mem of κs a).requires tt ≡ emp 𝓤) × ((to_rows.clauses 𝓛 mem of κs a).ensures tt r s ≡ fact 𝓤 (CallRows a.0.now a.1.0.now r s.1.0.now))
  to_rows_tied κs a r s = (refl, refl)
