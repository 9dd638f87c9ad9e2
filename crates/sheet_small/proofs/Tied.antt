-- The contract of `small_sheet`, as the checker states it, is what specs/Calls supposes, and asks for nothing. Assumes nothing.
use Rattle.model.specs.Kit.{◌≡◌, refl, SProp, emp}
use seplogic.Ra.Ura.{Ura}
use prog.Memory.{Memory}
use prog.Routine.{Routine}
use types.Logic.{Logic}
use contract.Lifetimes.{Lfts}
use contract.Monad.{Fun, fact}
use denote.Triple.Entry.{Args, Res}
use denote.Triple.Clauses.{AtExit}
use Rattle.sheet_small.specs.Calls.{CallSmall}
use Rattle.sheet_small.specs.contracts.small_sheet as small_sheet

module _ {M : Type 1} {𝓤 : Ura M} (𝓛 : Logic 𝓤) (mem : Memory → SProp 𝓤) (of : Routine → Fun 𝓤) where
  pub small_sheet_tied : (κs : Lfts 1) (a : Args small_sheet.signature κs) (r : Res small_sheet.signature κs) (s : AtExit small_sheet.ended κs) →
      ((small_sheet.clauses 𝓛 mem of κs a).requires tt ≡ emp 𝓤) × ((small_sheet.clauses 𝓛 mem of κs a).ensures tt r s ≡ fact 𝓤 (CallSmall a.0 a.1.0.now r s.1.0.now))
  small_sheet_tied κs a r s = (refl, refl)
