-- The contract of `run`, as the checker states it, is what `Exported` supposes, and asks for nothing. Assumes nothing.
use Rattle.model.specs.Kit.{◌≡◌, refl, SProp, emp}
use seplogic.Ra.Ura.{Ura}
use prog.Memory.{Memory}
use prog.Routine.{Routine}
use types.Logic.{Logic}
use contract.Lifetimes.{Lfts}
use contract.Monad.{Fun, fact}
use denote.Triple.Entry.{Args, Res}
use denote.Triple.Clauses.{AtExit}
use Rattle.export_run.specs.Calls.{CallExported}
use Rattle.export_sheet.specs.contracts.run as run

module _ {M : Type 1} {𝓤 : Ura M} (𝓛 : Logic 𝓤) (mem : Memory → SProp 𝓤) (of : Routine → Fun 𝓤) where
  pub run_tied : (κs : Lfts 3) (a : Args run.signature κs) (r : Res run.signature κs) (s : AtExit run.ended κs) →
      ((run.clauses 𝓛 mem of κs a).requires tt ≡ emp 𝓤) × ((run.clauses 𝓛 mem of κs a).ensures tt r s ≡ fact 𝓤
      (CallExported a.0.now a.1.0 a.1.1.0.now a.1.1.1.0.now r s.1.1.0.now s.1.1.1.0.now))
  run_tied κs a r s = (refl, refl)
