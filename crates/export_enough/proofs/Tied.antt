-- The contract of `at_least`, as the checker states it, is that of specs/Calls, and asks for nothing.
-- Assumes nothing.
use Rattle.model.specs.Kit.{◌≡◌, refl, SProp, emp}
use seplogic.Ra.Ura.{Ura}
use prog.Memory.{Memory}
use prog.Routine.{Routine}
use types.Logic.{Logic}
use contract.Lifetimes.{Lfts}
use contract.Monad.{Fun, fact}
use denote.Triple.Entry.{Args, Res}
use denote.Triple.Clauses.{AtExit}
use Rattle.export_enough.specs.Calls.{CallEnoughBytes}
use Rattle.export_enough.specs.contracts.at_least as at_least_lem

module _ {M : Type 1} {𝓤 : Ura M} (𝓛 : Logic 𝓤) (mem : Memory → SProp 𝓤) (of : Routine → Fun 𝓤) where
  pub at_least_tied : (κs : Lfts 4) (a : Args at_least_lem.signature κs) (r : Res at_least_lem.signature κs) (s : AtExit at_least_lem.ended κs) →
      ((at_least_lem.clauses 𝓛 mem of κs a).requires tt ≡ emp 𝓤) × ((at_least_lem.clauses 𝓛 mem of κs a).ensures tt r s ≡ fact 𝓤
      (CallEnoughBytes a.0.now a.1.0.now a.1.1.0.now a.1.1.1.0 a.1.1.1.1.0 a.1.1.1.1.1.0.now r s.1.1.1.1.1.0.now))
  at_least_tied κs a r s = (refl, refl)
