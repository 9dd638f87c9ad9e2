-- The contract of `families`, as the checker states it, is what promises' `FamilyCalls` supposes, and asks for nothing. Assumes nothing.
use Rattle.model.specs.Kit.{◌≡◌, refl, SProp, emp}
use seplogic.Ra.Ura.{Ura}
use prog.Memory.{Memory}
use prog.Routine.{Routine}
use types.Logic.{Logic}
use contract.Lifetimes.{Lfts}
use contract.Monad.{Fun, fact}
use denote.Triple.Entry.{Args, Res}
use denote.Triple.Clauses.{AtExit}
use Rattle.families_count.specs.Calls.{CallFamilies}
use Rattle.families_count.specs.contracts.families as families

module _ {M : Type 1} {𝓤 : Ura M} (𝓛 : Logic 𝓤) (mem : Memory → SProp 𝓤) (of : Routine → Fun 𝓤) where
  pub families_tied : (κs : Lfts 3) (a : Args families.signature κs) (r : Res families.signature κs) (s : AtExit families.ended κs) →
      ((families.clauses 𝓛 mem of κs a).requires tt ≡ emp 𝓤) × ((families.clauses 𝓛 mem of κs a).ensures tt r s ≡ fact 𝓤
      (CallFamilies a.0.now a.1.0.now a.1.1.0.now a.1.1.1.0 r))
  families_tied κs a r s = (refl, refl)
