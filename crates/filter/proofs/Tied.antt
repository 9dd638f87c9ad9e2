-- The contract of `filter`, as the checker states it, is the record that `FilterCalls` supposes, and asks for nothing. Assumes nothing.
use Rattle.model.specs.Kit.{◌≡◌, refl, SProp, emp}
use seplogic.Ra.Ura.{Ura}
use prog.Memory.{Memory}
use prog.Routine.{Routine}
use types.Logic.{Logic}
use contract.Lifetimes.{Lfts}
use contract.Monad.{Fun, fact}
use denote.Triple.Entry.{Args, Res}
use denote.Triple.Clauses.{AtExit}
use Rattle.filter.specs.FilterCalls.{CallFilter}
use Rattle.filter.specs.contracts.filter as filter

module _ {M : Type 1} {𝓤 : Ura M} (𝓛 : Logic 𝓤) (mem : Memory → SProp 𝓤) (of : Routine → Fun 𝓤) where
  pub filter_tied : (κs : Lfts 4) (a : Args filter.signature κs) (r : Res filter.signature κs) (s : AtExit filter.ended κs) →
      ((filter.clauses 𝓛 mem of κs a).requires tt ≡ emp 𝓤) × ((filter.clauses 𝓛 mem of κs a).ensures tt r s ≡ fact 𝓤
      (CallFilter a.0.now a.1.0.now a.1.1.0.now a.1.1.1.0.now r s.0.now))
  filter_tied κs a r s = (refl, refl)
