-- The contract of `merge`, as the checker states it, is the record of a call (specs/Calls), and asks for nothing. Assumes nothing.
use Rattle.model.specs.Kit.{◌≡◌, refl, SProp, emp}
use seplogic.Ra.Ura.{Ura}
use prog.Memory.{Memory}
use prog.Routine.{Routine}
use types.Logic.{Logic}
use contract.Lifetimes.{Lfts}
use contract.Monad.{Fun, fact}
use denote.Triple.Entry.{Args, Res}
use denote.Triple.Clauses.{AtExit}
use Rattle.list_merge.specs.Calls.{CallMerge}
use Rattle.list_merge.specs.contracts.merge as merge

module _ {M : Type 1} {𝓤 : Ura M} (𝓛 : Logic 𝓤) (mem : Memory → SProp 𝓤) (of : Routine → Fun 𝓤) where
  pub merge_tied : (κs : Lfts 3) (a : Args merge.signature κs) (r : Res merge.signature κs) (s : AtExit merge.ended κs) →
      ((merge.clauses 𝓛 mem of κs a).requires tt ≡ emp 𝓤) × ((merge.clauses 𝓛 mem of κs a).ensures tt r s ≡ fact 𝓤
      (CallMerge a.0 a.1.0.now a.1.1.0.now a.1.1.1.0.now a.1.1.1.1.0.now r s.1.1.1.1.0.now))
  merge_tied κs a r s = (refl, refl)
