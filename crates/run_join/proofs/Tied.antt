-- The contract of `join`, as the checker states it, is the record that its callers hold, and asks for nothing. Assumes nothing.
use Rattle.model.specs.Kit.{◌≡◌, refl, SProp, emp}
use seplogic.Ra.Ura.{Ura}
use prog.Memory.{Memory}
use prog.Routine.{Routine}
use types.Logic.{Logic}
use contract.Lifetimes.{Lfts}
use contract.Monad.{Fun, fact}
use denote.Triple.Entry.{Args, Res}
use denote.Triple.Clauses.{AtExit, closing}
use Rattle.run_join.specs.Calls.{CallJoin}
use Rattle.run_join.specs.contracts.join as join

module _ {M : Type 1} {𝓤 : Ura M} (𝓛 : Logic 𝓤) (mem : Memory → SProp 𝓤) (of : Routine → Fun 𝓤) where
  pub join_tied : (κs : Lfts 1) (a : Args join.signature κs) (r : Res join.signature κs) (s : AtExit join.ended κs) →
      ((join.clauses 𝓛 mem of κs a).requires tt ≡ emp 𝓤) × ((join.clauses 𝓛 mem of κs a).ensures tt r s ≡ fact 𝓤 (CallJoin a.0.now r))
  join_tied κs a r s = (refl, refl)

  pub stated : join.spec 𝓛 mem of ≡ closing 𝓛 join.ended (join.clauses 𝓛 mem of)
  stated = refl
