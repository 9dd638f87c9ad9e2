-- The contract of `closed`, as the checker states it, is that of specs/Calls, and asks for nothing.
-- Assumes nothing.
use Rattle.model.specs.Kit.{◌≡◌, refl, SProp, emp}
use seplogic.Ra.Ura.{Ura}
use prog.Memory.{Memory}
use prog.Routine.{Routine}
use types.Logic.{Logic}
use contract.Lifetimes.{Lfts}
use contract.Monad.{Fun, fact}
use denote.Triple.Entry.{Args, Res}
use denote.Triple.Clauses.{AtExit}
use Rattle.export_closed.specs.Calls.{CallClosedBytes}
use Rattle.export_closed.specs.contracts.closed as closed

module _ {M : Type 1} {𝓤 : Ura M} (𝓛 : Logic 𝓤) (mem : Memory → SProp 𝓤) (of : Routine → Fun 𝓤) where
  pub closed_tied : (κs : Lfts 4) (a : Args closed.signature κs) (r : Res closed.signature κs) (s : AtExit closed.ended κs) →
      ((closed.clauses 𝓛 mem of κs a).requires tt ≡ emp 𝓤) × ((closed.clauses 𝓛 mem of κs a).ensures tt r s ≡ fact 𝓤
      (CallClosedBytes a.0.now a.1.0.now a.1.1.0.now a.1.1.1.0.now r s.1.1.1.0.now))
  closed_tied κs a r s = (refl, refl)
