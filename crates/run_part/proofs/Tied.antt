-- The contract of `run_part`, as the checker states it, is the record that its callers hold, and asks for nothing. Assumes nothing.
use Rattle.model.specs.Kit.{◌≡◌, refl, SProp, emp}
use seplogic.Ra.Ura.{Ura}
use prog.Memory.{Memory}
use prog.Routine.{Routine}
use types.Logic.{Logic}
use contract.Lifetimes.{Lfts}
use contract.Monad.{Fun, fact}
use denote.Triple.Entry.{Args, Res}
use denote.Triple.Clauses.{AtExit, closing}
use Rattle.run_part.specs.Calls.{CallPart}
use Rattle.run_part.specs.contracts.run_part as run_part

module _ {M : Type 1} {𝓤 : Ura M} (𝓛 : Logic 𝓤) (mem : Memory → SProp 𝓤) (of : Routine → Fun 𝓤) where
  pub run_part_tied : (κs : Lfts 6) (a : Args run_part.signature κs) (r : Res run_part.signature κs) (s : AtExit run_part.ended κs) →
      ((run_part.clauses 𝓛 mem of κs a).requires tt ≡ emp 𝓤)
      × ((run_part.clauses 𝓛 mem of κs a).ensures tt r s
      ≡ fact 𝓤 (CallPart a.0.now a.1.0.now a.1.1.0.now a.1.1.1.0.now a.1.1.1.1.0.now a.1.1.1.1.1.0 a.1.1.1.1.1.1.0.now r
      s.1.1.1.1.1.1.0.now))
  run_part_tied κs a r s = (refl, refl)

  pub stated : run_part.spec 𝓛 mem of ≡ closing 𝓛 run_part.ended (run_part.clauses 𝓛 mem of)
  stated = refl
