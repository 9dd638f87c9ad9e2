-- The contract of `submit`, as the checker states it, is the record of desk's specs/Calls, and asks for nothing. Another `ensures` in src/lib.rt is
-- refused here. Assumes nothing.
use Rattle.model.specs.Kit.{◌≡◌, refl, SProp, emp}
use seplogic.Ra.Ura.{Ura}
use prog.Memory.{Memory}
use prog.Routine.{Routine}
use types.Logic.{Logic}
use contract.Lifetimes.{Lfts}
use contract.Monad.{Fun, fact}
use denote.Triple.Entry.{Args, Res}
use denote.Triple.Clauses.{AtExit}
use Rattle.desk.specs.Calls.{SubmitDone}
use Rattle.desk_submit.specs.contracts.submit as submit

module _ {M : Type 1} {𝓤 : Ura M} (𝓛 : Logic 𝓤) (mem : Memory → SProp 𝓤) (of : Routine → Fun 𝓤) where
  pub submit_tied : (κs : Lfts 2) (a : Args submit.signature κs) (r : Res submit.signature κs) (s : AtExit submit.ended κs) →
      ((submit.clauses 𝓛 mem of κs a).requires tt ≡ emp 𝓤) × ((submit.clauses 𝓛 mem of κs a).ensures tt r s ≡ fact 𝓤 (SubmitDone a.0.now a.1.0.now a.1.1.0 s.0.now r))
  submit_tied κs a r s = (refl, refl)
