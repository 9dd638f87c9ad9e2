-- The contracts of `status` and `release`, as the checker states them, are the records of desk's specs/Calls and StatusCalls, and ask for nothing. Another `ensures` in
-- src/lib.rt is refused here. Assumes nothing.
use Rattle.model.specs.Kit.{◌≡◌, refl, SProp, emp}
use seplogic.Ra.Ura.{Ura}
use prog.Memory.{Memory}
use prog.Routine.{Routine}
use types.Logic.{Logic}
use contract.Lifetimes.{Lfts}
use contract.Monad.{Fun, fact}
use denote.Triple.Entry.{Args, Res}
use denote.Triple.Clauses.{AtExit}
use Rattle.desk.specs.{StatusCalls.StatusDone, Calls.ReleaseDone}
use Rattle.desk_slots.specs.contracts.status as status
use Rattle.desk_slots.specs.contracts.release as release

module _ {M : Type 1} {𝓤 : Ura M} (𝓛 : Logic 𝓤) (mem : Memory → SProp 𝓤) (of : Routine → Fun 𝓤) where
  pub status_tied : (κs : Lfts 1) (a : Args status.signature κs) (r : Res status.signature κs) (s : AtExit status.ended κs) →
      ((status.clauses 𝓛 mem of κs a).requires tt ≡ emp 𝓤) × ((status.clauses 𝓛 mem of κs a).ensures tt r s ≡ fact 𝓤 (StatusDone a.0.now a.1.0 r))
  status_tied κs a r s = (refl, refl)

  pub release_tied : (κs : Lfts 2) (a : Args release.signature κs) (r : Res release.signature κs) (s : AtExit release.ended κs) →
      ((release.clauses 𝓛 mem of κs a).requires tt ≡ emp 𝓤)
      × ((release.clauses 𝓛 mem of κs a).ensures tt r s ≡ fact 𝓤 (ReleaseDone a.0.now a.1.0 a.1.1.0.now s.0.now s.1.1.0.now r))
  release_tied κs a r s = (refl, refl)
