-- The contracts of the five functions of the desk, as the checker states them, are the records of export_desk's specs/Told, and ask for nothing. Assumes nothing.
use Rattle.model.specs.Kit.{◌≡◌, refl, SProp, emp}
use seplogic.Ra.Ura.{Ura}
use prog.Memory.{Memory}
use prog.Routine.{Routine}
use types.Logic.{Logic}
use contract.Lifetimes.{Lfts}
use contract.Monad.{Fun, fact}
use denote.Triple.Entry.{Args, Res}
use denote.Triple.Clauses.{AtExit}
use Rattle.export_desk.specs.Told.{CallQueue, CallRelease, CallStatus, CallRounds}
use Rattle.desk.specs.Queue as queue
use Rattle.planner.specs.contracts.desks.planner_desk_sit as sit
use Rattle.planner.specs.contracts.desks.planner_desk_turn as turn
use Rattle.planner.specs.contracts.desks.planner_desk_rounds as rounds
use Rattle.planner.specs.contracts.desks.planner_desk_look as look
use Rattle.planner.specs.contracts.desks.planner_desk_leave as leave

module _ {M : Type 1} {𝓤 : Ura M} (𝓛 : Logic 𝓤) (mem : Memory → SProp 𝓤) (of : Routine → Fun 𝓤) where
  pub sit_tied : (κs : Lfts 3) (a : Args sit.signature κs) (r : Res sit.signature κs) (s : AtExit sit.ended κs) →
      ((sit.clauses 𝓛 mem of κs a).requires tt ≡ emp 𝓤)
      × ((sit.clauses 𝓛 mem of κs a).ensures tt r s ≡ fact 𝓤 (CallQueue a.0.now (queue.submit a.1.0.now a.1.1.0) a.1.1.1.0.now r s.0.now s.1.1.1.0.now))
  sit_tied κs a r s = (refl, refl)

  pub turn_tied : (κs : Lfts 2) (a : Args turn.signature κs) (r : Res turn.signature κs) (s : AtExit turn.ended κs) →
      ((turn.clauses 𝓛 mem of κs a).requires tt ≡ emp 𝓤)
      × ((turn.clauses 𝓛 mem of κs a).ensures tt r s ≡ fact 𝓤 (CallQueue a.0.now queue.turn a.1.0.now r s.0.now s.1.0.now))
  turn_tied κs a r s = (refl, refl)

  pub rounds_tied : (κs : Lfts 2) (a : Args rounds.signature κs) (r : Res rounds.signature κs) (s : AtExit rounds.ended κs) →
      ((rounds.clauses 𝓛 mem of κs a).requires tt ≡ emp 𝓤)
      × ((rounds.clauses 𝓛 mem of κs a).ensures tt r s ≡ fact 𝓤 (CallRounds a.0.now a.1.0 a.1.1.0.now r s.0.now s.1.1.0.now))
  rounds_tied κs a r s = (refl, refl)

  pub look_tied : (κs : Lfts 2) (a : Args look.signature κs) (r : Res look.signature κs) (s : AtExit look.ended κs) →
      ((look.clauses 𝓛 mem of κs a).requires tt ≡ emp 𝓤)
      × ((look.clauses 𝓛 mem of κs a).ensures tt r s ≡ fact 𝓤 (CallStatus a.0.now a.1.0 a.1.1.0.now r s.1.1.0.now))
  look_tied κs a r s = (refl, refl)

  pub leave_tied : (κs : Lfts 3) (a : Args leave.signature κs) (r : Res leave.signature κs) (s : AtExit leave.ended κs) →
      ((leave.clauses 𝓛 mem of κs a).requires tt ≡ emp 𝓤)
      × ((leave.clauses 𝓛 mem of κs a).ensures tt r s
      ≡ fact 𝓤 (CallRelease a.0.now a.1.0 a.1.1.0.now a.1.1.1.0.now r s.0.now s.1.1.0.now s.1.1.1.0.now))
  leave_tied κs a r s = (refl, refl)
