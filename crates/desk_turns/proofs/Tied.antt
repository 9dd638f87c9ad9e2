-- The contracts of `turn` and `rounds`, as the checker states them, are the records of specs/Calls and specs/RoundsCalls, and ask for nothing. Another `ensures` in src/lib.rt is
-- refused here. Assumes nothing.
use Rattle.model.specs.Kit.{◌≡◌, refl, SProp, emp}
use seplogic.Ra.Ura.{Ura}
use prog.Memory.{Memory}
use prog.Routine.{Routine}
use types.Logic.{Logic}
use contract.Lifetimes.{Lfts}
use contract.Monad.{Fun, fact}
use denote.Triple.Entry.{Args, Res}
use denote.Triple.Clauses.{AtExit, closing}
use Rattle.desk_turns.specs.{Calls.Turned, RoundsCalls.Rounded}
use Rattle.desk_turns.specs.contracts.turn as turn
use Rattle.desk_turns.specs.contracts.rounds as rounds

module _ {M : Type 1} {𝓤 : Ura M} (𝓛 : Logic 𝓤) (mem : Memory → SProp 𝓤) (of : Routine → Fun 𝓤) where
  pub turn_tied : (κs : Lfts 1) (a : Args turn.signature κs) (r : Res turn.signature κs) (s : AtExit turn.ended κs) →
      ((turn.clauses 𝓛 mem of κs a).requires tt ≡ emp 𝓤) × ((turn.clauses 𝓛 mem of κs a).ensures tt r s ≡ fact 𝓤 (Turned a.0.now s.0.now r))
  turn_tied κs a r s = (refl, refl)

  pub rounds_tied : (κs : Lfts 1) (a : Args rounds.signature κs) (r : Res rounds.signature κs) (s : AtExit rounds.ended κs) →
      ((rounds.clauses 𝓛 mem of κs a).requires tt ≡ emp 𝓤) × ((rounds.clauses 𝓛 mem of κs a).ensures tt r s ≡ fact 𝓤 (Rounded a.0.now a.1.0 s.0.now r))
  rounds_tied κs a r s = (refl, refl)

  -- and what is proved of each function is about these clauses
  pub stated : (turn.spec 𝓛 mem of ≡ closing 𝓛 turn.ended (turn.clauses 𝓛 mem of)) × (rounds.spec 𝓛 mem of ≡ closing 𝓛 rounds.ended (rounds.clauses 𝓛 mem of))
  stated = (refl, refl)
