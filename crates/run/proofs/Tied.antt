-- The contracts of `run`, `run_with`, `run_lent`, `run_counted` and `at_least`, as the checker states them, are what promises' `Demands` and `EnoughCalls` suppose,
-- and ask for nothing. Another `ensures` in src/lib.rt is refused here. Assumes nothing.
use Rattle.model.specs.Kit.{◌≡◌, refl, SProp, emp}
use seplogic.Ra.Ura.{Ura}
use prog.Memory.{Memory}
use prog.Routine.{Routine}
use types.Logic.{Logic}
use contract.Lifetimes.{Lfts}
use contract.Monad.{Fun, fact}
use denote.Triple.Entry.{Args, Res}
use denote.Triple.Clauses.{AtExit, closing}
use Rattle.run.specs.Calls.{CallRun, CallWith, CallLent, CallCounted, CallEnough}
use Rattle.run.specs.contracts.run as run
use Rattle.run.specs.contracts.at_least as at_least_lem
use Rattle.run.specs.contracts.run_with as run_with
use Rattle.run.specs.contracts.run_lent as run_lent
use Rattle.run.specs.contracts.run_counted as run_counted

module _ {M : Type 1} {𝓤 : Ura M} (𝓛 : Logic 𝓤) (mem : Memory → SProp 𝓤) (of : Routine → Fun 𝓤) where
  pub run_tied : (κs : Lfts 2) (a : Args run.signature κs) (r : Res run.signature κs) (s : AtExit run.ended κs) →
      ((run.clauses 𝓛 mem of κs a).requires tt ≡ emp 𝓤)
      × ((run.clauses 𝓛 mem of κs a).ensures tt r s ≡ fact 𝓤 (CallRun a.0.now a.1.0 a.1.1.0.now r s.1.1.0.now))
  run_tied κs a r s = (refl, refl)

  pub run_with_tied : (κs : Lfts 3) (a : Args run_with.signature κs) (r : Res run_with.signature κs) (s : AtExit run_with.ended κs) →
      ((run_with.clauses 𝓛 mem of κs a).requires tt ≡ emp 𝓤)
      × ((run_with.clauses 𝓛 mem of κs a).ensures tt r s ≡ fact 𝓤 (CallWith a.0.now a.1.0 a.1.1.0.now a.1.1.1.0.now r s.1.1.0.now s.1.1.1.0.now))
  run_with_tied κs a r s = (refl, refl)

  pub run_lent_tied : (κs : Lfts 5) (a : Args run_lent.signature κs) (r : Res run_lent.signature κs) (s : AtExit run_lent.ended κs) →
      ((run_lent.clauses 𝓛 mem of κs a).requires tt ≡ emp 𝓤)
      × ((run_lent.clauses 𝓛 mem of κs a).ensures tt r s
      ≡ fact 𝓤 (CallLent a.0.now a.1.0.now a.1.1.0.now a.1.1.1.0 a.1.1.1.1.0.now a.1.1.1.1.1.0.now r s.1.1.1.1.0.now s.1.1.1.1.1.0.now))
  run_lent_tied κs a r s = (refl, refl)

  pub run_counted_tied : (κs : Lfts 4) (a : Args run_counted.signature κs) (r : Res run_counted.signature κs) (s : AtExit run_counted.ended κs) →
      ((run_counted.clauses 𝓛 mem of κs a).requires tt ≡ emp 𝓤)
      × ((run_counted.clauses 𝓛 mem of κs a).ensures tt r s
      ≡ fact 𝓤 (CallCounted a.0.now a.1.0.now a.1.1.0.now a.1.1.1.0 a.1.1.1.1.0.now r s.1.1.1.1.0.now))
  run_counted_tied κs a r s = (refl, refl)

  pub at_least_tied : (κs : Lfts 3) (a : Args at_least_lem.signature κs) (r : Res at_least_lem.signature κs) (s : AtExit at_least_lem.ended κs) →
      ((at_least_lem.clauses 𝓛 mem of κs a).requires tt ≡ emp 𝓤) × ((at_least_lem.clauses 𝓛 mem of κs a).ensures tt r s ≡ fact 𝓤
      (CallEnough a.0.now a.1.0.now a.1.1.0.now a.1.1.1.1.0 a.1.1.1.0 r))
  at_least_tied κs a r s = (refl, refl)

  -- and what is proved of each function is about these clauses
  pub stated : (run.spec 𝓛 mem of ≡ closing 𝓛 run.ended (run.clauses 𝓛 mem of))
      × (run_with.spec 𝓛 mem of ≡ closing 𝓛 run_with.ended (run_with.clauses 𝓛 mem of))
      × (run_lent.spec 𝓛 mem of ≡ closing 𝓛 run_lent.ended (run_lent.clauses 𝓛 mem of))
      × (run_counted.spec 𝓛 mem of ≡ closing 𝓛 run_counted.ended (run_counted.clauses 𝓛 mem of))
      × (at_least_lem.spec 𝓛 mem of ≡ closing 𝓛 at_least_lem.ended (at_least_lem.clauses 𝓛 mem of))
  stated = (refl, refl, refl, refl, refl)
