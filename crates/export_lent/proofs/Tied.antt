-- The contracts of `question_lent` and `run_lent`, as the checker states them, are those of specs/Calls, and ask for nothing.
-- Assumes nothing.
use Rattle.model.specs.Kit.{◌≡◌, refl, SProp, emp}
use seplogic.Ra.Ura.{Ura}
use prog.Memory.{Memory}
use prog.Routine.{Routine}
use types.Logic.{Logic}
use contract.Lifetimes.{Lfts}
use contract.Monad.{Fun, fact}
use denote.Triple.Entry.{Args, Res}
use denote.Triple.Clauses.{AtExit}
use Rattle.export_lent.specs.Calls.{CallQuestionCode, CallRunBytes}
use Rattle.export_lent.specs.contracts.question_lent as question_lent
use Rattle.export_lent.specs.contracts.run_lent as run_lent

module _ {M : Type 1} {𝓤 : Ura M} (𝓛 : Logic 𝓤) (mem : Memory → SProp 𝓤) (of : Routine → Fun 𝓤) where
  pub question_lent_tied : (κs : Lfts 3) (a : Args question_lent.signature κs) (r : Res question_lent.signature κs) (s : AtExit question_lent.ended κs) →
      ((question_lent.clauses 𝓛 mem of κs a).requires tt ≡ emp 𝓤) × ((question_lent.clauses 𝓛 mem of κs a).ensures tt r s ≡ fact 𝓤
      (CallQuestionCode a.0.now a.1.0.now a.1.1.0.now r))
  question_lent_tied κs a r s = (refl, refl)

  pub run_lent_tied : (κs : Lfts 5) (a : Args run_lent.signature κs) (r : Res run_lent.signature κs) (s : AtExit run_lent.ended κs) →
      ((run_lent.clauses 𝓛 mem of κs a).requires tt ≡ emp 𝓤) × ((run_lent.clauses 𝓛 mem of κs a).ensures tt r s ≡ fact 𝓤
      (CallRunBytes a.0.now a.1.0.now a.1.1.0.now a.1.1.1.0 a.1.1.1.1.0.now a.1.1.1.1.1.0.now r s.1.1.1.1.0.now
      s.1.1.1.1.1.0.now))
  run_lent_tied κs a r s = (refl, refl)
