-- The contracts of `planner_question` and of the calls that are lent pairs and a block, as the checker states them, are what `QuestionCode`, `RunBytes`,
-- `EnoughBytes` and `ClosedBytes` suppose, and ask for nothing. Assumes nothing.
use Rattle.model.specs.Kit.{◌≡◌, refl, SProp, emp}
use seplogic.Ra.Ura.{Ura}
use prog.Memory.{Memory}
use prog.Routine.{Routine}
use types.Logic.{Logic}
use contract.Lifetimes.{Lfts}
use contract.Monad.{Fun, fact}
use denote.Triple.Entry.{Args, Res}
use denote.Triple.Clauses.{AtExit}
use Rattle.export_run.specs.Calls.{CallCode}
use Rattle.export_lent.specs.Calls.{CallQuestionCode, CallRunBytes}
use Rattle.export_enough.specs.Calls.{CallEnoughBytes}
use Rattle.export_closed.specs.Calls.{CallClosedBytes}
use Rattle.planner.specs.contracts.runs.planner_question as question
use Rattle.planner.specs.contracts.runs.planner_question_lent as question_lent
use Rattle.planner.specs.contracts.runs.planner_run_lent as run_lent
use Rattle.planner.specs.contracts.runs.planner_at_least as at_least_lem
use Rattle.planner.specs.contracts.runs.planner_closed as closed

module _ {M : Type 1} {𝓤 : Ura M} (𝓛 : Logic 𝓤) (mem : Memory → SProp 𝓤) (of : Routine → Fun 𝓤) where
  pub question_tied : (κs : Lfts 1) (a : Args question.signature κs) (r : Res question.signature κs) (s : AtExit question.ended κs) →
      ((question.clauses 𝓛 mem of κs a).requires tt ≡ emp 𝓤) × ((question.clauses 𝓛 mem of κs a).ensures tt r s ≡ fact 𝓤 (CallCode a.0.now r))
  question_tied κs a r s = (refl, refl)

  pub question_lent_tied : (κs : Lfts 3) (a : Args question_lent.signature κs) (r : Res question_lent.signature κs) (s : AtExit question_lent.ended κs) →
      ((question_lent.clauses 𝓛 mem of κs a).requires tt ≡ emp 𝓤) × ((question_lent.clauses 𝓛 mem of κs a).ensures tt r s ≡ fact 𝓤
      (CallQuestionCode a.0.now a.1.0.now a.1.1.0.now r))
  question_lent_tied κs a r s = (refl, refl)

  pub run_lent_tied : (κs : Lfts 5) (a : Args run_lent.signature κs) (r : Res run_lent.signature κs) (s : AtExit run_lent.ended κs) →
      ((run_lent.clauses 𝓛 mem of κs a).requires tt ≡ emp 𝓤) × ((run_lent.clauses 𝓛 mem of κs a).ensures tt r s ≡ fact 𝓤
      (CallRunBytes a.0.now a.1.0.now a.1.1.0.now a.1.1.1.0 a.1.1.1.1.0.now a.1.1.1.1.1.0.now r s.1.1.1.1.0.now
      s.1.1.1.1.1.0.now))
  run_lent_tied κs a r s = (refl, refl)

  pub at_least_tied : (κs : Lfts 4) (a : Args at_least_lem.signature κs) (r : Res at_least_lem.signature κs) (s : AtExit at_least_lem.ended κs) →
      ((at_least_lem.clauses 𝓛 mem of κs a).requires tt ≡ emp 𝓤) × ((at_least_lem.clauses 𝓛 mem of κs a).ensures tt r s ≡ fact 𝓤
      (CallEnoughBytes a.0.now a.1.0.now a.1.1.0.now a.1.1.1.0 a.1.1.1.1.0 a.1.1.1.1.1.0.now r s.1.1.1.1.1.0.now))
  at_least_tied κs a r s = (refl, refl)

  pub closed_tied : (κs : Lfts 4) (a : Args closed.signature κs) (r : Res closed.signature κs) (s : AtExit closed.ended κs) →
      ((closed.clauses 𝓛 mem of κs a).requires tt ≡ emp 𝓤) × ((closed.clauses 𝓛 mem of κs a).ensures tt r s ≡ fact 𝓤
      (CallClosedBytes a.0.now a.1.0.now a.1.1.0.now a.1.1.1.0.now r s.1.1.1.0.now))
  closed_tied κs a r s = (refl, refl)
