-- The contract of `question`, as the checker states it, is what `QuestionLentCalls` supposes, and asks for nothing. Assumes nothing.
use Rattle.model.specs.Kit.{◌≡◌, refl, SProp, emp}
use seplogic.Ra.Ura.{Ura}
use prog.Memory.{Memory}
use prog.Routine.{Routine}
use types.Logic.{Logic}
use contract.Lifetimes.{Lfts}
use contract.Monad.{Fun, fact}
use denote.Triple.Entry.{Args, Res}
use denote.Triple.Clauses.{AtExit}
use Rattle.run_input.specs.Calls.{CallQuestionLent}
use Rattle.run_input.specs.contracts.question as question

module _ {M : Type 1} {𝓤 : Ura M} (𝓛 : Logic 𝓤) (mem : Memory → SProp 𝓤) (of : Routine → Fun 𝓤) where
  pub question_tied : (κs : Lfts 3) (a : Args question.signature κs) (r : Res question.signature κs) (s : AtExit question.ended κs) →
      ((question.clauses 𝓛 mem of κs a).requires tt ≡ emp 𝓤) × ((question.clauses 𝓛 mem of κs a).ensures tt r s ≡ fact 𝓤 (CallQuestionLent a.0.now a.1.0.now a.1.1.0.now r))
  question_tied κs a r s = (refl, refl)
