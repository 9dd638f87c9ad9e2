-- What a caller of `question` holds (specs/Calls). Assumes nothing.
use Rattle.sheet.proofs.Calls.{says}
use Rattle.run_input.specs.{Lent.verdict_lent, Calls.QuestionLentCalls}

pub question_lent_calls : QuestionLentCalls
question_lent_calls b pairs block r c = says r (verdict_lent b pairs block) c
