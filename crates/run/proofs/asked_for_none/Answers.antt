-- `run::asked_for_none` meets its contract. Assumes nothing.
use Rattle.model.specs.Kit.{ap}
use Rattle.model.specs.Verdict.{Verdict, reply}
use Rattle.std.proofs.lemmas.Result.{err_from_is_err_and}
use Rattle.run.specs.Inner.Tasks.{enough_none}
use Rattle.run_enough.specs.AtLeast.{enough}
use Rattle.run.proofs.asked_for_none.Goals as goal

pub returns : goal.returns
unfolding enough_none
returns c = ap (λ (v : Verdict). reply v (enough 0 0)) c.in_ok-question.ensures

pub returns-in_err-question : goal.returns-in_err-question
unfolding enough_none
returns-in_err-question c =
    let q = err_from_is_err_and c.from_residual.result c.from_residual.ensures.1 in
    rw (q.1, q.2) (ap (λ (v : Verdict). reply v (enough 0 0)) c.in_err-question.ensures)
