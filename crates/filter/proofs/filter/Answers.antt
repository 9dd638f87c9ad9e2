-- `filter::filter` meets its contract. Assumes nothing.
use Rattle.std.proofs.lemmas.Result.{err_from_is_err_and}
use Rattle.filter.proofs.{Questions.accepted_listed, Questions.after_accepted, Questions.after_refused}
use Rattle.filter.proofs.filter.Goals as goal

pub apply-requires : goal.apply-requires
apply-requires c = accepted_listed c.args.sets.now c.args.index.now c.args.equal.now c.args.not_equal.now c.question.result c.question.ensures c.in_ok-question.was

pub returns : goal.returns
returns c =
    after_accepted c.args.sets.now c.args.index.now c.args.equal.now c.args.not_equal.now
    c.question.result c.question.ensures c.apply.new.sets c.apply.result c.in_ok-question.was c.apply.ensures

pub returns-in_err-question : goal.returns-in_err-question
returns-in_err-question c =
    let p = err_from_is_err_and c.from_residual.result c.from_residual.ensures.1 in
    rw (p.1, p.2) (after_refused c.args.sets.now c.args.index.now c.args.equal.now c.args.not_equal.now c.question.result c.question.ensures _ c.in_err-question.was)
