-- `join`: the questions, the heads taken, the answer. Assumes nothing.
use Rattle.model.specs.Kit.{refl}
use Rattle.std.proofs.lemmas.Result.{err_from_is_err_and}
use Rattle.run_join.proofs.{Bits.marked_none, Sums.heads_all, Said.said_refused, Said.said_all}
use Rattle.run_join.proofs.join.Goals as goal

pub returns-in_err-question : goal.returns-in_err-question
returns-in_err-question c =
    let p = err_from_is_err_and c.from_residual.result c.from_residual.ensures.1 in
    rw (p.1, p.2) (said_refused c.args.heads.now c.in_err-question.field-0.0 c.in_err-question.ensures)

pub find_ways-joins-requires : goal.find_ways-joins-requires
find_ways-joins-requires c = (heads_all c.args.heads.now c.in_ok-question.ensures, refl, marked_none)

pub walk-w-requires : goal.walk-w-requires
walk-w-requires c = (heads_all c.args.heads.now c.in_ok-question.ensures, refl, c.find_ways-joins.ensures.may)

pub missing_range-missing-requires : goal.missing_range-missing-requires
missing_range-missing-requires c = (heads_all c.args.heads.now c.in_ok-question.ensures, refl, c.walk-w.ensures.inside)

pub returns : goal.returns
returns c =
    said_all c.args.heads.now c.find_ways-joins.result _ _ c.in_ok-question.ensures c.find_ways-joins.ensures.joins c.walk-w.ensures c.missing_range-missing.ensures
