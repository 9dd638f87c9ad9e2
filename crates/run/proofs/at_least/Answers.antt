-- `run::at_least` meets its contract: proofs/Tasks. Assumes nothing.
use Rattle.model.specs.Kit.{sym, ap, ◌∙◌}
use Rattle.std.proofs.lemmas.Result.{err_from_is_err_and}
use Rattle.run_enough.specs.Lent.{enough_lent}
use Rattle.run.proofs.{Tasks.none_asked, Tasks.said_enough}
use Rattle.run.proofs.at_least.Goals as goal

pub returns-then-m-eq0 : goal.returns-then-m-eq0
returns-then-m-eq0 c =
    c.asked_for_none.ensures ∙ none_asked _ _ _ c.args.limit ∙ ap (enough_lent c.args.sheet.now c.args.pairs.now c.args.block.now c.args.limit) (sym c.if-m-eq0.true)

pub returns-in_err-ending : goal.returns-in_err-ending
returns-in_err-ending c =
    let q = err_from_is_err_and c.from_residual.result c.from_residual.ensures.1 in
    rw (q.1, q.2) (said_enough _ _ _ _ _ _ c.if-m-eq0.false c.in_err-ending.ensures)

pub returns : goal.returns
returns c = c.judged.ensures ∙ said_enough _ _ _ _ _ _ c.if-m-eq0.false c.in_ok-ending.ensures
