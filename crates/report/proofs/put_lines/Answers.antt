-- `put_lines`: the lines, and the last line behind them. Assumes nothing.
use Rattle.model.specs.Kit.{refl, ◌+◌, arith, length}
use Rattle.report.specs.Inner.Text.{plan_lines}
use Rattle.report.proofs.{Lines.both_put}
use Rattle.report.proofs.put_lines.Goals as goal

pub returns : goal.returns
returns c =
    let lines = plan_lines c.args.n c.args.plans c.args.list.now in
    both_put c.args.out.now lines c.args.last.now (length lines + length c.args.last.now) refl (omega (arith, c.requires.1)) (omega (arith, c.requires.1)) c.plan_lines-at.ensures
    c.put.ensures
