-- `run_resume::prepare_again` meets its contract: proofs/Prepared. Assumes nothing.
use Rattle.model.specs.Kit.{arith}
use Rattle.model.specs.Lists.{at}
use Rattle.run_resume.proofs.{Prepared.some_variables, Prepared.laid, Prepared.again_refused, Prepared.again}
use Rattle.run_resume.proofs.prepare_again.Goals as goal

pub nonzero_div-size : goal.nonzero_div-size
unfolding at
nonzero_div-size c = omega (arith, some_variables _ _ _ _ _ c.recompile.ensures c.if-recompile.true)

pub begin-requires : goal.begin-requires
unfolding at
begin-requires c = (
  (_, _, _, laid c.args.sheet.now _ _ _ _ c.recompile.ensures c.if-recompile.true c.args.more c.args.size _ c.put_bounds.ensures _ c.by_position.ensures),
  record { stack_length = c.requires.stack_length; work_length = c.requires.work_length; tables_length = c.requires.tables_length },
)

pub returns-then-recompile : goal.returns-then-recompile
unfolding at
returns-then-recompile c =
    let l = laid c.args.sheet.now _ _ _ _ c.recompile.ensures c.if-recompile.true c.args.more c.args.size _ c.put_bounds.ensures _ c.by_position.ensures in
    again c.args.sheet.now _ _ _ _ c.recompile.ensures c.if-recompile.true c.args.more c.args.size _ c.put_bounds.ensures _ _ _ _ _ _ (c.begin.ensures _ _ _ l)
    c.ranges.more.fits c.ranges.size.fits

pub returns : goal.returns
returns c = again_refused _ _ _ _ _ _ _ _ _ _ c.recompile.ensures c.if-recompile.false
