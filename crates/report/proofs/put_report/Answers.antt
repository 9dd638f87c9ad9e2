-- `put_report`: 53 bytes a plan are enough; where they may not fit the length is worked out first. Assumes nothing.
use Rattle.model.specs.Kit.{arith}
use Rattle.report.specs.Inner.Text.{plan_lines}
use Rattle.report.proofs.{Lines.lines_most, Lines.too_long}
use Rattle.report.proofs.put_report.Goals as goal

pub put_lines-requires : goal.put_lines-requires
put_lines-requires c =
    (c.requires.2, omega (arith, c.if-plans-last.true, c.requires, lines_most c.args.n c.args.plans c.args.list.now c.requires.0 (λ i. omega (arith, c.shared_slice_known-1.given i))))

pub returns-then-out-length : goal.returns-then-out-length
returns-then-out-length c =
    too_long c.args.out.now (plan_lines c.args.n c.args.plans c.args.list.now) c.args.last.now _ (omega (arith, c.lines_length.ensures.0))
    (omega (arith, c.lines_length.ensures.1, c.requires)) c.if-out-length.true
