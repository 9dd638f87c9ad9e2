-- `main`: the report lies inside its room. Assumes nothing.
use Rattle.model.specs.Kit.{arith, sym, length-take-le}
use Rattle.export_report.proofs.Reported.{report_inside}
use Rattle.lister.proofs.main.Goals as goal

pub slice_bounds-out-end : goal.slice_bounds-out-end
slice_bounds-out-end c =
    omega (arith, c.length_told-k.ensures, (report_inside _ _ _ _ _ _ c.write_report-code.ensures (omega (arith, c.if-code-ne0.false))).1)

pub slice_bounds-write_all-end : goal.slice_bounds-write_all-end
slice_bounds-write_all-end c =
    sym (length-take-le _ _ (omega (arith, c.length_told-k.ensures, (report_inside _ _ _ _ _ _ c.write_report-code.ensures (omega (arith, c.if-code-ne0.false))).1)))
