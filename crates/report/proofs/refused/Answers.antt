-- `refused`: the line of a refusal and no plans. Assumes nothing.
use Rattle.model.specs.Kit.{sym, arith, length-take-le}
use Rattle.report.proofs.{Lines.front_taken, Lines.front_inside, Lines.alone_fits}
use Rattle.report.proofs.refused.Goals as goal

pub put_report-requires : goal.put_report-requires
put_report-requires c = (
  omega arith,
  omega arith,
  omega arith,
  omega (
    arith,
    length-take-le c.refused_line-length.result c.refused_line-length.new.out (front_inside c.refused_line-length.ensures),
    front_inside c.refused_line-length.ensures,
    c.refused_line-length.auto.out,
  ),
)

pub returns : goal.returns
returns c =
    alone_fits _ _ (front_taken c.refused_line-length.ensures) c.put_report.ensures

pub slice_bounds-last-end : goal.slice_bounds-last-end
slice_bounds-last-end c = front_inside c.refused_line-length.ensures

pub slice_bounds-put_report-end-2 : goal.slice_bounds-put_report-end-2
slice_bounds-put_report-end-2 c = sym (length-take-le _ _ (front_inside c.refused_line-length.ensures))
