-- `uncounted`: the lines of the plans, then the line of the ending. Assumes nothing.
use Rattle.model.specs.Kit.{arith, length-take-le, rules}
use Rattle.model.specs.Run.{finished}
use Rattle.families_figure.specs.Figure.{dash}
use Rattle.report.specs.Report.{ending_line}
use Rattle.report.proofs.{Lines.front_taken, Lines.front_inside, Lines.ended_fits}
use Rattle.report.proofs.uncounted.Goals as goal

pub put_report-requires : goal.put_report-requires
put_report-requires c = (
  search rules,
  search rules,
  search rules,
  omega (
    arith,
    length-take-le c.dash_line-length.result c.dash_line-length.new.out (front_inside c.dash_line-length.ensures),
    front_inside c.dash_line-length.ensures,
    c.dash_line-length.auto.out,
  ),
)

pub returns : goal.returns
unfolding ending_line
returns c =
    ended_fits (finished _ _) dash _ _ _ (front_taken c.dash_line-length.ensures) c.put_report.ensures
