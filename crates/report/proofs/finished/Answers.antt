-- `finished`: the lines of the plans, then the line of the ending. Assumes nothing.
use Rattle.model.specs.Kit.{arith, length-take-le, rules}
use Rattle.model.specs.Run.{finished}
use Rattle.families_figure.specs.Figure.{number}
use Rattle.report.specs.Report.{ending_line}
use Rattle.report.proofs.{Lines.front_taken, Lines.front_inside, Lines.ended_fits}
use Rattle.report.proofs.finished.Goals as goal

pub put_report-requires : goal.put_report-requires
put_report-requires c = (
  search rules,
  search rules,
  search rules,
  omega (
    arith,
    length-take-le c.ending_line-length.result c.ending_line-length.new.out (front_inside c.ending_line-length.ensures),
    front_inside c.ending_line-length.ensures,
    c.ending_line-length.auto.out,
  ),
)

pub returns : goal.returns
unfolding ending_line
returns c =
    ended_fits (finished _ _) (number _) _ _ _ (front_taken c.ending_line-length.ensures) c.put_report.ensures
