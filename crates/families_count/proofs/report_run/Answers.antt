-- The sheet is compiled, and its run made on new arrays. Assumes nothing.
use Rattle.sheet.proofs.Whole.{zeros}
use Rattle.families_count.proofs.{ReportRuns.new_arrays, ReportRuns.report_refused}
use Rattle.arrays.specs.Inner.Places.{IMAGES, NUMBERS, SUPPORTS}
use Rattle.families_count.proofs.report_run.Goals as goal

pub report_arrays-requires : goal.report_arrays-requires
report_arrays-requires c = ((_, c.in-Ok.ensures), new_arrays, c.requires)

pub returns-in-Ok : goal.returns-in-Ok
returns-in-Ok c = c.report_arrays.ensures _ c.in-Ok.ensures

pub returns-in-Err : goal.returns-in-Err
returns-in-Err c = report_refused _ _ _ _ _ c.in-Err.ensures.answers

pub compile-requires : goal.compile-requires
compile-requires c = (zeros NUMBERS, zeros SUPPORTS, (zeros IMAGES).sized)
