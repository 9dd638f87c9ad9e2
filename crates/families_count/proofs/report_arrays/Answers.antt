-- The run of an accepted sheet is made on its arrays, and its figure told: proofs/ReportRuns. Assumes nothing.
use Rattle.model.specs.Kit.{refl, sym, ◌*◌, arith, length-take-le}
use Rattle.model.specs.Lists.{at}
use Rattle.arrays.specs.Inner.Places.{VARIABLES}
use Rattle.families_count.proofs.ReportRuns.{report_few, report_runs, report_listed, report_told_so}
use Rattle.families_count.proofs.report_arrays.Goals as goal

pub overflow_mul-used : goal.overflow_mul-used
unfolding at
overflow_mul-used c = omega (arith, report_few _ 0 _ _ _ c.requires.0.1)

pub slice_bounds-run_arrays-end : goal.slice_bounds-run_arrays-end
unfolding at
slice_bounds-run_arrays-end c = omega (arith, report_few _ 0 _ _ _ c.requires.0.1, c.requires.2)

pub slice_bounds-run_arrays-end-2 : goal.slice_bounds-run_arrays-end-2
unfolding at
slice_bounds-run_arrays-end-2 c = sym (length-take-le _ _ (omega (arith, report_few _ 0 _ _ _ c.requires.0.1, c.requires.2)))

pub run_arrays-part-requires : goal.run_arrays-part-requires
unfolding at
run_arrays-part-requires c =
    (_, report_runs _ c.args.limit _ _ _ c.requires.0.1 _ _ _ c.requires.1 _ (length-take-le _ _ (omega (arith, report_few _ 0 _ _ _ c.requires.0.1, c.requires.2))))

pub report_figure-figure-requires : goal.report_figure-figure-requires
unfolding at
report_figure-figure-requires c =
    let n = at c.args.numbers.now VARIABLES in
    let l = length-take-le (4096 * n) c.args.list.now (omega (arith, report_few _ 0 _ _ _ c.requires.0.1, c.requires.2)) in
    (_, report_listed _ c.args.limit _ _ _ c.requires.0.1 _ _ _ c.requires.1 _ l _ _ _ _ _ _ _ (c.run_arrays-part.ensures _ (report_runs _ c.args.limit _ _ _ c.requires.0.1 _ _ _ c.requires.1 _ l)))

pub returns : goal.returns
unfolding at
returns c = λ b k.
    let n = at c.args.numbers.now VARIABLES in
    let l = length-take-le (4096 * n) c.args.list.now (omega (arith, report_few _ 0 _ _ _ k, c.requires.2)) in
    let g = c.run_arrays-part.ensures _ (report_runs _ c.args.limit _ _ _ k _ _ _ c.requires.1 _ l) in
    let s = report_listed _ c.args.limit _ _ _ k _ _ _ c.requires.1 _ l _ _ _ _ _ _ _ g in
    report_told_so _ c.args.limit _ _ _ k _ _ _ c.requires.1 _ l _ _ _ _ _ _ _ g _ refl _ c.answered-ending.ensures _
    (c.report_figure-figure.ensures _ s) _ refl c.run_arrays-part.auto.list
