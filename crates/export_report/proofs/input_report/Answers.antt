-- `input_report`: the first 65,536 bytes are the sheet. Assumes nothing.
use Rattle.model.specs.Kit.{sym, subst, List, ℕ, arith, length-take-le, take_all}
use Rattle.model.specs.Sheet.{verdict_of}
use Rattle.report.specs.{Report.report_for, Inner.Text.Fitted}
use Rattle.export_report.proofs.input_report.Goals as goal

pub returns-then-input-le65536 : goal.returns-then-input-le65536
returns-then-input-le65536 c =
    subst (λ (b : List ℕ). Fitted c.args.out.now (report_for (verdict_of b) b) c.sheet_report.new.out c.sheet_report.result) (sym (take_all 65536 c.args.input.now c.if-input-le65536.true))
    c.sheet_report.ensures

pub returns : goal.returns
returns c = c.sheet_report-2.ensures

pub slice_bounds-sheet_report-end : goal.slice_bounds-sheet_report-end
slice_bounds-sheet_report-end c = sym (length-take-le _ c.args.input.now (omega (arith, c.if-input-le65536.false)))
