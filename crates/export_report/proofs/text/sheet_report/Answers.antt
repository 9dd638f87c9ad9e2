-- `sheet_report`: the run's answer with its figure, and the report on it. Assumes nothing.
use Rattle.model.specs.Kit.{◌≡◌, sym, ap, ◌∙◌, subst, List, ℕ, ◌*◌, arith, take, length-take-le, [], ◌∷◌}
use Rattle.report.specs.{Inner.Text.ended_text, Inner.Text.Fitted, Report.line, Report.refused_word, Report.REPORT_LIMIT}
use Rattle.model.specs.Refusals.{number_of}
use Rattle.run.specs.Meaning.{means}
use Rattle.run_state.specs.Meaning.{ending_of}
use Rattle.families_figure.specs.Figure.{Figure, report_figure}
use Rattle.families_count.specs.Told.{told, figure_of}
use Rattle.families_count.proofs.Bare.{room_long}
use Rattle.export_run.proofs.Ran.{refusal_of}
use Rattle.export_report.proofs.{Reported.refused_text, Reported.verdict, Reported.dashed, Reported.listed, Reported.ended_text_lem}
use Rattle.export_report.specs.Inner.Inner.{Dashed}
use Rattle.export_report.proofs.text.sheet_report.Goals as goal

pub slice_bounds-ending_report-end : goal.slice_bounds-ending_report-end
slice_bounds-ending_report-end c =
    sym (length-take-le _ _ (omega (arith, c.report_run-run.ensures.sized.most, c.report_run-run.auto.list, room_long _ c.plan_room-list.ensures)))

pub ending_report-requires : goal.ending_report-requires
ending_report-requires c =
    let l = length-take-le (4096 * c.report_run-run.result.variables) c.plan_room-list.result (omega (arith, c.report_run-run.ensures.sized.most, room_long _ c.plan_room-list.ensures)) in
    let m = length-take-le (4096 * c.report_run-run.result.variables) c.report_run-run.new.list
    (omega (arith, c.report_run-run.ensures.sized.most, c.report_run-run.auto.list, room_long _ c.plan_room-list.ensures)) in
    listed c.args.sheet.now c.report_run-run.result.variables (take (4096 * c.report_run-run.result.variables) c.plan_room-list.result) (ending_of c.in-Ok.e) c.report_run-run.ensures.sized l
    (sym c.report_run-run.ensures.call.answers ∙ ap means c.in-Ok.is)
    (take (4096 * c.report_run-run.result.variables) c.report_run-run.new.list) (m ∙ sym l)

-- what tells the same figure is the same
figured : (f g : Figure) → told f ≡ told g → f ≡ g
figured f g e = cc

pub returns-in-Err : goal.returns-in-Err
returns-in-Err c =
    let r = c.in-Err.refusal in
    let v = refusal_of c.args.sheet.now REPORT_LIMIT (take (4096 * c.report_run-run.result.variables) c.plan_room-list.result) (number_of r.question) r.item
    (sym c.report_run-run.ensures.call.answers ∙ ap means c.in-Err.is) in
    subst (λ (l : List ℕ). Fitted c.args.out.now l c.refused.new.out c.refused.result)
    (ap (λ (k : ℕ). line refused_word (k ∷ r.item ∷ [])) (c.from.ensures ∙ c.number.ensures) ∙ refused_text c.args.sheet.now (number_of r.question) r.item v) c.refused.ensures

pub returns-in-Ok : goal.returns-in-Ok
returns-in-Ok c =
    let l = length-take-le (4096 * c.report_run-run.result.variables) c.plan_room-list.result (omega (arith, c.report_run-run.ensures.sized.most, room_long _ c.plan_room-list.ensures)) in
    let h = sym c.report_run-run.ensures.call.answers ∙ ap means c.in-Ok.is in
    let o = take (4096 * c.report_run-run.result.variables) c.plan_room-list.result in
    let x = ending_of c.in-Ok.e in
    let figure = figured (figure_of c.report_run-run.result.figure) (report_figure c.args.sheet.now REPORT_LIMIT)
    (c.report_run-run.ensures.figure (verdict c.args.sheet.now c.report_run-run.result.variables o x c.report_run-run.ensures.sized l h)) in
    let e = ap (λ (f : Figure). ended_text x f c.report_run-run.result.variables (take (4096 * c.report_run-run.result.variables) c.report_run-run.new.list)) figure
    ∙ ended_text_lem c.args.sheet.now c.report_run-run.result.variables o x c.report_run-run.ensures.sized l h (take (4096 * c.report_run-run.result.variables) c.report_run-run.new.list)
    c.report_run-run.ensures.call.leaves in
    subst (λ (k : List ℕ). Fitted c.args.out.now k c.ending_report.new.out c.ending_report.result) e
    (c.ending_report.ensures (subst (Dashed x) (sym figure) (dashed c.args.sheet.now c.report_run-run.result.variables o x c.report_run-run.ensures.sized l h)))
