-- `finished_report`: the figure is a number or the dash. Assumes nothing.
use Rattle.model.specs.Kit.{sym, subst, ℕ}
use Rattle.std.specs.Prelude.{Option}
use Rattle.model.specs.Run.{finished}
use Rattle.families_count.specs.Told.{figure_of}
use Rattle.report.specs.Inner.Text.{ended_text, Fitted}
use Rattle.export_report.proofs.text.finished_report.Goals as goal

pub returns-in-Some : goal.returns-in-Some
returns-in-Some c =
    subst (λ (f : Option ℕ). Fitted c.args.out.now (ended_text (finished c.args.plans c.args.nodes) (figure_of f) c.args.n c.args.list.now) c.finished.new.out c.finished.result)
    (sym c.in-Some.is) c.finished.ensures

pub returns-in-None : goal.returns-in-None
returns-in-None c =
    subst (λ (f : Option ℕ). Fitted c.args.out.now (ended_text (finished c.args.plans c.args.nodes) (figure_of f) c.args.n c.args.list.now) c.uncounted.new.out c.uncounted.result)
    (sym c.in-None.is) c.uncounted.ensures
