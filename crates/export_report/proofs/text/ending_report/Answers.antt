-- `ending_report`: a finished run is taken apart, the two others are a stop. Assumes nothing.
use Rattle.model.specs.Kit.{◌≡◌, refl, sym, subst, ℕ}
use Rattle.model.specs.Run.{finished}
use Rattle.model.proofs.Lists.{never}
use Rattle.families_figure.specs.Figure.{Figure}
use Rattle.families_count.specs.Told.{figure_of}
use Rattle.report.specs.Inner.Text.{ended_text, Fitted}
use Rattle.run_state.specs.{declared.Ending.Ending, declared.Ending.TheVariants.Finished, declared.Ending.TheVariants.Spent, declared.Ending.TheVariants.Full, Meaning.ending_of}
use Rattle.export_report.specs.Inner.Inner.{Listed}
use Rattle.export_report.proofs.text.ending_report.Goals as goal

-- an ending of another case is not a finished run
stopped : (e : Ending) → ((p m : ℕ) → e ≡ Finished p m → ⊥) → (plans nodes : ℕ) → ending_of e ≡ finished plans nodes → ⊥
stopped (Finished plans nodes) k p m q = k plans nodes refl
stopped (Spent plans nodes) k p m q = never (cc)
stopped (Full plans nodes) k p m q = never (cc)

pub returns-in_default : goal.returns-in_default
returns-in_default c = λ k.
    let n = k (stopped c.args.e c.in_default.not-Finished) in
    subst (λ (g : Figure). Fitted c.args.out.now (ended_text (ending_of c.args.e) g c.args.n c.args.list.now) c.stop_report.new.out c.stop_report.result) (sym n) c.stop_report.ensures

pub finished_report-requires : goal.finished_report-requires
finished_report-requires c =
    subst (λ (x : Ending). Listed (ending_of x) c.args.n c.args.list.now) c.in-Finished.is c.requires

pub returns : goal.returns
returns c = λ k.
    subst (λ (x : Ending). Fitted c.args.out.now (ended_text (ending_of x) (figure_of c.args.figure) c.args.n c.args.list.now) c.finished_report.new.out c.finished_report.result)
    (sym c.in-Finished.is) c.finished_report.ensures
