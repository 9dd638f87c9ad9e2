-- `stop_report`: the ending by its word, with a dash. Assumes nothing.
use Rattle.model.specs.Kit.{sym, subst}
use Rattle.families_figure.specs.Figure.{dash}
use Rattle.report.specs.Inner.Text.{ended_text, Fitted}
use Rattle.run_state.specs.{declared.Ending.Ending, Meaning.ending_of}
use Rattle.export_report.specs.Inner.Inner.{Listed}
use Rattle.export_report.proofs.text.stop_report.Goals as goal

pub spent-requires : goal.spent-requires
spent-requires c =
    let k = subst (λ (x : Ending). Listed (ending_of x) c.args.n c.args.list.now) c.in-Spent.is c.requires in
    (k.few, k.most, k.inside)

pub full-requires : goal.full-requires
full-requires c =
    let k = subst (λ (x : Ending). Listed (ending_of x) c.args.n c.args.list.now) c.in-Full.is c.requires in
    (k.few, k.most, k.inside)

pub uncounted-requires : goal.uncounted-requires
uncounted-requires c =
    let k = subst (λ (x : Ending). Listed (ending_of x) c.args.n c.args.list.now) c.in-Finished.is c.requires in
    (k.few, k.most, k.inside)

pub returns-in-Spent : goal.returns-in-Spent
returns-in-Spent c =
    subst (λ (x : Ending). Fitted c.args.out.now (ended_text (ending_of x) dash c.args.n c.args.list.now) c.spent.new.out
    c.spent.result) (sym c.in-Spent.is) c.spent.ensures

pub returns-in-Full : goal.returns-in-Full
returns-in-Full c =
    subst (λ (x : Ending). Fitted c.args.out.now (ended_text (ending_of x) dash c.args.n c.args.list.now) c.full.new.out
    c.full.result) (sym c.in-Full.is) c.full.ensures

pub returns-in-Finished : goal.returns-in-Finished
returns-in-Finished c =
    subst (λ (x : Ending). Fitted c.args.out.now (ended_text (ending_of x) dash c.args.n c.args.list.now) c.uncounted.new.out
    c.uncounted.result) (sym c.in-Finished.is) c.uncounted.ensures
