-- `ending`: each ending has its kind, and the counts follow. Assumes nothing.
use Rattle.model.specs.Kit.{◌++◌, sym, ap, ◌∙◌, subst, arith}
use Rattle.run_state.specs.{declared.Ending.Ending, Meaning.ending_of}
use Rattle.export_run.specs.{Run.ending_bytes, Inner.Inner.Counted}
use Rattle.export_counts.specs.Tallied.{numbers_of}
use Rattle.export_counts.proofs.ending.Goals as goal

pub told-requires : goal.told-requires
told-requires c =
    let k = subst (λ (x : Ending). Counted (ending_of x)) c.in-Finished.is c.requires.1 in
    (c.requires.0, omega arith, k.plans, k.made, c.requires.2)

pub told-requires-in-Spent : goal.told-requires-in-Spent
told-requires-in-Spent c =
    let k = subst (λ (x : Ending). Counted (ending_of x)) c.in-Spent.is c.requires.1 in
    (c.requires.0, omega arith, k.plans, k.made, c.requires.2)

pub told-requires-in-Full : goal.told-requires-in-Full
told-requires-in-Full c =
    let k = subst (λ (x : Ending). Counted (ending_of x)) c.in-Full.is c.requires.1 in
    (c.requires.0, omega arith, k.plans, k.made, c.requires.2)

pub returns-in-Finished : goal.returns-in-Finished
returns-in-Finished c = c.told.ensures ∙ ap (λ (x : Ending). ending_bytes (ending_of x) ++ numbers_of c.args.counts)
    (sym c.in-Finished.is)

pub returns-in-Spent : goal.returns-in-Spent
returns-in-Spent c = c.told-in-Spent.ensures ∙ ap (λ (x : Ending). ending_bytes (ending_of x) ++ numbers_of c.args.counts)
    (sym c.in-Spent.is)

pub returns-in-Full : goal.returns-in-Full
returns-in-Full c = c.told-in-Full.ensures ∙ ap (λ (x : Ending). ending_bytes (ending_of x) ++ numbers_of c.args.counts)
    (sym c.in-Full.is)
