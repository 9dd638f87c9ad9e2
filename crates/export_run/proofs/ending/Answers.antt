-- `ending`: each ending has its kind. Assumes nothing.
use Rattle.model.specs.Kit.{sym, ap, ◌∙◌, subst, arith}
use Rattle.run_state.specs.{declared.Ending.Ending, Meaning.ending_of}
use Rattle.export_run.specs.{Run.ending_bytes, Inner.Inner.Counted}
use Rattle.export_run.proofs.ending.Goals as goal

pub three-requires : goal.three-requires
three-requires c =
    let k = subst (λ (x : Ending). Counted (ending_of x)) c.in-Finished.is c.requires.1 in
    (c.requires.0, omega arith, k.plans, k.made)

pub three-requires-in-Spent : goal.three-requires-in-Spent
three-requires-in-Spent c =
    let k = subst (λ (x : Ending). Counted (ending_of x)) c.in-Spent.is c.requires.1 in
    (c.requires.0, omega arith, k.plans, k.made)

pub three-requires-in-Full : goal.three-requires-in-Full
three-requires-in-Full c =
    let k = subst (λ (x : Ending). Counted (ending_of x)) c.in-Full.is c.requires.1 in
    (c.requires.0, omega arith, k.plans, k.made)

pub returns-in-Finished : goal.returns-in-Finished
returns-in-Finished c = c.three.ensures ∙ ap (λ (x : Ending). ending_bytes (ending_of x)) (sym c.in-Finished.is)

pub returns-in-Spent : goal.returns-in-Spent
returns-in-Spent c = c.three-in-Spent.ensures ∙ ap (λ (x : Ending). ending_bytes (ending_of x)) (sym c.in-Spent.is)

pub returns-in-Full : goal.returns-in-Full
returns-in-Full c = c.three-in-Full.ensures ∙ ap (λ (x : Ending). ending_bytes (ending_of x)) (sym c.in-Full.is)
