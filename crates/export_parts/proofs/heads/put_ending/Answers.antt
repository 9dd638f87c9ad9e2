-- `put_ending`: each ending has its kind, and the counts follow. Assumes nothing.
use Rattle.model.specs.Kit.{◌++◌, sym, subst, arith}
use Rattle.model.specs.Written.{Written}
use Rattle.run_state.specs.{declared.Ending.Ending, Meaning.ending_of}
use Rattle.export_run.specs.{Run.ending_bytes, Inner.Inner.Counted}
use Rattle.export_counts.specs.Tallied.{numbers_of}
use Rattle.export_parts.proofs.heads.put_ending.Goals as goal

pub put_figures-requires : goal.put_figures-requires
put_figures-requires c =
    let k = subst (λ (x : Ending). Counted (ending_of x)) c.in-Finished.is c.requires.1 in
    (c.requires.0, omega arith, k.plans, k.made, c.requires.2)

pub put_figures-requires-in-Spent : goal.put_figures-requires-in-Spent
put_figures-requires-in-Spent c =
    let k = subst (λ (x : Ending). Counted (ending_of x)) c.in-Spent.is c.requires.1 in
    (c.requires.0, omega arith, k.plans, k.made, c.requires.2)

pub put_figures-requires-in-Full : goal.put_figures-requires-in-Full
put_figures-requires-in-Full c =
    let k = subst (λ (x : Ending). Counted (ending_of x)) c.in-Full.is c.requires.1 in
    (c.requires.0, omega arith, k.plans, k.made, c.requires.2)

pub returns-in-Finished : goal.returns-in-Finished
returns-in-Finished c =
    subst (λ (x : Ending). Written c.args.out.now 0 (ending_bytes (ending_of x) ++ numbers_of c.args.counts) c.put_figures.new.out 60) (sym c.in-Finished.is) c.put_figures.ensures

pub returns-in-Spent : goal.returns-in-Spent
returns-in-Spent c =
    subst (λ (x : Ending). Written c.args.out.now 0 (ending_bytes (ending_of x) ++ numbers_of c.args.counts) c.put_figures-in-Spent.new.out 60) (sym c.in-Spent.is) c.put_figures-in-Spent.ensures

pub returns-in-Full : goal.returns-in-Full
returns-in-Full c =
    subst (λ (x : Ending). Written c.args.out.now 0 (ending_bytes (ending_of x) ++ numbers_of c.args.counts) c.put_figures-in-Full.new.out 60) (sym c.in-Full.is) c.put_figures-in-Full.ensures
