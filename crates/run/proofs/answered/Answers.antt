-- `run::answered` meets its contract. Assumes nothing.
use Rattle.model.specs.Kit.{refl, sym, ap, ◌∙◌}
use Rattle.model.specs.Lists.{at}
use Rattle.run_state.specs.Inner.Cut.{cut_in, stop_of}
use Rattle.run.proofs.answered.Goals as goal

pub returns-in-Ok : goal.returns-in-Ok
unfolding at
returns-in-Ok c = record { plans = refl; nodes = refl; stopped = sym (ap stop_of c.in-Ok.is) }

pub returns-in-Err-Spent : goal.returns-in-Err-Spent
unfolding at
returns-in-Err-Spent c =
    let e = rw c.in-Err-Spent.is at c.in-Err-Spent.field-0-is in
    record { plans = refl; nodes = refl; stopped = sym (ap stop_of c.in-Err-Spent.is ∙ ap cut_in e) }

pub returns-in-Err-Full : goal.returns-in-Err-Full
unfolding at
returns-in-Err-Full c =
    let e = rw c.in-Err-Full.is at c.in-Err-Full.field-0-is in
    record { plans = refl; nodes = refl; stopped = sym (ap stop_of c.in-Err-Full.is ∙ ap cut_in e) }
