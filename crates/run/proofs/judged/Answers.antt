-- `run::judged` meets its contract. Assumes nothing.
use Rattle.std.specs.Prelude.{Ok}
use Rattle.model.specs.Kit.{sym, ap}
use Rattle.run.specs.{Meaning.means, Inner.Tasks.enough_for}
use Rattle.run_state.specs.declared.Ending.{Ending}
use Rattle.run.proofs.judged.Goals as goal

pub returns-in-Finished : goal.returns-in-Finished
returns-in-Finished c = ap (λ (e : Ending). enough_for (means (Ok e)) c.args.m) (sym c.in-Finished.is)

pub returns-in-Spent : goal.returns-in-Spent
returns-in-Spent c = ap (λ (e : Ending). enough_for (means (Ok e)) c.args.m) (sym c.in-Spent.is)

pub returns-in-Full : goal.returns-in-Full
returns-in-Full c = ap (λ (e : Ending). enough_for (means (Ok e)) c.args.m) (sym c.in-Full.is)
