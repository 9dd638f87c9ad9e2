-- `run_state::Tally::new` meets its contract. Assumes nothing.
use Rattle.model.specs.Kit.{refl}
use Rattle.run_state.proofs.{Walk.none_summed}
use Rattle.run_state.proofs.Tally.new.Goals as goal

pub returns : goal.returns
returns c = record { is = refl; summed = none_summed }
