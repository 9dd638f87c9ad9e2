-- `are_same`: pair by pair. Assumes nothing.
use Rattle.model.specs.Kit.{◌∙◌}
use Rattle.run_join.proofs.Slices.{pointwise_same}
use Rattle.run_join.proofs.paths.are_same.Goals as goal

pub returns : goal.returns
returns c = c.eq.ensures ∙ pointwise_same c.args.a.now c.args.b.now
