-- What is together in one lane, and another set in it. Assumes nothing.
use Rattle.model.specs.Kit.{rules}
use Rattle.prune_constraints.proofs.{Lanes.lane_in, Lanes.and_fits}
use Rattle.prune_constraints.proofs.in_lane.Goals as goal

pub returns : goal.returns
returns c = λ lane f. lane_in _ _ _ _ lane c.requires.bits_bound.1 c.requires.bits_bound.2 (c.together.ensures lane f)

pub overflow_cast-result-2 : goal.overflow_cast-result-2
overflow_cast-result-2 c = search (rules, and_fits)
