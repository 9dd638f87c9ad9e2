-- `run_between::walk_part` meets its contract: proofs/Ends. Assumes nothing.
use Rattle.model.specs.Kit.{ap, []}
use Rattle.run_state.{specs.Inner.Cut.node_in, proofs.Stops.is_inner}
use Rattle.run_between.proofs.{Ends.parted_none, Ends.parted_asks, Ends.parted_some}
use Rattle.run_between.proofs.walk_part.Goals as goal

pub returns-in-Leaf : goal.returns-in-Leaf
returns-in-Leaf c = parted_none _ _ _ _ _ _ _ _ _ (ap node_in c.in-Leaf.is) _ c.new-tally.ensures

pub below-requires : goal.below-requires
below-requires c =
    let g = c.requires (is_inner _ c.in_default.not-Leaf) in
    (_, parted_asks _ [] _ _ _ _ _ _ 0 _ c.new-tally.ensures g.1)

pub returns : goal.returns
returns c = parted_some _ _ _ _ _ _ _ _ _ (is_inner _ c.in_default.not-Leaf) _
    c.new-tally.ensures _ _ _ _ _ c.below.ensures
