-- `run_search::walk_tree` meets its contract: no nodes where the step says so, else those of the empty prefix's candidates. Assumes nothing.
use Rattle.model.specs.Kit.{ap}
use Rattle.run_state.{specs.Inner.Cut.node_in, proofs.Stops.is_inner}
use Rattle.model.specs.Lists.{at}
use Rattle.run_search.proofs.{Explored.ended_none, Explored.tree_asks, Explored.ended_some}
use Rattle.run_search.proofs.walk_tree.Goals as goal

pub returns-in-Leaf : goal.returns-in-Leaf
returns-in-Leaf c = ended_none _ _ _ _ _ _ _ (ap node_in c.in-Leaf.is) _ c.new-tally.ensures

pub walk_counted-requires : goal.walk_counted-requires
unfolding at
walk_counted-requires c =
    let g = c.requires (is_inner _ c.in_default.not-Leaf) in
    (_, tree_asks _ _ _ _ _ _ _ (is_inner _ c.in_default.not-Leaf) _ c.new-tally.ensures _ c.candidates-m.ensures _ g.1)

pub returns : goal.returns
unfolding at
returns c =
    ended_some _ _ _ _ _ _ _ (is_inner _ c.in_default.not-Leaf) _ c.new-tally.ensures _ c.candidates-m.ensures _ _ _ _ _ c.walk_counted.ensures
