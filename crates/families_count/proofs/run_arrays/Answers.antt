-- The problem in the arrays is begun and walked along: proofs/Arrays. Assumes nothing.
use Rattle.model.specs.Lists.{at}
use Rattle.families_count.proofs.{Arrays.runs_laid, Arrays.runs_live, Arrays.runs_so}
use Rattle.families_count.proofs.run_arrays.Goals as goal

pub begin-node-requires : goal.begin-node-requires
unfolding at
begin-node-requires c =
    ((_, _, _, runs_laid _ _ _ _ _ _ _ _ c.requires.1 c.args.limit _ c.put_bounds.ensures _ c.by_position.ensures), c.requires.1.writable)

pub walk_tree-requires : goal.walk_tree-requires
unfolding at
walk_tree-requires c = λ e.
    let l = runs_laid _ _ _ _ _ _ _ _ c.requires.1 c.args.limit _ c.put_bounds.ensures _ c.by_position.ensures in
    (_, runs_live _ _ _ _ _ _ _ _ c.requires.1 c.args.limit _ c.put_bounds.ensures c.ranges.limit.fits _ _ _ _ _ (c.begin-node.ensures _ _ _ l) e)

pub returns : goal.returns
unfolding at
returns c = λ p h.
    let l = runs_laid _ _ _ _ _ _ _ _ h c.args.limit _ c.put_bounds.ensures _ c.by_position.ensures in
    runs_so _ _ _ _ _ _ _ _ h c.args.limit _ c.put_bounds.ensures c.ranges.limit.fits _ _ _ _ _ (c.begin-node.ensures _ _ _ l) _ _ _ _ _ c.walk_tree.ensures
