-- `comes_to`: two tests. Assumes nothing.
use Rattle.run_join.proofs.Turns.{reach_path}
use Rattle.run_join.proofs.ways.comes_to.Goals as goal

pub padded-requires : goal.padded-requires
padded-requires c = reach_path c.args.l.now c.args.k c.requires.1 c.reach_place-place.result c.reach_place-place.ensures

pub path-requires : goal.path-requires
path-requires c = reach_path c.args.l.now c.args.k c.requires.1 c.reach_place-place.result c.reach_place-place.ensures
