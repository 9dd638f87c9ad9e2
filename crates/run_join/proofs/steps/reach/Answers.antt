-- `reach`: the path where it stands. Assumes nothing.
use Rattle.model.specs.Kit.{ap, ◌∙◌}
use Rattle.run_join.specs.Join.{path_at}
use Rattle.run_join.proofs.Turns.{reach_path}
use Rattle.run_join.proofs.steps.reach.Goals as goal

pub path-requires : goal.path-requires
path-requires c = reach_path c.args.l.now c.args.k c.requires c.reach_place.result c.reach_place.ensures

pub returns : goal.returns
returns c = c.path.ensures ∙ ap (path_at c.args.l.now) c.reach_place.ensures
