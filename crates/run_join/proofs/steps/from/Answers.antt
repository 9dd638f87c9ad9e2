-- `from`: a path of the head. Assumes nothing.
use Rattle.run_join.proofs.Turns.{from_path}
use Rattle.run_join.proofs.steps.from.Goals as goal

pub path-requires : goal.path-requires
path-requires c = from_path c.args.l.now c.args.k c.requires
