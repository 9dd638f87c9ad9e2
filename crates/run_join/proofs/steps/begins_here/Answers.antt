-- `begins_here`: two tests. Assumes nothing.
use Rattle.run_join.proofs.Turns.{from_path}
use Rattle.run_join.proofs.steps.begins_here.Goals as goal

pub padded-requires : goal.padded-requires
padded-requires c = from_path c.args.l.now c.args.k c.requires.1
