-- What is left of the levels falls.
use Rattle.std.proofs.Common.{◌-◌}
use Rattle.prune_symmetries.proofs.+resolve.Given as goal

abbrev pub decreases-resolve : goal.decreases-resolve
decreases-resolve l = l.k - l.split
