-- What is left of the entries falls.
use Rattle.std.proofs.Common.{◌-◌, length}
use Rattle.filter.proofs.+resolve.Given as goal

abbrev pub decreases-resolve : goal.decreases-resolve
decreases-resolve l = length l.index.now - l.k
