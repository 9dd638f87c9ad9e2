-- The measures: variables left, and which of the four is at work on one.
use Rattle.std.proofs.Common.{◌+◌, ◌-◌, ◌*◌}
use Rattle.run_between.proofs.+below_into_onto_up_to.Given as goal

abbrev pub decreases-below : goal.decreases-below
decreases-below l = 4 * (12 - l.k) + 3

abbrev pub decreases-into : goal.decreases-into
decreases-into l = 4 * (12 - l.k) + 1

abbrev pub decreases-onto : goal.decreases-onto
decreases-onto l = 4 * (12 - l.k) + 1

abbrev pub decreases-up_to : goal.decreases-up_to
decreases-up_to l = 4 * (12 - l.k) + 2
