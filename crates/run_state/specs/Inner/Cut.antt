-- How a part of a run ends, as the number that a walk says (`State`).
use Rattle.std.specs.Prelude.{ℕ, Result, Ok, Err}
use Rattle.arrays.specs.Inner.Places.{ALL, SPENT, FULL, DEEPER}
use Rattle.run_state.specs.{declared.Cut.Cut, declared.Node.Node, declared.Node.TheVariants.Leaf, declared.Node.TheVariants.Inner}
use Rattle.run_state.specs.declared.Cut.TheVariants as cut

abbrev pub cut_in : Cut → ℕ
cut_in cut.Spent = SPENT
cut_in cut.Full = FULL

-- ALL where it came to its end
abbrev pub stop_of : Result Unit Cut → ℕ
stop_of (Ok done) = ALL
stop_of (Err by) = cut_in by

-- a node that was made: DEEPER where nodes are below it, which are not walked along yet
abbrev pub node_in : Node → ℕ
node_in Leaf = ALL
node_in Inner = DEEPER

abbrev pub step_of : Result Node Cut → ℕ
step_of (Ok node) = node_in node
step_of (Err by) = cut_in by
