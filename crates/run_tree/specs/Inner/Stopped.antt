-- How a walk stopped, as the number that a walk says (`State`).
use Rattle.std.specs.Prelude.{ℕ}
use Rattle.arrays.specs.Inner.Places.{ALL, SPENT, FULL}
use Rattle.run_tree.specs.{declared.Stop.Stop, declared.Stop.TheVariants.All, declared.Stop.TheVariants.Spent, declared.Stop.TheVariants.Full}

abbrev pub number_of : Stop → ℕ
number_of All = ALL
number_of Spent = SPENT
number_of Full = FULL
