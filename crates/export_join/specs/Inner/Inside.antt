-- Between the functions of the crate: heads that are among those lent.
use Rattle.std.specs.Prelude.{Option, None, Some, List, ℕ, ◌≤◌}
use Rattle.run_join.specs.Join.{heads_in, head_number}
use Rattle.run_join.specs.declared.Missing.{Missing}

abbrev pub InsideHeads : List ℕ → Option Missing → Type 0
InsideHeads l None = Unit {0}
InsideHeads l (Some m) = (head_number m.from ≤ heads_in l) × (head_number m.upto ≤ heads_in l)
