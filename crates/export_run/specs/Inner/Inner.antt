-- What the functions inside the crate say to each other.
use Rattle.std.specs.Prelude.{◌^◌, ◌<◌}
use Rattle.model.specs.Run.{Ending, plans_in, nodes_in}

-- counts that four bytes hold
pub record Counted (e : Ending) : Type 0 where
  pub plans : plans_in e < 2 ^ 32
  pub made : nodes_in e < 2 ^ 32
