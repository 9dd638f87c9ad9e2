-- What the functions inside the crate say to each other.
use Rattle.std.specs.Prelude.{◌≡◌, ℕ, ◌*◌, ◌≤◌, List, length}
use Rattle.model.specs.Run.{Ending, finished, plans_in}
use Rattle.families_figure.specs.Figure.{Figure, dash}

-- an ending whose plans are rows of n bytes of the list
pub record Listed (e : Ending) (n : ℕ) (list : List ℕ) : Type 0 where
  pub few : n ≤ 12
  pub most : plans_in e ≤ 4096
  pub inside : plans_in e * n ≤ length list

-- the figure of a run that isn't finished is the dash
abbrev pub Dashed : Ending → Figure → Type 0
Dashed e f = ((plans nodes : ℕ) → e ≡ finished plans nodes → ⊥) → f ≡ dash
