-- What the functions inside the crate say to each other.
use Rattle.std.specs.Prelude.{◌≡◌, List, ℕ, ◌^◌, ◌<◌, length, get_or}

-- twelve counts that four bytes hold each
pub record Twelve (counts : List ℕ) : Type 0 where
  pub long : length counts ≡ 12
  pub small : (i : ℕ) → get_or counts i 0 < 2 ^ 32
