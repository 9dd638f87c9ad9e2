-- What the functions inside the crate say to each other.
use Rattle.std.specs.Prelude.{◌≡◌, List, ℕ, ◌+◌, ◌*◌, ◌<◌}
use Rattle.model.specs.Lists.{at}

-- `count` indexes, one every `step` from `start` on, are below a length
abbrev pub Inside : ℕ → ℕ → ℕ → ℕ → Type 0
Inside len start step count = (i : ℕ) → i < count → start + i * step < len

-- `count` cells, one every `stride` from `from` on, were copied to the buffer `before`, one every `step` from `start` on; it is `after` now
pub record Copied (before : List ℕ) (start step : ℕ) (cells : List ℕ) (from stride count : ℕ) (after : List ℕ) : Type 0 where
  pub put : (i : ℕ) → i < count → at after (start + i * step) ≡ at cells (from + i * stride)
  pub kept : (j : ℕ) → ((i : ℕ) → i < count → j ≡ start + i * step → ⊥) → at after j ≡ at before j
