-- Going over the members of a set of values, ascending.
use Rattle.std.specs.Prelude.{◌≡◌, ℕ, Option, None, Some}
use Rattle.model.specs.ValueSets.{without_mask, lowest_of}

-- a step from the members left: none is left, or the lowest comes and the others stay
pub data NextMember : ℕ → Option ℕ → ℕ → Type 0 where
  over : {left : ℕ} → left ≡ 0 → NextMember left None left
  comes : {left : ℕ} → (left ≡ 0 → ⊥) → NextMember left (Some (lowest_of left)) (without_mask left (lowest_of left))
