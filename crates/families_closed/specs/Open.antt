-- Are the symmetries closed (paper 02, #112), and if not, which are the first two whose product is missing? The proofs are in proofs/Open.antt.
use Rattle.std.specs.Prelude.{◌≡◌, Bool, true, false, not, ◌⊎◌, ℕ, ◌*◌, ◌/◌, ◌%◌, ◌<◌, length, T, ltb}
use Rattle.model.specs.{Lists.either, Lists.any, ValueSets.least, Problem.Problem, Problem.symmetry_at}
use Rattle.families.specs.Families.{makes, moves_nothing}

-- symmetry a and then symmetry b move nothing, or make one of the symmetries
unfoldable pub made : Problem → ℕ → ℕ → Bool
made p a b = either (moves_nothing p (symmetry_at p a) (symmetry_at p b)) (any (makes p (symmetry_at p a) (symmetry_at p b)) p.symmetries)

-- pair number k of g symmetries is symmetry k / g and then symmetry k % g: the first that is not made, or the number of all pairs
unfoldable pub first_missing : Problem → ℕ
first_missing p = least (length p.symmetries * length p.symmetries) (λ k. not (made p (k / length p.symmetries) (k % length p.symmetries)))

pub data Open : Type 0 where
  none : Open
  two : ℕ → ℕ → Open

-- the first two symmetries, by the first and then by the second, whose product is missing
unfoldable pub first_open : Problem → Open
first_open p =
    let g = length p.symmetries in
    elim (ltb (first_missing p) (g * g)) [ true ↦ two (first_missing p / g) (first_missing p % g) | false ↦ none ]

-- symmetries whose product is missing, where those before them have theirs
pub record FirstOpen (p : Problem) (a b : ℕ) : Type 0 where
  pub first : a < length p.symmetries
  pub second : b < length p.symmetries
  pub missing : made p a b ≡ false
  pub before : (c d : ℕ) → c < length p.symmetries → d < length p.symmetries → (c < a) ⊎ ((c ≡ a) × (d < b)) → T (made p c d)
