-- What a program compares at two prefixes of one depth: the sets behind them, some settled values, and the symmetries' marks.
-- A block's orderings are not asked.
use Rattle.std.specs.Prelude.{◌≡◌, Bool, ◌⊎◌, List, ℕ, ◌+◌, ◌%◌, ◌≤◌, ◌<◌, T, length, drop}
use Rattle.model.specs.{Lists.at, Problem.Problem, Problem.with_symmetries, Search.sets_at, Search.is_live, Inner.WellFormed.WellFormed, Inner.WellFormed.Respected}
use Rattle.arrays.specs.Inner.Places.{ENTAILED, OBEYED}
use Rattle.prune_symmetries.specs.Inner.Levels.{Mark}
use Rattle.block.specs.Inner.BlockSets.{BlockIn}
use Rattle.run_alike.specs.{Inner.Alike.SameSettled, Inner.Claims.SameBelow}

-- both marks say OBEYED, or neither, and both say that the levels up to `low` say nothing more
abbrev pub SameMark : ℕ → ℕ → ℕ → Type 0
SameMark low m n = ((m ≡ OBEYED) × (n ≡ OBEYED)) ⊎ ((m ≡ OBEYED → ⊥) × (n ≡ OBEYED → ⊥) × (low ≤ m % ENTAILED) × (low ≤ n % ENTAILED))

-- p's symmetries have the marks ma at a and mb at b, which settle the variables from `low` on alike; gs are these and a block's orderings
pub record SameKey (p : Problem) (gs : List (List ℕ)) (a b : List ℕ) (ma mb : ℕ → ℕ) : Type 0 where
  pub sized : length a ≡ length b
  pub sets : drop (length a) (sets_at (with_symmetries p gs) a) ≡ drop (length a) (sets_at (with_symmetries p gs) b)
  pub settled : SameSettled p a b
  pub low : ℕ
  pub agrees : (x : ℕ) → low ≤ x → x < length a → at a x ≡ at b x
  pub marks : (e : ℕ) → e < length p.symmetries → SameMark low (ma e) (mb e)

-- marks that are right, as prune's `MarksRight` says it
abbrev pub Right : Problem → List (List ℕ) → List ℕ → (ℕ → ℕ) → Type 0
Right p gs a ma = (e : ℕ) → e < length p.symmetries → Mark p (sets_at (with_symmetries p gs) a) a e (ma e)

-- the same key, the same subtree
abbrev pub KeyBelow : Type 0
KeyBelow =
    (p : Problem) → WellFormed p → (block : ℕ → Bool) (gs : List (List ℕ)) → BlockIn p block gs → WellFormed (with_symmetries p gs) → Respected (with_symmetries p gs) →
    (a b : List ℕ) (ma mb : ℕ → ℕ) → T (is_live (with_symmetries p gs) a) → T (is_live (with_symmetries p gs) b) → Right p gs a ma → Right p gs b mb → SameKey p gs a b ma mb →
    (m : ℕ) → length a + m ≡ p.variables → SameBelow (with_symmetries p gs) m a b
