-- What the orderings of a block of variables say at a prefix (paper 02, #111): a block variable settled later has no smaller value than one settled earlier.
-- A block is a test of variables; its symmetries are any that reorder its variables, the trade of any two among them.
use Rattle.std.specs.Prelude.{◌≡◌, Bool, not, List, ◌⊎◌, ℕ, ◌<◌, T, ltb, length}
use Rattle.model.specs.Kit.{Memᴰ}
use Rattle.model.specs.{Lists.both, Lists.at, Lists.tabulate, ValueSets.has, ValueSets.mask_of, Problem.Problem, Problem.pair}

-- ---- the symmetries of a block
-- g only renames variables, and none but those of the block
pub record Reorders (p : Problem) (block : ℕ → Bool) (g : List ℕ) : Type 0 where
  pub image : ℕ → ℕ
  pub moved : (x v : ℕ) → x < p.variables → T (has (at p.initial x) v) → at g (pair p x v) ≡ pair p (image x) v
  pub variable : (x : ℕ) → x < p.variables → image x < p.variables
  pub injective : (x y : ℕ) → x < p.variables → y < p.variables → image x ≡ image y → x ≡ y
  pub only : (x : ℕ) → x < p.variables → (image x ≡ x → ⊥) → T (block x) × T (block (image x))

-- g takes x to y and leaves all variables but these two alone
pub record Trades (p : Problem) (x y : ℕ) (g : List ℕ) : Type 0 where
  pub there : (v : ℕ) → T (has (at p.initial x) v) → at g (pair p x v) ≡ pair p y v
  pub rest : (z v : ℕ) → z < p.variables → (z ≡ x → ⊥) → (z ≡ y → ⊥) → T (has (at p.initial z) v) → at g (pair p z v) ≡ pair p z v

-- gs are the problem's own symmetries and reorderings of the block, the trade of any two of its variables among gs
pub record BlockIn (p : Problem) (block : ℕ → Bool) (gs : List (List ℕ)) : Type 0 where
  pub equal : (x y : ℕ) → x < p.variables → y < p.variables → T (block x) → T (block y) → at p.initial x ≡ at p.initial y
  pub own : (g : List ℕ) → Memᴰ g p.symmetries → Memᴰ g gs
  pub each : (g : List ℕ) → Memᴰ g gs → Memᴰ g p.symmetries ⊎ Reorders p block g
  pub trade : (x y : ℕ) → x < p.variables → y < p.variables → (x ≡ y → ⊥) → T (block x) → T (block y) → (g : List ℕ) × Memᴰ g gs × Trades p x y g

-- variable x has been settled to v: where it is a block variable, the later block variables lose the values below v
abbrev pub lost_after : (ℕ → Bool) → ℕ → ℕ → ℕ → ℕ → Bool
lost_after block x v y u = both (both (block x) (block y)) (both (ltb x y) (ltb u v))

unfoldable pub cut_after : (ℕ → Bool) → ℕ → ℕ → List ℕ → List ℕ
cut_after block x v ds = tabulate (length ds) (λ y. mask_of (λ u. both (has (at ds y) u) (not (lost_after block x v y u))))
