-- Paper 02, #109: sets inside others; problems and sheets that differ only in the order of their symmetries (the paper's exchanges). The proofs are in
-- proofs/SameSearch.antt and proofs/Retyped.antt.
use Rattle.std.specs.Prelude.{◌≡◌, List, map, ℕ, ◌+◌, ◌*◌, length, take, drop, T}
use Rattle.model.specs.{Lists.at, Lists.below, ValueSets.has, Problem.Problem, Sheet.Header, Sheet.header_of, Search.sets_at, Search.is_live, Search.is_plan, Search.nodes, Run.result_of}
use mathlib.Core.List.{Permᴰ}

-- the sets ds lie inside the sets es
abbrev pub Within : List ℕ → List ℕ → Type 0
Within ds es = (length ds ≡ length es) × ((x v : ℕ) → T (has (at ds x) v) → T (has (at es x) v))

-- ---- problems that differ only in the order of their symmetries: the same sets at every prefix, the same nodes and plans, and under one limit and room the same rows,
-- figures and ending
pub record SameSearch (p q : Problem) : Type 0 where
  pub sets : (prefix : List ℕ) → sets_at q prefix ≡ sets_at p prefix
  pub live : (prefix : List ℕ) → is_live q prefix ≡ is_live p prefix
  pub plans : (node : List ℕ) → is_plan q node ≡ is_plan p node
  pub tree : nodes q ≡ nodes p
  pub results : (limit room : ℕ) → result_of q limit room ≡ result_of p limit room

-- ---- sheets
-- the exchanges of a sheet as blocks of bytes, by a header
abbrev pub block_size : Header → ℕ
block_size h = 2 * (h.variables * h.values)

unfoldable pub blocks : Header → List ℕ → List (List ℕ)
blocks h b = map (λ i. take (block_size h) (drop (h.third + i * block_size h) b)) (below h.symmetries)

-- b and c differ only in the order of their exchanges: the same number of bytes, the same bytes up to the third offset,
-- and behind it the same blocks in some order
pub record SameButOrder (b c : List ℕ) : Type 0 where
  pub long : length c ≡ length b
  pub front : take (header_of b).third c ≡ take (header_of b).third b
  pub permuted : Permᴰ (blocks (header_of b) b) (blocks (header_of b) c)
