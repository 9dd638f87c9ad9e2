-- Numbers of eight lanes of eight bits: bit 8 j + w is value w of lane j.
use Rattle.std.specs.Prelude.{List, ℕ, ◌+◌, ◌*◌, ◌<◌, T}
use Rattle.model.specs.{Lists.at, ValueSets.has}
use Rattle.arrays.specs.Inner.Tables.{UnionOf}

-- the lanes that are not empty
pub record FullLanes (x r : ℕ) : Type 0 where
  pub full_i : (j w : ℕ) → j < 8 → w < 8 → T (has x (8 * j + w)) → T (has r j)
  pub full_e : (j : ℕ) → T (has r j) → (j < 8) × ((w : ℕ) × (w < 8) × T (has x (8 * j + w)))

-- the union of the lanes
pub record LaneUnion (x r : ℕ) : Type 0 where
  pub union_i : (j w : ℕ) → j < 8 → w < 8 → T (has x (8 * j + w)) → T (has r w)
  pub union_e : (w : ℕ) → T (has r w) → (w < 8) × ((j : ℕ) × (j < 8) × T (has x (8 * j + w)))

-- the first bit of every lane that is not empty
pub record FullHeads (x r : ℕ) : Type 0 where
  pub heads_i : (j w : ℕ) → j < 8 → w < 8 → T (has x (8 * j + w)) → T (has r (8 * j))
  pub heads_e : (j : ℕ) → j < 8 → T (has r (8 * j)) → (w : ℕ) × (w < 8) × T (has x (8 * j + w))

-- from a base on, for each half of eight values and each set of four of them the unions of their lanes
abbrev pub Halves : List ℕ → ℕ → (ℕ → ℕ → ℕ) → Type 0
Halves numbers base lane = (h m : ℕ) → h < 2 → m < 16 → UnionOf m (λ i j. lane (4 * h + i) j) (at numbers (base + 16 * h + m))

-- lane j has what is in lane j of some member of a
pub record TogetherIn (a : ℕ) (lane : ℕ → ℕ → ℕ) (r : ℕ) : Type 0 where
  pub together_i : (i j w : ℕ) → j < 8 → w < 8 → T (has a i) → T (has (lane i j) w) → T (has r (8 * j + w))
  pub together_e : (j w : ℕ) → j < 8 → w < 8 → T (has r (8 * j + w)) → (i : ℕ) × T (has a i) × T (has (lane i j) w)

-- lane j, one of b, has the values of e that are in lane j of some member of a; no other lane has any
pub record InLanes (a b e : ℕ) (lane : ℕ → ℕ → ℕ) (r : ℕ) : Type 0 where
  pub lanes_i : (i j w : ℕ) → T (has a i) → T (has b j) → T (has e w) → T (has (lane i j) w) → T (has r (8 * j + w))
  pub lanes_e : (j w : ℕ) → j < 8 → w < 8 → T (has r (8 * j + w)) → (i : ℕ) × T (has a i) × T (has b j) × T (has e w) × T (has (lane i j) w)

-- the values of e that are in lane j of some member of a
pub record InLane (a j e : ℕ) (lane : ℕ → ℕ → ℕ) (r : ℕ) : Type 0 where
  pub lane_i : (i w : ℕ) → T (has a i) → T (has e w) → T (has (lane i j) w) → T (has r w)
  pub lane_e : (w : ℕ) → T (has r w) → (i : ℕ) × T (has a i) × T (has e w) × T (has (lane i j) w)
