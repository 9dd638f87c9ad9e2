-- Pairs "this place before that place": the settling order, and the questions 28 to 30 (paper 02, request 108).
-- The pairs are lent as bytes: the two places of the first pair, those of the second, ..
use Rattle.std.specs.Prelude.{◌≡◌, Bool, false, not, List, [], ◌∷◌, ◌++◌, map, ℕ, zero, suc, ◌%◌, ◌<◌, length, take, T, leb, ltb, eqb}
use Rattle.model.specs.Kit.{Memᴰ}
use Rattle.model.specs.{Lists.all, Lists.any, Lists.at, Lists.keep, Lists.both, ValueSets.least, Problem.within, Verdict.Verdict, Verdict.ask}

-- ---- the pairs
unfoldable pub pairs_in : List ℕ → List (ℕ × ℕ)
pairs_in [] = []
pairs_in (x ∷ []) = []
pairs_in (x ∷ y ∷ bytes) = (x, y) ∷ pairs_in bytes

-- some pair says "x before y"
abbrev pub Before : List ℕ → ℕ → ℕ → Type 0
Before pairs x y = Memᴰ (x, y) (pairs_in pairs)

-- from x to another place by one or more pairs, each from where the one before led
pub data Path (pairs : List ℕ) (x : ℕ) : ℕ → Type 0 where
  one : (y : ℕ) → Before pairs x y → Path pairs x y
  more : (y z : ℕ) → Path pairs x y → Before pairs y z → Path pairs x z

-- the pairs go round in a circle: from some place back to itself
abbrev pub Circle : List ℕ → Type 0
Circle pairs = (x : ℕ) × Path pairs x x

-- ---- the settling order
unfoldable pub forerunners : List ℕ → ℕ → List ℕ
forerunners pairs y = map (λ q. q.0) (keep (λ q. eqb q.1 y) (pairs_in pairs))

-- y can be settled next: it is not settled yet, and its forerunners all are
unfoldable pub can_follow : List ℕ → List ℕ → ℕ → Bool
can_follow pairs settled y = both (not (any (eqb y) settled)) (within (forerunners pairs y) settled)

-- the first k places: each time the lowest of the n places that can be settled next (n itself where there is none)
unfoldable pub settled_first : ℕ → List ℕ → ℕ → List ℕ
settled_first n pairs zero = []
settled_first n pairs (suc k) = let before = settled_first n pairs k in before ++ (least n (can_follow pairs before) ∷ [])

unfoldable pub settling_order : ℕ → List ℕ → List ℕ
settling_order n pairs = settled_first n pairs n

-- each time there was a place to settle
unfoldable pub settles_all : ℕ → List ℕ → Bool
settles_all n pairs = all (λ x. ltb x n) (settling_order n pairs)

-- ---- the questions
-- 28: at most 64 pairs and no half pair. 29: every place is below n. 30: the pairs do not go round in a circle,
-- which is so exactly if the order settles every place (specs/Claims, `Question30`)
unfoldable pub order_verdict : ℕ → List ℕ → Verdict → Verdict
order_verdict n pairs later =
    ask (both (leb (length pairs) 128) (eqb (length pairs % 2) 0)) 28 0
    (ask (all (λ x. ltb x n) pairs) 29 0
    (ask (settles_all n pairs) 30 0 later))

-- ---- what an order is
-- each place below n once
pub record Ordering (n : ℕ) (order : List ℕ) : Type 0 where
  pub sized : length order ≡ n
  pub inside : (x : ℕ) → Memᴰ x order → x < n
  pub each : (x : ℕ) → x < n → Memᴰ x order
  pub once : (i j : ℕ) → i < n → j < n → at order i ≡ at order j → i ≡ j

-- the settling order in the paper's words: each place once, every pair's first before its second,
-- and each next place is the lowest whose forerunners are all settled
pub record Settling (n : ℕ) (pairs order : List ℕ) : Type 0 where
  pub ordering : Ordering n order
  pub forward : (i j : ℕ) → i < n → j < n → Before pairs (at order i) (at order j) → i < j
  pub possible : (k : ℕ) → k < n → T (can_follow pairs (take k order) (at order k))
  pub lowest : (k y : ℕ) → k < n → y < at order k → can_follow pairs (take k order) y ≡ false
