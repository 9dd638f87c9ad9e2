-- What paper 02, #108, asks of the pairs' questions and of the settling order. The proofs are in proofs/Order.antt.
use Rattle.std.specs.Prelude.{◌≡◌, ◌↔◌, List, ℕ, ◌%◌, ◌≤◌, ◌<◌, length, T}
use Rattle.model.specs.Kit.{Memᴰ}
use Rattle.model.specs.Verdict.{Verdict, refused, is_accepted}
use Rattle.order.specs.Order.{Before, Circle, settling_order, order_verdict, Settling}

-- pairs that pass 28 to 30: at most 64 and no half one, of places below n, in no circle; the order is the paper's
pub record OrderPassed (n : ℕ) (pairs : List ℕ) : Type 0 where
  pub few : length pairs ≤ 128
  pub whole : length pairs % 2 ≡ 0
  pub inside : (x : ℕ) → Memᴰ x pairs → x < n
  pub settled : Settling n pairs (settling_order n pairs)
  pub acyclic : Circle pairs → ⊥

abbrev pub OrderPassedClaim : Type 0
OrderPassedClaim = (n : ℕ) (pairs : List ℕ) (later : Verdict) → T (is_accepted (order_verdict n pairs later)) → OrderPassed n pairs × T (is_accepted later)

-- pairs that pass 28 and 29 get 30 exactly for a circle, if what is asked later does not give it
abbrev pub Question30 : Type 0
Question30 =
    (n : ℕ) (pairs : List ℕ) → length pairs ≤ 128 → length pairs % 2 ≡ 0 → ((x : ℕ) → Memᴰ x pairs → x < n) →
    (later : Verdict) → (later ≡ refused 30 0 → ⊥) → (order_verdict n pairs later ≡ refused 30 0) ↔ Circle pairs

-- the order in the paper's words is one list
abbrev pub SettlingUnique : Type 0
SettlingUnique = (n : ℕ) (pairs a b : List ℕ) → Settling n pairs a → Settling n pairs b → a ≡ b

-- only which pairs there are counts: repeats are harmless, and so is the order in which the pairs are lent
abbrev pub SamePairs : Type 0
SamePairs = (n : ℕ) (pairs others : List ℕ) → ((x y : ℕ) → Before pairs x y ↔ Before others x y) → settling_order n pairs ≡ settling_order n others
