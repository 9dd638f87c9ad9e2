-- What the function of this crate answers, and what those inside it say to each other.
use Rattle.std.specs.Prelude.{◌≡◌, Bool, true, false, Option, Some, None, Result, is_ok, List, ℕ, ◌+◌, ◌*◌, ◌^◌, ◌≤◌, ◌<◌, T, eqb, length, take, drop}
use Rattle.model.specs.{Lists.any, Lists.at, ValueSets.has, Verdict.Verdict, Verdict.accepted, Verdict.refused, Refusals.verdict_from_question}
use Rattle.model.specs.declared.{refusals.Question.Question}
use Rattle.order.specs.Order.{settling_order, settles_all, order_verdict}

-- a verdict, and what is asked after it
abbrev pub followed : Verdict → Verdict → Verdict
followed accepted later = later
followed (refused number item) later = refused number item

-- the answer r to the questions 28 to 30; where it is Ok the order stands in the first n bytes, and those after it are as they were; after a "no" all are
pub record Ordered (n : ℕ) (pairs old new : List ℕ) (r : Result Unit Question) : Type 0 where
  pub answer : (later : Verdict) → order_verdict n pairs later ≡ followed (verdict_from_question r) later
  pub settled : is_ok r ≡ true → take n new ≡ settling_order n pairs
  pub rest : is_ok r ≡ true → drop n new ≡ drop n old
  pub kept : is_ok r ≡ false → new ≡ old
  pub size : length new ≡ length old

-- ---- inside
-- the set has the numbers of the list
abbrev pub SetOf : ℕ → List ℕ → Type 0
SetOf set l = (x : ℕ) → has set x ≡ any (eqb x) l

-- at each place the set of its forerunners, by the first `count` pairs
pub record Befores (pairs : List ℕ) (count : ℕ) (befores : List ℕ) : Type 0 where
  pub within : (i : ℕ) → i < count → T (has (at befores (at pairs (2 * i + 1))) (at pairs (2 * i)))
  pub alone : (x y : ℕ) → T (has (at befores y) x) → (i : ℕ) × (i < count) × (at pairs (2 * i) ≡ x) × (at pairs (2 * i + 1) ≡ y)
  pub few : (y : ℕ) → at befores y < 2 ^ 64
  pub size : length befores ≡ 16

-- the lowest of n places that can be settled next, n where none can
abbrev pub NextIs : ℕ → ℕ → Option ℕ → Type 0
NextIs n lowest (Some y) = y ≡ lowest
NextIs n lowest None = lowest ≡ n

pub record Settled (n : ℕ) (pairs old new : List ℕ) (r : Bool) : Type 0 where
  pub answer : r ≡ settles_all n pairs
  pub places : T r → (i : ℕ) → i < n → at new i ≡ at (settling_order n pairs) i
  pub others : T r → (i : ℕ) → n ≤ i → at new i ≡ at old i
  pub size : length new ≡ length old
