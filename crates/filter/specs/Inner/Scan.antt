-- What the functions of the crate say to each other: what one entry does to the sets, and what the entries passed so far come to.
use Rattle.std.specs.Prelude.{◌≡◌, Bool, true, false, List, ℕ, ◌^◌, ◌≤◌, ◌<◌, length, set, take, T, eqb}
use Rattle.model.specs.Nogood.{Entry, equality, disequality, obeying, filtered, ending_by, filter_ending}
use Rattle.model.specs.{Lists.any, Lists.at, ValueSets.without_mask, ValueSets.only_mask, ValueSets.Inside}
use Rattle.filter.specs.declared.entry.Step.{Step}
use Rattle.filter.specs.declared.entry.Step.TheVariants.{Next, Failed, Obeyed, Split}

-- ---- one entry
-- a disequality, by whether nothing is left of its variable's set
abbrev pub cut_step : Bool → Step
cut_step true = Failed
cut_step false = Next

-- an equality, by whether nothing is left without the value, and nothing with it
abbrev pub keep_step : Bool → Bool → Step
keep_step true none = Next
keep_step false true = Obeyed
keep_step false false = Split

abbrev pub step_of : List ℕ → Entry → Step
step_of ss (equality x v) = keep_step (eqb (without_mask (at ss x) v) 0) (eqb (only_mask (at ss x) v) 0)
step_of ss (disequality x v) = cut_step (eqb (without_mask (at ss x) v) 0)

-- the sets after an entry
abbrev pub after : List ℕ → Entry → List ℕ
after ss (equality x v) = ss
after ss (disequality x v) = set ss x (without_mask (at ss x) v)

pub record Stepped (ss : List ℕ) (e : Entry) (rs : List ℕ) (r : Step) : Type 0 where
  pub step : r ≡ step_of ss e
  pub sets : rs ≡ after ss e

-- the entry is one of n variables, with a value
abbrev pub Right : ℕ → Entry → Type 0
Right n (equality x v) = (x < n) × (v < 16)
Right n (disequality x v) = (x < n) × (v < 16)

-- ---- the entries passed so far
-- some assignment drawn from the sets obeys the entries and passes q
abbrev pub models : List ℕ → List Entry → (List ℕ → Bool) → Bool
models ss es q = any q (obeying ss es)

-- no assignment drawn from the first n sets obeys the entries
abbrev pub None : ℕ → List ℕ → List Entry → Type 0
None n ss es = (q : List ℕ → Bool) → models (take n ss) es q ≡ false

-- some assignment drawn from the first n sets obeys the entries
abbrev pub Some : ℕ → List ℕ → List Entry → Type 0
Some n ss es = T (models (take n ss) es (λ a. true))

-- the sets of a scan: sixteen of sixteen bits, of which the first n count; none that counts is empty
pub record Live (n : ℕ) (ss : List ℕ) : Type 0 where
  pub few : n ≤ 16
  pub sixteen : length ss ≡ 16
  pub small : (x : ℕ) → at ss x < 2 ^ 16
  pub full : (x : ℕ) → x < n → at ss x ≡ 0 → ⊥

-- es asks of the first n of ss what fs asks of the first n of rs, which lie inside; the other sets are as they were
pub record Passed (n : ℕ) (ss : List ℕ) (es : List Entry) (rs : List ℕ) (fs : List Entry) : Type 0 where
  pub live : Live n rs
  pub less : Inside (take n rs) (take n ss)
  pub unused : (x : ℕ) → n ≤ x → at rs x ≡ at ss x
  pub same : (q : List ℕ → Bool) → models (take n ss) es q ≡ models (take n rs) fs q

-- rs holds what the filter leaves of the first n of ss, and none of it is empty
pub record Remainder (n : ℕ) (ss : List ℕ) (es : List Entry) (rs : List ℕ) : Type 0 where
  pub live : Live n rs
  pub unused : (x : ℕ) → n ≤ x → at rs x ≡ at ss x
  pub left : take n rs ≡ filtered (take n ss) es

-- and how the filter ends, where some assignment obeys: by whether every one does that is drawn from the sets left
pub record Resolved (every : Bool) (n : ℕ) (ss : List ℕ) (es : List Entry) (rs : List ℕ) : Type 0 where
  pub remainder : Remainder n ss es rs
  pub ending : filter_ending (take n ss) es ≡ ending_by true every

-- ---- two times sixteen sets
-- one of them is another, or none is
abbrev pub Changed : Bool → List ℕ → List ℕ → Type 0
Changed true old new = (y : ℕ) × (y < 16) × (at new y ≡ at old y → ⊥)
Changed false old new = (y : ℕ) → y < 16 → at new y ≡ at old y
