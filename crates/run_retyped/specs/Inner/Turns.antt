-- Paper 02, #109, of the filter's definition: applied again, to smaller sets, and by turns with another list. Of callers specs/FilterAgain says it. The proofs are in
-- proofs/Turns.antt.
use Rattle.std.specs.Prelude.{◌≡◌, true, false, List, ℕ, zero, suc, ◌*◌, ◌^◌, ◌<◌, length}
use Rattle.model.specs.{Lists.at, Lists.same, Nogood.Entry, Nogood.filtered}
use Rattle.run_retyped.specs.Retyped.{Within}

-- filtering twice is filtering once
abbrev pub FilterTwice : Type 0
FilterTwice = (ds : List ℕ) (es : List Entry) → filtered (filtered ds es) es ≡ filtered ds es

-- lent sets that lie inside others leave remainders inside theirs
abbrev pub FilterWithin : Type 0
FilterWithin = (ds rs : List ℕ) (es : List Entry) → Within ds rs → Within (filtered ds es) (filtered rs es)

-- two lists applied by turns, es first, until neither moves anything: at most k times both
unfoldable pub turns : List Entry → List Entry → ℕ → List ℕ → List ℕ
turns es fs zero ds = ds
turns es fs (suc k) ds =
    let next = filtered (filtered ds es) fs in
    elim (same ds next) [ true ↦ ds | false ↦ turns es fs k next ]

-- Each time but the first and the last takes a value away, so as many times as there are values, and one, are enough.
-- (The first may only drop bits from 16 on, of numbers that are no sets.)
unfoldable pub by_turns : List Entry → List Entry → List ℕ → List ℕ
by_turns es fs ds = turns es fs (suc (length ds * 16)) ds

-- any filters by the one list or the other, one after another in any order, take ds to rs
pub data Applied (es fs : List Entry) (ds : List ℕ) : List ℕ → Type 0 where
  none : Applied es fs ds ds
  first : {rs : List ℕ} → Applied es fs ds rs → Applied es fs ds (filtered rs es)
  second : {rs : List ℕ} → Applied es fs ds rs → Applied es fs ds (filtered rs fs)

-- rs is the largest list of sets inside ds that both filters leave alone
pub record LargestLeft (es fs : List Entry) (ds rs : List ℕ) : Type 0 where
  pub sixteen : (x : ℕ) → at rs x < 2 ^ 16
  pub inside : Within rs ds
  pub first : filtered rs es ≡ rs
  pub second : filtered rs fs ≡ rs
  pub above : (ts : List ℕ) → Within ts ds → filtered ts es ≡ ts → filtered ts fs ≡ ts → Within ts rs

-- by turns leaves the largest sets; whichever list starts, they are the same; and any order of filters that ends where nothing moves ends there
abbrev pub TurnsLargest : Type 0
TurnsLargest = (es fs : List Entry) (ds : List ℕ) → LargestLeft es fs ds (by_turns es fs ds)

abbrev pub TurnsEither : Type 0
TurnsEither = (es fs : List Entry) (ds : List ℕ) → by_turns es fs ds ≡ by_turns fs es ds

abbrev pub TurnsAny : Type 0
TurnsAny = (es fs : List Entry) (ds rs : List ℕ) → Applied es fs ds rs → filtered rs es ≡ rs → filtered rs fs ≡ rs → rs ≡ by_turns es fs ds
