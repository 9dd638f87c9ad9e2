-- What is known of the first part of a list of nogoods for all assignments drawn from some sets, and stays known as the sets shrink and the list grows.
use Rattle.std.specs.Prelude.{◌≡◌, false, List, ◌++◌, ℕ, ◌^◌, ◌<◌, T, length}
use Rattle.model.specs.Kit.{Memᴰ}
use Rattle.model.specs.{Lists.at, ValueSets.has, ValueSets.any_empty, ValueSets.Inside, Problem.assignments, Nogood.Entry, Nogood.equality, Nogood.obeys, Nogood.filtered, NogoodClaims.Entails}

-- every equality of the entries holds and every disequality too: what comes after them decides
abbrev pub Vacuous : List ℕ → List Entry → Type 0
Vacuous ds es = (a : List ℕ) → Memᴰ a (assignments ds) → (fs : List Entry) → obeys a (es ++ fs) ≡ obeys a fs

-- the entries are obeyed, and whatever comes after them
abbrev pub ObeyedForGood : List ℕ → List Entry → Type 0
ObeyedForGood ds es = (a : List ℕ) → Memᴰ a (assignments ds) → (fs : List Entry) → T (obeys a (es ++ fs))

-- an equality of the entries names a value that is gone from its variable's set
abbrev pub NamesGone : List ℕ → List Entry → Type 0
NamesGone ds es = (x : ℕ) × (v : ℕ) × Memᴰ (equality x v) es × (x < length ds) × (T (has (at ds x) v) → ⊥)

-- every assignment obeys the entries, and such an equality is among them: they may be skipped below their prefix too
pub record Skippable (ds : List ℕ) (es : List Entry) : Type 0 where
  pub entailed : Entails ds es
  pub gone : NamesGone ds es

-- ---- why an entailed list may be skipped (paper 02, #102); the proofs are in proofs/Marks.antt
-- at its prefix: where every assignment from the sets left obeys it, it takes nothing from any sets inside them, unless one of these is empty
abbrev pub SkippedHere : Type 0
SkippedHere =
    (ds rs : List ℕ) (es : List Entry) → Entails ds es → length rs ≡ length ds → Inside rs ds → ((x : ℕ) → at rs x < 2 ^ 16) → any_empty rs ≡ false →
    filtered rs es ≡ rs

-- below it, where an equality that it held names a value gone: however the list grows, it is obeyed
abbrev pub SkippedBelow : Type 0
SkippedBelow = (ds : List ℕ) (es : List Entry) → Skippable ds es → ObeyedForGood ds es
