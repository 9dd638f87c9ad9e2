-- What a caller of `filter` may rely on (paper 01, "Nogood lists" and demand 2; paper 02, #102 and #105), in terms of what it holds: the sets as they
-- came, the three lists, the answer, and the sets afterwards. proofs/FilterCalls has the theorem.
use Rattle.std.specs.Prelude.{◌≡◌, ◌⊎◌, ◌↔◌, List, ℕ, ◌^◌, ◌≤◌, ◌<◌, length, replicate, T, Result, Ok, Err}
use Rattle.model.specs.{Lists.at, ValueSets.has, Nogood.mark, Nogood.entries, Nogood.filter_verdict, Nogood.filter_answer, Nogood.sets_after, Claims.Drawn}
use Rattle.model.specs.declared.{refusals.Question.TheVariants.Sets, refusals.Question.TheVariants.ListLengths, refusals.Question.TheVariants.Entry, refusals.Refusal.Refusal}
use Rattle.filter.specs.declared.Ending.TheVariants.{Failed, Entailed, Consistent}
use Rattle.filter.specs.{Meaning.means, declared.Ending.Ending}

-- a call of `filter`: sets ds and the lists index, equal, not-equal as lent, answer r, sets rs at the end. It is the function's contract.
pub record CallFilter (ds xs es us : List ℕ) (r : Result Ending Refusal) (rs : List ℕ) : Type 0 where
  pub answers : means r ≡ filter_answer ds xs es us
  pub leaves : rs ≡ sets_after (filter_verdict ds xs es us) ds (entries xs es us)

-- ---- lists that are right, question by question
-- 17: 1 to 12 sets
abbrev pub SetsRight : List ℕ → Type 0
SetsRight ds = (1 ≤ length ds) × (length ds ≤ 12)

-- 18: the lists have one length, up to 192
abbrev pub LengthsRight : List ℕ → List ℕ → List ℕ → Type 0
LengthsRight xs es us = (length es ≡ length xs) × (length us ≡ length xs) × (length xs ≤ 192)

-- 19, entry j: its place is one of the n sets', just one of the two is the mark, and the other is below 16
abbrev pub EntryRight : ℕ → List ℕ → List ℕ → List ℕ → ℕ → Type 0
EntryRight n xs es us j = (at xs j < n) × (((at es j < 16) × (at us j ≡ mark)) ⊎ ((at es j ≡ mark) × (at us j < 16)))

pub record ListsRight (ds xs es us : List ℕ) : Type 0 where
  pub sets : SetsRight ds
  pub lengths : LengthsRight xs es us
  pub entry : (j : ℕ) → j < length xs → EntryRight (length ds) xs es us j

-- ---- obeying, in 001's words
-- a breaks the nogood of entry j: its not-equal is a value, all equalities before it hold, and its place has that value
pub record Breaks (a xs es us : List ℕ) (j : ℕ) : Type 0 where
  pub inside : j < length xs
  pub valued : at us j ≡ mark → ⊥
  pub held : (i : ℕ) → i < j → (at es i ≡ mark → ⊥) → at a (at xs i) ≡ at es i
  pub taken : at a (at xs j) ≡ at us j

-- a obeys every nogood of the lists
abbrev pub Obeys : List ℕ → List ℕ → List ℕ → List ℕ → Type 0
Obeys a xs es us = (j : ℕ) → Breaks a xs es us j → ⊥

-- no assignment drawn from the sets does; every one does
abbrev pub NoneObeys : List ℕ → List ℕ → List ℕ → List ℕ → Type 0
NoneObeys ds xs es us = (a : List ℕ) → Drawn ds a → Obeys a xs es us → ⊥

abbrev pub EveryObeys : List ℕ → List ℕ → List ℕ → List ℕ → Type 0
EveryObeys ds xs es us = (a : List ℕ) → Drawn ds a → Obeys a xs es us

pub record FilterHeld (ds xs es us : List ℕ) (r : Result Ending Refusal) (rs : List ℕ) : Type 0 where
  -- as many sets as came
  pub sized : length rs ≡ length ds
  -- right lists: a value is left exactly if some assignment drawn from the lent sets uses it and obeys every nogood
  pub keeps : ListsRight ds xs es us → (x v : ℕ) → x < length ds → T (has (at rs x) v) ↔ ∥ ((a : List ℕ) × Drawn ds a × Obeys a xs es us × (at a x ≡ v)) ∥₁
  -- failed exactly if no assignment from the lent sets obeys them; then every set is empty
  pub fails : ListsRight ds xs es us → (r ≡ Ok Failed) ↔ NoneObeys ds xs es us
  pub empties : ListsRight ds xs es us → r ≡ Ok Failed → rs ≡ replicate (length ds) 0
  -- entailed exactly if it is not failed and every assignment from the sets left obeys them all; else consistent
  pub entails : ListsRight ds xs es us → (r ≡ Ok Entailed) ↔ ((NoneObeys ds xs es us → ⊥) × EveryObeys rs xs es us)
  pub else : ListsRight ds xs es us → (r ≡ Ok Consistent) ↔ ((NoneObeys ds xs es us → ⊥) × (EveryObeys rs xs es us → ⊥))
  -- wrong ones: the first question whose answer is no, with its item, and the sets as they came
  pub sets_wrong : (SetsRight ds → ⊥) → (r ≡ Err (record { question = Sets; item = 0 })) × (rs ≡ ds)
  pub lengths_wrong : SetsRight ds → (LengthsRight xs es us → ⊥) → (r ≡ Err (record { question = ListLengths; item = 0 })) × (rs ≡ ds)
  pub entry_wrong : SetsRight ds → LengthsRight xs es us →
      (j : ℕ) → j < length xs → ((i : ℕ) → i < j → EntryRight (length ds) xs es us i) → (EntryRight (length ds) xs es us j → ⊥) → (r ≡ Err (record { question = Entry; item = j })) × (rs ≡ ds)

-- of any lists, and any sets of sixteen bits
abbrev pub FilterCalls : Type 0
FilterCalls = (ds xs es us : List ℕ) (r : Result Ending Refusal) (rs : List ℕ) → ((x : ℕ) → at ds x < 2 ^ 16) → CallFilter ds xs es us r rs → FilterHeld ds xs es us r rs
