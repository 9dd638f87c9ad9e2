-- Increasing nogoods (source document 001, section 3), and the exact filter for a list of them (paper 01, "Nogood lists").
use Rattle.std.specs.Prelude.{Bool, true, false, not, List, [], ◌∷◌, ℕ, length, get_or, eqb, ltb, leb}
use Rattle.model.specs.Lists.{all, any, at, keep, both, tabulate}
use Rattle.model.specs.{ValueSets.mask_of, ValueSets.least, Problem.assignments, Verdict.Verdict, Verdict.accepted, Verdict.ask, Verdict.reply, Verdict.kept}
pub use Rattle.model.specs.Verdict.{Reply, refusal, answered}

-- An entry of the three lists. An equality adds "variable = value" to the left side.
-- A disequality says: if all equalities before it hold, the variable has not the value.
pub data Entry : Type 0 where
  equality : ℕ → ℕ → Entry
  disequality : ℕ → ℕ → Entry

-- ---- obeying
-- variable x has the value v in the assignment a
abbrev pub is : List ℕ → ℕ → ℕ → Bool
is a x v = eqb (get_or a x 16) v

-- a obeys every nogood of the entries, where `held` says whether all equalities before them hold
unfoldable pub obeys_from : Bool → List ℕ → List Entry → Bool
obeys_from held a [] = true
obeys_from held a (equality x v ∷ es) = obeys_from (both held (is a x v)) a es
obeys_from held a (disequality x v ∷ es) = both (not (both held (is a x v))) (obeys_from held a es)

abbrev pub obeys : List ℕ → List Entry → Bool
obeys a es = obeys_from true a es

-- ---- the exact filter
-- the assignments drawn from the sets that obey every nogood
unfoldable pub obeying : List ℕ → List Entry → List (List ℕ)
obeying ds es = keep (λ a. obeys a es) (assignments ds)

-- the sets of the values that the rows use at each of n variables
unfoldable pub used : ℕ → List (List ℕ) → List ℕ
used n rows = tabulate n (λ x. mask_of (λ v. any (λ a. is a x v) rows))

-- a value stays exactly if some assignment drawn from the sets uses it and obeys every nogood
unfoldable pub filtered : List ℕ → List Entry → List ℕ
filtered ds es = used (length ds) (obeying ds es)

-- ---- how the filter ends, in 001's words (paper 02, #102)
pub data FilterEnding : Type 0 where
  failed : FilterEnding
  entailed : FilterEnding
  consistent : FilterEnding

abbrev pub some_obeys : List ℕ → List Entry → Bool
some_obeys ds es = any (λ a. obeys a es) (assignments ds)

abbrev pub every_obeys : List ℕ → List Entry → Bool
every_obeys ds es = all (λ a. obeys a es) (assignments ds)

-- by whether some assignment from the lent sets obeys the nogoods, and whether every one from the sets left obeys them all
abbrev pub ending_by : Bool → Bool → FilterEnding
ending_by false every = failed
ending_by true true = entailed
ending_by true false = consistent

unfoldable pub filter_ending : List ℕ → List Entry → FilterEnding
filter_ending ds es = ending_by (some_obeys ds es) (every_obeys (filtered ds es) es)

-- ---- the three lists: index, equal, not-equal
-- the mark for an absent value
abbrev pub mark : ℕ
mark = 255

-- what an entry is, by its two marks (paper 02, #105), beside what 001, section 3, says of the tuple (I, E, N); it writes the mark as a bottom sign
pub data Kind : Type 0 where
  -- equal is a value, not-equal is the mark. 001: "If N = mark, then the tuple is encoding x = E on the LHS of a nogood"
  is_equality : Kind
  -- equal is the mark, not-equal is a value. 001: "If E = mark, then it is encoding x /= N on the RHS of a nogood"
  is_disequality : Kind
  -- two marks. In 001 both conditions hold; its lists (3) have no such tuple
  both_absent : Kind
  -- two values. In 001 neither condition holds; its lists (3) have no such tuple
  both_present : Kind

-- by whether equal is absent, and whether not-equal is
abbrev pub kind_by : Bool → Bool → Kind
kind_by false true = is_equality
kind_by true false = is_disequality
kind_by true true = both_absent
kind_by false false = both_present

abbrev pub kind_of : ℕ → ℕ → Kind
kind_of equal unequal = kind_by (eqb equal mark) (eqb unequal mark)

-- what an entry of each kind says; question 19 shuts the last two out, so nobody meets what they say
abbrev pub entry_in : Kind → ℕ → ℕ → ℕ → Entry
entry_in is_equality x equal unequal = equality x equal
entry_in is_disequality x equal unequal = disequality x unequal
entry_in both_absent x equal unequal = disequality x unequal
entry_in both_present x equal unequal = equality x equal

abbrev pub entry_of : ℕ → ℕ → ℕ → Entry
entry_of x equal unequal = entry_in (kind_of equal unequal) x equal unequal

unfoldable pub entries : List ℕ → List ℕ → List ℕ → List Entry
entries [] es us = []
entries (x ∷ xs) [] us = []
entries (x ∷ xs) (e ∷ es) [] = []
entries (x ∷ xs) (e ∷ es) (u ∷ us) = entry_of x e u ∷ entries xs es us

-- an entry is right: its variable is one of the n sets', just one of the two is the mark, and the other is below 16
abbrev pub value_ok : Kind → ℕ → ℕ → Bool
value_ok is_equality equal unequal = ltb equal 16
value_ok is_disequality equal unequal = ltb unequal 16
value_ok both_absent equal unequal = false
value_ok both_present equal unequal = false

abbrev pub entry_ok : ℕ → ℕ → ℕ → ℕ → Bool
entry_ok n x equal unequal = both (ltb x n) (value_ok (kind_of equal unequal) equal unequal)

-- the first entry that is not right, and the number of entries where there is none
unfoldable pub first_wrong : ℕ → List ℕ → List ℕ → List ℕ → ℕ
first_wrong n xs es us = least (length xs) (λ j. not (entry_ok n (at xs j) (at es j) (at us j)))

-- the questions 17, 18 and 19 to the filter
unfoldable pub filter_verdict : List ℕ → List ℕ → List ℕ → List ℕ → Verdict
filter_verdict ds xs es us =
    ask (both (leb 1 (length ds)) (leb (length ds) 12)) 17 0
    (ask (both (both (eqb (length es) (length xs)) (eqb (length us) (length xs))) (leb (length xs) 192)) 18 0
    (ask (eqb (first_wrong (length ds) xs es us) (length xs)) 19 (first_wrong (length ds) xs es us) accepted))

-- the lent sets afterwards: what the filter leaves, or as they came where it refused
unfoldable pub sets_after : Verdict → List ℕ → List Entry → List ℕ
sets_after v ds es = kept v ds (filtered ds es)

-- what the filter answers: the number and the item of a refusal, or how it ended
abbrev pub FilterAnswer : Type 0
FilterAnswer = Reply FilterEnding

unfoldable pub filter_answer : List ℕ → List ℕ → List ℕ → List ℕ → FilterAnswer
filter_answer ds xs es us = reply (filter_verdict ds xs es us) (filter_ending ds (entries xs es us))
