-- planner_filter (paper 02, #102): what it answers, and the bytes of the sets afterwards.
use Rattle.std.specs.Prelude.{true, false, List, [], ◌∷◌, ◌++◌, ℕ, ◌+◌, ◌*◌, ◌%◌, ◌<◌, eqb, length}
use Rattle.model.specs.Bytes.{two_bytes}
use Rattle.model.specs.Nogood.{FilterEnding, failed, entailed, consistent, FilterAnswer, refusal, answered, entries, filter_verdict, filter_answer, sets_after}
use Rattle.wire.specs.Wire.{wrong_length}

-- sets of values as pairs of bytes, low byte first
unfoldable pub sets_in : List ℕ → List ℕ
sets_in [] = []
sets_in (x ∷ []) = []
sets_in (x ∷ y ∷ r) = (x + 256 * y) ∷ sets_in r

unfoldable pub bytes_of : List ℕ → List ℕ
bytes_of [] = []
bytes_of (s ∷ ss) = two_bytes s ++ bytes_of ss

-- how the filter ended (paper 02, #102) as one number, or the number and the item of its refusal
abbrev pub filter_ending_code : FilterEnding → ℕ
filter_ending_code consistent = 0
filter_ending_code entailed = 1
filter_ending_code failed = 2

abbrev pub filter_answer_code : FilterAnswer → ℕ
filter_answer_code (answered ending) = filter_ending_code ending
filter_answer_code (refusal number item) = number * 256 + item

unfoldable pub filter_code : List ℕ → List ℕ → List ℕ → List ℕ → ℕ
filter_code sets xs es us = elim (eqb (length sets % 2) 0) [ true ↦ filter_answer_code (filter_answer (sets_in sets) xs es us) | false ↦ wrong_length ]

-- the bytes of the sets that the filter leaves
unfoldable pub filtered_bytes : List ℕ → List ℕ → List ℕ → List ℕ → List ℕ
filtered_bytes sets xs es us = bytes_of (sets_after (filter_verdict (sets_in sets) xs es us) (sets_in sets) (entries xs es us))

unfoldable pub filter_bytes : List ℕ → List ℕ → List ℕ → List ℕ → List ℕ
filter_bytes sets xs es us = elim (eqb (length sets % 2) 0) [ true ↦ filtered_bytes sets xs es us | false ↦ sets ]

-- between the functions of the crate: the item of a refusal stands in one byte
abbrev pub SmallAnswer : FilterAnswer → Type 0
SmallAnswer (refusal number item) = item < 256
SmallAnswer (answered ending) = Unit {0}
