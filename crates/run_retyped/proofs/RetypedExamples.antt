-- The examples of specs/Inner/RetypedExamples, and worked cases of two lists by turns and of a sheet's exchanges as bytes, by computation. Assumes nothing.
use Rattle.model.specs.Kit.{◌≡◌, refl, List, [], ◌∷◌}
use Rattle.model.specs.{Sheet.header_of, Nogood.Entry, Nogood.equality, Nogood.disequality, Examples.Each, Examples.sheet_a, Examples.places_traded}
use mathlib.Core.List.Permᴰ
use Rattle.model.proofs.Examples.{opened}
use Rattle.run_retyped.specs.{Inner.Turns.turns, Inner.Turns.by_turns, Retyped.blocks, Inner.RetypedExamples.tests_retyped}

pub examples_retyped : Each tests_retyped
unfolding opened blocks
examples_retyped = (record { long = refl; front = refl; permuted = Permᴰ.swap refl refl }, (refl, (refl, (refl, (refl, tt)))))

-- "not 0 at place 0", and "1 at place 0, so not 0 at place 1": the second list says something once the first is applied
abbrev plain : List Entry
plain = disequality 0 0 ∷ []

abbrev after : List Entry
after = equality 0 1 ∷ disequality 1 0 ∷ []

pub either_first : by_turns plain after (3 ∷ 3 ∷ []) ≡ 2 ∷ 2 ∷ []
unfolding opened turns by_turns
either_first = refl

pub either_second : by_turns after plain (3 ∷ 3 ∷ []) ≡ 2 ∷ 2 ∷ []
unfolding opened turns by_turns
either_second = refl

-- the one exchange of sheet A, twelve bytes
pub one_block : blocks (header_of sheet_a) sheet_a ≡ places_traded ∷ []
unfolding opened blocks
one_block = refl
