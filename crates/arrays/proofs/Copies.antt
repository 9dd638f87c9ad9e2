-- Parts of arrays that are copied whole. Assumes nothing.
use Rattle.model.specs.Kit.{◌≡◌, refl, sym, ap, ◌∙◌, subst, List, ℕ, ◌+◌, ◌-◌, ◌≤◌, ◌<◌, arith, dec_lt, length, get_or}
use native.Mathlib.Nat.{zero-add}
use Rattle.std.specs.List.{between}
use Rattle.std.proofs.lemmas.List.Edits.{get_or-between}
use Rattle.std.proofs.lemmas.Slice.{put_mid-paste}
use borrow.Rule.Slice.PartMut.{put_mid}
use Rattle.model.specs.{Lists.at, Written.placed, Inner.Filling.Filled}
use Rattle.model.proofs.Written.{written_paste, length_placed, placed_before, placed_in, placed_after}

-- the elements of a part that was copied out
pub copied_at : (l new : List ℕ) (from n j : ℕ) → new ≡ between from (from + n) l → j < n → at new j ≡ at l (from + j)
unfolding at
copied_at l new from n j e h = ap (λ (k : List ℕ). get_or k j 0) e ∙ get_or-between l from (from + n) j 0 (omega arith)

-- a part that was copied in
pub filled_copied : (old new : List ℕ) (from n : ℕ) (P : ℕ → ℕ → Type 0) → from + n ≤ length old → length new ≡ n → ((v : ℕ) → v < n → P v (at new v)) →
    Filled (λ j. from + j) P n old (put_mid from (from + n - from) old new)
filled_copied old new from n P fits long here = subst (λ (l : List ℕ). Filled (λ j. from + j) P n old l) (sym is) (record {
  size = length_placed old from new room;
  here = λ v h. subst (P v) (sym (placed_in old from new room v (omega arith))) (here v h);
  other = λ j f. other j f (dec_lt j from) (dec_lt j (from + n));
})
  where
    room : from + length new ≤ length old
    room = omega arith

    is : put_mid from (from + n - from) old new ≡ placed old from new
    is = put_mid-paste from (from + n - from) old new new n refl (omega arith) (sym long) ∙ (written_paste old from new n (sym long)).bytes

    other : (j : ℕ) → ((v : ℕ) → v < n → from + v ≡ j → ⊥) → Dec (j < from) → Dec (j < from + n) → at (placed old from new) j ≡ at old j
    other j f (yes before) d = placed_before old from new room j before
    other j f (no a) (yes b) = absurd (f (j - from) (omega arith) (omega arith))
    other j f (no a) (no b) = placed_after old from new room j (omega arith)

-- a part at the front
pub filled_front : (P : ℕ → ℕ → Type 0) (n : ℕ) (old new : List ℕ) → Filled (λ j. 0 + j) P n old new → Filled (λ j. j) P n old new
filled_front P n old new f = record {
  size = f.size;
  here = λ v h. subst (λ (k : ℕ). P v (at new k)) (zero-add v) (f.here v h);
  other = λ j g. f.other j (λ v h e. g v h (sym (zero-add v) ∙ e));
}
