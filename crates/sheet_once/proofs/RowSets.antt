-- Rows of two values below 2 that ascend are the rows of a set. Assumes nothing.
use Rattle.model.specs.Kit.{◌≡◌, sym, ap, ◌∙◌, subst, subst₂, Bool, ⊎_elim, List, [], ◌∷◌, map, Memᴰ, Memᴰ-of_map, ℕ, suc, ◌/◌, ◌%◌, ◌<◌, arith, T, eqb}
use Rattle.model.specs.{Lists.any, Lists.below, Lists.earlier, Lists.ascending, Lists.rows_ascend, ValueSets.mask_below, ValueSets.members}
use mathlib.Core.List.{map-map}
use Rattle.model.proofs.Lists.{among_i, among_e, below_e, earlier_e, map_ext, sorted_ext, ascending_sorted}
use Rattle.model.proofs.Sets.{has_mask, mask_lt, has_lt, members_i, members_e, members_sorted}
use Rattle.sheet.proofs.Ascend.{ascending_i, rows_e}
use Rattle.sheet_small.specs.Small.{rows_of}

-- numbers below 4 that ascend are the members of a set
set_of : (l : List ℕ) → T (ascending l) → ((v : ℕ) → Memᴰ v l → v < 4) → (m : ℕ) × (m < 16) × (members m ≡ l)
set_of l a h = (m, mask_lt 4 f, sorted_ext (λ (x y : ℕ). x < y) (λ x y p q. omega arith) (members m) l (members_sorted m) (ascending_sorted l a) into from)
  where
    f : ℕ → Bool
    f v = any (eqb v) l

    m : ℕ
    m = mask_below 4 f

    into : (v : ℕ) → Memᴰ v (members m) → Memᴰ v l
    into v k =
        let e = members_e m v k in
        among_e v l (subst T (has_mask 4 f v (has_lt 4 m v (mask_lt 4 f) e.1)) e.1)

    from : (v : ℕ) → Memᴰ v l → Memᴰ v (members m)
    from v k = members_i m v (omega (arith, h v k)) (subst T (sym (has_mask 4 f v (h v k))) (among_i v l k))

-- the row of a number below 4
abbrev pub row_no : ℕ → List ℕ
row_no v = v / 2 ∷ v % 2 ∷ []

row_order : (v w : ℕ) → T (earlier (row_no v) (row_no w)) → v < w
unfolding earlier
row_order v w t =
    ⊎_elim (λ h. omega arith) (λ e. ⊎_elim (λ h. omega (arith, e.0)) (λ q. absurd q.1) (earlier_e (v % 2) (w % 2) [] [] e.1))
    (earlier_e (v / 2) (w / 2) (v % 2 ∷ []) (w % 2 ∷ []) t)

-- k rows, given by their numbers
pub rows_set : (row : ℕ → List ℕ) (code : ℕ → ℕ) (k : ℕ) → ((i : ℕ) → i < k → (code i < 4) × (row_no (code i) ≡ row i)) → T (rows_ascend (map row (below k))) → (m : ℕ) × (m < 16) ×
    (rows_of m ≡ map row (below k))
unfolding rows_of
rows_set row code k is t =
    let s = set_of (map code (below k)) (ascending_i code k up) few in
    (s.0, s.1, ap (map row_no) s.2 ∙ map-map row_no code (below k) ∙ map_ext (λ i. row_no (code i)) row (below k) (λ i m. (is i (below_e k i m)).1))
  where
    up : (j : ℕ) → suc j < k → code j < code (suc j)
    up j h = row_order (code j) (code (suc j)) (subst₂ (λ (x y : List ℕ). T (earlier x y)) (sym (is j (omega arith)).1) (sym (is (suc j) h).1) (rows_e row k t j h))

    few : (v : ℕ) → Memᴰ v (map code (below k)) → v < 4
    few v m = let q = Memᴰ-of_map code (below k) m in subst (λ (x : ℕ). x < 4) q.2 (is q.0 (below_e k q.0 q.1)).0
