-- Columns of rows, and columns of columns. Assumes nothing.
use Rattle.model.specs.Kit.{◌≡◌, refl, sym, ap, ◌∙◌, subst, true, List, [], ◌∷◌, map, Memᴰ, Memᴰ-of_map, ℕ, zero, suc, ◌<◌, not-suc-le-zero, le_of_suc-le-suc, T, ltb, length, get_or, length-map}
use Rattle.model.specs.Lists.{flat, up_from, below, at}
use Rattle.model.proofs.Lists.{map_ext, map_shift, length_below, below_e, mem_at, mem_get_d, flat_i, flat_e, all_i, all_e, of_T, T_of, map_map}
use Rattle.model.proofs.Room.{Wide}
use Rattle.list_columns.specs.Columns.{column, transposed, small_values}

-- ---- lists by their places
pub map_places : {A : Type 0} (l : List A) (d : A) → map (λ j. get_or l j d) (below (length l)) ≡ l
unfolding below up_from
map_places [] d = refl
map_places {A} (x ∷ l) d = ap (λ (r : List A). x ∷ r) (map_shift (λ j. get_or (x ∷ l) j d) 0 (length l) ∙ map_places l d)

pub at_column : (rows : List (List ℕ)) (x j : ℕ) → j < length rows → at (column rows x) j ≡ at (get_or rows j []) x
unfolding column at
at_column [] x j h = absurd (not-suc-le-zero h)
at_column (r ∷ rows) x zero h = refl
at_column (r ∷ rows) x (suc j) h = at_column rows x j (le_of_suc-le-suc h)

-- ---- columns
pub length_transposed : (n : ℕ) (rows : List (List ℕ)) → length (transposed n rows) ≡ n
unfolding transposed
length_transposed n rows = length_below (column rows) n

pub transposed_wide : (n : ℕ) (rows : List (List ℕ)) → Wide (length rows) (transposed n rows)
unfolding transposed column
transposed_wide n rows r m =
    let q = Memᴰ-of_map (column rows) (below n) m in
    ap length (sym q.2) ∙ length-map rows (λ s. at s q.0)

pub twice : (n : ℕ) (rows : List (List ℕ)) → Wide n rows → transposed (length rows) (transposed n rows) ≡ rows
unfolding transposed column at
twice n rows w =
    map_ext (column (transposed n rows)) (λ j. get_or rows j []) (below (length rows)) (λ j m. row j (below_e (length rows) j m)) ∙ map_places rows []
  where
    row : (j : ℕ) → j < length rows → map (λ c. at c j) (map (column rows) (below n)) ≡ get_or rows j []
    row j h =
        let r = get_or rows j [] in
        let e : length r ≡ n = w r (mem_get_d rows j [] h) in
        map_map (λ c. at c j) (column rows) (below n)
        ∙ map_ext (λ x. at (column rows x) j) (λ x. at r x) (below n) (λ x m. at_column rows x j h)
        ∙ ap (λ (k : ℕ). map (λ x. at r x) (below k)) (sym e)
        ∙ map_places r 0

-- ---- values
pub small_transposed : (n : ℕ) (rows : List (List ℕ)) → Wide n rows → small_values (flat rows) ≡ true → small_values (flat (transposed n rows)) ≡ true
unfolding small_values transposed column
small_transposed n rows w e = of_T (small_values (flat (transposed n rows))) (all_i (λ v. ltb v 16) (flat (transposed n rows)) each)
  where
    each : (v : ℕ) → Memᴰ v (flat (map (column rows) (below n))) → T (ltb v 16)
    each v m =
        let q = flat_e (map (column rows) (below n)) v m in
        let c = Memᴰ-of_map (column rows) (below n) q.1 in
        let r = Memᴰ-of_map (λ s. at s c.0) rows (subst (λ (l : List ℕ). Memᴰ v l) (sym c.2) q.2) in
        let inside : Memᴰ (at r.0 c.0) r.0 = mem_at r.0 c.0 (subst (λ (k : ℕ). c.0 < k) (sym (w r.0 r.1)) (below_e n c.0 c.1)) in
        all_e (λ v. ltb v 16) (flat rows) (T_of (small_values (flat rows)) e) v (flat_i rows r.0 v r.1 (subst (λ (z : ℕ). Memᴰ z r.0) r.2 inside))
