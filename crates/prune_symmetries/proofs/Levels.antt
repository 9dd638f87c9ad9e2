-- The levels that the tables hold are the nogoods of the symmetry at the prefix. Assumes nothing.
use Rattle.model.specs.Kit.{◌≡◌, sym, ap, ap₂, ◌∙◌, List, [], ◌∷◌, ◌++◌, map, append-nil, append_assoc, ℕ, suc, ◌+◌, ◌-◌, ◌*◌, ◌/◌, ◌%◌, ◌≤◌, ◌<◌, lt_of_lt_of_le, arith, length, take, length-take-le}
use Rattle.model.specs.Kit.{get_or-take}
use Rattle.model.specs.Lists.{at, flat, below, up_from}
use Rattle.model.specs.{Problem.Problem, Problem.pair, Problem.symmetry_at, Nogood.Entry, Nogood.equality, Nogood.disequality, Search.entries_at, Search.nogoods_of, Inner.WellFormed.WellFormed}
use native.Mathlib.Nat.{mod-lt}
use Rattle.model.proofs.Lists.{map_ext, map_append, flat_append, below_e, up_from_add}
use Rattle.arrays.specs.Inner.Tables.{image_of}
use Rattle.prune_symmetries.specs.Inner.Levels.{cut_of, keep_of, lower, cuts, level_of, levels, own_at}

-- ---- lists of levels
module _ (p : Problem) (work : List ℕ) (e : ℕ) where
  pub levels_none : (j : ℕ) → levels p work e j j ≡ []
  unfolding levels up_from flat
  levels_none j = let q : j - j ≡ 0 = omega arith in ap (λ (c : ℕ). flat (map (λ i. level_of p e i (at work i)) (up_from j c))) q

  pub levels_append : (i j k : ℕ) → i ≤ j → j ≤ k → levels p work e i k ≡ levels p work e i j ++ levels p work e j k
  unfolding levels
  levels_append i j k h l =
      let q : k - i ≡ (j - i) + (k - j) = omega arith in
      let r : i + (j - i) ≡ j = omega arith in
      let f : ℕ → List Entry = λ m. level_of p e m (at work m) in
      ap (λ (c : ℕ). flat (map f (up_from i c))) q
      ∙ ap (λ (m : List ℕ). flat (map f m)) (up_from_add i (j - i) (k - j))
      ∙ ap flat (map_append f (up_from i (j - i)) (up_from (i + (j - i)) (k - j)))
      ∙ flat_append (map f (up_from i (j - i))) (map f (up_from (i + (j - i)) (k - j)))
      ∙ ap (λ (c : ℕ). flat (map f (up_from i (j - i))) ++ flat (map f (up_from c (k - j)))) r

  pub levels_one : (j : ℕ) → levels p work e j (j + 1) ≡ level_of p e j (at work j)
  unfolding levels up_from flat
  levels_one j =
      let q : (j + 1) - j ≡ suc 0 = omega arith in
      ap (λ (c : ℕ). flat (map (λ i. level_of p e i (at work i)) (up_from j c))) q ∙ append-nil (level_of p e j (at work j))

  -- the levels from i up to k, taken apart at the own pair of level j
  pub levels_split : (i j k : ℕ) → i ≤ j → j < k → (levels p work e i j ++ cuts p e j (at work j)) ++ (keep_of (own_at p work e j) ∷ levels p work e (j + 1) k) ≡ levels p work e i k
  levels_split i j k h l =
      let c : List Entry = cuts p e j (at work j) in
      let o : List Entry = keep_of (own_at p work e j) ∷ [] in
      append_assoc (levels p work e i j) c (o ++ levels p work e (j + 1) k)
      ∙ ap (λ (m : List Entry). levels p work e i j ++ m) (sym (append_assoc c o (levels p work e (j + 1) k))
      ∙ ap (λ (m : List Entry). m ++ levels p work e (j + 1) k) (sym (levels_one j)) ∙ sym (levels_append j (j + 1) k (omega arith) (omega arith)))
      ∙ sym (levels_append i j k h (omega arith))

-- ---- the images, taken apart
apart_variable : (a b : ℕ) → b < 16 → (16 * a + b) / 16 ≡ a
apart_variable a b h = omega arith

apart_value : (a b : ℕ) → b < 16 → (16 * a + b) % 16 ≡ b
apart_value a b h = omega arith

module _ (p : Problem) (w : WellFormed p) (e : ℕ) where
  -- the number of the image of a pair
  abbrev to : ℕ → ℕ → ℕ
  to x v = at (symmetry_at p e) (pair p x v)

  small : (x v : ℕ) → to x v % p.values < 16
  small x v = lt_of_lt_of_le (mod-lt (to x v) w.one) w.sixteen

  pub variable_is : (x v : ℕ) → image_of p e x v / 16 ≡ at (symmetry_at p e) (pair p x v) / p.values
  variable_is x v = apart_variable (to x v / p.values) (to x v % p.values) (small x v)

  pub value_is : (x v : ℕ) → image_of p e x v % 16 ≡ at (symmetry_at p e) (pair p x v) % p.values
  value_is x v = apart_value (to x v / p.values) (to x v % p.values) (small x v)

  -- ---- the nogoods
  level_is : (prefix : List ℕ) (j : ℕ) → entries_at p (symmetry_at p e) prefix j ≡ level_of p e j (at prefix j)
  unfolding entries_at
  level_is prefix j =
      sym (ap₂ (λ (l m : List Entry). l ++ m)
      (map_ext (λ v. cut_of (image_of p e j v)) (λ v. disequality (to j v / p.values) (to j v % p.values)) (lower p j (at prefix j))
      (λ v m. ap₂ disequality (variable_is j v) (value_is j v)))
      (ap (λ (y : Entry). y ∷ []) (ap₂ equality (variable_is j (at prefix j)) (value_is j (at prefix j)))))

  prefix_at : (work : List ℕ) (k j : ℕ) → j < k → at (take k work) j ≡ at work j
  unfolding at
  prefix_at work k j h = get_or-take k work j 0 h

  pub nogoods_are : (work : List ℕ) (k : ℕ) → k ≤ length work → nogoods_of p (symmetry_at p e) (take k work) ≡ levels p work e 0 k
  unfolding levels nogoods_of below
  nogoods_are work k h =
      let q : k ≡ k - 0 = omega arith in
      ap (λ (c : ℕ). flat (map (entries_at p (symmetry_at p e) (take k work)) (below c))) (length-take-le k work h)
      ∙ ap flat (map_ext (entries_at p (symmetry_at p e) (take k work)) (λ i. level_of p e i (at work i)) (below k)
      (λ j m. level_is (take k work) j ∙ ap (level_of p e j) (prefix_at work k j (below_e k j m))))
      ∙ ap (λ (c : ℕ). flat (map (λ i. level_of p e i (at work i)) (below c))) q
