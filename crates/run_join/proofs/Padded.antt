-- The thirteen bytes of a path: how many values, the values, and zeros. Assumes nothing.
use Rattle.model.specs.Kit.{◌≡◌, refl, sym, ap, ap₂, ◌∙◌, Bool, true, false, List, ℕ, zero, suc, ◌+◌, ◌≤◌, ◌<◌, arith, T, eqb, ltb, leb, length, take, drop}
use Rattle.model.specs.Kit.{le-leb, le_of_suc-le-suc, ltb-true, ltb-false, eqb-true, eq-eqb, length-take-le}
use Rattle.model.specs.Lists.{all, at, below, both, either, same, up_from}
use Rattle.model.proofs.Lists.{T_of, of_T, TExt, all_i, all_e, up_from_i, up_from_e, same_eq, at_ext, at_tabulate, length_tabulate, both_i, both_l, both_r, both_yes, both_second, at_take}
use Rattle.std.specs.Array.{IsFirstChunk}
use Rattle.run_join.specs.{Join.path_at, Join.path_shaped, Inner.Inner.Path}
use Rattle.run_join.proofs.{Orders.all_below, Orders.each_below, Orders.behind, Orders.short, Orders.zeros, Slices.same_of, Slices.at_part}

-- the thirteen bytes at o of l are those at p of m
abbrev pub Bytes : List ℕ → ℕ → List ℕ → ℕ → Type 0
Bytes l o m p = (i : ℕ) → i < 13 → at l (o + i) ≡ at m (p + i)

module _ (l : List ℕ) (o : ℕ) (m : List ℕ) (p : ℕ) where
  lead : Bytes l o m p → at l o ≡ at m p
  lead b = ap (at l) (omega arith) ∙ b 0 (omega arith) ∙ ap (at m) (omega arith)

  value : Bytes l o m p → (i : ℕ) → i < 12 → at l (o + 1 + i) ≡ at m (p + 1 + i)
  value b i h = ap (at l) (omega arith) ∙ b (suc i) (omega arith) ∙ ap (at m) (omega arith)

  pub bytes_shaped : Bytes l o m p → path_shaped l o ≡ true → path_shaped m p ≡ true
  unfolding path_shaped
  bytes_shaped b so =
      both_yes (leb (at m p) 12) (all (behind m p) (below 12)) (le-leb (at m p) 12 (let f = short l o so in let e = lead b in omega arith))
      (all_below (behind m p) 12 (λ i h. ap₂ (λ (n x : ℕ). either (ltb i n) (eqb x 0)) (sym (lead b)) (sym (value b i h))
      ∙ each_below (behind l o) 12 (both_second (leb (at l o) 12) (all (behind l o) (below 12)) so) i h))

  module _ (so : path_shaped l o ≡ true) where
    pub bytes_path : Bytes l o m p → path_at l o ≡ path_at m p
    unfolding path_at
    bytes_path b = at_ext (path_at l o) (path_at m p) (length_tabulate (at l o) _ ∙ lead b ∙ sym (length_tabulate (at m p) _))
        (λ i h. let few = short l o so in let n = length_tabulate (at l o) (λ i. at l (o + 1 + i)) in let e = lead b in
        at_tabulate (at l o) (λ i. at l (o + 1 + i)) i (omega arith) ∙ value b i (omega arith) ∙ sym (at_tabulate (at m p) (λ i. at m (p + 1 + i)) i (omega arith)))

    pub path_bytes : path_shaped m p ≡ true → path_at l o ≡ path_at m p → Bytes l o m p
    unfolding path_at
    path_bytes sp e = each
      where
        many : at l o ≡ at m p
        many = sym (length_tabulate (at l o) (λ i. at l (o + 1 + i))) ∙ ap length e ∙ length_tabulate (at m p) (λ i. at m (p + 1 + i))

        one : (i : ℕ) → i < 12 → (b : Bool) → ltb i (at l o) ≡ b → at l (o + 1 + i) ≡ at m (p + 1 + i)
        one i h true q =
            let j = ltb-true i (at l o) q in
            let n = many in
            sym (at_tabulate (at l o) (λ i. at l (o + 1 + i)) i j) ∙ ap (λ (s : List ℕ). at s i) e ∙ at_tabulate (at m p) (λ i. at m (p + 1 + i)) i (omega arith)
        one i h false q = let j = ltb-false i (at l o) q in let n = many in zeros l o so i h j ∙ sym (zeros m p sp i h (omega arith))

        each : Bytes l o m p
        each zero h = ap (at l) (omega arith) ∙ many ∙ ap (at m) (omega arith)
        each (suc i) h = ap (at l) (omega arith) ∙ one i (le_of_suc-le-suc h) (ltb i (at l o)) refl ∙ ap (at m) (omega arith)

-- ---- thirteen bytes by themselves
module _ (l m : List ℕ) (o n : ℕ) (p : Path l o) (first : IsFirstChunk (take n (drop o l)) m 13) (enough : 13 ≤ n) where
  there : Bytes l o m 0
  there i h =
      sym (at_take 13 (take n (drop o l)) i h ∙ at_part l o n i (omega arith)) ∙ ap (λ (s : List ℕ). at s i) (sym first.same) ∙ ap (at m) (omega arith)

  pub part_path : Path m 0
  part_path = record {
    fits = let e = ap length first.same ∙ length-take-le 13 (take n (drop o l)) first.enough in omega arith;
    shaped = bytes_shaped l o m 0 there p.shaped;
  }

  pub part_same : path_at m 0 ≡ path_at l o
  part_same = sym (bytes_path l o m 0 p.shaped there)

module _ (a b : List ℕ) where
  -- the same byte at a place
  abbrev pub alike : ℕ → Bool
  alike i = eqb (at a i) (at b i)

  abbrev values : Bool
  values = all alike (up_from 1 12)

  -- the values and how many they are
  pub padded_same : Path a 0 → Path b 0 → both values (alike 0) ≡ same (path_at a 0) (path_at b 0)
  padded_same p q = TExt (both values (alike 0)) (same (path_at a 0) (path_at b 0))
      (λ t. same_of (path_at a 0) (path_at b 0) (bytes_path a 0 b 0 p.shaped (each t)))
      (λ t. let f = path_bytes a 0 b 0 p.shaped q.shaped (same_eq (path_at a 0) (path_at b 0) t) in
      both_i values (alike 0) (all_i alike (up_from 1 12) (λ i m. let h = up_from_e 1 12 i m in is_alike f i (omega arith))) (is_alike f 0 (omega arith)))
    where
      each : T (both values (alike 0)) → Bytes a 0 b 0
      each t zero h = eqb-true (at a 0) (at b 0) (of_T (alike 0) (both_r values (alike 0) t))
      each t (suc i) h =
          ap (at a) (omega arith)
          ∙ eqb-true (at a (suc i)) (at b (suc i)) (of_T (alike (suc i)) (all_e alike (up_from 1 12) (both_l values (alike 0) t) (suc i) (up_from_i 1 12 (suc i) (omega arith) (omega arith))))
          ∙ ap (at b) (omega arith)

      is_alike : Bytes a 0 b 0 → (i : ℕ) → i < 13 → T (alike i)
      is_alike f i h = T_of (alike i) (eq-eqb (at a i) (at b i) (ap (at a) (omega arith) ∙ f i h ∙ ap (at b) (omega arith)))
