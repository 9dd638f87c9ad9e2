-- Images of pairs, and of the smaller values of a variable. Assumes nothing.
use Rattle.model.specs.Kit.{◌≡◌, refl, sym, ap, ap₂, ◌∙◌, subst, Bool, false, ⊎_elim, List, Memᴰ, ℕ, ◌+◌, ◌*◌, ◌/◌, ◌%◌, ◌^◌, ◌≤◌, ◌<◌, not-suc-le-zero, arith, ℕ_discrete, T, eqb, ltb, ltb→lt}
use Rattle.model.specs.Kit.{lt→ltb, eqb→eq, bit_or, or_lt, pow-lt, length, set, length-set, replicate, eq-eqb, ne_eqb}
use Rattle.model.specs.{Lists.any, Lists.at, Lists.keep, Lists.both, Lists.either, ValueSets.has, ValueSets.full_mask, ValueSets.only_mask, ValueSets.union_mask, ValueSets.members}
use Rattle.model.specs.Inner.Filling.{Filled}
use Rattle.model.proofs.Lists.{TExt, T_of, of_T, of_not, not_of, both_i, both_l, both_r, either_l, either_r, either_e, any_i, any_e, keep_i, keep_e, at_set, at_set_other, at_replicate, both_false}
use Rattle.model.proofs.{Sets.has_none, Sets.has_mask, Sets.mask_lt, Sets.mask_ext, Sets.members_i, Sets.members_e, Masks.has_or, Masks.has_one, Masks.union_op, Members.either_no, Members.one_op}
use Rattle.arrays.specs.Inner.Places.{OWN, SMALLER, TABLES}
use Rattle.arrays_tables.specs.Inner.Steps.{initial_of, smaller_of, PairStored, VariableStored, EarlierKept, PairsStored, SymmetryStored, SymmetriesStored}

-- ---- the images of the smaller values
module _ (f : ℕ → ℕ) (m : ℕ) where
  -- one value more
  any_more : (v y w : ℕ) → v < 16 → any (λ u. eqb (f u) (16 * y + w)) (keep (λ u. ltb u (v + 1)) (members m)) ≡ either (any (λ u. eqb (f u) (16 * y + w)) (keep (λ u. ltb u v) (members m)))
      (both (has m v) (eqb (f v) (16 * y + w)))
  any_more v y w h = TExt _ _ there back
    where
      there : T (any (λ u. eqb (f u) (16 * y + w)) (keep (λ u. ltb u (v + 1)) (members m))) → T
          (either (any (λ u. eqb (f u) (16 * y + w)) (keep (λ u. ltb u v) (members m))) (both (has m v) (eqb (f v) (16 * y + w))))
      there t =
          let r = any_e _ _ t in
          let k = keep_e _ _ _ r.1 in
          go r.0 k.0 (ltb→lt _ _ k.1) r.2 (ℕ_discrete r.0 v)
        where
          go : (u : ℕ) → Memᴰ u (members m) → u < v + 1 → T (eqb (f u) (16 * y + w)) → Dec (u ≡ v) →
              T (either (any (λ u. eqb (f u) (16 * y + w)) (keep (λ u. ltb u v) (members m))) (both (has m v) (eqb (f v) (16 * y + w))))
          go u i l q (yes e) =
              either_r (any (λ u. eqb (f u) (16 * y + w)) (keep (λ u. ltb u v) (members m))) _
              (both_i (has m v) _ (subst (λ (z : ℕ). T (has m z)) e (members_e m u i).1) (subst (λ (z : ℕ). T (eqb (f z) (16 * y + w))) e q))
          go u i l q (no n) =
              let b : u < v = omega arith in
              either_l (any (λ u. eqb (f u) (16 * y + w)) (keep (λ u. ltb u v) (members m))) _ (any_i _ _ u (keep_i _ _ u i (lt→ltb u v b)) q)

      back : T (either (any (λ u. eqb (f u) (16 * y + w)) (keep (λ u. ltb u v) (members m))) (both (has m v) (eqb (f v) (16 * y + w)))) → T
          (any (λ u. eqb (f u) (16 * y + w)) (keep (λ u. ltb u (v + 1)) (members m)))
      back t = ⊎_elim old new (either_e (any (λ u. eqb (f u) (16 * y + w)) (keep (λ u. ltb u v) (members m))) _ t)
        where
          old : T (any (λ u. eqb (f u) (16 * y + w)) (keep (λ u. ltb u v) (members m))) → T (any (λ u. eqb (f u) (16 * y + w)) (keep (λ u. ltb u (v + 1)) (members m)))
          old q =
              let r = any_e _ _ q in
              let k = keep_e _ _ _ r.1 in
              let l : r.0 < v = ltb→lt _ _ k.1 in
              let b : r.0 < v + 1 = omega arith in
              any_i _ _ r.0 (keep_i _ _ r.0 k.0 (lt→ltb r.0 (v + 1) b)) r.2

          new : T (both (has m v) (eqb (f v) (16 * y + w))) → T (any (λ u. eqb (f u) (16 * y + w)) (keep (λ u. ltb u (v + 1)) (members m)))
          new q =
              let b : v < v + 1 = omega arith in
              any_i _ _ v (keep_i _ _ v (members_i m v h (both_l (has m v) _ q)) (lt→ltb v (v + 1) b)) (both_r (has m v) _ q)

  more_has : (v y w : ℕ) → v < 16 → w < 16 → has (smaller_of f m (v + 1) y) w ≡ either (has (smaller_of f m v y) w) (both (has m v) (eqb (f v) (16 * y + w)))
  more_has v y w h l =
      has_mask 16 _ w l ∙ any_more v y w h
      ∙ ap (λ (b : Bool). either b (both (has m v) (eqb (f v) (16 * y + w)))) (sym (has_mask 16 (λ w. any (λ u. eqb (f u) (16 * y + w)) (keep (λ u. ltb u v) (members m))) w l))

  pub smaller_none : (y : ℕ) → 0 ≡ smaller_of f m 0 y
  smaller_none y = mask_ext 16 0 (smaller_of f m 0 y) (omega arith) (mask_lt 16 _) (λ w l. has_none w ∙ sym (has_mask 16 _ w l ∙ not_of _ (λ t. none w t)))
    where
      none : (w : ℕ) → T (any (λ u. eqb (f u) (16 * y + w)) (keep (λ u. ltb u 0) (members m))) → ⊥
      none w t = let r = any_e _ _ t in let l : r.0 < 0 = ltb→lt r.0 0 (keep_e (λ u. ltb u 0) (members m) r.0 r.1).1 in omega arith

  -- a value that adds nothing
  pub smaller_same : (v y : ℕ) → v < 16 → ((w : ℕ) → w < 16 → both (has m v) (eqb (f v) (16 * y + w)) ≡ false) → smaller_of f m v y ≡ smaller_of f m (v + 1) y
  smaller_same v y h n =
      mask_ext 16 (smaller_of f m v y) (smaller_of f m (v + 1) y) (mask_lt 16 _) (mask_lt 16 _)
      (λ w l. sym (more_has v y w h l ∙ ap (either (has (smaller_of f m v y) w)) (n w l) ∙ either_no (has (smaller_of f m v y) w)))

  pub smaller_more : (v y : ℕ) → v < 16 → T (has m v) → y ≡ f v / 16 → bit_or (smaller_of f m v y) (2 ^ (f v % 16)) ≡ smaller_of f m (v + 1) y
  smaller_more v y h t e =
      mask_ext 16 (bit_or (smaller_of f m v y) (2 ^ (f v % 16))) (smaller_of f m (v + 1) y) (or_lt 16 (smaller_of f m v y) (2 ^ (f v % 16)) (mask_lt 16 _)
      (pow-lt (let q : f v % 16 < 16 = omega arith in q))) (mask_lt 16 _)
      (λ w l. has_or (smaller_of f m v y) (2 ^ (f v % 16)) w ∙ ap (either (has (smaller_of f m v y) w))
      (has_one (f v % 16) w ∙ hit w l ∙ ap (λ (b : Bool). both b (eqb (f v) (16 * y + w))) (sym (of_T (has m v) t))) ∙ sym (more_has v y w h l))
    where
      hit : (w : ℕ) → w < 16 → eqb w (f v % 16) ≡ eqb (f v) (16 * y + w)
      hit w l = TExt _ _
          (λ q. (let s : w ≡ f v % 16 = eqb→eq w (f v % 16) q in let z : f v ≡ 16 * y + w = omega arith in T_of _ (eq-eqb (f v) (16 * y + w) z)))
          (λ q. (let s : f v ≡ 16 * y + w = eqb→eq (f v) (16 * y + w) q in let z : w ≡ f v % 16 = omega arith in T_of _ (eq-eqb w (f v % 16) z)))

-- ---- what stays
pub kept_refl : (q : ℕ) (l : List ℕ) → EarlierKept q l l
kept_refl q l = record { size = refl; low = λ j h. refl; high = λ j h k. refl }

pub kept_then : (q r : ℕ) (a b c : List ℕ) → q ≤ r → EarlierKept q a b → EarlierKept r b c → EarlierKept q a c
kept_then q r a b c h s t = record {
  size = t.size ∙ s.size;
  low = λ j l. t.low j (omega arith) ∙ s.low j l;
  high = λ j k l. t.high j k (omega arith) ∙ s.high j k l;
}

pub point_kept : (images : List ℕ) (m from v q : ℕ) (a b : List ℕ) → from + v < q → EarlierKept q a b → PairStored images m from v a → PairStored images m from v b
point_kept images m from v q a b h k p = record {
  cut = λ y l. k.low (SMALLER + 16 * (from + v) + y) (omega arith) ∙ p.cut y l;
  own = k.high (OWN + (from + v)) (omega arith) (omega arith) ∙ p.own;
}

pub stored_kept : (images : List ℕ) (m from q : ℕ) (a b : List ℕ) → from + 16 ≤ q → EarlierKept q a b → VariableStored images m from a → VariableStored images m from b
stored_kept images m from q a b h k d v l t = point_kept images m from v q a b (omega arith) k (d v l t)

-- ---- one pair
module _ (images : List ℕ) (m from v : ℕ) (old new sets : List ℕ) (room : from + 16 ≤ 3072) (h : v < 16) (d : PairsStored images m from v old new sets) where
  pub pair_skip : has m v ≡ false → PairsStored images m from (v + 1) old new sets
  pair_skip e = record {
    kept = d.kept;
    stored = λ u l t. stored u l t (ℕ_discrete u v);
    held = λ y l. d.held y l ∙ smaller_same (λ u. at images (from + u)) m v y h (λ w k. ap (λ (b : Bool). both b (eqb (at images (from + v)) (16 * y + w))) e);
    sixteen = d.sixteen;
  }
    where
      stored : (u : ℕ) → u < v + 1 → T (has m u) → Dec (u ≡ v) → PairStored images m from u new
      stored u l t (yes q) = absurd (of_not (has m v) e (subst (λ (z : ℕ). T (has m z)) q t))
      stored u l t (no n) = d.stored u (omega arith) t

  module _ (filled : List ℕ) (r : Filled (λ i. SMALLER + 16 * (from + v) + i) (λ i w. w ≡ at sets i) 16 new filled) (y : ℕ) (img : y ≡ at images (from + v)) (byte : y < 256) (t : T (has m v))
      (long : length new ≡ TABLES)
      (one more : ℕ) (on : one ≡ only_mask (full_mask 16) (y % 16)) (mo : more ≡ union_mask (at sets (y / 16)) one) where
    kept_here : EarlierKept (from + v) new (set filled (OWN + (from + v)) y)
    kept_here = record {
      size = length-set filled (OWN + (from + v)) y ∙ r.size;
      low = λ j l. at_set_other filled (OWN + (from + v)) y j (λ e. omega arith) ∙ r.other j (λ i k e. omega arith);
      high = λ j k l. at_set_other filled (OWN + (from + v)) y j (λ e. omega arith) ∙ r.other j (λ i n e. omega arith);
    }

    point_here : PairStored images m from v (set filled (OWN + (from + v)) y)
    point_here = record {
      cut = λ z l. at_set_other filled (OWN + (from + v)) y (SMALLER + 16 * (from + v) + z) (λ e. omega arith) ∙ r.here z l ∙ d.held z l;
      own = at_set filled (OWN + (from + v)) y (omega (arith, r.size)) ∙ img;
    }

    one_is : one ≡ 2 ^ (y % 16)
    one_is = on ∙ one_op (y % 16) (omega arith)

    more_is : more ≡ bit_or (at sets (y / 16)) (2 ^ (y % 16))
    more_is =
        mo ∙ ap (union_mask (at sets (y / 16))) one_is
        ∙ sym (union_op (at sets (y / 16)) (2 ^ (y % 16)) (subst (λ (n : ℕ). n < 2 ^ 16) (sym (d.held (y / 16) (omega arith))) (mask_lt 16 _)) (pow-lt (let q : y % 16 < 16 = omega arith in q)))

    held_more : (z : ℕ) → z < 16 → Dec (z ≡ y / 16) → at (set sets (y / 16) more) z ≡ smaller_of (λ u. at images (from + u)) m (v + 1) z
    held_more z l (yes e) =
        let q : y / 16 < length sets = omega (arith, d.sixteen) in
        let k : z ≡ at images (from + v) / 16 = e ∙ ap (λ (n : ℕ). n / 16) img in
        ap (at (set sets (y / 16) more)) e ∙ at_set sets (y / 16) _ q ∙ more_is
        ∙ ap₂ bit_or (ap (at sets) (sym e) ∙ d.held z l) (ap (λ (n : ℕ). 2 ^ (n % 16)) img)
        ∙ smaller_more (λ u. at images (from + u)) m v z h t k
    held_more z l (no n) =
        at_set_other sets (y / 16) _ z n ∙ d.held z l
        ∙ smaller_same (λ u. at images (from + u)) m v z h (λ w k. ap (both (has m v)) (ne_eqb _ _ (λ e. n (let q : y ≡ 16 * z + w = img ∙ e in omega arith))) ∙ both_false (has m v))

    pub pair_more : PairsStored images m from (v + 1) old (set filled (OWN + (from + v)) y) (set sets (y / 16) more)
    pair_more = record {
      kept = kept_then from (from + v) old new _ (omega arith) d.kept kept_here;
      stored = λ u l k. stored u l k (ℕ_discrete u v);
      held = λ z l. held_more z l (ℕ_discrete z (y / 16));
      sixteen = length-set sets (y / 16) _ ∙ d.sixteen;
    }
      where
        stored : (u : ℕ) → u < v + 1 → T (has m u) → Dec (u ≡ v) → PairStored images m from u (set filled (OWN + (from + v)) y)
        stored u l k (yes q) = subst (λ (z : ℕ). PairStored images m from z (set filled (OWN + (from + v)) y)) (sym q) point_here
        stored u l k (no n) = point_kept images m from u (from + v) new _ (omega arith) kept_here (d.stored u (omega arith) k)

-- ---- one variable
pub pairs_begin : (images : List ℕ) (m from : ℕ) (l : List ℕ) → PairsStored images m from 0 l l (replicate 16 0)
pairs_begin images m from l = record {
  kept = kept_refl from l;
  stored = λ v h. absurd (not-suc-le-zero h);
  held = λ y h. at_replicate 16 y ∙ smaller_none (λ u. at images (from + u)) m y;
  sixteen = refl;
}

pub pairs_end : (images : List ℕ) (m from i : ℕ) (old new sets : List ℕ) → 16 ≤ i → PairsStored images m from i old new sets → VariableStored images m from new × EarlierKept from old new
pairs_end images m from i old new sets h d = (λ v l t. d.stored v (omega arith) t, d.kept)

-- ---- one symmetry
pub symmetry_begin : (numbers images : List ℕ) (from : ℕ) (l : List ℕ) → SymmetryStored numbers images from 0 l l
symmetry_begin numbers images from l = record { stored = λ x h. absurd (not-suc-le-zero h); kept = kept_refl from l }

pub symmetry_turn : (numbers images : List ℕ) (from i m : ℕ) (old new next : List ℕ) → m ≡ initial_of numbers i → SymmetryStored numbers images from i old new → VariableStored images m
    (from + 16 * i) next × EarlierKept (from + 16 * i) new next →
    SymmetryStored numbers images from (i + 1) old next
symmetry_turn numbers images from i m old new next f s r = record { stored = λ x h. go x h (ℕ_discrete x i); kept = kept_then from (from + 16 * i) old new next (omega arith) s.kept r.1 }
  where
    go : (x : ℕ) → x < i + 1 → Dec (x ≡ i) → VariableStored images (initial_of numbers x) (from + 16 * x) next
    go x h (yes e) = subst (λ (z : ℕ). VariableStored images (initial_of numbers z) (from + 16 * z) next) (sym e) (subst (λ (z : ℕ). VariableStored images z (from + 16 * i) next) f r.0)
    go x h (no n) = stored_kept images (initial_of numbers x) (from + 16 * x) (from + 16 * i) new next (omega arith) r.1 (s.stored x (omega arith))

pub symmetry_end : (numbers images : List ℕ) (from i n : ℕ) (old new : List ℕ) → n ≤ i → SymmetryStored numbers images from i old new → SymmetryStored numbers images from n old new
symmetry_end numbers images from i n old new h s = record { stored = λ x l. s.stored x (omega arith); kept = s.kept }

-- ---- all symmetries
pub symmetries_begin : (numbers images : List ℕ) (n : ℕ) (l : List ℕ) → SymmetriesStored numbers images n 0 l l
symmetries_begin numbers images n l = record { stored = λ e x h. absurd (not-suc-le-zero h); kept = kept_refl 0 l }

pub symmetries_turn : (numbers images : List ℕ) (n i : ℕ) (old new next : List ℕ) → n ≤ 12 → SymmetriesStored numbers images n i old new → SymmetryStored numbers images (192 * i) n new next
    → SymmetriesStored numbers images n (i + 1) old next
symmetries_turn numbers images n i old new next few s r = record { stored = λ e x h l. go e x h l (ℕ_discrete e i); kept = kept_then 0 (192 * i) old new next (omega arith) s.kept r.kept }
  where
    go : (e x : ℕ) → e < i + 1 → x < n → Dec (e ≡ i) → VariableStored images (initial_of numbers x) (192 * e + 16 * x) next
    go e x h l (yes q) = subst (λ (z : ℕ). VariableStored images (initial_of numbers x) (192 * z + 16 * x) next) (sym q) (r.stored x l)
    go e x h l (no k) = stored_kept images (initial_of numbers x) (192 * e + 16 * x) (192 * i) new next (omega arith) r.kept (s.stored e x (omega arith) l)

pub symmetries_end : (numbers images : List ℕ) (n i g : ℕ) (old new : List ℕ) → g ≤ i → SymmetriesStored numbers images n i old new → SymmetriesStored numbers images n g old new
symmetries_end numbers images n i g old new h s = record { stored = λ e x l. s.stored e x (omega arith); kept = s.kept }
