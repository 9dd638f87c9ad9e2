-- What all rows leave in the support sets, and what that says of the rows. Assumes nothing.
use Rattle.model.specs.Kit.{◌≡◌, refl, sym, ap, ap₂, ◌∙◌, subst, Bool, true, false, List, [], ◌∷◌, ◌++◌, map, ℕ, zero, suc, ◌+◌, ◌*◌, ◌/◌, ◌%◌, ◌^◌, ◌≤◌, ◌<◌, arith, not-suc-le-zero, T, eqb, ltb}
use Rattle.model.specs.Kit.{ltb→lt, lt→ltb, length, length-append, eqb-true, eqb-false}
use Rattle.model.specs.{Lists.at, Lists.all, Lists.either, Lists.any, Lists.below, Lists.same, ValueSets.has, ValueSets.mask_of, Sheet.word, Sheet.words, Sheet.rows_at}
use Rattle.model.proofs.{Lists.all_cons, Lists.all_i, Lists.both_i, Lists.both_l, Lists.both_r, Lists.at_mem, Sets.has_none, Masks.is_mask, Accepted.length_words}
use Rattle.arrays.specs.{Inner.Layout.place, Inner.Places.SUPPORTS}
use Rattle.sheet.specs.{Inner.Fill.row_key, Inner.Fill.with_rows, Inner.Steps.offset_at, Inner.Steps.supports_to}
use Rattle.sheet.proofs.Keys.{key_from, Digits, key_same, key_snoc, key_place, key_words, key_bound}
use Rattle.sheet.proofs.{Any.any_same, RowsTest.digits, Support.rows_length, Support.rows_at_lem, Support.rows_small, Support.rows_low, Support.rows_high, Touch.Good}

-- the key of a row that passed
row_small : (b : List ℕ) (n d o : ℕ) → d ≤ 16 → Good b n d o → (i : ℕ) → i < word b (o + 2) → row_key b (o + 4 + 2 * word b o) (word b o) i < 4096
row_small b n d o d16 g i l =
    let from = o + 4 + 2 * word b o in
    let at = from + 2 * (i * word b o) in
    subst (λ (x : ℕ). x < 4096) (sym (key_words b at (word b o)))
    (key_bound (words b at (word b o)) (subst (λ (x : ℕ). x ≤ 3) (sym (length_words b at (word b o))) g.few) (digits b at (word b o) d d16 (g.valued i l)))

-- the keys of the constraint at an offset
pub keys_at : List ℕ → ℕ → List ℕ
keys_at b o = map (row_key b (o + 4 + 2 * word b o) (word b o)) (below (word b (o + 2)))

-- the support sets hold the first k constraints, and are otherwise as they were
pub record Backed (b : List ℕ) (o k : ℕ) (l new : List ℕ) : Type 0 where
  pub sized : length new ≡ length l
  pub small : (y : ℕ) → at new y < 2 ^ 16
  pub rest : (y : ℕ) → 256 * k ≤ y → at new y ≡ at l y
  pub holds : (j q v : ℕ) → j < k → q < 256 → v < 16 → has (at new (256 * j + q)) v ≡ any (eqb (16 * q + v)) (keys_at b (offset_at b o j))

module _ (b : List ℕ) (n d o c : ℕ) (d16 : d ≤ 16) (c32 : c ≤ 32) (good : (j : ℕ) → j < c → Good b n d (offset_at b o j)) (l : List ℕ) (long : length l ≡ SUPPORTS) (blank : (y : ℕ) → at l y ≡ 0) where
  pub backed : (k : ℕ) → k ≤ c → Backed b o k l (supports_to b o k l)
  unfolding supports_to keys_at
  backed zero h =
      record {
        sized = refl;
        small = λ y. (let e = blank y in omega arith);
        rest = λ y m. refl;
        holds = λ j q v m. absurd (not-suc-le-zero m);
      }
  backed (suc k) h = more (backed k (omega arith))
    where
      p : ℕ
      p = offset_at b o k

      a : ℕ
      a = word b p

      r : ℕ
      r = word b (p + 2)

      from : ℕ
      from = p + 4 + 2 * a

      m : List ℕ
      m = supports_to b o k l

      more : Backed b o k l m → Backed b o (suc k) l (with_rows b from a (256 * k) r m)
      more t =
          let keys = row_small b n d p d16 (good k (omega arith)) in
          let room : 256 * k + 256 ≤ length m = omega (arith, t.sized) in
          record {
            sized = rows_length b from a (256 * k) r keys m room r ∙ t.sized;
            small = rows_small b from a (256 * k) r keys m room r (omega arith) t.small;
            rest = λ y z. rows_high b from a (256 * k) r keys m room r (omega arith) y (omega arith) ∙ t.rest y (omega arith);
            holds = λ j q v z u w. slot keys room t j q v z u w (eqb j k) refl;
          }
        where
          own : ((i : ℕ) → i < r → row_key b from a i < 4096) → 256 * k + 256 ≤ length m → Backed b o k l m → (q v : ℕ) → v < 16 →
              has (at (with_rows b from a (256 * k) r m) (256 * k + q)) v ≡ any (eqb (16 * q + v)) (map (row_key b from a) (below r))
          own keys room t q v w =
              let e : (16 * q + v) / 16 ≡ q = omega arith in
              let f : (16 * q + v) % 16 ≡ v = omega arith in
              let x = with_rows b from a (256 * k) r m in
              ap₂ (λ (i u : ℕ). has (at x (256 * k + i)) u) (sym e) (sym f)
              ∙ rows_at_lem b from a (256 * k) r keys m room r (omega arith) (16 * q + v)
              ∙ ap (λ (s : Bool). either s (any (eqb (16 * q + v)) (map (row_key b from a) (below r))))
              (ap (λ (s : ℕ). has s ((16 * q + v) % 16)) (t.rest (256 * k + (16 * q + v) / 16) (omega arith) ∙ blank (256 * k + (16 * q + v) / 16)) ∙ has_none ((16 * q + v) % 16))

          slot : ((i : ℕ) → i < r → row_key b from a i < 4096) → 256 * k + 256 ≤ length m → Backed b o k l m → (j q v : ℕ) → j < suc k → q < 256 → v < 16 → (s : Bool) → eqb j k ≡ s →
              has (at (with_rows b from a (256 * k) r m) (256 * j + q)) v ≡ any (eqb (16 * q + v)) (keys_at b (offset_at b o j))
          slot keys room t j q v z u w true e =
              subst (λ (i : ℕ). has (at (with_rows b from a (256 * k) r m) (256 * i + q)) v ≡ any (eqb (16 * q + v)) (keys_at b (offset_at b o i))) (sym (eqb-true j k e)) (own keys room t q v w)
          slot keys room t j q v z u w false e =
              let d : j ≡ k → ⊥ = eqb-false j k e in
              ap (λ (s : ℕ). has s v) (rows_low b from a (256 * k) r keys m room r (omega arith) (256 * j + q) (omega arith)) ∙ t.holds j q v (omega arith) u w

-- ---- what the sets say of the rows
digits_of : (vs : List ℕ) → ((i : ℕ) → i < length vs → at vs i < 16) → Digits vs
digits_of vs h = all_i (λ w. ltb w 16) vs (λ v m. let r = at_mem vs v m in lt→ltb v 16 (subst (λ (x : ℕ). x < 16) r.2 (h r.0 r.1)))

digits_snoc : (vs : List ℕ) (v : ℕ) → Digits vs → v < 16 → Digits (vs ++ (v ∷ []))
unfolding all
digits_snoc [] v p l = subst T (sym (all_cons (λ w. ltb w 16) v [])) (both_i (ltb v 16) true (lt→ltb v 16 l) tt)
digits_snoc (x ∷ vs) v p l =
    let q = subst T (all_cons (λ w. ltb w 16) x vs) p in
    subst T (sym (all_cons (λ w. ltb w 16) x (vs ++ (v ∷ []))))
    (both_i (ltb x 16) (all (λ w. ltb w 16) (vs ++ (v ∷ []))) (both_l (ltb x 16) (all (λ w. ltb w 16) vs) q) (digits_snoc vs v (both_r (ltb x 16) (all (λ w. ltb w 16) vs) q) l))

place_small : (vs : List ℕ) → length vs ≤ 2 → Digits vs → place vs < 256
place_small [] h p = omega arith
place_small (x ∷ []) h p = (let q = ltb→lt x 16 (both_l (ltb x 16) (all (λ w. ltb w 16) []) (subst T (all_cons (λ w. ltb w 16) x []) p)) in omega arith)
place_small (x ∷ y ∷ []) h p =
    let q = subst T (all_cons (λ w. ltb w 16) x (y ∷ [])) p in
    let r = subst T (all_cons (λ w. ltb w 16) y []) (both_r (ltb x 16) (all (λ w. ltb w 16) (y ∷ [])) q) in
    let a : x < 16 = ltb→lt x 16 (both_l (ltb x 16) (all (λ w. ltb w 16) (y ∷ [])) q) in
    let b : y < 16 = ltb→lt y 16 (both_l (ltb y 16) (all (λ w. ltb w 16) []) r) in
    omega arith
place_small (x ∷ y ∷ z ∷ vs) h p = absurd (omega arith)

module _ (b : List ℕ) (n d o : ℕ) (d16 : d ≤ 16) (g : Good b n d o) (vs : List ℕ) (size : suc (length vs) ≡ word b o) (small : (i : ℕ) → i < length vs → at vs i < 16) where
  -- a row equals the values where the keys are equal
  row_same : (v : ℕ) → v < 16 → (i : ℕ) → i < word b (o + 2) →
      eqb (16 * place vs + v) (row_key b (o + 4 + 2 * word b o) (word b o) i) ≡ same (vs ++ (v ∷ [])) (words b (o + 4 + 2 * word b o + 2 * (i * word b o)) (word b o))
  row_same v l i m =
      let p = o + 4 + 2 * word b o + 2 * (i * word b o) in
      let row = words b p (word b o) in
      let e : key_from 0 (vs ++ (v ∷ [])) ≡ 16 * place vs + v = key_snoc 0 vs v ∙ ap (λ (x : ℕ). 16 * x + v) (key_place vs (omega (arith, g.few))) in
      let f : length (vs ++ (v ∷ [])) ≡ length row = length-append vs (v ∷ []) ∙ (let z : length vs + 1 ≡ word b o = omega arith in z) ∙ sym (length_words b p (word b o)) in
      sym (key_same (vs ++ (v ∷ [])) row f (digits_snoc vs v (digits_of vs small) l) (digits b p (word b o) d d16 (g.valued i m))
      ∙ ap₂ eqb e (sym (key_words b p (word b o))))

  pub set_of_rows : (s : ℕ) → s < 2 ^ 16 → ((q v : ℕ) → q ≡ place vs → q < 256 → v < 16 → has s v ≡ any (eqb (16 * q + v)) (keys_at b o)) → s ≡ mask_of (λ v. any (same (vs ++ (v ∷ []))) (rows_at b o))
  unfolding keys_at rows_at
  set_of_rows s small' h =
      is_mask s (λ v. any (same (vs ++ (v ∷ []))) (rows_at b o)) small'
      (λ v l. h (place vs) v refl (place_small vs (omega (arith, g.few)) (digits_of vs small)) l
      ∙ any_same (eqb (16 * place vs + v)) (same (vs ++ (v ∷ []))) (row_key b (o + 4 + 2 * word b o) (word b o)) (λ i. words b (o + 4 + 2 * word b o + 2 * (i * word b o)) (word b o))
      (word b (o + 2)) (row_same v l))
