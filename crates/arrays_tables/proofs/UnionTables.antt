-- Unions of numbers of eight lanes, and what they say of the support sets. Assumes nothing.
use Rattle.model.specs.Kit.{◌≡◌, refl, sym, ap, ◌∙◌, subst, subst₂, Bool, true, false, inl, inr, ⊎_elim, List, ℕ, zero, suc, ◌+◌, ◌*◌, ◌/◌, ◌%◌, ◌≤◌, ◌<◌, arith, ℕ_discrete, bit_or, T, lit<, length}
use Rattle.model.specs.{Lists.at, Lists.both, Lists.choose, ValueSets.has}
use Rattle.model.proofs.{Lists.both_i, Lists.both_l, Lists.both_r, Sets.has_none, Members.or_i, Members.or_e}
use Rattle.arrays.specs.{Inner.Places.SCOPES, Inner.Places.VALUES, Inner.Places.SPREAD, Inner.Places.UNIONS, Inner.Tables.UnionOf, Inner.Tables.Spreads, Inner.Tables.Words, Inner.Tables.between}
use Rattle.arrays_tables.specs.Inner.Steps.{Lanes, Word, United, Unioned, Unions, Worded}

-- ---- four numbers from a base on, of which m has some
picked : (c : Bool) (w b : ℕ) → has (choose c w 0) b ≡ both c (has w b)
picked true w b = refl
picked false w b = has_none b

module _ (m : ℕ) (words : List ℕ) (base : ℕ) where
  abbrev Part : ℕ → ℕ → Type 0
  Part i n = n ≡ choose (has m i) (at words (base + i)) 0

  is : (i n b : ℕ) → Part i n → has n b ≡ both (has m i) (has (at words (base + i)) b)
  is i n b e = ap (λ (z : ℕ). has z b) e ∙ picked (has m i) (at words (base + i)) b

  into : (i n b : ℕ) → Part i n → T (has m i) → T (has (at words (base + i)) b) → T (has n b)
  into i n b e t u = subst T (sym (is i n b e)) (both_i (has m i) (has (at words (base + i)) b) t u)

  from : (i n b : ℕ) → i < 4 → Part i n → T (has n b) → (j : ℕ) × (j < 4) × T (has m j) × T (has (at words (base + j)) b)
  from i n b h e t = let u = subst T (is i n b e) t in (i, h, both_l (has m i) (has (at words (base + i)) b) u, both_r (has m i) (has (at words (base + i)) b) u)

  pub united : (p q r s : ℕ) → p ≡ choose (has m 0) (at words base) 0 → q ≡ choose (has m 1) (at words (base + 1)) 0 → r ≡ choose (has m 2) (at words (base + 2)) 0 → s ≡ choose (has m 3)
      (at words (base + 3)) 0 →
      United m (λ i. at words (base + i)) (bit_or (bit_or p q) (bit_or r s))
  united p q r s e eq er es = record {
    union_i = any;
    union_e = λ b t. ⊎_elim (λ u. ⊎_elim (from 0 p b (lit< tt) ep) (from 1 q b (lit< tt) eq) (or_e p q b u)) (λ u. ⊎_elim (from 2 r b (lit< tt) er) (from 3 s b (lit< tt) es) (or_e r s b u))
        (or_e (bit_or p q) (bit_or r s) b t);
  }
    where
      ep : Part 0 p
      ep = let z : base ≡ base + 0 = omega arith in e ∙ ap (λ (n : ℕ). choose (has m 0) (at words n) 0) z

      any : (i b : ℕ) → i < 4 → T (has m i) → T (has (at words (base + i)) b) → T (has (bit_or (bit_or p q) (bit_or r s)) b)
      any zero b h t u = or_i (bit_or p q) (bit_or r s) b (inl (or_i p q b (inl (into 0 p b ep t u))))
      any (suc zero) b h t u = or_i (bit_or p q) (bit_or r s) b (inl (or_i p q b (inr (into 1 q b eq t u))))
      any (suc (suc zero)) b h t u = or_i (bit_or p q) (bit_or r s) b (inr (or_i r s b (inl (into 2 r b er t u))))
      any (suc (suc (suc zero))) b h t u = or_i (bit_or p q) (bit_or r s) b (inr (or_i r s b (inr (into 3 s b es t u))))
      any (suc (suc (suc (suc i)))) b h t u = absurd (omega arith)

-- ---- one constraint after another
pub unions_begin : (supports l : List ℕ) → Unions supports 0 l l 0
unions_begin supports l = record { size = refl; here = λ k h. absurd (omega arith); told = λ k h. absurd (omega arith); kept = λ j h. refl }

-- one more, whose unions are stored if it is on three variables
pub unions_turn : (supports old new new' : List ℕ) (i some some' : ℕ) → Unions supports i old new some → length new' ≡ length new →
    ((j : ℕ) → j < UNIONS + 64 * i → at new' j ≡ at new j) → some ≤ some' →
    (at old (SCOPES + i) % 256 ≡ 3 → ((c : ℕ) → c < 64 → Unioned supports i (c / 16) (c % 16) (at new' (UNIONS + 64 * i + c))) × (0 < some')) → Unions supports (i + 1) old new' some'
unions_turn supports old new new' i some some' r s k more u = record {
  size = s ∙ r.size;
  here = λ a l. here a l (ℕ_discrete a i);
  told = λ a l. told a l (ℕ_discrete a i);
  kept = λ j h. k j (omega arith) ∙ r.kept j h;
}
  where
    Here : ℕ → Type 0
    Here a = at old (SCOPES + a) % 256 ≡ 3 → (c : ℕ) → c < 64 → Unioned supports a (c / 16) (c % 16) (at new' (UNIONS + 64 * a + c))

    here : (a : ℕ) → a < i + 1 → Dec (a ≡ i) → Here a
    here a l (yes e) = subst Here (sym e) (λ t. (u t).0)
    here a l (no n) = λ t c h. subst (Unioned supports a (c / 16) (c % 16)) (sym (k (UNIONS + 64 * a + c) (omega arith))) (r.here a (omega arith) t c h)

    told : (a : ℕ) → a < i + 1 → Dec (a ≡ i) → at old (SCOPES + a) % 256 ≡ 3 → 0 < some'
    told a l (yes e) t = (u (subst (λ (z : ℕ). at old (SCOPES + z) % 256 ≡ 3) e t)).1
    told a l (no n) t = let h = r.told a (omega arith) t in omega arith

pub unions_end : (supports old new : List ℕ) (i some : ℕ) → 32 ≤ i → i ≤ 32 → Unions supports i old new some → Unions supports 32 old new some
unions_end supports old new i some h l r = let e : i ≡ 32 = omega arith in subst (λ (k : ℕ). Unions supports k old new some) e r

-- ---- the lanes of a union
union_of : (supports : List ℕ) (k h m r : ℕ) (lane : ℕ → ℕ → ℕ) → h < 4 → Unioned supports k h m r → ((i s : ℕ) → i < 4 → Word supports k (4 * h + i) s → Lanes (lane i) s) → UnionOf m lane r
union_of supports k h m r lane b u l = record {
  union_i = λ i j w hi hj hw t v. u.union.union_i i (8 * j + w) hi t (subst T (sym (lanes i hi j w hj hw)) v);
  union_e = λ j w hj hw t. let q = u.union.union_e (8 * j + w) t in (q.0, q.1, q.2, subst T (lanes q.0 q.1 j w hj hw) q.3);
}
  where
    lanes : (i : ℕ) → i < 4 → Lanes (lane i) (at u.words (4 * h + i))
    lanes i hi = l i (at u.words (4 * h + i)) hi (u.made (4 * h + i) (omega arith))

-- ---- both tables
-- neither is asked for
pub worded_none : (supports l : List ℕ) → (at l VALUES < 9 → ⊥) → Worded supports l l
worded_none supports l n = record { size = refl; kept = λ j h. refl; words = λ h. absurd (n h) }

-- after the unions nothing is changed but the lanes of sets, and these are made if need be
module _ (supports old mid new : List ℕ) (some : ℕ) (u : Unions supports 32 old mid some) (size : length new ≡ length mid)
    (other : (j : ℕ) → ((b : ℕ) → b < 256 → SPREAD + b ≡ j → ⊥) → at new j ≡ at mid j) (s : 0 < some → Spreads new) where
  low : (j : ℕ) → j < SPREAD → at new j ≡ at old j
  low j h = other j (λ b l e. omega arith) ∙ u.kept j (omega arith)

  -- a scope is as it was
  three : (k : ℕ) → k < 32 → at new (SCOPES + k) % 256 ≡ 3 → at old (SCOPES + k) % 256 ≡ 3
  three k l t = ap (λ (n : ℕ). n % 256) (sym (low (SCOPES + k) (omega arith))) ∙ t

  union_at : (k c h m j : ℕ) → k < 32 → at new (SCOPES + k) % 256 ≡ 3 → c < 64 → c / 16 ≡ h → c % 16 ≡ m → UNIONS + 64 * k + c ≡ j → Unioned supports k h m (at new j)
  union_at k c h m j l t b e f g =
      subst (λ (j : ℕ). Unioned supports k h m (at new j)) g
      (subst₂ (λ (h m : ℕ). Unioned supports k h m (at new (UNIONS + 64 * k + c))) e f
      (subst (Unioned supports k (c / 16) (c % 16)) (sym (other (UNIONS + 64 * k + c) (λ b l e. omega arith))) (u.here k l (three k l t) c b)))

  words : Words new supports
  words = record {
    spread = λ k l t. s (u.told k l (three k l t));
    by_second = λ k h m hk t hh hm. union_of supports k h m _ _ (omega arith) (union_at k (16 * h + m) h m _ hk t (omega arith) (omega arith) (omega arith) (omega arith)) (second k h hh);
    by_third = λ k h m hk t hh hm. union_of supports k (2 + h) m _ _ (omega arith) (union_at k (32 + 16 * h + m) (2 + h) m _ hk t (omega arith) (omega arith) (omega arith) (omega arith))
        (third k h hh);
  }
    where
      second : (k h : ℕ) → h < 2 → (i r : ℕ) → i < 4 → Word supports k (4 * h + i) r → Lanes (λ j. at supports (256 * k + 16 * j + (4 * h + i))) r
      second k h hh i r l q v w a b =
          let e : 256 * k + (4 * h + i) % 8 + 16 * v ≡ 256 * k + 16 * v + (4 * h + i) = omega arith in
          q.second (omega arith) v w a b ∙ ap (λ (n : ℕ). has (at supports n) w) e

      third : (k h : ℕ) → h < 2 → (i r : ℕ) → i < 4 → Word supports k (4 * (2 + h) + i) r → Lanes (between supports k (4 * h + i)) r
      third k h hh i r l q v w a b =
          let e : (4 * (2 + h) + i) % 8 ≡ 4 * h + i = omega arith in
          q.third (omega arith) v w a b ∙ ap (λ (n : ℕ). has (between supports k n v) w) e

  pub worded : Worded supports old new
  worded = record { size = size ∙ u.size; kept = low; words = λ h. words }
