-- A slot is free, or has the key, exactly where question 32 is passed. Assumes nothing.
use Rattle.model.specs.Kit.{◌≡◌, refl, sym, ap, ◌∙◌, subst, Bool, true, false, not, List, map, Memᴰ, Memᴰ-map, Memᴰ-of_map, ℕ, zero, suc, ◌+◌, ◌≤◌, ◌<◌, arith, T, ltb, eqb, length, length-map}
use Rattle.model.specs.Kit.{ltb-true, ltb-false, lt-ltb, le-ltb, ne_eqb, eqb-false}
use Rattle.model.specs.{ValueSets.least, Lists.either, Lists.keep, Lists.below, Lists.up_from, Lists.at}
use Rattle.model.proofs.Lists.{T_of, of_T, keep_i, keep_e, below_i, below_e, length_below}
use Rattle.model.proofs.{Counting.distinct_below, Counting.no_more, Least.first_no, Least.first_yes}
use Rattle.store.specs.{Store.is_table, Store.keys_of, Inner.Layout.slot_at, Inner.Layout.slot_with, Inner.Layout.store_of, Inner.Layout.is_free, Inner.Layout.slot_for}
use Rattle.store.proofs.Store.{keys_distinct}
use Rattle.store.proofs.Slots.{holds_e, holds_i, with_holds, with_before, entry_there, entry_none, for_held, for_free, free_no}

module _ (b : List ℕ) (o : ℕ) (own : o < 4) where
  -- a key has a table exactly where it has a slot
  pub held_with : (key : ℕ) → is_table (store_of b o key) ≡ ltb (slot_with b o key) 4
  held_with key = go (ltb (slot_with b o key) 4) refl
    where
      go : (t : Bool) → ltb (slot_with b o key) 4 ≡ t → is_table (store_of b o key) ≡ t
      go true e = ap is_table (entry_there b o key own (ltb-true (slot_with b o key) 4 e))
      go false e = ap is_table (entry_none b o key (ltb-false (slot_with b o key) 4 e))

  -- the key that stands in a slot
  key_at : ℕ → ℕ
  key_at i = at b (slot_at o i + 1)

  -- a slot that is not free is its key's
  used : (i : ℕ) → is_free b o i ≡ false → slot_with b o (key_at i) ≡ i
  unfolding is_free key_at
  used i e = go (eqb (at b (slot_at o i)) 0) refl e
    where
      go : (t : Bool) → eqb (at b (slot_at o i)) 0 ≡ t → either t (ltb (slot_with b o (at b (slot_at o i + 1))) i) ≡ false → slot_with b o (at b (slot_at o i + 1)) ≡ i
      go true q f = absurd (subst T f tt)
      go false q f =
          let l = ltb-false (slot_with b o (at b (slot_at o i + 1))) i f in
          let m = with_before b o (at b (slot_at o i + 1)) i (holds_i b (at b (slot_at o i + 1)) (slot_at o i) (eqb-false (at b (slot_at o i)) 0 q) refl) in
          omega arith

  module _ (bytes : (i : ℕ) → at b i < 256) where
    -- no slot is free: the four keys are held
    none_free : 4 ≤ least 4 (is_free b o) → 4 ≤ length (keys_of (store_of b o))
    unfolding keys_of key_at
    none_free h =
        let n = length_below key_at 4 in
        let m = no_more (map key_at (below 4)) (keys_of (store_of b o)) (distinct_below key_at 4 (λ i j l k e. sym (four i l) ∙ ap (slot_with b o) e ∙ four j k)) held in
        omega arith
      where
        four : (i : ℕ) → i < 4 → slot_with b o (key_at i) ≡ i
        four i l = used i (first_no (is_free b o) 4 i (omega arith))

        held : (k : ℕ) → Memᴰ k (map key_at (below 4)) → Memᴰ k (keys_of (store_of b o))
        held k m =
            let r = Memᴰ-of_map key_at (below 4) m in
            let l = below_e 4 r.0 r.1 in
            let w = four r.0 l in
            subst (λ (z : ℕ). Memᴰ z (keys_of (store_of b o))) r.2
            (keep_i (λ key. is_table (store_of b o key)) (below 256) (key_at r.0) (below_i 256 (key_at r.0) (bytes (slot_at o r.0 + 1)))
            (T_of _ (held_with (key_at r.0) ∙ lt-ltb (slot_with b o (key_at r.0)) 4 (omega arith))))

  -- a slot is free: the other three have all keys that are held
  others : ℕ → List ℕ
  others i = keep (λ j. not (eqb j i)) (below 4)

  three : (i : ℕ) → i < 4 → length (others i) ≡ 3
  unfolding others keep below up_from
  three zero h = refl
  three (suc zero) h = refl
  three (suc (suc zero)) h = refl
  three (suc (suc (suc zero))) h = refl
  three (suc (suc (suc (suc i)))) h = absurd (omega arith)

  some_free : least 4 (is_free b o) < 4 → length (keys_of (store_of b o)) < 4
  unfolding keys_of key_at others
  some_free h =
      let n = three i h in
      let l = length-map (others i) key_at in
      let m = no_more (keys_of (store_of b o)) (map key_at (others i)) (keys_distinct (store_of b o)) slot in
      omega arith
    where
      i : ℕ
      i = least 4 (is_free b o)

      slot : (k : ℕ) → Memᴰ k (keys_of (store_of b o)) → Memᴰ k (map key_at (others (least 4 (is_free b o))))
      slot k m =
          let t = (keep_e (λ key. is_table (store_of b o key)) (below 256) k m).1 in
          let w : slot_with b o k < 4 = ltb-true (slot_with b o k) 4 (sym (held_with k) ∙ of_T _ t) in
          let e = (holds_e b k (slot_at o (slot_with b o k)) (with_holds b o k w)).1 in
          let n : (slot_with b o k ≡ least 4 (is_free b o) → ⊥) = free_no b o (least 4 (is_free b o)) k h (first_yes (is_free b o) 4 h) in
          subst (λ (z : ℕ). Memᴰ z (map key_at (others (least 4 (is_free b o))))) e
          (Memᴰ-map key_at (keep_i (λ j. not (eqb j (least 4 (is_free b o)))) (below 4) (slot_with b o k) (below_i 4 (slot_with b o k) w)
          (T_of _ (ap not (ne_eqb (slot_with b o k) (least 4 (is_free b o)) n)))))

  -- question 32
  pub room_left : ((i : ℕ) → at b i < 256) → (key : ℕ) → either (is_table (store_of b o key)) (ltb (length (keys_of (store_of b o))) 4) ≡ ltb (slot_for b o key) 4
  room_left bytes key = ap (λ (t : Bool). either t (ltb (length (keys_of (store_of b o))) 4)) (held_with key) ∙ go (ltb (slot_with b o key) 4) refl
    where
      free : ltb (length (keys_of (store_of b o))) 4 ≡ ltb (least 4 (is_free b o)) 4
      free = step (ltb (least 4 (is_free b o)) 4) refl
        where
          step : (t : Bool) → ltb (least 4 (is_free b o)) 4 ≡ t → ltb (length (keys_of (store_of b o))) 4 ≡ t
          step true e = lt-ltb (length (keys_of (store_of b o))) 4 (some_free (ltb-true (least 4 (is_free b o)) 4 e))
          step false e = le-ltb (length (keys_of (store_of b o))) 4 (none_free bytes (ltb-false (least 4 (is_free b o)) 4 e))

      go : (t : Bool) → ltb (slot_with b o key) 4 ≡ t → either t (ltb (length (keys_of (store_of b o))) 4) ≡ ltb (slot_for b o key) 4
      go true e = sym (ap (λ (i : ℕ). ltb i 4) (for_held b o key (ltb-true (slot_with b o key) 4 e)) ∙ e)
      go false e = free ∙ sym (ap (λ (i : ℕ). ltb i 4) (for_free b o key (ltb-false (slot_with b o key) 4 e)))
