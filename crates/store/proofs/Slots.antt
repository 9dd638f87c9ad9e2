-- What the store's bytes mean (specs/Inner/Layout), and what they mean after a table was put into a slot and after slots were freed. Assumes nothing.
use Rattle.model.specs.Kit.{◌≡◌, refl, sym, ap, ap₂, ◌∙◌, subst, Bool, true, false, not, ⊎_elim, List, ◌∷◌, ◌++◌, append_assoc, ℕ, zero, suc, ◌+◌, ◌*◌, ◌/◌, ◌%◌, ◌≤◌, ◌<◌, min, add-one, arith}
use Rattle.model.specs.Kit.{T_not, ltb, eqb, eqb→eq, length, take, drop, set, length-take, length-drop, length-set, get_or-drop, length-take-le, ltb-true, ltb-false, lt-ltb, le-ltb, eq-eqb, ne_eqb}
use Rattle.model.specs.Kit.{eqb-true, eqb-false}
use Rattle.model.specs.{ValueSets.least, Lists.both, Lists.either, Lists.choose, Lists.at, Sheet.«word», Bytes.two_bytes, Written.placed}
use lib.Seq.{take-append_seam, drop_at}
use Rattle.model.proofs.Lists.{T_of, of_T, not_of, both_l, both_r, either_e, at_take, at_ext, at_set, at_set_other}
use Rattle.model.proofs.Written.{length_placed, placed_then, placed_before, placed_in, placed_after}
use Rattle.model.proofs.Least.{first_is, first_most, first_no, first_yes, first_before, first_same}
use Rattle.store.specs.{Store.StoreEntry, Store.none, Store.table, Store.size, Inner.Layout.slot_at, Inner.Layout.holds, Inner.Layout.table_at, Inner.Layout.slot_with, Inner.Layout.store_of}
use Rattle.std.proofs.Common.{Option, Some, None}
use Rattle.std.specs.Option.{is_some, MatchOption}
use Rattle.store.specs.Inner.Layout.{slot_in, is_free, slot_for, slot_bytes, freed}

-- a text put at the front is read back
pub read_back : (b t c : List ℕ) → c ≡ placed b 0 t → take (length t) c ≡ t
unfolding placed
read_back b t c e = ap (take (length t)) e ∙ take-append_seam t (drop (0 + length t) b)

-- ---- slots with the same bytes
part_same : (b c : List ℕ) (from n : ℕ) → length c ≡ length b → ((i : ℕ) → from ≤ i → i < from + n → at c i ≡ at b i) → take n (drop from c) ≡ take n (drop from b)
unfolding at
part_same b c from n e h = at_ext (take n (drop from c)) (take n (drop from b)) lengths each
  where
    lengths : length (take n (drop from c)) ≡ length (take n (drop from b))
    lengths = simp (length-take, length-drop, e)

    each : (i : ℕ) → i < length (take n (drop from c)) → at (take n (drop from c)) i ≡ at (take n (drop from b)) i
    each i l =
        let k : i < n = omega (arith, length-take n (drop from c)) in
        at_take n (drop from c) i k ∙ get_or-drop from c i 0 ∙ h (from + i) (omega arith) (omega arith) ∙ sym (at_take n (drop from b) i k ∙ get_or-drop from b i 0)

abbrev pub SameSlot : List ℕ → List ℕ → ℕ → Type 0
SameSlot b c p = (i : ℕ) → p ≤ i → i < p + 2052 → at c i ≡ at b i

same_holds : (b c : List ℕ) (p : ℕ) → SameSlot b c p → (key : ℕ) → holds c key p ≡ holds b key p
unfolding holds
same_holds b c p same key = ap₂ (λ (x y : ℕ). both (not (eqb x 0)) (eqb y key)) (same p (omega arith) (omega arith)) (same (p + 1) (omega arith) (omega arith))

-- the table needs only the bytes after flag and key
same_table : (b c : List ℕ) (p : ℕ) → ((i : ℕ) → p + 2 ≤ i → i < p + 2052 → at c i ≡ at b i) → length c ≡ length b → table_at c p ≡ table_at b p
unfolding table_at «word»
same_table b c p same e =
    let w : «word» c (p + 2) ≡ «word» b (p + 2) = ap₂ (λ (x y : ℕ). x + 256 * y) (same (p + 2) (omega arith) (omega arith)) (same (p + 2 + 1) (omega arith) (omega arith)) in
    let m = min 2048 («word» b (p + 2)) in
    let l : m ≤ 2048 = omega arith in
    ap (λ (k : ℕ). take (min 2048 k) (drop (p + 4) c)) w ∙ part_same b c (p + 4) m e (λ i g h. same i (omega arith) (omega arith))

-- ---- a slot of four, or none
pub slot_some : (k i : ℕ) → k ≡ i → i < 4 → Some i ≡ slot_in k
slot_some k i e h = sym (ap slot_in e ∙ ap (λ (b : Bool). choose b (Some i) None) (lt-ltb i 4 h))

pub slot_none : (k : ℕ) → 4 ≤ k → None ≡ slot_in k
slot_none k h = sym (ap (λ (b : Bool). choose b (Some k) None) (le-ltb k 4 h))

pub slot_is : (k i : ℕ) → Some i ≡ slot_in k → (k ≡ i) × (i < 4)
slot_is k i e = go (ltb k 4) refl e
  where
    go : (b : Bool) → ltb k 4 ≡ b → Some i ≡ choose b (Some k) None → (k ≡ i) × (i < 4)
    go true t z = let s : k ≡ i = cc in let l = ltb-true k 4 t in (s, omega arith)
    go false t z = absurd (cc)

pub slot_not : (k : ℕ) → None ≡ slot_in k → 4 ≤ k
slot_not k e = go (ltb k 4) refl e
  where
    go : (b : Bool) → ltb k 4 ≡ b → None ≡ choose b (Some k) None → 4 ≤ k
    go true t z = absurd (cc)
    go false t z = ltb-false k 4 t

-- the same by the library's test
pub slot_no : (o : Option ℕ) (k : ℕ) (r : Bool) → o ≡ slot_in k → is_some o ≡ not r → r ≡ true → 4 ≤ k
slot_no None k r e t z = slot_not k e
slot_no (Some i) k r e t z = absurd (cc)

pub slot_yes : (o : Option ℕ) (k : ℕ) (r : Bool) → o ≡ slot_in k → is_some o ≡ not r → r ≡ false → k < 4
slot_yes None k r e t z = absurd (cc)
slot_yes (Some i) k r e t z = let h = slot_is k i e in omega (arith, h.0, h.1)

-- a slot that is before another
pub before_slot : (o : Option ℕ) (k i : ℕ) (r : Bool) (P : ℕ → Type 0) → o ≡ slot_in k → MatchOption o (r ≡ false) P → ((x : ℕ) → P x → r ≡ ltb x i) → i < 4 → r ≡ ltb k i
before_slot None k i r P e m f h = m ∙ sym (le-ltb k i (omega (arith, slot_not k e)))
before_slot (Some x) k i r P e m f h = f x m ∙ ap (λ (z : ℕ). ltb z i) (sym (slot_is k x e).0)

-- ---- a slot and its key
pub holds_e : (b : List ℕ) (key p : ℕ) → holds b key p ≡ true → (at b p ≡ 0 → ⊥) × (at b (p + 1) ≡ key)
unfolding holds
holds_e b key p e =
    let t = T_of (both (not (eqb (at b p) 0)) (eqb (at b (p + 1)) key)) e in (
      λ z. T_not (eqb (at b p) 0) (both_l (not (eqb (at b p) 0)) (eqb (at b (p + 1)) key) t) (T_of (eqb (at b p) 0) (eq-eqb (at b p) 0 z)),
      eqb→eq (at b (p + 1)) key (both_r (not (eqb (at b p) 0)) (eqb (at b (p + 1)) key) t),
    )

pub holds_i : (b : List ℕ) (key p : ℕ) → (at b p ≡ 0 → ⊥) → at b (p + 1) ≡ key → holds b key p ≡ true
unfolding holds
holds_i b key p n e = ap₂ (λ (x y : Bool). both (not x) y) (ne_eqb (at b p) 0 n) (eq-eqb (at b (p + 1)) key e)

pub holds_free : (b : List ℕ) (key p : ℕ) → at b p ≡ 0 → holds b key p ≡ false
unfolding holds
holds_free b key p e = ap (λ (x : Bool). both (not x) (eqb (at b (p + 1)) key)) (eq-eqb (at b p) 0 e)

pub holds_held : (b : List ℕ) (key p : ℕ) → (at b p ≡ 0 → ⊥) → holds b key p ≡ eqb (at b (p + 1)) key
unfolding holds
holds_held b key p n = ap (λ (x : Bool). both (not x) (eqb (at b (p + 1)) key)) (ne_eqb (at b p) 0 n)

-- the slot of a key has it, and no slot before it
module _ (b : List ℕ) (o key : ℕ) where
  pub with_most : slot_with b o key ≤ 4
  unfolding slot_with
  with_most = first_most (λ i. holds b key (slot_at o i)) 4

  pub with_holds : slot_with b o key < 4 → holds b key (slot_at o (slot_with b o key)) ≡ true
  unfolding slot_with
  with_holds h = first_yes (λ i. holds b key (slot_at o i)) 4 h

  pub with_no : (i : ℕ) → i < slot_with b o key → holds b key (slot_at o i) ≡ false
  unfolding slot_with
  with_no i h = first_no (λ i. holds b key (slot_at o i)) 4 i h

  pub with_before : (i : ℕ) → holds b key (slot_at o i) ≡ true → slot_with b o key ≤ i
  unfolding slot_with
  with_before i e = first_before (λ i. holds b key (slot_at o i)) 4 i e

  pub with_is : (i : ℕ) → i ≤ 4 → ((j : ℕ) → j < i → holds b key (slot_at o j) ≡ false) → (i < 4 → holds b key (slot_at o i) ≡ true) → slot_with b o key ≡ i
  unfolding slot_with
  with_is i h g e = first_is (λ i. holds b key (slot_at o i)) 4 i h g e

  -- the entry that it means
  abbrev entry : Bool → StoreEntry
  entry t = choose t (table (table_at b (slot_at o (slot_with b o key)))) none

  pub entry_there : o < 4 → slot_with b o key < 4 → store_of b o key ≡ table (table_at b (slot_at o (slot_with b o key)))
  unfolding store_of
  entry_there h k = ap₂ (λ (x y : Bool). entry (both x y)) (lt-ltb o 4 h) (lt-ltb (slot_with b o key) 4 k)

  pub entry_none : 4 ≤ slot_with b o key → store_of b o key ≡ none
  unfolding store_of
  entry_none k = ap (λ (y : Bool). entry (both (ltb o 4) y)) (le-ltb (slot_with b o key) 4 k) ∙ go (ltb o 4)
    where
      go : (t : Bool) → entry (both t false) ≡ none
      go true = refl
      go false = refl

  pub entry_out : 4 ≤ o → store_of b o key ≡ none
  unfolding store_of
  entry_out h = ap (λ (x : Bool). entry (both x (ltb (slot_with b o key) 4))) (le-ltb o 4 h)

-- where the key's slot is the same in two stores, and its table, the entries are the same
pub entry_same : (b c : List ℕ) (o key : ℕ) → slot_with c o key ≡ slot_with b o key → (slot_with b o key < 4 → table_at c (slot_at o (slot_with b o key)) ≡ table_at b (slot_at o (slot_with b o key)))
    → store_of c o key ≡ store_of b o key
entry_same b c o key e f = go (ltb o 4) refl (ltb (slot_with b o key) 4) refl
  where
    go : (x : Bool) → ltb o 4 ≡ x → (y : Bool) → ltb (slot_with b o key) 4 ≡ y → store_of c o key ≡ store_of b o key
    go false p y q = let h = ltb-false o 4 p in entry_out c o key h ∙ sym (entry_out b o key h)
    go true p false q = let k = ltb-false (slot_with b o key) 4 q in entry_none c o key (omega (arith, e)) ∙ sym (entry_none b o key k)
    go true p true q =
        let h = ltb-true o 4 p in
        let k = ltb-true (slot_with b o key) 4 q in
        entry_there c o key h (omega (arith, e)) ∙ ap (λ (i : ℕ). table (table_at c (slot_at o i))) e ∙ ap table (f k) ∙ sym (entry_there b o key h k)

-- an owner none of whose slots changed
pub owner_same : (b c : List ℕ) (o : ℕ) → length c ≡ length b → (o < 4 → (i : ℕ) → i < 4 → SameSlot b c (slot_at o i)) → (key : ℕ) → store_of c o key ≡ store_of b o key
unfolding slot_with
owner_same b c o e s key = go (ltb o 4) refl
  where
    go : (x : Bool) → ltb o 4 ≡ x → store_of c o key ≡ store_of b o key
    go false p = let h = ltb-false o 4 p in entry_out c o key h ∙ sym (entry_out b o key h)
    go true p =
        let l = ltb-true o 4 p in
        entry_same b c o key (first_same (λ i. holds c key (slot_at o i)) (λ i. holds b key (slot_at o i)) 4 (λ i h. same_holds b c (slot_at o i) (s l i h) key))
        (λ h. same_table b c (slot_at o (slot_with b o key)) (λ i g m. s l (slot_with b o key) h i (omega arith) m) e)

-- ---- the slot where a table goes
module _ (b : List ℕ) (o key : ℕ) where
  pub for_held : slot_with b o key < 4 → slot_for b o key ≡ slot_with b o key
  unfolding slot_for
  for_held h = ap (λ (t : Bool). choose t (slot_with b o key) (least 4 (is_free b o))) (lt-ltb (slot_with b o key) 4 h)

  pub for_free : 4 ≤ slot_with b o key → slot_for b o key ≡ least 4 (is_free b o)
  unfolding slot_for
  for_free h = ap (λ (t : Bool). choose t (slot_with b o key) (least 4 (is_free b o))) (le-ltb (slot_with b o key) 4 h)

  -- no slot before it has the key
  pub for_before : slot_for b o key ≤ slot_with b o key
  for_before = go (ltb (slot_with b o key) 4) refl
    where
      go : (t : Bool) → ltb (slot_with b o key) 4 ≡ t → slot_for b o key ≤ slot_with b o key
      go true e = let f = for_held (ltb-true (slot_with b o key) 4 e) in omega arith
      go false e =
          let k = ltb-false (slot_with b o key) 4 e in
          let f = for_free k in
          let m = first_most (is_free b o) 4 in
          omega arith

-- the two ways to be free
pub free_unheld : (b : List ℕ) (o i : ℕ) → at b (slot_at o i) ≡ 0 → is_free b o i ≡ true
unfolding is_free
free_unheld b o i e = ap (λ (x : Bool). either x (ltb (slot_with b o (at b (slot_at o i + 1))) i)) (eq-eqb (at b (slot_at o i)) 0 e)

pub free_held : (b : List ℕ) (o i : ℕ) → (at b (slot_at o i) ≡ 0 → ⊥) → is_free b o i ≡ ltb (slot_with b o (at b (slot_at o i + 1))) i
unfolding is_free
free_held b o i n = ap (λ (x : Bool). either x (ltb (slot_with b o (at b (slot_at o i + 1))) i)) (ne_eqb (at b (slot_at o i)) 0 n)

-- a free slot is no key's
pub free_no : (b : List ℕ) (o i key : ℕ) → i < 4 → is_free b o i ≡ true → slot_with b o key ≡ i → ⊥
unfolding is_free
free_no b o i key h e q =
    ⊎_elim {C = ⊥} (λ z. own.0 (eqb→eq (at b (slot_at o i)) 0 z)) (λ l. let k = ltb-true (slot_with b o (at b (slot_at o i + 1))) i (of_T _ l) in let r = ap (slot_with b o) own.1 in omega arith)
    (either_e (eqb (at b (slot_at o i)) 0) (ltb (slot_with b o (at b (slot_at o i + 1))) i) (T_of _ e))
  where
    own : (at b (slot_at o i) ≡ 0 → ⊥) × (at b (slot_at o i + 1) ≡ key)
    own = holds_e b key (slot_at o i) (subst (λ (j : ℕ). holds b key (slot_at o j) ≡ true) q (with_holds b o key (omega arith)))

-- nor is the slot where a table goes another key's
pub for_no : (b : List ℕ) (o key k : ℕ) → slot_for b o key < 4 → (key ≡ k → ⊥) → slot_with b o k ≡ slot_for b o key → ⊥
for_no b o key k h n e = go (ltb (slot_with b o key) 4) refl
  where
    go : (t : Bool) → ltb (slot_with b o key) 4 ≡ t → ⊥
    go true q =
        let l = ltb-true (slot_with b o key) 4 q in
        let f = e ∙ for_held b o key l in
        n (sym (holds_e b key _ (with_holds b o key l)).1 ∙ ap (λ (i : ℕ). at b (slot_at o i + 1)) (sym f) ∙ (holds_e b k _ (with_holds b o k (omega arith))).1)
    go false q =
        let f = for_free b o key (ltb-false (slot_with b o key) 4 q) in
        free_no b o (least 4 (is_free b o)) k (omega arith) (first_yes (is_free b o) 4 (omega arith)) (e ∙ f)

-- ---- a table put into the slot where it goes
module _ (b : List ℕ) (whole : length b ≡ size) (o key : ℕ) (t : List ℕ) (own : o < 4) (short : length t ≤ 2048) (room : slot_for b o key < 4) where
  abbrev pub after : List ℕ
  after = placed b (slot_at o (slot_for b o key)) (slot_bytes key t)

  slot_length : length (slot_bytes key t) ≡ 4 + length t
  unfolding slot_bytes
  slot_length = omega arith

  fits : slot_at o (slot_for b o key) + length (slot_bytes key t) ≤ length b
  fits = let e = slot_length in omega arith

  after_length : length after ≡ length b
  after_length = length_placed b (slot_at o (slot_for b o key)) (slot_bytes key t) fits

  other_slot : (o' i : ℕ) → o' < 4 → i < 4 → (o' ≡ o → i ≡ slot_for b o key → ⊥) → SameSlot b after (slot_at o' i)
  other_slot o' i h k n j g l = go (ltb (slot_at o' i) (slot_at o (slot_for b o key))) refl
    where
      go : (s : Bool) → ltb (slot_at o' i) (slot_at o (slot_for b o key)) ≡ s → at (placed b (slot_at o (slot_for b o key)) (slot_bytes key t)) j ≡ at b j
      go true e =
          let q = ltb-true (slot_at o' i) (slot_at o (slot_for b o key)) e in
          placed_before b (slot_at o (slot_for b o key)) (slot_bytes key t) fits j (omega arith)
      go false e =
          let q = ltb-false (slot_at o' i) (slot_at o (slot_for b o key)) e in
          let w : slot_at o (slot_for b o key) + 2052 ≤ slot_at o' i = apart (ltb o o') refl (ltb (slot_for b o key) i) refl q in
          let z = slot_length in
          placed_after b (slot_at o (slot_for b o key)) (slot_bytes key t) fits j (omega arith)
        where
          apart : (x : Bool) → ltb o o' ≡ x → (y : Bool) → ltb (slot_for b o key) i ≡ y → slot_at o (slot_for b o key) ≤ slot_at o' i → slot_at o (slot_for b o key) + 2052 ≤ slot_at o' i
          apart true e y f q = let r = ltb-true o o' e in omega arith
          apart false e true f q = let r = ltb-false o o' e in let s = ltb-true (slot_for b o key) i f in omega arith
          apart false e false f q =
              let r = ltb-false o o' e in
              let s = ltb-false (slot_for b o key) i f in
              absurd (n (omega arith) (omega arith))

  own_byte : (i : ℕ) → i < 4 + length t → at after (slot_at o (slot_for b o key) + i) ≡ at (slot_bytes key t) i
  own_byte i h = let e = slot_length in placed_in b (slot_at o (slot_for b o key)) (slot_bytes key t) fits i (omega arith)

  own_holds : (k : ℕ) → holds after k (slot_at o (slot_for b o key)) ≡ eqb key k
  unfolding holds slot_bytes at
  own_holds k =
      let z : slot_at o (slot_for b o key) + 0 ≡ slot_at o (slot_for b o key) = omega arith in
      ap₂ (λ (x y : ℕ). both (not (eqb x 0)) (eqb y k)) (sym (ap (at after) z) ∙ own_byte 0 (omega arith)) (own_byte 1 (omega arith))

  own_table : table_at after (slot_at o (slot_for b o key)) ≡ t
  unfolding table_at «word» slot_bytes at placed
  own_table =
      let p : ℕ = slot_at o (slot_for b o key) in
      let z : p + 2 + 1 ≡ p + 3 = omega arith in
      let w : «word» after (p + 2) ≡ length t % 256 + 256 * (length t / 256) = ap₂ (λ (x y : ℕ). x + 256 * y) (own_byte 2 (omega arith)) (ap (at after) z ∙ own_byte 3 (omega arith)) in
      let m : min 2048 (length t % 256 + 256 * (length t / 256)) ≡ length t = omega arith in
      let h : List ℕ = 1 ∷ key ∷ two_bytes (length t) in
      let d : List ℕ = placed b p h in
      let e : length d ≡ length b = length_placed b p h (omega arith) in
      let f : placed d (p + 4) t ≡ after = placed_then b p h (omega arith) t in
      let g : drop (p + 4) after ≡ t ++ drop (p + 4 + length t) d =
      ap (drop (p + 4)) (sym f ∙ append_assoc (take (p + 4) d) t (drop (p + 4 + length t) d))
      ∙ drop_at (take (p + 4) d) (t ++ drop (p + 4 + length t) d) (p + 4) (length-take-le (p + 4) d (omega arith)) in
      ap₂ (λ (k : ℕ) (l : List ℕ). take k l) (ap (min 2048) w ∙ m) g ∙ take-append_seam t (drop (p + 4 + length t) d)

  -- a key's slots other than this one hold it as before
  other_holds : (i k : ℕ) → i < 4 → (i ≡ slot_for b o key → ⊥) → holds after k (slot_at o i) ≡ holds b k (slot_at o i)
  other_holds i k h n = same_holds b after (slot_at o i) (other_slot o i own h (λ e. n)) k

  pub put_here : store_of after o key ≡ table t
  put_here = entry_there after o key own (omega (arith, with)) ∙ ap (λ (i : ℕ). table (table_at after (slot_at o i))) with ∙ ap table own_table
    where
      with : slot_with after o key ≡ slot_for b o key
      with = with_is after o key (slot_for b o key) (omega arith)
          (λ j h. let m = for_before b o key in other_holds j key (omega arith) (λ e. omega arith) ∙ with_no b o key j (omega arith))
          (λ h. own_holds key ∙ eq-eqb key key refl)

  pub put_there : (k : ℕ) → (key ≡ k → ⊥) → store_of after o k ≡ store_of b o k
  put_there k n = entry_same b after o k with (λ h. same_table b after (slot_at o (slot_with b o k)) (λ i g l. other_slot o (slot_with b o k) own h (λ e. not_it) i (omega arith) l) after_length)
    where
      not_it : slot_with b o k ≡ slot_for b o key → ⊥
      not_it e = for_no b o key k room n e

      same : (j : ℕ) → (x : Bool) → holds b k (slot_at o j) ≡ x → (j ≡ slot_for b o key → x ≡ false) → j < 4 → holds after k (slot_at o j) ≡ x
      same j x e f h = go (eqb j (slot_for b o key)) refl
        where
          go : (y : Bool) → eqb j (slot_for b o key) ≡ y → holds after k (slot_at o j) ≡ x
          go true q =
              let z = eqb-true j (slot_for b o key) q in
              ap (λ (i : ℕ). holds after k (slot_at o i)) z ∙ own_holds k ∙ ne_eqb key k n ∙ sym (f z)
          go false q = other_holds j k h (eqb-false j (slot_for b o key) q) ∙ e

      with : slot_with after o k ≡ slot_with b o k
      with = let m = with_most b o k in
          with_is after o k (slot_with b o k) m
          (λ j h. same j false (with_no b o k j h) (λ e. refl) (omega arith))
          (λ h. same (slot_with b o k) true (with_holds b o k h) (λ e. absurd (not_it e)) h)

  pub put_elsewhere : (o' k : ℕ) → (o ≡ o' → ⊥) → store_of after o' k ≡ store_of b o' k
  put_elsewhere o' k n = owner_same b after o' after_length (λ h i l. other_slot o' i h l (λ q. absurd (n (sym q)))) k

-- ---- slots freed
module _ (b : List ℕ) (o key : ℕ) where
  abbrev pick_freed : List ℕ → ℕ → Bool → List ℕ
  pick_freed c p t = choose t (set c p 0) c

  pub freed_length : (n : ℕ) → length (freed b o key n) ≡ length b
  unfolding freed
  freed_length zero = refl
  freed_length (suc n) = go (holds (freed b o key n) key (slot_at o n)) (freed_length n)
    where
      go : (t : Bool) → length (freed b o key n) ≡ length b → length (pick_freed (freed b o key n) (slot_at o n) t) ≡ length b
      go true e = length-set (freed b o key n) (slot_at o n) 0 ∙ e
      go false e = e

  -- one slot more
  module _ (c : List ℕ) (i p : ℕ) (e : c ≡ freed b o key i) (f : p ≡ slot_at o i) where
    freed_next : (t : Bool) → holds c key p ≡ t → pick_freed c p t ≡ freed b o key (i + 1)
    unfolding freed
    freed_next t q =
        let d = freed b o key i in
        ap (pick_freed c p) (sym q ∙ ap₂ (λ (l : List ℕ) (m : ℕ). holds l key m) e f)
        ∙ ap₂ (λ (l : List ℕ) (m : ℕ). pick_freed l m (holds d key (slot_at o i))) e f
        ∙ ap (freed b o key) (sym (add-one i))

    pub freed_taken : holds c key p ≡ true → set c p 0 ≡ freed b o key (i + 1)
    freed_taken q = freed_next true q

    pub freed_left : holds c key p ≡ false → c ≡ freed b o key (i + 1)
    freed_left q = freed_next false q

  -- all bytes but the flags stay
  pub freed_other : (n j : ℕ) → ((i : ℕ) → i < n → j ≡ slot_at o i → ⊥) → at (freed b o key n) j ≡ at b j
  unfolding freed
  freed_other zero j h = refl
  freed_other (suc n) j h = go (holds (freed b o key n) key (slot_at o n)) (freed_other n j (λ i l. h i (omega arith)))
    where
      go : (t : Bool) → at (freed b o key n) j ≡ at b j → at (pick_freed (freed b o key n) (slot_at o n) t) j ≡ at b j
      go true e = at_set_other (freed b o key n) (slot_at o n) 0 j (h n (omega arith)) ∙ e
      go false e = e

  -- a flag is 0 where its slot held the key
  abbrev pick_flag : ℕ → Bool → ℕ
  pick_flag x t = choose t 0 x

  freed_flag : length b ≡ size → o < 4 → (n i : ℕ) → i < n → n ≤ 4 → at (freed b o key n) (slot_at o i) ≡ pick_flag (at b (slot_at o i)) (holds b key (slot_at o i))
  unfolding freed
  freed_flag whole own zero i h l = absurd (omega arith)
  freed_flag whole own (suc n) i h l = go (eqb i n) refl (λ m. freed_flag whole own n i m (omega arith))
    where
      c : List ℕ
      c = freed b o key n

      -- slot n before its turn
      before : (j : ℕ) → slot_at o n ≤ j → at (freed b o key n) j ≡ at b j
      before j g = freed_other n j (λ i h e. omega arith)

      turn : holds (freed b o key n) key (slot_at o n) ≡ holds b key (slot_at o n)
      turn = same_holds b (freed b o key n) (slot_at o n) (λ j g m. before j g) key

      last : (t : Bool) → at (pick_freed (freed b o key n) (slot_at o n) t) (slot_at o n) ≡ pick_flag (at b (slot_at o n)) t
      last true = at_set (freed b o key n) (slot_at o n) 0 (omega (arith, freed_length n))
      last false = before (slot_at o n) (omega arith)

      earlier : (i < n) → (t : Bool) → at (pick_freed (freed b o key n) (slot_at o n) t) (slot_at o i) ≡ at (freed b o key n) (slot_at o i)
      earlier h true = at_set_other (freed b o key n) (slot_at o n) 0 (slot_at o i) (λ e. omega arith)
      earlier h false = refl

      go : (x : Bool) → eqb i n ≡ x → (i < n → at (freed b o key n) (slot_at o i) ≡ pick_flag (at b (slot_at o i)) (holds b key (slot_at o i))) →
          at (pick_freed (freed b o key n) (slot_at o n) (holds (freed b o key n) key (slot_at o n))) (slot_at o i) ≡ pick_flag (at b (slot_at o i)) (holds b key (slot_at o i))
      go true e ih =
          subst (λ (m : ℕ). at (pick_freed (freed b o key n) (slot_at o n) (holds (freed b o key n) key (slot_at o n))) (slot_at o m) ≡ pick_flag (at b (slot_at o m)) (holds b key (slot_at o m)))
          (sym (eqb-true i n e))
          (last (holds (freed b o key n) key (slot_at o n)) ∙ ap (pick_flag (at b (slot_at o n))) turn)
      go false e ih =
          let m = eqb-false i n e in
          let k : i < n = omega arith in
          earlier k (holds (freed b o key n) key (slot_at o n)) ∙ ih k

  module _ (whole : length b ≡ size) (own : o < 4) (i : ℕ) (h : i < 4) where
    -- a slot that held the key holds nothing, any other what it held
    freed_gone : (k : ℕ) → holds b key (slot_at o i) ≡ true → holds (freed b o key 4) k (slot_at o i) ≡ false
    freed_gone k e = holds_free (freed b o key 4) k (slot_at o i) (freed_flag whole own 4 i h (omega arith) ∙ ap (pick_flag (at b (slot_at o i))) e)

    freed_stays : (k : ℕ) → holds b key (slot_at o i) ≡ false → holds (freed b o key 4) k (slot_at o i) ≡ holds b k (slot_at o i)
    unfolding holds
    freed_stays k e =
        ap₂ (λ (x y : ℕ). both (not (eqb x 0)) (eqb y k)) (freed_flag whole own 4 i h (omega arith) ∙ ap (pick_flag (at b (slot_at o i))) e)
        (freed_other 4 (slot_at o i + 1) (λ j l q. omega arith))

    freed_table : table_at (freed b o key 4) (slot_at o i) ≡ table_at b (slot_at o i)
    freed_table = same_table b (freed b o key 4) (slot_at o i) (λ j g l. freed_other 4 j (λ m k e. omega arith)) (freed_length 4)

  module _ (whole : length b ≡ size) (own : o < 4) where
    pub remove_here : store_of (freed b o key 4) o key ≡ none
    remove_here = entry_none (freed b o key 4) o key (omega (arith, with))
      where
        gone : (i : ℕ) → i < 4 → (t : Bool) → holds b key (slot_at o i) ≡ t → holds (freed b o key 4) key (slot_at o i) ≡ false
        gone i h true e = freed_gone whole own i h key e
        gone i h false e = freed_stays whole own i h key e ∙ e

        with : slot_with (freed b o key 4) o key ≡ 4
        with = with_is (freed b o key 4) o key 4 (omega arith) (λ i h. gone i h (holds b key (slot_at o i)) refl) (λ h. absurd (omega arith))

    pub remove_there : (k : ℕ) → (key ≡ k → ⊥) → store_of (freed b o key 4) o k ≡ store_of b o k
    unfolding slot_with
    remove_there k n =
        entry_same b (freed b o key 4) o k
        (first_same (λ i. holds (freed b o key 4) k (slot_at o i)) (λ i. holds b k (slot_at o i)) 4 (λ i h. same i h (holds b key (slot_at o i)) refl))
        (λ h. freed_table whole own (slot_with b o k) h)
      where
        same : (i : ℕ) → i < 4 → (t : Bool) → holds b key (slot_at o i) ≡ t → holds (freed b o key 4) k (slot_at o i) ≡ holds b k (slot_at o i)
        same i h true e =
            freed_gone whole own i h k e
            ∙ sym (not_of (holds b k (slot_at o i)) (λ u. n (sym (holds_e b key (slot_at o i) e).1 ∙ (holds_e b k (slot_at o i) (of_T _ u)).1)))
        same i h false e = freed_stays whole own i h k e

    pub remove_elsewhere : (o' k : ℕ) → (o ≡ o' → ⊥) → store_of (freed b o key 4) o' k ≡ store_of b o' k
    remove_elsewhere o' k n = owner_same b (freed b o key 4) o' (freed_length 4) (λ h i l j g m. freed_other 4 j (λ q r z. n (omega arith))) k
