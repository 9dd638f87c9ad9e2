-- Two or three names are sorted, and the table along with them. Assumes nothing.
use Rattle.model.specs.Kit.{◌≡◌, refl, sym, ◌∙◌, subst, Bool, ◌↔◌, List, [], ◌∷◌, Memᴰ, Memᴰ-head, Memᴰ-tail, Memᴰ-not_nil, ℕ, zero, suc, ◌+◌, ◌*◌, ◌/◌, ◌%◌, ◌^◌, ◌<◌, arith}
use Rattle.model.specs.Kit.{length}
use Rattle.model.specs.Lists.{at}
use Rattle.model.proofs.Lists.{Sorted}
use Rattle.arrays_order.specs.Inner.Steps.{Swapped, Transposed, Meant, Sorting, Framed}
use Rattle.arrays_order.proofs.Tables.{transposed_2, swapped_3, transposed_3, framed_of, framed_none, framed_both}

-- ---- the same names in another order
exchange : (x y i : ℕ) (l : List ℕ) → Memᴰ i (x ∷ y ∷ l) → Memᴰ i (y ∷ x ∷ l)
exchange x y i l (Memᴰ-head e) = Memᴰ-tail (Memᴰ-head e)
exchange x y i l (Memᴰ-tail (Memᴰ-head e)) = Memᴰ-head e
exchange x y i l (Memᴰ-tail (Memᴰ-tail m)) = Memᴰ-tail (Memᴰ-tail m)

exchange_last : (x y z i : ℕ) (l : List ℕ) → Memᴰ i (x ∷ y ∷ z ∷ l) → Memᴰ i (x ∷ z ∷ y ∷ l)
exchange_last x y z i l (Memᴰ-head e) = Memᴰ-head e
exchange_last x y z i l (Memᴰ-tail m) = Memᴰ-tail (exchange y z i l m)

-- ---- sorted names stay
sorted_1 : (x : ℕ) → Sorted (λ (x y : ℕ). x < y) (x ∷ [])
sorted_1 x = (λ y m. absurd (Memᴰ-not_nil m), tt)

above_1 : (x y : ℕ) → x < y → (i : ℕ) → Memᴰ i (y ∷ []) → x < i
above_1 x y h i (Memᴰ-head e) = subst (λ (z : ℕ). x < z) (sym e) h
above_1 x y h i (Memᴰ-tail m) = absurd (Memᴰ-not_nil m)

sorted_2 : (x y : ℕ) → x < y → Sorted (λ (x y : ℕ). x < y) (x ∷ y ∷ [])
sorted_2 x y h = (above_1 x y h, sorted_1 y)

above_2 : (x y z : ℕ) → x < y → y < z → (i : ℕ) → Memᴰ i (y ∷ z ∷ []) → x < i
above_2 x y z h k i (Memᴰ-head e) = subst (λ (w : ℕ). x < w) (sym e) h
above_2 x y z h k i (Memᴰ-tail m) = above_1 x z (omega arith) i m

sorted_3 : (x y z : ℕ) → x < y → y < z → Sorted (λ (x y : ℕ). x < y) (x ∷ y ∷ z ∷ [])
sorted_3 x y z h k = (above_2 x y z h k, sorted_2 y z k)

scope_1 : (x : ℕ) → x < 16 → (i : ℕ) → i < 1 → (1 + 256 * x) / 256 ^ suc i % 256 ≡ at (x ∷ []) i
unfolding at
scope_1 x h zero l = omega arith
scope_1 x h (suc i) l = absurd (omega arith)

scope_2 : (x y : ℕ) → x < 16 → y < 16 → (i : ℕ) → i < 2 → (2 + 256 * x + 65536 * y) / 256 ^ suc i % 256 ≡ at (x ∷ y ∷ []) i
unfolding at
scope_2 x y h k zero l = omega arith
scope_2 x y h k (suc zero) l = omega arith
scope_2 x y h k (suc (suc i)) l = absurd (omega arith)

scope_3 : (x y z : ℕ) → x < 16 → y < 16 → z < 16 → (i : ℕ) → i < 3 → (3 + 256 * x + 65536 * y + 16777216 * z) / 256 ^ suc i % 256 ≡ at (x ∷ y ∷ z ∷ []) i
unfolding at
scope_3 x y z h k n zero l = omega arith
scope_3 x y z h k n (suc zero) l = omega arith
scope_3 x y z h k n (suc (suc zero)) l = omega arith
scope_3 x y z h k n (suc (suc (suc i))) l = absurd (omega arith)

abbrev pub Settles : List ℕ → ℕ → List ℕ → List ℕ → ℕ → Type 0
Settles names base old new r = Sorting names base old new r × Framed base old new

pub stays_1 : (x base : ℕ) (s : List ℕ) → x < 16 → Settles (x ∷ []) base s s (1 + 256 * x)
stays_1 x base s h = (
  record { sorted = x ∷ []; ascends = sorted_1 x; same = λ i. (λ m. m, λ m. m); long = refl; arity = omega arith; scope = scope_1 x h; meant = λ Q m. m },
  framed_none base s,
)

pub stays_2 : (x y base : ℕ) (s : List ℕ) → x < y → y < 16 → Settles (x ∷ y ∷ []) base s s (2 + 256 * x + 65536 * y)
stays_2 x y base s h k = (
  record { sorted = x ∷ y ∷ []; ascends = sorted_2 x y h; same = λ i. (λ m. m, λ m. m); long = refl; arity = omega arith; scope = scope_2 x y (omega arith) k; meant = λ Q m. m },
  framed_none base s,
)

pub stays_3 : (x y z base : ℕ) (s : List ℕ) → x < y → y < z → z < 16 → Settles (x ∷ y ∷ z ∷ []) base s s (3 + 256 * x + 65536 * y + 16777216 * z)
stays_3 x y z base s h k l = (
  record {
    sorted = x ∷ y ∷ z ∷ [];
    ascends = sorted_3 x y z h k;
    same = λ i. (λ m. m, λ m. m);
    long = refl;
    arity = omega arith;
    scope = scope_3 x y z (omega arith)
        (omega arith) l;
    meant = λ Q m. m;
  },
  framed_none base s,
)

-- ---- after an exchange
after : (names turned : List ℕ) (base : ℕ) (old mid new : List ℕ) (r : ℕ) → ((i : ℕ) → Memᴰ i turned ↔ Memᴰ i names) → length turned ≡ length names →
    ((Q : (ℕ → ℕ) → Bool) → Meant Q names base old → Meant Q turned base mid) → Framed base old mid → Settles turned base mid new r → Settles names base old new r
after names turned base old mid new r s l t f q = (
  record {
    sorted = q.0.sorted;
    ascends = q.0.ascends;
    same = λ i. (λ m. (s i).0 ((q.0.same i).0 m), λ m. (q.0.same i).1 ((s i).1 m));
    long = q.0.long ∙ l;
    arity = q.0.arity;
    scope = q.0.scope;
    meant = λ Q m. q.0.meant Q (t Q m);
  },
  framed_both base old mid new f q.1,
)

pub after_2 : (x y base : ℕ) (old mid new : List ℕ) (r : ℕ) → (x ≡ y → ⊥) → Transposed base 16 old mid → Settles (y ∷ x ∷ []) base mid new r → Settles (x ∷ y ∷ []) base old new r
after_2 x y base old mid new r h t q =
    after (x ∷ y ∷ []) (y ∷ x ∷ []) base old mid new r (λ i. (exchange y x i [], exchange x y i [])) refl (λ Q. transposed_2 Q x y base old mid h t) (framed_of base 16 _ old mid (omega arith) t) q

pub after_swap : (x y z base : ℕ) (old mid new : List ℕ) (r : ℕ) → (x ≡ y → ⊥) → Swapped base old mid → Settles (y ∷ x ∷ z ∷ []) base mid new r → Settles (x ∷ y ∷ z ∷ []) base old new r
after_swap x y z base old mid new r h t q =
    after (x ∷ y ∷ z ∷ []) (y ∷ x ∷ z ∷ []) base old mid new r (λ i. (exchange y x i (z ∷ []), exchange x y i (z ∷ []))) refl (λ Q. swapped_3 Q x y z base old mid h t)
    (framed_of base 256 _ old mid (omega arith) t) q

pub after_transpose : (x y z base : ℕ) (old mid new : List ℕ) (r : ℕ) → (y ≡ z → ⊥) → Transposed base 256 old mid → Settles (x ∷ z ∷ y ∷ []) base mid new r → Settles (x ∷ y ∷ z ∷ []) base old new r
after_transpose x y z base old mid new r h t q =
    after (x ∷ y ∷ z ∷ []) (x ∷ z ∷ y ∷ []) base old mid new r (λ i. (exchange_last x z y i [], exchange_last x y z i [])) refl (λ Q. transposed_3 Q x y z base old mid h t)
    (framed_of base 256 _ old mid (omega arith) t) q
