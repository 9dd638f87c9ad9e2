-- Laws of sets of values and of lists of them: members, comprehension, extensionality, size. Assumes nothing.
use Rattle.model.specs.Kit.{◌≡◌, refl, sym, ap, ◌∙◌, subst, Bool, true, false, List, [], ◌∷◌, map, Memᴰ, Memᴰ-head, Memᴰ-tail, Memᴰ-not_nil, ℕ, zero, suc, ◌+◌, ◌*◌, ◌/◌, ◌%◌}
use Rattle.model.specs.Kit.{◌^◌, ◌≤◌, ◌<◌, not-suc-le-zero, le_of_suc-le-suc, arith, T, eqb, ltb, eqb→eq, length, set, length-set, eq-eqb, ne_eqb}
use Rattle.model.specs.ValueSets.{bit, has, mask_below, mask_of, members, any_empty, Inside}
use Rattle.model.specs.{Lists.keep, Lists.below, Lists.at, Inner.Pruning.Sets}
use mathlib.Core.List.Sublistᴰ
use mathlib.Core.List.{Sublistᴰ}
use native.Mathlib.Nat.{pow-suc}
use native.Mathlib.Numerals.{one-add}
use lib.Pow.{shr-shr}
use Rattle.model.proofs.Lists.{T_of, not_of, of_not, TExt, keep_i, keep_e, keep_none, below_i, below_e, Sorted, sorted_keep, sorted_below, at_out, at_ext, mem_at, at_mem, set_each, any_i}
use Rattle.model.proofs.Lists.{any_e, sublist_keep}

-- ---- the member test, bit by bit
pub has_zero : (s : ℕ) → has s 0 ≡ eqb (s % 2) 1
unfolding has
has_zero s = let e : s / 2 ^ 0 ≡ s = omega arith in ap (λ (n : ℕ). eqb (n % 2) 1) e

pub has_suc : (s v : ℕ) → has s (suc v) ≡ has (s / 2) v
unfolding has
has_suc s v = ap (λ (n : ℕ). eqb (n % 2) 1) (ap (λ (n : ℕ). s / 2 ^ n) (sym (one-add v)) ∙ sym (shr-shr s 1 v))

pub has_none : (v : ℕ) → has 0 v ≡ false
has_none zero = has_zero 0
has_none (suc v) = has_suc 0 v ∙ has_none v

low : (b : Bool) (m : ℕ) → eqb ((bit b + 2 * m) % 2) 1 ≡ b
low true m = eq-eqb ((1 + 2 * m) % 2) 1 (omega arith)
low false m = ne_eqb ((0 + 2 * m) % 2) 1 (λ e. omega arith)

high : (b : Bool) (m : ℕ) → (bit b + 2 * m) / 2 ≡ m
high true m = omega arith
high false m = omega arith

-- ---- the two laws of the comprehension, and extensionality
pub has_mask : (k : ℕ) (f : ℕ → Bool) (v : ℕ) → v < k → has (mask_below k f) v ≡ f v
unfolding mask_below
has_mask zero f v h = absurd (not-suc-le-zero h)
has_mask (suc k) f zero h = has_zero _ ∙ low (f 0) _
has_mask (suc k) f (suc v) h = has_suc _ v ∙ ap (λ (n : ℕ). has n v) (high (f 0) _) ∙ has_mask k (λ u. f (suc u)) v (le_of_suc-le-suc h)

pub pow2 : (k : ℕ) → 2 ^ suc k ≡ 2 * 2 ^ k
pow2 k = pow-suc 2 k ∙ omega arith

grown : (b : Bool) (m k : ℕ) → m < 2 ^ k → bit b + 2 * m < 2 ^ suc k
grown true m k h = omega (arith, pow2 k)
grown false m k h = omega (arith, pow2 k)

pub mask_lt : (k : ℕ) (f : ℕ → Bool) → mask_below k f < 2 ^ k
unfolding mask_below
mask_lt zero f = omega arith
mask_lt (suc k) f = grown (f 0) (mask_below k (λ v. f (suc v))) k (mask_lt k (λ v. f (suc v)))

same_bit : (a b : ℕ) → a < 2 → b < 2 → eqb a 1 ≡ eqb b 1 → a ≡ b
same_bit zero zero ha hb e = refl
same_bit zero (suc zero) ha hb e = absurd (subst T (sym e) tt)
same_bit zero (suc (suc b)) ha hb e = omega arith
same_bit (suc zero) zero ha hb e = absurd (subst T e tt)
same_bit (suc zero) (suc zero) ha hb e = refl
same_bit (suc zero) (suc (suc b)) ha hb e = omega arith
same_bit (suc (suc a)) b ha hb e = omega arith

pub mask_ext : (k s t : ℕ) → s < 2 ^ k → t < 2 ^ k → ((v : ℕ) → v < k → has s v ≡ has t v) → s ≡ t
mask_ext zero s t hs ht e = omega arith
mask_ext (suc k) s t hs ht e =
    let lo : s % 2 ≡ t % 2 = same_bit (s % 2) (t % 2) (omega arith) (omega arith) (sym (has_zero s) ∙ e 0 (omega arith) ∙ has_zero t) in
    let hi : s / 2 ≡ t / 2 = mask_ext k (s / 2) (t / 2) (omega (arith, pow2 k)) (omega (arith, pow2 k))
    (λ v h. sym (has_suc s v) ∙ e (suc v) (omega arith) ∙ has_suc t v) in
    omega arith

-- a set of k bits has no member from k on
pub has_out : (k s v : ℕ) → s < 2 ^ k → k ≤ v → has s v ≡ false
has_out zero s v h l = let e : s ≡ 0 = omega arith in ap (λ (n : ℕ). has n v) e ∙ has_none v
has_out (suc k) s zero h l = absurd (not-suc-le-zero l)
has_out (suc k) s (suc v) h l = has_suc s v ∙ has_out k (s / 2) v (omega (arith, pow2 k)) (le_of_suc-le-suc l)

pub has_lt : (k s v : ℕ) → s < 2 ^ k → T (has s v) → v < k
has_lt k s v h t = go (ltb v k) refl
  where
    go : (b : Bool) → ltb v k ≡ b → v < k
    go true e = borrow.Author.Tests.ltb-true v k e
    go false e = absurd (of_not (has s v) (has_out k s v h (borrow.Author.Tests.ltb-false v k e)) t)

pub mask_i : (f : ℕ → Bool) (v : ℕ) → v < 16 → T (f v) → T (has (mask_of f) v)
mask_i f v h t = subst T (sym (has_mask 16 f v h)) t

pub mask_e : (f : ℕ → Bool) (v : ℕ) → T (has (mask_of f) v) → (v < 16) × T (f v)
mask_e f v t = let h = has_lt 16 (mask_of f) v (mask_lt 16 f) t in (h, subst T (has_mask 16 f v h) t)

-- ---- the members: ascending, and exactly the values below 16 that the set has
pub members_i : (s v : ℕ) → v < 16 → T (has s v) → Memᴰ v (members s)
unfolding members
members_i s v h t = keep_i (has s) (below 16) v (below_i 16 v h) t

pub members_e : (s v : ℕ) → Memᴰ v (members s) → (v < 16) × T (has s v)
unfolding members
members_e s v m = let r = keep_e (has s) (below 16) v m in (below_e 16 v r.0, r.1)

pub members_sorted : (s : ℕ) → Sorted (λ (x y : ℕ). x < y) (members s)
unfolding members
members_sorted s = sorted_keep (λ (x y : ℕ). x < y) (has s) (below 16) (sorted_below 16)

pub members_sub : (s t : ℕ) → ((v : ℕ) → T (has s v) → T (has t v)) → Sublistᴰ (members s) (members t)
unfolding members
members_sub s t h = sublist_keep (has s) (has t) (Sublistᴰ.refl (below 16)) h

pub members_of_none : members 0 ≡ []
unfolding members
members_of_none = keep_none (has 0) (below 16) (λ v m t. of_not (has 0 v) (has_none v) t)

-- a set that is not empty has a member
pub member : (s : ℕ) → s < 2 ^ 16 → (s ≡ 0 → ⊥) → (v : ℕ) × (v < 16) × T (has s v)
member s h p = go (members s) (λ v. members_e s v) (λ v l t. members_i s v l t)
  where
    go : (l : List ℕ) → ((v : ℕ) → Memᴰ v l → (v < 16) × T (has s v)) → ((v : ℕ) → v < 16 → T (has s v) → Memᴰ v l) → (v : ℕ) × (v < 16) × T (has s v)
    go [] f g = absurd (p (mask_ext 16 s 0 h (omega arith) (λ v l. not_of (has s v) (λ t. Memᴰ-not_nil (g v l t)) ∙ sym (has_none v))))
    go (v ∷ l) f g = let m = f v (Memᴰ-head refl) in (v, m.0, m.1)

-- ---- lists of sets
pub inside_refl : (ds : List ℕ) → Inside ds ds
inside_refl ds x v t = t

pub inside_trans : (ds es fs : List ℕ) → Inside ds es → Inside es fs → Inside ds fs
inside_trans ds es fs h k x v t = k x v (h x v t)

pub inside_antisym : (n : ℕ) (ds es : List ℕ) → Sets n ds → Sets n es → Inside ds es → Inside es ds → ds ≡ es
inside_antisym n ds es s t h k =
    at_ext ds es (s.0 ∙ sym t.0) (λ x l. mask_ext 16 (at ds x) (at es x) (s.1 x) (t.1 x) (λ v b. TExt (has (at ds x) v) (has (at es x) v) (h x v) (k x v)))

-- one set stored
pub set_sets : (n : ℕ) (ds : List ℕ) (x b : ℕ) → Sets n ds → x < n → b < 2 ^ 16 → Sets n (set ds x b)
set_sets n ds x b s h k = (length-set ds x b ∙ s.0, λ y. set_each (λ z t. t < 2 ^ 16) ds x b y (omega (arith, s.0)) k (λ e. s.1 y))

-- a value of a set stands at a variable
pub has_at_lt : (ds : List ℕ) (x v : ℕ) → T (has (at ds x) v) → x < length ds
has_at_lt ds x v t = go (ltb x (length ds)) refl
  where
    go : (b : Bool) → ltb x (length ds) ≡ b → x < length ds
    go true e = borrow.Author.Tests.ltb-true x (length ds) e
    go false e = absurd (of_not (has (at ds x) v) (ap (λ (s : ℕ). has s v) (at_out ds x (borrow.Author.Tests.ltb-false x (length ds) e)) ∙ has_none v) t)

-- ---- whether a set is empty
pub empty_i : (ds : List ℕ) (x : ℕ) → x < length ds → at ds x ≡ 0 → T (any_empty ds)
unfolding any_empty
empty_i ds x h e = any_i (λ s. eqb s 0) ds (at ds x) (mem_at ds x h) (subst (λ (s : ℕ). T (eqb s 0)) (sym e) tt)

pub empty_e : (ds : List ℕ) → T (any_empty ds) → (x : ℕ) × (x < length ds) × (at ds x ≡ 0)
unfolding any_empty
empty_e ds t =
    let r = any_e (λ s. eqb s 0) ds t in
    let i = at_mem ds r.0 r.1 in
    (i.0, i.1, i.2 ∙ eqb→eq r.0 0 r.2)

-- a list of sets inside one with an empty set has an empty set
pub empty_inside : (n : ℕ) (ds es : List ℕ) → Sets n ds → Sets n es → Inside ds es → T (any_empty es) → T (any_empty ds)
empty_inside n ds es s t h e =
    let r = empty_e es e in
    empty_i ds r.0 (omega (arith, r.1, s.0, t.0))
    (mask_ext 16 (at ds r.0) 0 (s.1 r.0) (omega arith)
    (λ v b. not_of (has (at ds r.0) v) (λ q. of_not (has (at es r.0) v) (ap (λ (m : ℕ). has m v) r.2 ∙ has_none v) (h r.0 v q)) ∙ sym (has_none v)))

pub at_zeros : (ds : List ℕ) (x : ℕ) → at (map (λ s. 0) ds) x ≡ 0
unfolding at
at_zeros [] x = refl
at_zeros (s ∷ ds) zero = refl
at_zeros (s ∷ ds) (suc x) = at_zeros ds x

pub zeros_replicate : (ds : List ℕ) → ◌≡◌ {A = List ℕ} (map (λ s. 0) ds) (lib.ListN.replicate (length ds) 0)
zeros_replicate [] = refl
zeros_replicate (s ∷ ds) = ap (λ (l : List ℕ). 0 ∷ l) (zeros_replicate ds)

pub zeros_empty : (ds : List ℕ) → T (any_empty ds) → T (any_empty (map (λ s. 0) ds))
zeros_empty ds t = let r = empty_e ds t in empty_i (map (λ s. 0) ds) r.0 (subst (λ (n : ℕ). r.0 < n) (sym (lib.ListN.length-map ds (λ s. 0))) r.1) (at_zeros ds r.0)

-- ---- the size: how many values all sets have together
count : (ℕ → Bool) → List ℕ → ℕ
count p l = length (keep p l)

count_le : (p q : ℕ → Bool) (l : List ℕ) → ((v : ℕ) → T (p v) → T (q v)) → count p l ≤ count q l
unfolding count keep
count_le p q [] h = omega arith
count_le p q (x ∷ l) h = go (count_le p q l h) (p x) refl (q x) refl
  where
    go : count p l ≤ count q l → (b : Bool) → p x ≡ b → (c : Bool) → q x ≡ c → length {A = ℕ} (elim b [ true ↦ x ∷ keep p l | false ↦ keep p l ]) ≤ length {A = ℕ}
        (elim c [ true ↦ x ∷ keep q l | false ↦ keep q l ])
    go ih true e true e' = omega arith
    go ih true e false e' = absurd (subst T e' (h x (T_of (p x) e)))
    go ih false e true e' = omega arith
    go ih false e false e' = ih

count_eq : (p q : ℕ → Bool) (l : List ℕ) → ((v : ℕ) → T (p v) → T (q v)) → count q l ≤ count p l → (v : ℕ) → Memᴰ v l → T (q v) → T (p v)
unfolding count keep
count_eq p q [] h k v m t = absurd (Memᴰ-not_nil m)
count_eq p q (x ∷ l) h k v m t = go (count_eq p q l h) (count_le p q l h) (p x) refl (q x) refl k m
  where
    go : (count q l ≤ count p l → (v : ℕ) → Memᴰ v l → T (q v) → T (p v)) → count p l ≤ count q l → (b : Bool) → p x ≡ b → (c : Bool) → q x ≡ c →
        length {A = ℕ} (elim c [ true ↦ x ∷ keep q l | false ↦ keep q l ]) ≤ length {A = ℕ} (elim b [ true ↦ x ∷ keep p l | false ↦ keep p l ]) → Memᴰ v (x ∷ l) → T (p v)
    go ih le true e c e' k (Memᴰ-head i) = subst (λ (z : ℕ). T (p z)) (sym i) (T_of (p x) e)
    go ih le true e true e' k (Memᴰ-tail i) = ih (omega arith) v i t
    go ih le true e false e' k (Memᴰ-tail i) = absurd (subst T e' (h x (T_of (p x) e)))
    go ih le false e true e' k i = absurd (omega arith)
    go ih le false e false e' k (Memᴰ-head i) = absurd (subst (λ (z : ℕ). T (q z) → ⊥) (sym i) (of_not (q x) e') t)
    go ih le false e false e' k (Memᴰ-tail i) = ih k v i t

unfoldable pub size : List ℕ → ℕ
size [] = 0
size (s ∷ ds) = length (members s) + size ds

count_all : (p : ℕ → Bool) (l : List ℕ) → count p l ≤ length l
unfolding count keep
count_all p [] = omega arith
count_all p (x ∷ l) = go (count_all p l) (p x)
  where
    go : count p l ≤ length l → (b : Bool) → length {A = ℕ} (elim b [ true ↦ x ∷ keep p l | false ↦ keep p l ]) ≤ suc (length l)
    go ih true = omega arith
    go ih false = omega arith

card_le : (s : ℕ) → length (members s) ≤ 16
unfolding count members below Rattle.model.specs.Lists.up_from
card_le s = count_all (has s) (below 16)

pub size_le : (ds : List ℕ) → size ds ≤ length ds * 16
unfolding size
size_le [] = omega arith
size_le (s ∷ ds) = omega (arith, size_le ds, card_le s)

-- sets inside others are as many, or have fewer values
tails : (d e : ℕ) (ds es : List ℕ) → Inside (d ∷ ds) (e ∷ es) → Inside ds es
unfolding at
tails d e ds es h x v t = h (suc x) v t

heads : (d e : ℕ) (ds es : List ℕ) → Inside (d ∷ ds) (e ∷ es) → (v : ℕ) → T (has d v) → T (has e v)
unfolding at
heads d e ds es h v t = h 0 v t

pub size_inside : (ds es : List ℕ) → length ds ≡ length es → Inside ds es → size ds ≤ size es
unfolding size count members
size_inside [] [] e h = omega arith
size_inside [] (t ∷ es) e h = absurd (omega arith)
size_inside (s ∷ ds) [] e h = absurd (omega arith)
size_inside (s ∷ ds) (t ∷ es) e h = omega (arith, count_le (has s) (has t) (below 16) (heads s t ds es h), size_inside ds es (omega arith) (tails s t ds es h))

pub size_strict : (ds es : List ℕ) → length ds ≡ length es → ((x : ℕ) → at es x < 2 ^ 16) → Inside ds es → size es ≤ size ds → Inside es ds
unfolding size count members at
size_strict [] [] e b h k x v t = t
size_strict [] (t ∷ es) e b h k x v q = absurd (omega arith)
size_strict (s ∷ ds) [] e b h k x v q = absurd (omega arith)
size_strict (s ∷ ds) (t ∷ es) e b h k zero v q =
    count_eq (has s) (has t) (below 16) (heads s t ds es h) (omega (arith, size_inside ds es (omega arith) (tails s t ds es h))) v (below_i 16 v (has_lt 16 t v (b 0) q)) q
size_strict (s ∷ ds) (t ∷ es) e b h k (suc x) v q =
    size_strict ds es (omega arith) (λ y. b (suc y)) (tails s t ds es h) (omega (arith, count_le (has s) (has t) (below 16) (heads s t ds es h))) x v q
