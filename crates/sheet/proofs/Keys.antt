-- A row of values below 16 as one number: the order of rows is that of their numbers, and equal rows have equal numbers. Assumes nothing.
use Rattle.model.specs.Kit.{◌≡◌, refl, sym, ap, ap₂, ◌∙◌, subst, Bool, true, false, List, [], ◌∷◌, ◌++◌, map, ℕ, zero, suc, ◌+◌, ◌*◌, ◌≤◌, ◌<◌, arith, add-one, T, eqb, ltb, ltb→lt, eqb→eq, length}
use Rattle.model.specs.Kit.{eq-eqb, eqb-true, eqb-false, lt-ltb, le-ltb, ltb-true, ltb-false}
use Rattle.model.specs.{Lists.all, Lists.below, Lists.up_from, Lists.same, Lists.earlier, Sheet.word, Sheet.words}
use Rattle.arrays.specs.Inner.Layout.{place}
use Rattle.model.proofs.Lists.{all_cons, both_l, both_r, up_from_add, map_append, TExt, T_of, same_eq, same_refl}
use Rattle.sheet.specs.Inner.Fill.{key_to}

-- the digits of a list after those of x
unfoldable pub key_from : ℕ → List ℕ → ℕ
key_from x [] = x
key_from x (v ∷ l) = key_from (16 * x + v) l

abbrev pub Digits : List ℕ → Type 0
Digits l = T (all (λ w. ltb w 16) l)

digits_cons : (v : ℕ) (l : List ℕ) → Digits (v ∷ l) → (v < 16) × Digits l
digits_cons v l t =
    let q = subst T (all_cons (λ w. ltb w 16) v l) t in
    (ltb→lt v 16 (both_l (ltb v 16) (all (λ w. ltb w 16) l) q), both_r (ltb v 16) (all (λ w. ltb w 16) l) q)

-- the greater number before, the greater number after
key_lt : (x y : ℕ) (l m : List ℕ) → x < y → length l ≡ length m → Digits l → Digits m → key_from x l < key_from y m
unfolding key_from
key_lt x y [] [] h e p q = h
key_lt x y [] (w ∷ m) h e p q = absurd (omega arith)
key_lt x y (v ∷ l) [] h e p q = absurd (omega arith)
key_lt x y (v ∷ l) (w ∷ m) h e p q =
    let r = digits_cons v l p in
    key_lt (16 * x + v) (16 * y + w) l m (omega (arith, r.0)) (omega arith) r.1 (digits_cons w m q).1

pub key_earlier : (x : ℕ) (l m : List ℕ) → length l ≡ length m → Digits l → Digits m → earlier l m ≡ ltb (key_from x l) (key_from x m)
unfolding earlier key_from
key_earlier x [] [] e p q = sym (le-ltb x x (omega arith))
key_earlier x [] (w ∷ m) e p q = absurd (omega arith)
key_earlier x (v ∷ l) [] e p q = absurd (omega arith)
key_earlier x (v ∷ l) (w ∷ m) e p q =
    go (key_earlier (16 * x + v) l m (omega arith) (digits_cons v l p).1 (digits_cons w m q).1) (eqb v w) refl
  where
    pl : Digits l
    pl = (digits_cons v l p).1

    pm : Digits m
    pm = (digits_cons w m q).1

    el : length l ≡ length m
    el = omega arith

    unequal : (t : Bool) → ltb v w ≡ t → (v ≡ w → ⊥) → t ≡ ltb (key_from (16 * x + v) l) (key_from (16 * x + w) m)
    unequal true s n =
        let h : v < w = ltb-true v w s in
        sym (lt-ltb (key_from (16 * x + v) l) (key_from (16 * x + w) m) (key_lt (16 * x + v) (16 * x + w) l m (omega arith) el pl pm))
    unequal false s n =
        let h : w ≤ v = ltb-false v w s in
        let k : w < v = omega (arith, n) in
        let g : key_from (16 * x + w) m < key_from (16 * x + v) l = key_lt (16 * x + w) (16 * x + v) m l (omega arith) (sym el) pm pl in
        sym (le-ltb (key_from (16 * x + v) l) (key_from (16 * x + w) m) (omega arith))

    go : earlier l m ≡ ltb (key_from (16 * x + v) l) (key_from (16 * x + v) m) → (b : Bool) → eqb v w ≡ b →
        elim b [ true ↦ earlier l m | false ↦ ltb v w ] ≡ ltb (key_from (16 * x + v) l) (key_from (16 * x + w) m)
    go ih true s = ih ∙ ap (λ (z : ℕ). ltb (key_from (16 * x + v) l) (key_from (16 * x + z) m)) (eqb-true v w s)
    go ih false s = unequal (ltb v w) refl (eqb-false v w s)

key_inj : (x : ℕ) (l m : List ℕ) → length l ≡ length m → Digits l → Digits m → key_from x l ≡ key_from x m → l ≡ m
unfolding key_from
key_inj x [] [] e p q h = refl
key_inj x [] (w ∷ m) e p q h = absurd (omega arith)
key_inj x (v ∷ l) [] e p q h = absurd (omega arith)
key_inj x (v ∷ l) (w ∷ m) e p q h = go (λ z k. key_inj z l m (omega arith) pl pm k) (eqb v w) refl (ltb v w) refl
  where
    pl : Digits l
    pl = (digits_cons v l p).1

    pm : Digits m
    pm = (digits_cons w m q).1

    el : length l ≡ length m
    el = omega arith

    go : ((z : ℕ) → key_from z l ≡ key_from z m → l ≡ m) → (b : Bool) → eqb v w ≡ b → (t : Bool) → ltb v w ≡ t → v ∷ l ≡ w ∷ m
    go ih true s t r =
        let e' : v ≡ w = eqb-true v w s in
        ap₂ (λ (y : ℕ) (k : List ℕ). y ∷ k) e' (ih (16 * x + v) (h ∙ ap (λ (y : ℕ). key_from (16 * x + y) m) (sym e')))
    go ih false s true r =
        let k : v < w = ltb-true v w r in
        absurd (omega (arith, key_lt (16 * x + v) (16 * x + w) l m (omega arith) el pl pm))
    go ih false s false r =
        let n : v ≡ w → ⊥ = eqb-false v w s in
        let k : w ≤ v = ltb-false v w r in
        absurd (omega (arith, key_lt (16 * x + w) (16 * x + v) m l (omega arith) (sym el) pm pl))

pub key_same : (l m : List ℕ) → length l ≡ length m → Digits l → Digits m → same l m ≡ eqb (key_from 0 l) (key_from 0 m)
key_same l m e p q =
    TExt (same l m) (eqb (key_from 0 l) (key_from 0 m))
    (λ t. T_of (eqb (key_from 0 l) (key_from 0 m)) (eq-eqb (key_from 0 l) (key_from 0 m) (ap (key_from 0) (same_eq l m t))))
    (λ t. subst (λ (k : List ℕ). T (same l k)) (key_inj 0 l m e p q (eqb→eq (key_from 0 l) (key_from 0 m) t)) (same_refl l))

-- one value more
pub key_snoc : (x : ℕ) (l : List ℕ) (v : ℕ) → key_from x (l ++ (v ∷ [])) ≡ 16 * key_from x l + v
unfolding key_from
key_snoc x [] v = refl
key_snoc x (w ∷ l) v = key_snoc (16 * x + w) l v

-- where the set of last values stands
pub key_place : (l : List ℕ) → length l ≤ 2 → key_from 0 l ≡ place l
unfolding key_from
key_place [] h = refl
key_place (x ∷ []) h = omega arith
key_place (x ∷ y ∷ []) h = (let e : 16 * (16 * 0 + x) + y ≡ 16 * x + y = omega arith in e)
key_place (x ∷ y ∷ z ∷ l) h = absurd (omega arith)

-- ---- the key as it is read
words_snoc : (b : List ℕ) (o k : ℕ) → words b o (suc k) ≡ words b o k ++ (word b (o + 2 * k) ∷ [])
unfolding words below up_from
words_snoc b o k =
    ap (λ (n : ℕ). map (λ i. word b (o + 2 * i)) (up_from 0 n)) (sym (add-one k))
    ∙ ap (map (λ i. word b (o + 2 * i))) (up_from_add 0 k 1)
    ∙ map_append (λ i. word b (o + 2 * i)) (up_from 0 k) (up_from (0 + k) 1)
    ∙ ap (λ (i : ℕ). map (λ i. word b (o + 2 * i)) (up_from 0 k) ++ (word b (o + 2 * i) ∷ [])) (let e : 0 + k ≡ k = omega arith in e)

pub key_words : (b : List ℕ) (o k : ℕ) → key_to b o k ≡ key_from 0 (words b o k)
unfolding key_to key_from words below up_from
key_words b o zero = refl
key_words b o (suc k) =
    ap (λ (n : ℕ). 16 * n + word b (o + 2 * k)) (key_words b o k)
    ∙ sym (key_snoc 0 (words b o k) (word b (o + 2 * k))) ∙ ap (key_from 0) (sym (words_snoc b o k))

-- a row of at most three values
pub key_bound : (l : List ℕ) → length l ≤ 3 → Digits l → key_from 0 l < 4096
unfolding key_from
key_bound [] h p = omega arith
key_bound (x ∷ []) h p = omega (arith, (digits_cons x [] p).0)
key_bound (x ∷ y ∷ []) h p = (let q = digits_cons x (y ∷ []) p in let r = digits_cons y [] q.1 in omega arith)
key_bound (x ∷ y ∷ z ∷ []) h p =
    (let q = digits_cons x (y ∷ z ∷ []) p in let r = digits_cons y (z ∷ []) q.1 in let s = digits_cons z [] r.1 in omega arith)
key_bound (x ∷ y ∷ z ∷ w ∷ l) h p = absurd (omega arith)
