-- Numbers in lists: the place of one, lists without repeats, and the pigeonhole: a list without repeats is no longer than one that holds all of it. Assumes nothing.
use Rattle.model.specs.Kit.{◌≡◌, refl, sym, ap, ◌∙◌, subst, Bool, true, false, List, [], ◌∷◌, map, Memᴰ, Memᴰ-head, Memᴰ-tail, Memᴰ-not_nil, Memᴰ-cases_cons, Memᴰ-cast}
use Rattle.model.specs.Kit.{Memᴰ-map, Memᴰ-of_map, ◌⊎◌, inl, inr, ⊎_elim, ℕ, zero, suc, ◌+◌, ◌≤◌, ◌<◌, not-suc-le-zero, le_of_suc-le-suc, arith, T, eqb, eqb→eq, eqb_refl, length, get_or, eqb-true}
use Rattle.model.specs.Kit.{eqb-false}
use Rattle.model.specs.{Lists.any, Lists.up_from, Lists.below, Lists.at, Sheet.distinct}
use native.Mathlib.Nat.{zero-lt-suc}
use Rattle.model.proofs.Lists.{TDec, any_e, any_i, up_from_e, below_i, length_below, at_below, mem_at}

-- ---- the place of a number in a list
pub idx : ℕ → List ℕ → ℕ
idx q [] = 0
idx q (x ∷ xs) = elim (eqb q x) [ true ↦ 0 | false ↦ suc (idx q xs) ]

pub idx_spec : (q : ℕ) (l : List ℕ) → Memᴰ q l → (at l (idx q l) ≡ q) × (idx q l < length l)
unfolding idx at
idx_spec q [] m = absurd (Memᴰ-not_nil m)
idx_spec q (x ∷ xs) m = go (idx_spec q xs) (eqb q x) refl
  where
    go : (Memᴰ q xs → (get_or xs (idx q xs) 0 ≡ q) × (idx q xs < length xs)) → (b : Bool) → eqb q x ≡ b
        → (get_or (x ∷ xs) (elim b [ true ↦ 0 | false ↦ suc (idx q xs) ]) 0 ≡ q) × (elim b [ true ↦ 0 | false ↦ suc (idx q xs) ] < suc (length xs))
    go ih true e = (sym (eqb-true q x e), zero-lt-suc (length xs))
    go ih false e =
        ⊎_elim {C = (get_or xs (idx q xs) 0 ≡ q) × (suc (idx q xs) < suc (length xs))} (λ z. absurd (eqb-false q x e z))
        (λ k. let r = ih k in (r.0, omega (arith, r.1))) (Memᴰ-cases_cons m)

-- ---- distinct entries
nor_e : (b c : Bool) → T (elim b [ true ↦ false | false ↦ c ]) → (T b → ⊥) × T c
nor_e true c h = absurd h
nor_e false c h = (λ z. z, h)

nor_i : (b c : Bool) → (T b → ⊥) → T c → T (elim b [ true ↦ false | false ↦ c ])
nor_i true c h k = h tt
nor_i false c h k = k

pub distinct_e : (x : ℕ) (xs : List ℕ) → T (distinct (x ∷ xs)) → (Memᴰ x xs → ⊥) × T (distinct xs)
unfolding distinct
distinct_e x xs h = let r = nor_e (any (eqb x) xs) (distinct xs) h in (λ m. r.0 (any_i (eqb x) xs x m (eqb_refl x)), r.1)

pub distinct_i : (x : ℕ) (xs : List ℕ) → (Memᴰ x xs → ⊥) → T (distinct xs) → T (distinct (x ∷ xs))
unfolding distinct
distinct_i x xs h k = nor_i (any (eqb x) xs) (distinct xs) (λ t. let r = any_e (eqb x) xs t in h (Memᴰ-cast (eqb→eq x r.0 r.2) r.1)) k

pub distinct_at : (l : List ℕ) → T (distinct l) → (i j : ℕ) → i < length l → j < length l → at l i ≡ at l j → i ≡ j
unfolding at
distinct_at [] d i j h k e = absurd (not-suc-le-zero h)
distinct_at (x ∷ l) d zero zero h k e = refl
distinct_at (x ∷ l) d zero (suc j) h k e = absurd ((distinct_e x l d).0 (Memᴰ-cast e (mem_at l j (le_of_suc-le-suc k))))
distinct_at (x ∷ l) d (suc i) zero h k e = absurd ((distinct_e x l d).0 (Memᴰ-cast (sym e) (mem_at l i (le_of_suc-le-suc h))))
distinct_at (x ∷ l) d (suc i) (suc j) h k e = ap suc (distinct_at l (distinct_e x l d).1 i j (le_of_suc-le-suc h) (le_of_suc-le-suc k) e)

distinct_up : (f : ℕ → ℕ) (a k : ℕ) → ((i j : ℕ) → a ≤ i → i < a + k → a ≤ j → j < a + k → f i ≡ f j → i ≡ j) → T (distinct (map f (up_from a k)))
unfolding up_from distinct
distinct_up f a zero h = tt
distinct_up f a (suc k) h =
    distinct_i (f a) (map f (up_from (suc a) k))
    (λ m. let r = Memᴰ-of_map f (up_from (suc a) k) m in let u = up_from_e (suc a) k r.0 r.1 in
    let e : a ≡ r.0 = h a r.0 (omega arith) (omega arith) (omega (arith, u)) (omega (arith, u)) (sym r.2) in omega (arith, u))
    (distinct_up f (suc a) k (λ i j p q s t. h i j (omega arith) (omega arith) (omega arith) (omega arith)))

pub distinct_below : (f : ℕ → ℕ) (n : ℕ) → ((i j : ℕ) → i < n → j < n → f i ≡ f j → i ≡ j) → T (distinct (map f (below n)))
unfolding below
distinct_below f n h = distinct_up f 0 n (λ i j p q s t. h i j (omega arith) (omega arith))

-- ---- pigeonhole
one_less : (x : ℕ) (ys : List ℕ) → Memᴰ x ys → (zs : List ℕ) × (length ys ≡ suc (length zs)) × ((z : ℕ) → (z ≡ x → ⊥) → Memᴰ z ys → Memᴰ z zs)
one_less x [] m = absurd (Memᴰ-not_nil m)
one_less x (y ∷ ys) m =
    ⊎_elim {C = (zs : List ℕ) × (suc (length ys) ≡ suc (length zs)) × ((z : ℕ) → (z ≡ x → ⊥) → Memᴰ z (y ∷ ys) → Memᴰ z zs)}
    (λ e. (ys, refl, λ z h k. ⊎_elim {C = Memᴰ z ys} (λ q. absurd (h (q ∙ sym e))) (λ j. j) (Memᴰ-cases_cons k)))
    (λ k. let r = one_less x ys k in
    (y ∷ r.0, ap suc r.1, λ z h j. ⊎_elim {C = Memᴰ z (y ∷ r.0)} (λ q. Memᴰ-head q) (λ w. Memᴰ-tail (r.2 z h w)) (Memᴰ-cases_cons j)))
    (Memᴰ-cases_cons m)

pub no_more : (xs ys : List ℕ) → T (distinct xs) → ((x : ℕ) → Memᴰ x xs → Memᴰ x ys) → length xs ≤ length ys
no_more [] ys d h = omega arith
no_more (x ∷ xs) ys d h =
    let r = one_less x ys (h x (Memᴰ-head refl)) in
    let q = distinct_e x xs d in
    let i : length xs ≤ length r.0 = no_more xs r.0 q.1 (λ z k. r.2 z (λ e. q.0 (Memᴰ-cast (sym e) k)) (h z (Memᴰ-tail k))) in
    let e : length ys ≡ suc (length r.0) = r.1 in
    omega arith

-- distinct numbers below k, k of them, are all of these
pub onto : (xs : List ℕ) (k : ℕ) → length xs ≡ k → T (distinct xs) → ((x : ℕ) → Memᴰ x xs → x < k) → (y : ℕ) → y < k → Memᴰ y xs
onto xs k n d h y l = go (TDec (any (eqb y) xs))
  where
    go : T (any (eqb y) xs) ⊎ (T (any (eqb y) xs) → ⊥) → Memᴰ y xs
    go (inl t) = let r = any_e (eqb y) xs t in Memᴰ-cast (eqb→eq y r.0 r.2) r.1
    go (inr t) =
        let z : suc (length xs) ≤ length (map (λ (i : ℕ). i) (below k)) = no_more (y ∷ xs) (map (λ (i : ℕ). i) (below k)) (distinct_i y xs (λ m. t (any_i (eqb y) xs y m (eqb_refl y))) d)
        (λ x m. Memᴰ-map (λ (i : ℕ). i) (below_i k x (⊎_elim {C = x < k} (λ e. omega arith) (h x) (Memᴰ-cases_cons m)))) in
        absurd (omega (arith, length_below (λ (i : ℕ). i) k))

-- ---- two equal entries
repeat : (xs : List ℕ) → (T (distinct xs) → ⊥) → (i : ℕ) × (j : ℕ) × (i < j) × (j < length xs) × (at xs i ≡ at xs j)
unfolding distinct at
repeat [] h = absurd (h tt)
repeat (x ∷ xs) h = go (repeat xs) (TDec (any (eqb x) xs)) (TDec (distinct xs))
  where
    go : ((T (distinct xs) → ⊥) → (i : ℕ) × (j : ℕ) × (i < j) × (j < length xs) × (at xs i ≡ at xs j)) → T (any (eqb x) xs) ⊎ (T (any (eqb x) xs) → ⊥) → T (distinct xs) ⊎ (T (distinct xs) → ⊥)
        → (i : ℕ) × (j : ℕ) × (i < j) × (j < suc (length xs)) × (at (x ∷ xs) i ≡ at (x ∷ xs) j)
    go ih (inl t) d =
        let r = any_e (eqb x) xs t in
        let k = idx_spec r.0 xs r.1 in
        (0, suc (idx r.0 xs), zero-lt-suc (idx r.0 xs), omega (arith, k.1), eqb→eq x r.0 r.2 ∙ sym k.0)
    go ih (inr t) (inl d) = absurd (h (nor_i (any (eqb x) xs) (distinct xs) t d))
    go ih (inr t) (inr d) = let r = ih d in (suc r.0, suc r.1, omega (arith, r.2), omega (arith, r.3), r.4)

-- a sequence of numbers below k takes one of them twice
pub twice : (f : ℕ → ℕ) (k : ℕ) → ((i : ℕ) → f i < k) → (i : ℕ) × (j : ℕ) × (i < j) × (f i ≡ f j)
twice f k h =
    let xs = map f (below (suc k)) in
    let r = repeat xs (λ d. crowd (no_more xs (map (λ (i : ℕ). i) (below k)) d (λ x m. let q = Memᴰ-of_map f (below (suc k)) m in Memᴰ-map (λ (i : ℕ). i)
    (below_i k x (subst (λ (z : ℕ). z < k) q.2 (h q.0)))))) in
    let l : r.1 < suc k = subst (λ (z : ℕ). r.1 < z) (length_below f (suc k)) r.3 in
    (r.0, r.1, r.2, sym (at_below f (suc k) r.0 (omega (arith, r.2))) ∙ r.4 ∙ at_below f (suc k) r.1 l)
  where
    crowd : length (map f (below (suc k))) ≤ length (map (λ (i : ℕ). i) (below k)) → ⊥
    crowd l = let a = length_below f (suc k) in let b = length_below (λ (i : ℕ). i) k in omega arith

-- ---- the place of an element of any list
module _ {A : Type 0} where
  pub pos : {a : A} (l : List A) → Memᴰ a l → ℕ
  pos l (Memᴰ-head e) = 0
  pos l (Memᴰ-tail {xs = xs} m) = suc (pos xs m)

  pub pos_lt : {a : A} (l : List A) (m : Memᴰ a l) → pos l m < length l
  unfolding pos
  pos_lt l (Memᴰ-head {xs = xs} e) = zero-lt-suc (length xs)
  pos_lt l (Memᴰ-tail {xs = xs} m) = let h = pos_lt xs m in omega arith

  get : A → List A → ℕ → A
  get d [] i = d
  get d (x ∷ l) zero = x
  get d (x ∷ l) (suc i) = get d l i

  pos_get : {a : A} (d : A) (l : List A) (m : Memᴰ a l) → get d l (pos l m) ≡ a
  unfolding pos get
  pos_get d l (Memᴰ-head e) = sym e
  pos_get d l (Memᴰ-tail {xs = xs} m) = pos_get d xs m

  pub pos_same : {a b : A} (l : List A) (m : Memᴰ a l) (k : Memᴰ b l) → pos l m ≡ pos l k → a ≡ b
  pos_same {a} l m k e = sym (pos_get a l m) ∙ ap (get a l) e ∙ pos_get a l k
