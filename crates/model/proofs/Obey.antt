-- Reading order, and what obeying the nogoods of a symmetry means entry by entry. Assumes nothing.
use Rattle.model.specs.Kit.{◌≡◌, refl, sym, subst, Bool, true, false, not, List, [], ◌∷◌, ◌++◌, map, Memᴰ, Memᴰ-head, Memᴰ-tail, Memᴰ-not_nil, Memᴰ-cases_cons, ◌⊎◌, inl}
use Rattle.model.specs.Kit.{inr, ⊎_elim, ℕ, zero, suc, ◌+◌, ◌≤◌, ◌<◌, ◌/◌, ◌%◌, not-suc-le-zero, le_of_suc-le-suc, ℕ_discrete, arith, T, T_not, not_T, ltb, length}
use Rattle.model.specs.{Lists.both, Lists.flat, Lists.up_from, Lists.below, Lists.at, Lists.keep, Lists.earlier, ValueSets.members, Problem.Problem, Problem.pair, Nogood.Entry, Nogood.equality}
use Rattle.model.specs.{Nogood.disequality, Nogood.is, Nogood.obeys_from, Nogood.obeys, Search.entries_at, Search.nogoods_of}
use native.Mathlib.Nat.{zero-lt-suc, le_refl}
use lib.Seq.{append_snoc}
use Rattle.model.proofs.Lists.{both_i, both_l, both_r, TDec, earlier_e, earlier_lt, earlier_eq}

-- ---- behind an equality that doesn't hold nothing is asked
pub obeys_unheld : (a : List ℕ) (es : List Entry) → obeys_from false a es ≡ true
unfolding obeys_from
obeys_unheld a [] = refl
obeys_unheld a (equality x v ∷ es) = obeys_unheld a es
obeys_unheld a (disequality x v ∷ es) = obeys_unheld a es

-- ---- the first difference
abbrev pub First : List ℕ → List ℕ → ℕ → Type 0
First t s j = (j < length t) × (j < length s) × ((i : ℕ) → i < j → at t i ≡ at s i) × (at t j < at s j)

pub first_e : (t s : List ℕ) → T (earlier t s) → (j : ℕ) × First t s j
unfolding earlier at
first_e [] s h = absurd h
first_e (x ∷ t) [] h = absurd h
first_e (x ∷ t) (y ∷ s) h = go (first_e t s) (earlier_e x y t s h)
  where
    go : (T (earlier t s) → (j : ℕ) × First t s j) → (x < y) ⊎ ((x ≡ y) × T (earlier t s)) → (j : ℕ) × First (x ∷ t) (y ∷ s) j
    go ih (inl l) = (0, (zero-lt-suc (length t), zero-lt-suc (length s), λ i l. absurd (not-suc-le-zero l), l))
    go ih (inr k) =
        let r = ih k.1 in
        let f : (i : ℕ) → i < suc r.0 → at (x ∷ t) i ≡ at (y ∷ s) i = elim [ zero ↦ λ l. k.0 | suc i ↦ λ l. r.1.2 i (le_of_suc-le-suc l) ] in
        (suc r.0, (omega (arith, r.1.0), omega (arith, r.1.1), f, r.1.3))

pub first_i : (t s : List ℕ) (j : ℕ) → First t s j → T (earlier t s)
unfolding at
first_i [] s j f = absurd (not-suc-le-zero f.0)
first_i (x ∷ t) [] j f = absurd (not-suc-le-zero f.1)
first_i (x ∷ t) (y ∷ s) zero f = earlier_lt x y t s f.3
first_i (x ∷ t) (y ∷ s) (suc j) f =
    subst (λ (z : ℕ). T (earlier (x ∷ t) (z ∷ s))) (f.2 0 (zero-lt-suc j))
    (earlier_eq x t s (first_i t s j (le_of_suc-le-suc f.0, le_of_suc-le-suc f.1, λ i l. f.2 (suc i) (omega arith), f.3)))

-- ---- a list that puts, for each j, nogoods and then one equality
module _ (s : List ℕ) (var val : ℕ → ℕ → ℕ) (others : ℕ → List ℕ) (own : ℕ → ℕ) where
  abbrev pub hit : ℕ → ℕ → Bool
  hit j v = is s (var j v) (val j v)

  abbrev dis : ℕ → ℕ → Entry
  dis j v = disequality (var j v) (val j v)

  abbrev pub block : ℕ → List Entry
  block j = map (λ v. disequality (var j v) (val j v)) (others j) ++ (equality (var j (own j)) (val j (own j)) ∷ [])

  kept_dis : (held : Bool) (j : ℕ) (vs : List ℕ) (es : List Entry) → T (obeys_from held s (map (dis j) vs ++ es)) → ((v : ℕ) → Memᴰ v vs → T held → T (hit j v) → ⊥) × T (obeys_from held s es)
  unfolding obeys_from
  kept_dis held j [] es h = (λ v m. absurd (Memᴰ-not_nil m), h)
  kept_dis held j (u ∷ vs) es h =
      let c = not (both held (hit j u)) in
      let rest = obeys_from held s (map (dis j) vs ++ es) in
      let ih = kept_dis held j vs es (both_r c rest h) in
      let here = T_not (both held (hit j u)) (both_l c rest h) in
      (λ v m t k. ⊎_elim {C = ⊥} (λ e. here (both_i held (hit j u) t (subst (λ (x : ℕ). T (hit j x)) e k))) (λ i. ih.0 v i t k) (Memᴰ-cases_cons m), ih.1)

  broken_dis : (held : Bool) (j : ℕ) (vs : List ℕ) (es : List Entry) → (T (obeys_from held s (map (dis j) vs ++ es)) → ⊥)
      → ((v : ℕ) × Memᴰ v vs × T held × T (hit j v)) ⊎ (T (obeys_from held s es) → ⊥)
  unfolding obeys_from
  broken_dis held j [] es h = inr h
  broken_dis held j (u ∷ vs) es h = go (TDec (both held (hit j u))) (broken_dis held j vs es)
    where
      go : T (both held (hit j u)) ⊎ (T (both held (hit j u)) → ⊥) → ((T (obeys_from held s (map (dis j) vs ++ es)) → ⊥) → ((v : ℕ) × Memᴰ v vs × T held × T (hit j v)) ⊎
          (T (obeys_from held s es) → ⊥))
          → ((v : ℕ) × Memᴰ v (u ∷ vs) × T held × T (hit j v)) ⊎ (T (obeys_from held s es) → ⊥)
      go (inl t) ih = inl (u, Memᴰ-head refl, both_l held (hit j u) t, both_r held (hit j u) t)
      go (inr t) ih =
          ⊎_elim {C = ((v : ℕ) × Memᴰ v (u ∷ vs) × T held × T (hit j v)) ⊎ (T (obeys_from held s es) → ⊥)} (λ r. inl (r.0, Memᴰ-tail r.1, r.2, r.3)) inr
          (ih (λ k. h (both_i (not (both held (hit j u))) _ (not_T (both held (hit j u)) t) k)))

  abbrev blocks : ℕ → ℕ → List Entry
  blocks a k = flat (map block (up_from a k))

  -- the next block, and what follows its equality
  next : (a k : ℕ) → blocks a (suc k) ≡ map (dis a) (others a) ++ (equality (var a (own a)) (val a (own a)) ∷ blocks (suc a) k)
  unfolding up_from flat
  next a k = append_snoc (map (dis a) (others a)) (equality (var a (own a)) (val a (own a))) (blocks (suc a) k)

  kept : (k a : ℕ) (held : Bool) → T held → T (obeys_from held s (blocks a k)) → (j v : ℕ) → a ≤ j → j < a + k
      → ((i : ℕ) → a ≤ i → i < j → T (hit i (own i))) → Memᴰ v (others j) → T (hit j v) → ⊥
  unfolding obeys_from
  kept zero a held t h j v b c eqs m k = omega arith
  kept (suc n) a held t h j v b c eqs m k = go (kept n (suc a)) (ℕ_discrete j a)
    where
      now : ((u : ℕ) → Memᴰ u (others a) → T held → T (hit a u) → ⊥) × T (obeys_from (both held (hit a (own a))) s (blocks (suc a) n))
      now = kept_dis held a (others a) (equality (var a (own a)) (val a (own a)) ∷ blocks (suc a) n) (subst (λ (es : List Entry). T (obeys_from held s es)) (next a n) h)

      go : ((held : Bool) → T held → T (obeys_from held s (blocks (suc a) n)) → (j v : ℕ) → suc a ≤ j → j < suc a + n → ((i : ℕ) → suc a ≤ i → i < j → T (hit i (own i))) → Memᴰ v (others j)
          → T (hit j v) → ⊥)
          → Dec (j ≡ a) → ⊥
      go ih (yes e) = now.0 v (subst (λ (x : ℕ). Memᴰ v (others x)) e m) t (subst (λ (x : ℕ). T (hit x v)) e k)
      go ih (no e) =
          ih (both held (hit a (own a))) (both_i held (hit a (own a)) t (eqs a (le_refl a) (omega arith))) now.1 j v (omega arith) (omega arith) (λ i p q. eqs i (omega arith) q) m k

  abbrev pub Broken : ℕ → ℕ → Bool → Type 0
  Broken a k held = (j : ℕ) × (v : ℕ) × (a ≤ j) × (j < a + k) × T held × ((i : ℕ) → a ≤ i → i < j → T (hit i (own i))) × Memᴰ v (others j) × T (hit j v)

  broken : (k a : ℕ) (held : Bool) → (T (obeys_from held s (blocks a k)) → ⊥) → Broken a k held
  unfolding obeys_from up_from flat
  broken zero a held h = absurd (h tt)
  broken (suc n) a held h =
      ⊎_elim {C = Broken a (suc n) held}
      (λ r. (a, r.0, le_refl a, omega arith, r.2, λ i p q. absurd (omega arith), r.1, r.3))
      (λ k. later (broken n (suc a) (both held (hit a (own a))) k))
      (broken_dis held a (others a) (equality (var a (own a)) (val a (own a)) ∷ blocks (suc a) n) (λ t. h (subst (λ (es : List Entry). T (obeys_from held s es)) (sym (next a n)) t)))
    where
      later : Broken (suc a) n (both held (hit a (own a))) → Broken a (suc n) held
      later r =
          (r.0, r.1, omega (arith, r.2), omega (arith, r.3), both_l held (hit a (own a)) r.4, λ i p q. eqs i p q (ℕ_discrete i a), r.6, r.7)
        where
          eqs : (i : ℕ) → a ≤ i → i < r.0 → Dec (i ≡ a) → T (hit i (own i))
          eqs i p q (yes e) = subst (λ (x : ℕ). T (hit x (own x))) (sym e) (both_r held (hit a (own a)) r.4)
          eqs i p q (no e) = r.5 i (omega arith) q

-- ---- the nogoods of a symmetry
module _ (p : Problem) (g s : List ℕ) where
  abbrev pub image : ℕ → ℕ → ℕ
  image j v = at g (pair p j v)

  abbrev pub smaller : ℕ → List ℕ
  smaller j = keep (λ v. ltb v (at s j)) (members (at p.initial j))

  -- the image of (j, v) is a pair of s
  abbrev pub meets : ℕ → ℕ → Bool
  meets j v = is s (image j v / p.values) (image j v % p.values)

  nogoods_are : nogoods_of p g s ≡ flat (map (block s (λ j v. image j v / p.values) (λ j v. image j v % p.values) smaller (at s)) (below (length s)))
  unfolding nogoods_of entries_at
  nogoods_are = refl

  pub obeys_e : T (obeys s (nogoods_of p g s)) → (j v : ℕ) → j < length s → ((i : ℕ) → i < j → T (meets i (at s i))) → Memᴰ v (smaller j) → T (meets j v) → ⊥
  unfolding below
  obeys_e h j v l eqs m k =
      kept s (λ j v. image j v / p.values) (λ j v. image j v % p.values) smaller (at s) (length s) 0 true tt
      (subst (λ (es : List Entry). T (obeys s es)) nogoods_are h) j v (omega arith) (omega arith) (λ i b c. eqs i c) m k

  pub obeys_not : (T (obeys s (nogoods_of p g s)) → ⊥) → (j : ℕ) × (v : ℕ) × (j < length s) × ((i : ℕ) → i < j → T (meets i (at s i))) × Memᴰ v (smaller j) × T (meets j v)
  unfolding below
  obeys_not h =
      let r = broken s (λ j v. image j v / p.values) (λ j v. image j v % p.values) smaller (at s) (length s) 0 true (λ t. h (subst (λ (es : List Entry). T (obeys s es)) (sym nogoods_are) t)) in
      (r.0, r.1, omega (arith, r.3), λ i l. r.5 i (omega arith) l, r.6, r.7)

-- ---- the same of any assignment: the nogoods of a symmetry at a prefix
module _ (p : Problem) (g prefix a : List ℕ) where
  -- the image of (j, v) is a pair of a
  abbrev pub meets_in : ℕ → ℕ → Bool
  meets_in j v = is a (at g (pair p j v) / p.values) (at g (pair p j v) % p.values)

  abbrev pub smaller_in : ℕ → List ℕ
  smaller_in j = keep (λ v. ltb v (at prefix j)) (members (at p.initial j))

  nogoods_at : nogoods_of p g prefix ≡ flat (map (block a (λ j v. at g (pair p j v) / p.values) (λ j v. at g (pair p j v) % p.values) smaller_in (at prefix)) (below (length prefix)))
  unfolding nogoods_of entries_at
  nogoods_at = refl

  pub prefix_e : T (obeys a (nogoods_of p g prefix)) → (j v : ℕ) → j < length prefix → ((i : ℕ) → i < j → T (meets_in i (at prefix i))) → Memᴰ v (smaller_in j) → T (meets_in j v) → ⊥
  unfolding below
  prefix_e h j v l eqs m k =
      kept a (λ j v. at g (pair p j v) / p.values) (λ j v. at g (pair p j v) % p.values) smaller_in (at prefix) (length prefix) 0 true tt
      (subst (λ (es : List Entry). T (obeys a es)) nogoods_at h) j v (omega arith) (omega arith) (λ i b c. eqs i c) m k

  pub prefix_not : (T (obeys a (nogoods_of p g prefix)) → ⊥) → (j : ℕ) × (v : ℕ) × (j < length prefix) × ((i : ℕ) → i < j → T (meets_in i (at prefix i))) × Memᴰ v (smaller_in j) × T (meets_in j v)
  unfolding below
  prefix_not h =
      let r = broken a (λ j v. at g (pair p j v) / p.values) (λ j v. at g (pair p j v) % p.values) smaller_in (at prefix) (length prefix) 0 true
      (λ t. h (subst (λ (es : List Entry). T (obeys a es)) (sym nogoods_at) t)) in
      (r.0, r.1, omega (arith, r.3), λ i l. r.5 i (omega arith) l, r.6, r.7)
