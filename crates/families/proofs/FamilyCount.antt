-- The family of a solution holds exactly those joined to it, and the number of families is that of any list with one solution of each
-- (specs/Families). Assumes nothing.
use Rattle.model.specs.Kit.{◌≡◌, refl, sym, ap, ap₂, ◌∙◌, subst, Bool, true, false, ◌⊎◌, inl, inr, ⊎_elim, List, [], ◌∷◌, Memᴰ, Memᴰ-head, Memᴰ-tail, Memᴰ-not_nil}
use Rattle.model.specs.Kit.{Memᴰ-cases_cons, ℕ, zero, suc, ◌≤◌, ◌<◌, ℕ_discrete, dec_lt, arith, T, T_not, not_T, length}
use Rattle.model.specs.{Lists.both, Lists.either, Lists.any, Lists.keep, Lists.same, Lists.earlier, Problem.Problem, Problem.is_solution, Problem.assignments, Problem.takes}
use Rattle.model.specs.Inner.WellFormed.{WellFormed, Respected}
use Rattle.families.specs.Families.{Joined, alone, further, solutions_of, widened, reached_in, family_of, is_earliest, earliest_of, families_of, Apart, OneOfEach, FamilyCount}
use Rattle.families.specs.Inner.FamilyClaims.{FamiliesCounted}
use Rattle.model.proofs.{Lists.earlier_asym, Lists.T_of, Lists.of_not, Lists.either_l, Lists.either_r, Lists.either_e, Lists.any_i, Lists.any_e, Lists.keep_yes, Lists.keep_no, Lists.keep_i}
use Rattle.model.proofs.{Lists.keep_e, Lists.same_eq, Lists.same_refl, Lists.earlier_lt, Lists.earlier_eq, Lists.Sorted, Lists.sorted_keep, Assignments.assignments_sorted, Leaders.sol_drawn}
use Rattle.families.proofs.Joined.{joined_to, joined_trans, joined_sym}

-- ---- rows and lists of rows
-- of two rows of one length one reads earlier, or they are the same
pub row_order : (a b : List ℕ) → length a ≡ length b → T (earlier a b) ⊎ T (earlier b a) ⊎ (a ≡ b)
row_order [] [] n = inr (inr refl)
row_order [] (y ∷ b) n = absurd (omega arith)
row_order (x ∷ a) [] n = absurd (omega arith)
row_order (x ∷ a) (y ∷ b) n = go (row_order a b (omega arith)) (ℕ_discrete x y) (dec_lt x y)
  where
    go : T (earlier a b) ⊎ T (earlier b a) ⊎ (a ≡ b) → Dec (x ≡ y) → Dec (x < y) → T (earlier (x ∷ a) (y ∷ b)) ⊎ T (earlier (y ∷ b) (x ∷ a)) ⊎ (x ∷ a ≡ y ∷ b)
    go (inl h) (yes e) d = inl (subst (λ (z : ℕ). T (earlier (x ∷ a) (z ∷ b))) e (earlier_eq x a b h))
    go (inr (inl h)) (yes e) d = inr (inl (subst (λ (z : ℕ). T (earlier (z ∷ b) (x ∷ a))) e (earlier_eq x b a h)))
    go (inr (inr h)) (yes e) d = inr (inr (ap₂ (λ (z : ℕ) (r : List ℕ). z ∷ r) e h))
    go h (no e) (yes d) = inl (earlier_lt x y a b d)
    go h (no e) (no d) = inr (inl (earlier_lt y x b a (omega arith)))

pub row_among_i : (s : List ℕ) (xs : List (List ℕ)) → Memᴰ s xs → T (any (same s) xs)
row_among_i s xs m = any_i (same s) xs s m (same_refl s)

pub row_among_e : (s : List ℕ) (xs : List (List ℕ)) → T (any (same s) xs) → Memᴰ s xs
row_among_e s xs t = let r = any_e (same s) xs t in subst (λ (z : List ℕ). Memᴰ z xs) (sym (same_eq s r.0 r.2)) r.1

module _ {A : Type 0} where
  pub keep_length : (p : A → Bool) (l : List A) → length (keep p l) ≤ length l
  unfolding keep
  keep_length p [] = omega arith
  keep_length p (x ∷ l) = go (p x) (keep_length p l)
    where
      go : (b : Bool) → length (keep p l) ≤ length l → length {A = A} (elim b [ true ↦ x ∷ keep p l | false ↦ keep p l ]) ≤ suc (length l)
      go true h = omega arith
      go false h = omega arith

  -- a test that takes more keeps the same elements or more of them
  pub keep_grows : (p q : A → Bool) (l : List A) → ((x : A) → Memᴰ x l → T (p x) → T (q x)) → (keep p l ≡ keep q l) ⊎ (length (keep p l) < length (keep q l))
  unfolding keep
  keep_grows p q [] h = inl refl
  keep_grows p q (x ∷ l) h = go (p x) refl (q x) refl (keep_grows p q l (λ y m. h y (Memᴰ-tail m)))
    where
      go : (b : Bool) → p x ≡ b → (c : Bool) → q x ≡ c → (keep p l ≡ keep q l) ⊎ (length (keep p l) < length (keep q l)) →
          (◌≡◌ {A = List A} (elim b [ true ↦ x ∷ keep p l | false ↦ keep p l ]) (elim c [ true ↦ x ∷ keep q l | false ↦ keep q l ]))
          ⊎ (length {A = A} (elim b [ true ↦ x ∷ keep p l | false ↦ keep p l ]) < length {A = A} (elim c [ true ↦ x ∷ keep q l | false ↦ keep q l ]))
      go true e true f (inl r) = inl (ap (λ (z : List A). x ∷ z) r)
      go true e true f (inr r) = inr (omega arith)
      go true e false f r = absurd (of_not (q x) f (h x (Memᴰ-head refl) (T_of (p x) e)))
      go false e true f (inl r) = let z : length (keep p l) ≡ length (keep q l) = ap length r in inr (omega arith)
      go false e true f (inr r) = inr (omega arith)
      go false e false f r = r

  pub keep_fewer : (p q : A → Bool) (l : List A) → ((x : A) → Memᴰ x l → T (p x) → T (q x)) → length (keep p l) ≤ length (keep q l)
  keep_fewer p q l h = ⊎_elim {C = length (keep p l) ≤ length (keep q l)} (λ e. let z : length (keep p l) ≡ length (keep q l) = ap length e in omega arith) (λ e. omega arith) (keep_grows p q l h)

  -- two tests one after the other
  pub keep_keep : (p q : A → Bool) (l : List A) → keep q (keep p l) ≡ keep (λ x. both (p x) (q x)) l
  unfolding keep
  keep_keep p q [] = refl
  keep_keep p q (x ∷ l) = go (p x) (q x) refl (keep_keep p q l)
    where
      go : (b c : Bool) → q x ≡ c → keep q (keep p l) ≡ keep (λ x. both (p x) (q x)) l →
          keep q (elim b [ true ↦ x ∷ keep p l | false ↦ keep p l ]) ≡ elim (both b c) [ true ↦ x ∷ keep (λ x. both (p x) (q x)) l | false ↦ keep (λ x. both (p x) (q x)) l ]
      go true true e r = keep_yes q x (keep p l) e ∙ ap (λ (z : List A). x ∷ z) r
      go true false e r = keep_no q x (keep p l) e ∙ r
      go false c e r = r

  -- without one of its elements
  pub one_fewer : (x : A) (ys : List A) → Memᴰ x ys → (zs : List A) × (length ys ≡ suc (length zs)) × ((z : A) → Memᴰ z ys → (z ≡ x) ⊎ Memᴰ z zs)
  one_fewer x [] m = absurd (Memᴰ-not_nil m)
  one_fewer x (y ∷ ys) (Memᴰ-head e) = (ys, refl, λ z k. ⊎_elim {C = (z ≡ x) ⊎ Memᴰ z ys} (λ q. inl (q ∙ sym e)) (λ j. inr j) (Memᴰ-cases_cons k))
  one_fewer x (y ∷ ys) (Memᴰ-tail m) =
      let r = one_fewer x ys m in (
        y ∷ r.0,
        ap suc r.1,
        λ z k. ⊎_elim {C = (z ≡ x) ⊎ Memᴰ z (y ∷ r.0)} (λ q. inr (Memᴰ-head q))
            (λ j. ⊎_elim {C = (z ≡ x) ⊎ Memᴰ z (y ∷ r.0)} (λ q. inl q) (λ i. inr (Memᴰ-tail i)) (r.2 z j)) (Memᴰ-cases_cons k),
      )

  pub member_length : (l : List A) (x : A) → Memᴰ x l → 0 < length l
  member_length [] x m = absurd (Memᴰ-not_nil m)
  member_length (y ∷ l) x m = omega arith

  pub sorted_weaker : (R S : A → A → Type 0) (l : List A) → ((x y : A) → Memᴰ x l → Memᴰ y l → R x y → S x y) → Sorted R l → Sorted S l
  sorted_weaker R S [] h s = tt
  sorted_weaker R S (x ∷ l) h s = (λ y m. h x y (Memᴰ-head refl) (Memᴰ-tail m) (s.0 y m), sorted_weaker R S l (λ y z i j. h y z (Memᴰ-tail i) (Memᴰ-tail j)) s.1)

abbrev pub ReadsEarlier : List ℕ → List ℕ → Type 0
ReadsEarlier x y = T (earlier x y)

-- the first of a list in reading order
pub first_of : (l : List (List ℕ)) → Sorted ReadsEarlier l → (s : List ℕ) → Memᴰ s l → (h : List ℕ) × Memᴰ h l × ((t : List ℕ) → Memᴰ t l → T (earlier t h) → ⊥)
first_of [] o s m = absurd (Memᴰ-not_nil m)
first_of (h ∷ l) o s m = (h, Memᴰ-head refl, none)
  where
    none : (t : List ℕ) → Memᴰ t (h ∷ l) → T (earlier t h) → ⊥
    none t (Memᴰ-head e) k = let z : T (earlier h h) = subst (λ (u : List ℕ). T (earlier u h)) e k in earlier_asym h h z z
    none t (Memᴰ-tail i) k = earlier_asym h t (o.0 t i) k

module _ (p : Problem) (w : WellFormed p) (respected : Respected p) where
  abbrev sols : List (List ℕ)
  sols = solutions_of p

  pub solution_in : (s : List ℕ) → T (is_solution p s) → Memᴰ s (solutions_of p)
  unfolding solutions_of
  solution_in s t = keep_i (is_solution p) (assignments p.initial) s (sol_drawn p w s t) t

  pub in_solution : (s : List ℕ) → Memᴰ s (solutions_of p) → T (is_solution p s)
  unfolding solutions_of
  in_solution s m = (keep_e (is_solution p) (assignments p.initial) s m).1

  pub solutions_sorted : Sorted ReadsEarlier (solutions_of p)
  unfolding solutions_of
  solutions_sorted = sorted_keep ReadsEarlier (is_solution p) (assignments p.initial) (assignments_sorted p.initial)

  -- ---- one step more
  abbrev near : List (List ℕ) → List ℕ → Bool
  near xs s = either (any (same s) xs) (any (λ g. any (λ t. takes p g t s) xs) p.symmetries)

  widened_old : (xs : List (List ℕ)) (s : List ℕ) → Memᴰ s (solutions_of p) → Memᴰ s xs → Memᴰ s (widened p (solutions_of p) xs)
  unfolding widened
  widened_old xs s m k = keep_i (near xs) sols s m (either_l (any (same s) xs) _ (row_among_i s xs k))

  widened_new : (xs : List (List ℕ)) (s t g : List ℕ) → Memᴰ s (solutions_of p) → Memᴰ g p.symmetries → Memᴰ t xs → T (takes p g t s) → Memᴰ s (widened p (solutions_of p) xs)
  unfolding widened
  widened_new xs s t g m i k h =
      keep_i (near xs) sols s m (either_r (any (same s) xs) _ (any_i (λ f. any (λ u. takes p f u s) xs) p.symmetries g i (any_i (λ u. takes p g u s) xs t k h)))

  widened_e : (xs : List (List ℕ)) (s : List ℕ) → Memᴰ s (widened p (solutions_of p) xs)
      → Memᴰ s xs ⊎ ((g : List ℕ) × (t : List ℕ) × Memᴰ g p.symmetries × Memᴰ t xs × T (takes p g t s))
  unfolding widened
  widened_e xs s m =
      ⊎_elim {C = Memᴰ s xs ⊎ ((g : List ℕ) × (t : List ℕ) × Memᴰ g p.symmetries × Memᴰ t xs × T (takes p g t s))}
      (λ h. inl (row_among_e s xs h))
      (λ h. let r = any_e (λ f. any (λ u. takes p f u s) xs) p.symmetries h in let q = any_e (λ u. takes p r.0 u s) xs r.2 in inr (r.0, q.0, r.1, q.1, q.2))
      (either_e (any (same s) xs) _ (keep_e (near xs) sols s m).1)

  widened_in : (xs : List (List ℕ)) (s : List ℕ) → Memᴰ s (widened p (solutions_of p) xs) → Memᴰ s (solutions_of p)
  unfolding widened
  widened_in xs s m = (keep_e (near xs) sols s m).0

  module _ (a : List ℕ) (sa : T (is_solution p a)) where
    abbrev R : ℕ → List (List ℕ)
    R k = reached_in p (solutions_of p) a k

    start_in : Memᴰ a (R 0)
    unfolding reached_in
    start_in = keep_i (same a) sols a (solution_in a sa) (same_refl a)

    -- what is reached is joined
    reached_joined : (k : ℕ) (s : List ℕ) → Memᴰ s (R k) → Joined p a s
    unfolding reached_in
    reached_joined zero s m = subst (λ (z : List ℕ). Joined p a z) (same_eq a s (keep_e (same a) sols s m).1) (alone sa)
    reached_joined (suc k) s m = go (reached_joined k) (widened_e (R k) s m)
      where
        go : ((t : List ℕ) → Memᴰ t (R k) → Joined p a t) → Memᴰ s (R k) ⊎ ((g : List ℕ) × (t : List ℕ) × Memᴰ g p.symmetries × Memᴰ t (R k) × T (takes p g t s)) → Joined p a s
        go ih (inl i) = ih s i
        go ih (inr r) = further r.1 s r.0 (ih r.1 r.3) r.2 r.4 (in_solution s (widened_in (R k) s m))

    -- each round adds a solution or is the last
    reached_test : (k : ℕ) → (q : List ℕ → Bool) × (R k ≡ keep q (solutions_of p))
    unfolding reached_in widened
    reached_test zero = (same a, refl)
    reached_test (suc k) = (near (R k), refl)

    still : (k : ℕ) → R k ≡ R (suc k) → R (suc k) ≡ R (suc (suc k))
    unfolding reached_in
    still k e = ap (widened p (solutions_of p)) e

    reached_next : (k : ℕ) (s : List ℕ) → Memᴰ s (R k) → Memᴰ s (R (suc k))
    unfolding reached_in
    reached_next k s m = widened_old (R k) s (solution_in s (joined_to p a s (reached_joined k s m))) m

    round_grows : (k : ℕ) → (R k ≡ R (suc k)) ⊎ (length (R k) < length (R (suc k)))
    round_grows k =
        let q = reached_test k in
        let r = reached_test (suc k) in
        ⊎_elim {C = (R k ≡ R (suc k)) ⊎ (length (R k) < length (R (suc k)))}
        (λ e. inl (q.1 ∙ e ∙ sym r.1))
        (λ h. let c : length (R k) ≡ length (keep q.0 sols) = ap length q.1 in let d : length (R (suc k)) ≡ length (keep r.0 sols) = ap length r.1 in inr (omega arith))
        (keep_grows q.0 r.0 sols (λ s m t. (keep_e r.0 sols s (subst (Memᴰ s) r.1 (reached_next k s (subst (Memᴰ s) (sym q.1) (keep_i q.0 sols s m t))))).1))

    stays : (k : ℕ) → (R k ≡ R (suc k)) ⊎ (k < length (R k))
    stays zero = inr (member_length (R 0) a start_in)
    stays (suc k) = go (stays k) (round_grows k)
      where
        go : (R k ≡ R (suc k)) ⊎ (k < length (R k)) → (R k ≡ R (suc k)) ⊎ (length (R k) < length (R (suc k))) → (R (suc k) ≡ R (suc (suc k))) ⊎ (suc k < length (R (suc k)))
        go h (inl e) = inl (still k e)
        go (inl e) (inr l) = inl (still k e)
        go (inr h) (inr l) = inr (omega arith)

    -- so the family is closed under symmetries
    last : R (length (solutions_of p)) ≡ R (suc (length (solutions_of p)))
    last = ⊎_elim {C = R (length (solutions_of p)) ≡ R (suc (length (solutions_of p)))} (λ e. e)
        (λ h. absurd (let q = reached_test (length sols) in let l = keep_length q.0 sols in let e : length (R (length sols)) ≡ length (keep q.0 sols) = ap length q.1 in omega arith))
        (stays (length (solutions_of p)))

    arrives : (s : List ℕ) → Joined p a s → Memᴰ s (R (length (solutions_of p)))
    unfolding reached_in
    arrives s (alone t) = all_rounds (length sols)
      where
        all_rounds : (k : ℕ) → Memᴰ a (R k)
        all_rounds zero = start_in
        all_rounds (suc k) = reached_next k a (all_rounds k)
    arrives s (further b c g j m t r) = subst (Memᴰ c) (sym last) (widened_new (R (length sols)) c b g (solution_in c r) m (arrives b j) t)

    pub family_e : (s : List ℕ) → Memᴰ s (family_of p a) → Joined p a s
    unfolding family_of
    family_e s m = reached_joined (length sols) s m

    pub family_i : (s : List ℕ) → Joined p a s → Memᴰ s (family_of p a)
    unfolding family_of
    family_i s j = arrives s j

    pub family_sorted : Sorted ReadsEarlier (family_of p a)
    unfolding family_of
    family_sorted = let q = reached_test (length sols) in subst (Sorted ReadsEarlier) (sym q.1) (sorted_keep ReadsEarlier q.0 sols solutions_sorted)

    -- ---- the earliest of a family
    pub earliest_e : T (is_earliest p a) → (t : List ℕ) → Joined p a t → T (earlier t a) → ⊥
    unfolding is_earliest
    earliest_e h t j e = T_not (any (λ u. earlier u a) (family_of p a)) h (any_i (λ u. earlier u a) (family_of p a) t (family_i t j) e)

    pub earliest_i : ((t : List ℕ) → Joined p a t → T (earlier t a) → ⊥) → T (is_earliest p a)
    unfolding is_earliest
    earliest_i h = not_T (any (λ u. earlier u a) (family_of p a)) (λ k. let r = any_e (λ u. earlier u a) (family_of p a) k in h r.0 (family_e r.0 r.1) r.2)

  -- every family has an earliest solution
  pub earliest_of_lem : (s : List ℕ) → T (is_solution p s) → (h : List ℕ) × T (is_solution p h) × T (is_earliest p h) × Joined p h s
  earliest_of_lem s t =
      let r = first_of (family_of p s) (family_sorted s t) s (family_i s t s (alone t)) in
      let h = r.0 in
      let j : Joined p s h = family_e s t h r.1 in
      let sh = joined_to p s h j in
      (h, sh, earliest_i h sh (λ u k e. r.2 u (family_i s t u (joined_trans p s h u j k)) e), joined_sym p w respected s h j)

  pub earliest_in : (s : List ℕ) → T (is_solution p s) → T (is_earliest p s) → Memᴰ s (earliest_of p)
  unfolding earliest_of
  earliest_in s t e = keep_i (is_earliest p) sols s (solution_in s t) e

  pub in_earliest : (s : List ℕ) → Memᴰ s (earliest_of p) → T (is_solution p s) × T (is_earliest p s)
  unfolding earliest_of
  in_earliest s m = let r = keep_e (is_earliest p) sols s m in (in_solution s r.0, r.1)

  earliest_sorted : Sorted ReadsEarlier (earliest_of p)
  unfolding earliest_of
  earliest_sorted = sorted_keep ReadsEarlier (is_earliest p) sols solutions_sorted

  pub earliest_each : OneOfEach p (earliest_of p)
  earliest_each = record {
    solve = λ a m. (in_earliest a m).0;
    apart = apart (earliest_of p) (sorted_weaker ReadsEarlier (λ a b. Joined p a b → ⊥) (earliest_of p)
        (λ a b i j e k. let r = in_earliest b j in earliest_e b r.0 r.1 a (joined_sym p w respected a b k) e) earliest_sorted);
    every = λ s t. let r = earliest_of_lem s t in (r.0, earliest_in r.0 r.1 r.2, r.3);
  }
    where
      apart : (l : List (List ℕ)) → Sorted (λ a b. Joined p a b → ⊥) l → Apart p l
      apart [] s = tt
      apart (a ∷ l) s = (s.0, apart l s.1)

  -- ---- the number of families
  -- solutions of which no two are joined are no more than solutions to which each of them is joined
  pub no_more_families : (l m : List (List ℕ)) → Apart p l → ((a : List ℕ) → Memᴰ a l → (b : List ℕ) × Memᴰ b m × Joined p b a) → length l ≤ length m
  no_more_families [] m u h = omega arith
  no_more_families (a ∷ l) m u h =
      let b = h a (Memᴰ-head refl) in
      let r = one_fewer b.0 m b.1 in
      let k : length l ≤ length r.0 = no_more_families l r.0 u.1 (λ c i. let d = h c (Memᴰ-tail i) in
      ⊎_elim {C = (e : List ℕ) × Memᴰ e r.0 × Joined p e c}
      (λ e. absurd (u.0 c i (joined_trans p a b.0 c (joined_sym p w respected b.0 a b.2) (subst (λ (z : List ℕ). Joined p z c) e d.2))))
      (λ j. (d.0, j, d.2)) (r.2 d.0 d.1)) in
      let e = r.1 in
      omega arith

  pub as_many_families : (l m : List (List ℕ)) → OneOfEach p l → OneOfEach p m → length l ≡ length m
  as_many_families l m o q =
      let f = no_more_families l m o.apart (λ a i. q.every a (o.solve a i)) in
      let g = no_more_families m l q.apart (λ a i. o.every a (q.solve a i)) in
      omega arith

  pub families : FamilyCount p
  unfolding families_of
  families = ((earliest_of p, refl, earliest_each), λ l o. as_many_families l (earliest_of p) o earliest_each)

pub families_counted : FamiliesCounted
families_counted = families
