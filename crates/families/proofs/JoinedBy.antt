-- Families in an order: what is joined in a problem is joined in the reordered problem; closed symmetries leave one leader of each family in
-- any order. Assumes nothing.
use Rattle.model.specs.Kit.{◌≡◌, refl, sym, ◌∙◌, subst, subst₂, ⊎_elim, List, [], ◌∷◌, map, Memᴰ, Memᴰ-head, Memᴰ-tail, Memᴰ-map, Memᴰ-of_map, ℕ, T, length-map}
use Rattle.model.specs.{Lists.earlier, Problem.Problem, Problem.is_solution, Problem.assignments, Problem.takes, Claims.Leader, Claims.is_leader, Inner.WellFormed.WellFormed}
use Rattle.model.specs.Inner.WellFormed.{Respected}
use Rattle.order.specs.{Order.Ordering, Reordered.read, Reordered.write, Reordered.earlier_by, Reordered.symmetry_in, Reordered.reordered, RunBy.leaders_by}
use Rattle.families.specs.Families.{Joined, alone, further, OneOfEach, Apart, families_of, earliest_of, Closed}
use Rattle.model.proofs.{Lists.earlier_asym, Lists.Sorted, Lists.sorted_keep, Assignments.assignments_sorted, Assignments.assign_e, Tree.solution_e}
use Rattle.families.proofs.FamilyCount.{row_order, earliest_e, earliest_of_lem, earliest_each, as_many_families, sorted_weaker}
use Rattle.families.proofs.{Joined.joined_to, Joined.joined_one, Joined.joined_trans, Joined.joined_sym, Closed.one_step}
use Rattle.order.proofs.RunBy.{leaders_by_hold}
use Rattle.order.proofs.Reordered as R
use Rattle.order.proofs.LeadersBy as L

sorted_map : {A B : Type 0} (R : A → A → Type 0) (S : B → B → Type 0) (f : A → B) (l : List A) → ((x y : A) → Memᴰ x l → Memᴰ y l → R x y → S (f x) (f y)) → Sorted R l → Sorted S (map f l)
sorted_map {A} {B} R S f [] h s = tt
sorted_map {A} {B} R S f (x ∷ l) h s = (
  λ y m. let r = Memᴰ-of_map f l m in subst (S (f x)) r.2 (h x r.0 (Memᴰ-head refl) (Memᴰ-tail r.1) (s.0 r.0 r.1)),
  sorted_map R S f l (λ y z i j. h y z (Memᴰ-tail i) (Memᴰ-tail j)) s.1,
)

module _ (p : Problem) where
  pub apart_of : (l : List (List ℕ)) → Sorted (λ a b. Joined p a b → ⊥) l → Apart p l
  apart_of [] s = tt
  apart_of (a ∷ l) s = (s.0, apart_of l s.1)

  pub sorted_of : (l : List (List ℕ)) → Apart p l → Sorted (λ a b. Joined p a b → ⊥) l
  sorted_of [] s = tt
  sorted_of (a ∷ l) s = (s.0, sorted_of l s.1)

module _ (p : Problem) (w : WellFormed p) (respected : Respected p) (order : List ℕ) (o : Ordering p.variables order) where
  abbrev p2 : Problem
  p2 = reordered order p

  v2 : WellFormed (reordered order p)
  v2 = R.well_reordered p order o w

  r2 : Respected (reordered order p)
  r2 = R.respected_reordered p order o w respected

  -- ---- joined, there and back
  pub joined_read : (a b : List ℕ) → Joined p a b → Joined (reordered order p) (read order a) (read order b)
  joined_read a b (alone s) = alone (L.to p order o w a s)
  joined_read a b (further c e g j m t s) =
      further (read order c) (read order e) (symmetry_in order p g) (joined_read a c j) (Memᴰ-map (symmetry_in order p) m) (subst T (L.took p order o w g c e m (joined_to p a c j) s) t)
      (L.to p order o w e s)

  pub joined_write : (a b : List ℕ) → Joined (reordered order p) a b → Joined p (write order a) (write order b)
  joined_write a b (alone s) = alone (L.fro p order o w a s)
  joined_write a b (further c e g j m t s) =
      let r = Memᴰ-of_map (symmetry_in order p) p.symmetries m in
      let sc = joined_to p2 a c j in
      further (write order c) (write order e) r.0 (joined_write a c j) r.1
      (subst T (sym (L.took p order o w r.0 (write order c) (write order e) r.1 (L.fro p order o w c sc) (L.fro p order o w e s)))
      (subst₂ (λ (y z : List ℕ). T (takes p2 (symmetry_in order p r.0) y z)) (sym (L.again p order o w c sc)) (sym (L.again p order o w e s))
      (subst (λ (k : List ℕ). T (takes p2 k c e)) (sym r.2) t)))
      (L.fro p order o w e s)

  back : (s : List ℕ) → T (is_solution p s) → write order (read order s) ≡ s
  back s t = R.write_read p order o s (solution_e p s t).sized

  -- one of each family of the reordered problem, by place number
  pub each_write : (l : List (List ℕ)) → OneOfEach (reordered order p) l → OneOfEach p (map (write order) l)
  each_write l k = record {
    solve = λ a m. (let r = Memᴰ-of_map (write order) l m in subst (λ (z : List ℕ). T (is_solution p z)) r.2 (L.fro p order o w r.0 (k.solve r.0 r.1)));
    apart = apart_of p (map (write order) l) (sorted_map (λ a b. Joined p2 a b → ⊥) (λ a b. Joined p a b → ⊥) (write order) l
        (λ a b i j h q. h (subst₂ (Joined p2) (L.again p order o w a (k.solve a i)) (L.again p order o w b (k.solve b j)) (joined_read (write order a) (write order b) q)))
        (sorted_of p2 l k.apart));
    every = λ s t. (let r = k.every (read order s) (L.to p order o w s t) in (
      write order r.0,
      Memᴰ-map (write order) r.1,
      subst (Joined p (write order r.0)) (back s t)
          (joined_write r.0 (read order s) r.2),
    ));
  }

  -- as many families, in whatever order
  pub families_reordered : families_of (reordered order p) ≡ families_of p
  unfolding families_of
  families_reordered = sym (length-map (earliest_of p2) (write order)) ∙ as_many_families p w respected (map (write order) (earliest_of p2)) (earliest_of p)
      (each_write (earliest_of p2) (earliest_each p2 v2 r2)) (earliest_each p w respected)

  -- every family has one that reads earliest in the order
  pub earliest_by : (s : List ℕ) → T (is_solution p s) → (h : List ℕ) × T (is_solution p h) × ((t : List ℕ) → Joined p h t → T (earlier_by order t h) → ⊥) × Joined p h s
  earliest_by s t =
      let r = earliest_of_lem p2 v2 r2 (read order s) (L.to p order o w s t) in
      let e = L.again p order o w r.0 r.1 in (
        write order r.0,
        L.fro p order o w r.0 r.1,
        λ u j k. earliest_e p2 v2 r2 r.0 r.1 r.2 (read order u) (subst (λ (z : List ℕ). Joined p2 z (read order u)) e (joined_read (write order r.0) u j))
            (subst (λ (z : List ℕ). T (earlier (read order u) z)) e k),
        subst (Joined p (write order r.0)) (back s t) (joined_write r.0 (read order s) r.3),
      )

  -- the earliest of a family is a leader, closed or not
  pub earliest_leader_by : (s : List ℕ) → T (is_solution p s) → ((t : List ℕ) → Joined p s t → T (earlier_by order t s) → ⊥) → Leader (earlier_by order) p s
  earliest_leader_by s sol h = record { solves = sol; unbeaten = λ g t m st e tk. h t (joined_sym p w respected t s (joined_one p t s g st m tk sol)) e }

  -- ---- closed symmetries
  module _ (closed : Closed p) where
    pub leader_earliest_by : (s : List ℕ) → Leader (earlier_by order) p s → (t : List ℕ) → Joined p s t → T (earlier_by order t s) → ⊥
    leader_earliest_by s l t j e =
        ⊎_elim {C = ⊥} (λ q. let z : T (earlier (read order s) (read order s)) = subst (λ (u : List ℕ). T (earlier (read order u) (read order s))) q e in earlier_asym (read order s)
        (read order s) z z)
        (λ r. l.unbeaten r.0 t r.1 (joined_to p s t j) e r.2) (one_step p w respected closed t s (joined_sym p w respected s t j))

    -- two leaders of one family are one
    pub one_leader_by : (m l : List ℕ) → Leader (earlier_by order) p m → Leader (earlier_by order) p l → Joined p m l → m ≡ l
    one_leader_by m l lm ll j =
        ⊎_elim {C = m ≡ l} (λ e. absurd (leader_earliest_by l ll m (joined_sym p w respected m l j) e))
        (⊎_elim {C = m ≡ l} (λ e. absurd (leader_earliest_by m lm l j e)) (λ e. R.read_inj p order o m l (solution_e p m lm.solves).sized (solution_e p l ll.solves).sized e))
        (row_order (read order m) (read order l) (R.read_length p order o m ∙ sym (R.read_length p order o l)))

    pub each_by : (s : List ℕ) → T (is_solution p s) → (l : List ℕ) × Leader (earlier_by order) p l × Joined p l s × ((m : List ℕ) → Leader (earlier_by order) p m → Joined p m s → m ≡ l)
    each_by s sol =
        let r = earliest_by s sol in
        let l = r.0 in
        let lead = earliest_leader_by l r.1 r.2 in
        (l, lead, r.3, λ m lm j. one_leader_by m l lm lead (joined_trans p m s l j (joined_sym p w respected l s r.3)))

    leaders_sorted : Sorted (λ a b. T (earlier_by order a b)) (leaders_by order p)
    leaders_sorted =
        let drawn = assignments (read order p.initial) in
        let n : (r : List ℕ) → Memᴰ r drawn → read order (write order r) ≡ r = λ r m. R.read_write p order o r
        ((assign_e (read order p.initial) r m).0 ∙ R.read_length p order o p.initial) in
        sorted_keep (λ (a b : List ℕ). T (earlier_by order a b)) (is_leader (earlier_by order) p) (map (write order) drawn)
        (sorted_map (λ (a b : List ℕ). T (earlier a b)) (λ (a b : List ℕ). T (earlier_by order a b)) (write order) drawn
        (λ a b i j e. subst₂ (λ (y z : List ℕ). T (earlier y z)) (sym (n a i)) (sym (n b j)) e) (assignments_sorted (read order p.initial)))

    pub leaders_each_by : OneOfEach p (leaders_by order p)
    leaders_each_by = record {
      solve = λ a m. ((leaders_by_hold p w respected order o a).0 m).solves;
      apart = apart_of p (leaders_by order p) (sorted_weaker (λ a b. T (earlier_by order a b)) (λ a b. Joined p a b → ⊥) (leaders_by order p)
          (λ a b i j e q. leader_earliest_by b ((leaders_by_hold p w respected order o b).0 j) a (joined_sym p w respected a b q) e) leaders_sorted);
      every = λ s t. (let r = each_by s t in (r.0, (leaders_by_hold p w respected order o r.0).1 r.1, r.2));
    }
