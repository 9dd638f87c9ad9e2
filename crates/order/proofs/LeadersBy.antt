-- Leaders and chains of the reordered problem are those of the problem where rows are read in the order;
-- and the order 0, 1, .. changes nothing. Assumes nothing.
use Rattle.model.specs.Kit.{◌≡◌, refl, sym, ap, ap₂, ◌∙◌, subst, subst₂, List, [], ◌∷◌, map, Memᴰ, Memᴰ-head, Memᴰ-tail, Memᴰ-cast, Memᴰ-map, Memᴰ-of_map, ◌↔◌, ℕ, ◌*◌, ◌/◌, ◌%◌, ◌<◌}
use Rattle.model.specs.Kit.{arith, T, length}
use Rattle.model.specs.Problem.{Problem, Constraint, pair, takes, is_solution}
use Rattle.model.specs.{Lists.below, Lists.at, Lists.earlier, Claims.Leader, Claims.Chain, Claims.here, Claims.step, Inner.WellFormed.WellFormed, Inner.WellFormed.GoodConstraint}
use native.Mathlib.Nat.{div-lt_iff_lt-mul}
use Rattle.order.specs.Order.{Ordering}
use Rattle.order.specs.Reordered.{position, read, write, value_of, scope_in, row_in, constraint_in, renamed, symmetry_in, reordered, earlier_by}
use Rattle.model.proofs.{Lists.map_ext, Lists.below_i, Lists.below_e, Lists.length_below, Lists.at_below, Lists.at_ext, Lists.Sorted, Lists.sorted_ext, Lists.ascending_sorted, Tree.solution_e}
use Rattle.order.proofs.Reordered.{sorted_apart, row_values}
use Rattle.model.proofs.Pairs as P
use Rattle.order.proofs.Reordered as R

module _ (p : Problem) (order : List ℕ) (o : Ordering p.variables order) (w : WellFormed p) where
  abbrev p2 : Problem
  p2 = reordered order p

  w2 : WellFormed p2
  w2 = R.well_reordered p order o w

  -- solutions, there and back
  pub to : (a : List ℕ) → T (is_solution p a) → T (is_solution (reordered order p) (read order a))
  to a s = subst T (R.solution_read p order o w a (solution_e p a s).sized) s

  pub fro : (r : List ℕ) → T (is_solution (reordered order p) r) → T (is_solution p (write order r))
  fro r s = subst T (R.solution_write p order o w r (solution_e p2 r s).sized) s

  pub again : (r : List ℕ) → T (is_solution (reordered order p) r) → read order (write order r) ≡ r
  again r s = R.read_write p order o r (solution_e p2 r s).sized

  pub took : (g a b : List ℕ) → Memᴰ g p.symmetries → T (is_solution p a) → T (is_solution p b) → takes p g a b ≡ takes (reordered order p) (symmetry_in order p g) (read order a) (read order b)
  took g a b m s t = R.takes_read p order o w g (w.symmetric g m) a b (P.sol_lt p w a s) (P.sol_lt p w b t)

  -- ---- leaders
  pub leader_read : (s : List ℕ) → length s ≡ p.variables → Leader earlier (reordered order p) (read order s) ↔ Leader (earlier_by order) p s
  leader_read s n = (
    λ l. let sol : T (is_solution p s) = subst T (sym (R.solution_read p order o w s n)) l.solves in record {
      solves = sol;
      unbeaten = λ g t m st e tk. l.unbeaten (symmetry_in order p g) (read order t) (Memᴰ-map (symmetry_in order p) m) (to t st) e (subst T (took g t s m st sol) tk);
    },
    λ l. record {
      solves = to s l.solves;
      unbeaten = λ g t m st e tk.
          let r = Memᴰ-of_map (symmetry_in order p) p.symmetries m in
          let u = write order t in
          let su = fro t st in
          let q : read order u ≡ t = again t st in
          l.unbeaten r.0 u r.1 su (subst (λ (z : List ℕ). T (earlier z (read order s))) (sym q) e)
          (subst T (sym (took r.0 u s r.1 su l.solves)) (subst₂ (λ (k z : List ℕ). T (takes p2 k z (read order s))) (sym r.2) (sym q) tk));
    },
  )

  pub leader_write : (s : List ℕ) → length s ≡ p.variables → Leader earlier (reordered order p) s ↔ Leader (earlier_by order) p (write order s)
  leader_write s n = subst (λ (z : List ℕ). Leader earlier (reordered order p) z ↔ Leader (earlier_by order) p (write order s)) (R.read_write p order o s n)
      (leader_read (write order s) (R.write_length p order o s))

  -- ---- chains
  pub chain_end : (a c : List ℕ) → T (is_solution p a) → Chain (earlier_by order) p a c → T (is_solution p c)
  chain_end a c s here = s
  chain_end a c s (step b e g ch m t sol l) = sol

  end_of : (a c : List ℕ) → T (is_solution p2 a) → Chain earlier p2 a c → T (is_solution p2 c)
  end_of a c s here = s
  end_of a c s (step b e g ch m t sol l) = sol

  pub chain_write : (a c : List ℕ) → T (is_solution (reordered order p) a) → Chain earlier (reordered order p) a c → Chain (earlier_by order) p (write order a) (write order c)
  chain_write a c s here = here
  chain_write a c s (step b e g ch m t sol l) =
      let r = Memᴰ-of_map (symmetry_in order p) p.symmetries m in
      let sb = end_of a b s ch in
      let qb = again b sb in
      let qe = again e sol in
      step (write order b) (write order e) r.0 (chain_write a b s ch) r.1
      (subst T (sym (took r.0 (write order b) (write order e) r.1 (fro b sb) (fro e sol)))
      (subst₂ (λ (y z : List ℕ). T (takes p2 (symmetry_in order p r.0) y z)) (sym qb) (sym qe) (subst (λ (k : List ℕ). T (takes p2 k b e)) (sym r.2) t)))
      (fro e sol) (subst₂ (λ (y z : List ℕ). T (earlier y z)) (sym qb) (sym qe) l)

-- ---- the order 0, 1, .. n - 1
map_same : {A : Type 0} (f : A → A) (l : List A) → ((x : A) → Memᴰ x l → f x ≡ x) → map f l ≡ l
map_same f [] h = refl
map_same {A} f (x ∷ l) h = ap₂ (λ (y : A) (r : List A). y ∷ r) (h x (Memᴰ-head refl)) (map_same f l (λ y m. h y (Memᴰ-tail m)))

pub below_at : (n i : ℕ) → i < n → at (below n) i ≡ i
below_at n i h = ap (λ (l : List ℕ). at l i) (sym (map_same (λ (x : ℕ). x) (below n) (λ x m. refl))) ∙ at_below (λ (x : ℕ). x) n i h

below_length : (n : ℕ) → length (below n) ≡ n
below_length n = ap length (sym (map_same (λ (x : ℕ). x) (below n) (λ x m. refl))) ∙ length_below (λ (x : ℕ). x) n

pub ordering_below : (n : ℕ) → Ordering n (below n)
ordering_below n = record {
  sized = below_length n;
  inside = below_e n;
  each = below_i n;
  once = λ i j h k e. sym (below_at n i h) ∙ e ∙ below_at n j k;
}

pub read_below : (n : ℕ) (a : List ℕ) → length a ≡ n → read (below n) a ≡ a
unfolding read
read_below n a e = at_ext (map (at a) (below n)) a (length_below (at a) n ∙ sym e) (λ i h. at_below (at a) n i (omega (arith, length_below (at a) n)))

module _ (p : Problem) (w : WellFormed p) where
  abbrev n : ℕ
  n = p.variables

  abbrev d : ℕ
  d = p.values

  o : Ordering n (below n)
  o = ordering_below n

  position_below : (i : ℕ) → i < n → position (below n) i ≡ i
  position_below i h = ap (position (below n)) (sym (below_at n i h)) ∙ R.stand_place p (below n) o i h

  pub write_below : (a : List ℕ) → length a ≡ p.variables → write (below p.variables) a ≡ a
  write_below a e = ap (write (below n)) (sym (read_below n a e)) ∙ R.write_read p (below n) o a e

  same_constraint : (c : Constraint) → Memᴰ c p.constraints → constraint_in (below n) c ≡ c
  unfolding row_in
  same_constraint c m =
      ap₂ {C = Constraint} (λ xs rows. record { scope = xs; rows = rows }) scope (map_same (row_in (below n) c.scope) c.rows row)
    where
      g : GoodConstraint p c
      g = w.constrained c m

      sorted : Sorted (λ (x y : ℕ). x < y) c.scope
      sorted = ascending_sorted c.scope (w.constrained c m).ordered

      in_e : (i : ℕ) → Memᴰ i (scope_in (below p.variables) c.scope) → (i < p.variables) × Memᴰ i c.scope
      in_e i k =
          let r = R.scope_e p (below n) o c.scope g.inside g.ordered i k in
          (r.0, Memᴰ-cast (sym (below_at n i r.0)) r.1)

      scope : scope_in (below p.variables) c.scope ≡ c.scope
      scope =
          sorted_ext (λ (x y : ℕ). x < y) (λ x y h k. omega arith) (scope_in (below n) c.scope) c.scope (R.scope_sorted p (below n) o c.scope g.inside g.ordered) sorted
          (λ i k. (in_e i k).1)
          (λ x k. R.scope_i p (below n) o c.scope g.inside g.ordered x (g.inside x k) (Memᴰ-cast (below_at n x (g.inside x k)) k))

      row : (r : List ℕ) → Memᴰ r c.rows → row_in (below p.variables) c.scope r ≡ r
      row r k =
          map_ext (λ i. value_of c.scope r (at (below n) i)) (value_of c.scope r) (scope_in (below n) c.scope) (λ i j. ap (value_of c.scope r) (below_at n i (in_e i j).0))
          ∙ ap (map (value_of c.scope r)) scope ∙ row_values c.scope r (sorted_apart c.scope sorted) (g.sized r k)

  same_pair : (f : ℕ → ℕ) → ((i : ℕ) → i < n → f i ≡ i) → (q : ℕ) → q < n * d → renamed p f q ≡ q
  unfolding renamed
  same_pair f h q l = ap (λ (x : ℕ). pair p x (q % d)) (h (q / d) ((div-lt_iff_lt-mul w.one).1 l)) ∙ P.pair_of p q

  same_symmetry : (g : List ℕ) → Memᴰ g p.symmetries → symmetry_in (below n) p g ≡ g
  same_symmetry g m =
      let good = w.symmetric g m in
      let s = R.symmetry_in_lem p (below n) o w g good in
      at_ext (symmetry_in (below n) p g) g (s.sized ∙ sym good.sized)
      (λ q h. let l : q < n * d = subst (λ (z : ℕ). q < z) s.sized h in
      R.table_at_lem p (below n) o w g good q l ∙ ap (λ (z : ℕ). renamed p (position (below n)) (at g z)) (same_pair (at (below n)) (below_at n) q l)
      ∙ same_pair (position (below n)) position_below (at g q) (R.image_lt p (below n) o w g good q l))

  -- the reordered problem is the problem itself
  pub reordered_below : reordered (below p.variables) p ≡ p
  reordered_below =
      ap (λ (i : List ℕ). record { variables = n; values = d; initial = i; constraints = map (constraint_in (below n)) p.constraints; symmetries = map (symmetry_in (below n) p) p.symmetries })
      (read_below n p.initial w.sized)
      ∙ ap₂ {C = Problem} (λ cs gs. record { variables = n; values = d; initial = p.initial; constraints = cs; symmetries = gs })
      (map_same (constraint_in (below n)) p.constraints same_constraint) (map_same (symmetry_in (below n) p) p.symmetries same_symmetry)
