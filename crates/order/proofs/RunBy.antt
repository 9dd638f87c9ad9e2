-- The run of any well-formed problem in any order (specs/RunBy): what it lists, its leaders, chains and counts. Assumes nothing.
use Rattle.model.specs.Kit.{◌≡◌, refl, sym, ap, ap₂, ◌∙◌, subst, Bool, true, false, ◌↔◌, List, [], ◌∷◌, map, Memᴰ, Memᴰ-head, Memᴰ-tail, Memᴰ-not_nil, Memᴰ-cast, Memᴰ-map}
use Rattle.model.specs.Kit.{Memᴰ-of_map, ℕ, zero, suc, ◌≤◌, ◌<◌, arith, T, length, take, length-map}
use Rattle.model.specs.{Lists.keep, Lists.below, Lists.at, Lists.earlier, Lists.rows_ascend, Lists.total, Problem.Problem, Problem.pair, Problem.is_solution, Problem.assignments}
use Rattle.model.specs.{Problem.with_symmetries}
use Rattle.model.specs.{Search.nodes, Run.Ending, Run.finished, Run.plans_in, Run.nodes_in, Run.result_of, Run.settled_by, Run.counts_by, Claims.Leader, Claims.is_leader, Claims.leaders, Claims.Chain}
use Rattle.model.specs.{Claims.CountsAt, Inner.WellFormed.WellFormed, Inner.WellFormed.Respected}
use mathlib.Core.Logic.{∥∥₁_elim, ∥∥₁_map}
use mathlib.Core.List.{Sublistᴰ}
use lib.Dec.{T_prop}
use Rattle.order.specs.Reordered.{read, write, earlier_by, renamed, symmetry_in, reordered}
use Rattle.order.specs.{Order.Ordering, RunBy.result_by, RunBy.leaders_by, RunBy.place_counts}
use Rattle.model.proofs.Lists.{both_l, TExt, keep_i, keep_e, sorted_keep, rows_ascend_of, mem_at}
use Rattle.model.proofs.{Assignments.assignments_sorted, Assignments.assign_e, Tree.solution_e, Tree.plans_of_tree, Tree.well_sized, Leaders.sol_drawn, Leaders.leader_e, Leaders.leader_i}
use Rattle.model.proofs.{More.FewerIn, Demands.same_test, Tally.length_counts, Tally.counts_total, Tally.counts_none, Tally.counts_ext, Tally.settled_few}
use Rattle.order.proofs.Reordered as O
use Rattle.order.proofs.LeadersBy as L
use Rattle.model.proofs.More as M
use Rattle.model.proofs.Runs as R
use Rattle.model.proofs.Chains as C

-- ---- lists
keep_map : {A B : Type 0} (f : A → B) (p : A → Bool) (q : B → Bool) (l : List A) → ((x : A) → Memᴰ x l → p x ≡ q (f x)) → map f (keep p l) ≡ keep q (map f l)
unfolding keep
keep_map f p q [] h = refl
keep_map {A} {B} f p q (x ∷ l) h = go (keep_map f p q l (λ y m. h y (Memᴰ-tail m))) (p x) (q (f x)) (h x (Memᴰ-head refl))
  where
    go : map f (keep p l) ≡ keep q (map f l) → (b c : Bool) → b ≡ c → map f (elim b [ true ↦ x ∷ keep p l | false ↦ keep p l ]) ≡ elim c [ true ↦ f x ∷ keep q (map f l) | false ↦ keep q (map f l) ]
    go ih true true e = ap (λ (r : List B). f x ∷ r) ih
    go ih true false e = absurd (subst T e tt)
    go ih false true e = absurd (subst T (sym e) tt)
    go ih false false e = ih

pub take_map : {A B : Type 0} (f : A → B) (n : ℕ) (l : List A) → take n (map f l) ≡ map f (take n l)
take_map f zero l = refl
take_map f (suc n) [] = refl
take_map {A} {B} f (suc n) (x ∷ l) = ap (λ (r : List B). f x ∷ r) (take_map f n l)

pub sublist_map : {A B : Type 0} (f : A → B) {l m : List A} → Sublistᴰ l m → Sublistᴰ (map f l) (map f m)
sublist_map f Sublistᴰ.slnil = Sublistᴰ.slnil
sublist_map f (Sublistᴰ.cons s) = Sublistᴰ.cons (sublist_map f s)
sublist_map f (Sublistᴰ.cons-cons e s) = Sublistᴰ.cons-cons (ap f e) (sublist_map f s)

map_back : {A B : Type 0} (f : A → B) (g : B → A) (l : List A) → ((x : A) → Memᴰ x l → g (f x) ≡ x) → map g (map f l) ≡ l
map_back f g [] h = refl
map_back {A} {B} f g (x ∷ l) h = ap₂ (λ (y : A) (r : List A). y ∷ r) (h x (Memᴰ-head refl)) (map_back f g l (λ y m. h y (Memᴰ-tail m)))

-- ---- a well-formed problem in any order
module _ (p : Problem) (w : WellFormed p) (respected : Respected p) (order : List ℕ) (o : Ordering p.variables order) where
  abbrev p2 : Problem
  p2 = reordered order p

  pub w2 : WellFormed (reordered order p)
  w2 = O.well_reordered p order o w

  r2 : Respected (reordered order p)
  r2 = O.respected_reordered p order o w respected

  drawn_length : (r : List ℕ) → Memᴰ r (assignments (read order p.initial)) → length r ≡ p.variables
  drawn_length r m = (assign_e (read order p.initial) r m).0 ∙ O.read_length p order o p.initial

  -- the leaders in the order are those of the reordered problem, written by place number
  pub leaders_by_is : map (write order) (leaders (reordered order p)) ≡ leaders_by order p
  leaders_by_is =
      keep_map (write order) (is_leader earlier p2) (is_leader (earlier_by order) p) (assignments (read order p.initial))
      (λ r m. let n = drawn_length r m in
      TExt (is_leader earlier p2 r) (is_leader (earlier_by order) p (write order r))
      (λ t. leader_i (earlier_by order) p w (write order r) ((L.leader_write p order o w r n).0 (leader_e earlier p2 w2 r t)))
      (λ t. leader_i earlier p2 w2 r ((L.leader_write p order o w r n).1 (leader_e (earlier_by order) p w (write order r) t))))

  pub leaders_by_ascend : T (rows_ascend (map (read order) (leaders_by order p)))
  leaders_by_ascend =
      subst (λ (l : List (List ℕ)). T (rows_ascend l))
      (sym (map_back (write order) (read order) (leaders p2) (λ r m. O.read_write p order o r (drawn_length r (keep_e (is_leader earlier p2) (assignments (read order p.initial)) r m).0)))
      ∙ ap (map (read order)) leaders_by_is)
      (rows_ascend_of (leaders p2) (sorted_keep (λ (x y : List ℕ). T (earlier x y)) (is_leader earlier p2) (assignments (read order p.initial)) (assignments_sorted (read order p.initial))))

  pub leaders_by_hold : (s : List ℕ) → Memᴰ s (leaders_by order p) ↔ Leader (earlier_by order) p s
  leaders_by_hold s = (
    λ m. leader_e (earlier_by order) p w s (keep_e (is_leader (earlier_by order) p) (map (write order) (assignments (read order p.initial))) s m).1,
    λ l. let n = (solution_e p s l.solves).sized in
        let d = sol_drawn p2 w2 (read order s) (subst T (O.solution_read p order o w s n) l.solves) in
        keep_i (is_leader (earlier_by order) p) (map (write order) (assignments (read order p.initial))) s
        (Memᴰ-cast (sym (O.write_read p order o s n)) (Memᴰ-map (write order) d)) (leader_i (earlier_by order) p w s l),
  )

  -- every solution is reached from a leader by a chain that reads later and later in the order, and nothing else is
  pub chains_by : (s : List ℕ) → length s ≡ p.variables → T (is_solution p s) ↔ ∥ ((l : List ℕ) × Memᴰ l (leaders_by order p) × Chain (earlier_by order) p l s) ∥₁
  chains_by s n = (
    λ sol. ∥∥₁_map ((C.chains p2 w2 (leaders p2) refl (read order s) (O.read_length p order o s)).0 (subst T (O.solution_read p order o w s n) sol))
        (λ r. (
          write order r.0,
          subst (Memᴰ (write order r.0)) leaders_by_is (Memᴰ-map (write order) r.1),
          subst (Chain (earlier_by order) p (write order r.0)) (O.write_read p order o s n)
              (L.chain_write p order o w r.0 (read order s) (both_l (is_solution p2 r.0) _ (keep_e (is_leader earlier p2) (assignments (read order p.initial)) r.0 r.1).1) r.2),
        )),
    λ h. ∥∥₁_elim h (T_prop (is_solution p s)) (λ r. L.chain_end p order o w r.0 s ((leaders_by_hold r.0).0 r.1).solves r.2),
  )

  -- runs
  pub rows_sized_by : (limit room : ℕ) (r : List ℕ) → Memᴰ r (result_by order p limit room).rows → length r ≡ p.variables
  unfolding result_by
  rows_sized_by limit room r m = let q = Memᴰ-of_map (write order) (result_of p2 limit room).rows m in ap length (sym q.2) ∙ O.write_length p order o q.0

  pub rows_counted_by : (limit room : ℕ) → plans_in (result_by order p limit room).ending ≡ length (result_by order p limit room).rows
  unfolding result_by
  rows_counted_by limit room = R.rows_counted p2 limit room ∙ sym (length-map (result_of p2 limit room).rows (write order))

  pub finished_lists : (limit room plans made : ℕ) → (result_by order p limit room).ending ≡ finished plans made → (result_by order p limit room).rows ≡ leaders_by order p
  unfolding result_by
  finished_lists limit room plans made e = ap (map (write order)) ((R.finished_rows p2 limit room plans made e).0 ∙ plans_of_tree p2 w2 ∙ same_test p2 w2 r2) ∙ leaders_by_is

  pub first_lists : (limit room : ℕ) → (result_by order p limit room).rows ≡ take (plans_in (result_by order p limit room).ending) (leaders_by order p)
  unfolding result_by
  first_lists limit room =
      ap (map (write order)) (R.rows_first p2 limit room ∙ ap₂ (λ (n : ℕ) (l : List (List ℕ)). take n l) (sym (R.rows_counted p2 limit room)) (plans_of_tree p2 w2 ∙ same_test p2 w2 r2))
      ∙ sym (take_map (write order) (plans_in (result_of p2 limit room).ending) (leaders p2)) ∙ ap (take (plans_in (result_of p2 limit room).ending)) leaders_by_is

  -- an empty list exactly where there is no solution
  pub none_lists : leaders_by order p ≡ [] ↔ ((s : List ℕ) → T (is_solution p s) → ⊥)
  none_lists = (
    λ e s sol. ∥∥₁_elim ((chains_by s (solution_e p s sol).sized).0 sol) (λ x y. absurd x) (λ r. Memᴰ-not_nil (subst (Memᴰ r.0) e r.1)),
    λ h. none_of (leaders_by order p) (λ l m. h l ((leaders_by_hold l).0 m).solves),
  )
    where
      none_of : (r : List (List ℕ)) → ((l : List ℕ) → Memᴰ l r → ⊥) → r ≡ []
      none_of [] h = refl
      none_of (l ∷ r) h = absurd (h l (Memᴰ-head refl))

  pub counts_by_lem : (limit room : ℕ) (e : Ending) → (result_by order p limit room).ending ≡ e → (nodes_in e ≤ limit) × CountsAt (reordered order p) limit room e
  unfolding result_by
  counts_by_lem limit room e h = (subst (λ (x : Ending). nodes_in x ≤ limit) h (R.nodes_allowed p2 limit room), R.counts p2 limit room e h)

-- further symmetries: the reordered problem gets their tables
pub fewer_by : (p : Problem) (order : List ℕ) (gs : List (List ℕ)) → WellFormed p → Ordering p.variables order → ((g : List ℕ) → Memᴰ g p.symmetries → Memᴰ g gs) →
    FewerIn (reordered order p) (reordered order (with_symmetries p gs))
unfolding symmetry_in renamed pair
fewer_by p order gs w o h =
    M.fewer (reordered order p) (map (symmetry_in order (with_symmetries p gs)) gs) (well_sized (reordered order p) (O.well_reordered p order o w))
    (λ g m. let r = Memᴰ-of_map (symmetry_in order p) p.symmetries m in Memᴰ-cast (sym r.2) (Memᴰ-map (symmetry_in order (with_symmetries p gs)) (h r.0 r.1)))

-- ---- the order 0, 1, .. changes nothing
rows_same : (p : Problem) → WellFormed p → (rows : List (List ℕ)) → ((r : List ℕ) → Memᴰ r rows → length r ≡ p.variables) → map (write (below p.variables)) rows ≡ rows
rows_same p w [] h = refl
rows_same p w (r ∷ rows) h = ap₂ (λ (x : List ℕ) (y : List (List ℕ)). x ∷ y) (L.write_below p w r (h r (Memᴰ-head refl))) (rows_same p w rows (λ s m. h s (Memᴰ-tail m)))

pub same_result : (p : Problem) → WellFormed p → (limit room : ℕ) → ((result_by (below p.variables) p limit room).ending ≡ (result_of p limit room).ending) ×
    ((result_by (below p.variables) p limit room).rows ≡ (result_of p limit room).rows)
unfolding result_by
same_result p w limit room =
    let e = L.reordered_below p w in (
      ap (λ (q : Problem). (result_of q limit room).ending) e,
      ap (λ (q : Problem). map (write (below p.variables)) (result_of q limit room).rows) e ∙ rows_same p w (result_of p limit room).rows (R.rows_sized p limit room),
    )

pub same_leaders : (p : Problem) → WellFormed p → Respected p → leaders_by (below p.variables) p ≡ leaders p
same_leaders p w respected =
    sym (leaders_by_is p w respected (below p.variables) (L.ordering_below p.variables))
    ∙ ap (λ (q : Problem). map (write (below p.variables)) (leaders q)) (L.reordered_below p w)
    ∙ rows_same p w (leaders p) (λ r m. (assign_e p.initial r (keep_e (is_leader earlier p) (assignments p.initial) r m).0).0 ∙ w.sized)

pub same_counts : (p : Problem) → WellFormed p → (k : ℕ) → place_counts (below p.variables) p k ≡ counts_by settled_by (take k (nodes p))
unfolding place_counts
same_counts p w k =
    ap (λ (q : Problem). counts_by (λ t. at (below p.variables) (settled_by t)) (take k (nodes q))) (L.reordered_below p w)
    ∙ counts_ext (λ t. at (below p.variables) (settled_by t)) settled_by (take k (nodes p)) (λ t m. L.below_at p.variables (settled_by t) (settled_few p k t m))

-- ---- nodes by place
module _ (p : Problem) (w : WellFormed p) (order : List ℕ) (o : Ordering p.variables order) where
  place_below : (k : ℕ) (t : List ℕ) → Memᴰ t (take k (nodes (reordered order p))) → at order (settled_by t) < p.variables
  place_below k t m = o.inside (at order (settled_by t)) (mem_at order (settled_by t) (let s = settled_few (reordered order p) k t m in let z = o.sized in omega arith))

  -- the twelve counts add up to the nodes, and a place that is none of p's has none
  pub places_total : (k : ℕ) → total (place_counts order p k) ≡ length (take k (nodes (reordered order p)))
  unfolding place_counts
  places_total k = counts_total (λ t. at order (settled_by t)) (take k (nodes (reordered order p))) (λ t m. let s = place_below k t m in let f = w.few in omega arith)

  pub places_none : (k x : ℕ) → p.variables ≤ x → at (place_counts order p k) x ≡ 0
  unfolding place_counts
  places_none k x h = counts_none (λ t. at order (settled_by t)) (take k (nodes (reordered order p))) p.variables x (place_below k) h

pub places_twelve : (p : Problem) (order : List ℕ) (k : ℕ) → length (place_counts order p k) ≡ 12
unfolding place_counts
places_twelve p order k = length_counts (λ t. at order (settled_by t)) (take k (nodes (reordered order p)))
