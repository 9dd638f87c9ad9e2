-- A symmetry takes every solution to one solution. Assumes nothing.
use Rattle.model.specs.Kit.{◌≡◌, sym, ap, ◌∙◌, subst, List, Memᴰ, Memᴰ-cast, ℕ, zero, suc, ◌+◌, ◌-◌, ◌<◌, arith, T, length}
use Rattle.model.specs.{Lists.at, Problem.Problem, Problem.pair, Problem.takes, Problem.assignments, Problem.is_solution, Inner.WellFormed.WellFormed, Inner.WellFormed.Respected}
use lib.Seq.{ext_get_or}
use Rattle.model.proofs.{Tree.solution_e, Counting.pos, Counting.pos_lt, Counting.pos_same, Counting.twice}
use Rattle.model.proofs.Pairs as P
use Rattle.model.proofs.Symmetry as S
use Rattle.model.proofs.Leaders as H

module _ (p : Problem) (w : WellFormed p) (r : Respected p) (g : List ℕ) (m : Memᴰ g p.symmetries) where
  -- where a symmetry takes a solution is one assignment
  pub one_image : (t s r : List ℕ) → T (takes p g t s) → T (takes p g t r) → T (is_solution p r) → length s ≡ p.variables → ((x : ℕ) → x < p.variables → at s x < p.values) → s ≡ r
  unfolding at
  one_image t s r hs hr sol n small =
      ext_get_or 0 s r (n ∙ sym (solution_e p r sol).sized)
      (λ x l. let lx : x < p.variables = subst (λ (z : ℕ). x < z) n l in
      let k = H.takes_on p g t s hs (pair p x (at s x)) (P.pairs_i p s x lx) in
      sym (P.sol_at p w r sol x (at s x) (small x lx) (Memᴰ-cast (sym k.2) (H.takes_in p g t r hr k.0 k.1))))

  abbrev Sol : Type 0
  Sol = (s : List ℕ) × T (is_solution p s)

  -- the solution, its preimage, the preimage of that, ..
  run : Sol → ℕ → Sol
  run s zero = s
  run s (suc i) = let s' = run s i in let q = S.preimage p w r g m s'.0 s'.1 in (q.0, q.1)

  run_takes : (s : Sol) (i : ℕ) → T (takes p g (run s (suc i)).0 (run s i).0)
  unfolding run
  run_takes s i = let s' = run s i in (S.preimage p w r g m s'.0 s'.1).2

  back_one : (s : Sol) (i j : ℕ) → (run s (suc i)).0 ≡ (run s (suc j)).0 → (run s i).0 ≡ (run s j).0
  back_one s i j e =
      let a = run s i in
      one_image (run s (suc i)).0 a.0 (run s j).0 (run_takes s i) (subst (λ (u : List ℕ). T (takes p g u (run s j).0)) (sym e) (run_takes s j)) (run s j).1
      (solution_e p a.0 a.1).sized (P.sol_lt p w a.0 a.1)

  back_all : (s : Sol) (i d : ℕ) → (run s i).0 ≡ (run s (i + suc d)).0 → (run s 0).0 ≡ (run s (suc d)).0
  back_all s zero d e = e ∙ ap (λ (k : ℕ). (run s k).0) (omega arith)
  back_all s (suc i) d e =
      let z : suc i + suc d ≡ suc (i + suc d) = omega arith in
      back_all s i d (back_one s i (i + suc d) (e ∙ ap (λ (k : ℕ). (run s k).0) z))

  -- the preimages come back to where they began
  cycle : (s : Sol) → (d : ℕ) × (s.0 ≡ (run s (suc d)).0)
  unfolding run
  cycle s =
      let drawn = assignments p.initial in
      let mem : (i : ℕ) → Memᴰ (run s i).0 drawn = λ i. H.sol_drawn p w (run s i).0 (run s i).1 in
      let r = twice (λ i. pos drawn (mem i)) (length drawn) (λ i. pos_lt drawn (mem i)) in
      let e : (run s r.0).0 ≡ (run s r.1).0 = pos_same drawn (mem r.0) (mem r.1) r.3 in
      let d = r.1 - suc r.0 in
      let l = r.2 in
      let z : r.1 ≡ r.0 + suc d = omega arith in
      (d, back_all s r.0 d (e ∙ ap (λ (k : ℕ). (run s k).0) z))

  pub image : (t : List ℕ) → T (is_solution p t) → (s : List ℕ) × T (is_solution p s) × T (takes p g t s)
  image t sol =
      let start : Sol = (t, sol) in
      let c = cycle start in
      let d = c.0 in
      ((run start d).0, (run start d).1, subst (λ (u : List ℕ). T (takes p g u (run start d).0)) (sym c.1) (run_takes start d))

  -- what holds of a solution and passes to preimages holds of its image: the inverse of a symmetry is a power of it
  run_all : (R : List ℕ → Type 0) → ((u v : List ℕ) → T (is_solution p u) → T (is_solution p v) → T (takes p g u v) → R v → R u) → (s : Sol) → R s.0 → (i : ℕ) → R (run s i).0
  unfolding run
  run_all R h s r zero = r
  run_all R h s r (suc i) = h (run s (suc i)).0 (run s i).0 (run s (suc i)).1 (run s i).1 (run_takes s i) (run_all R h s r i)

  pub round : (R : List ℕ → Type 0) → ((u v : List ℕ) → T (is_solution p u) → T (is_solution p v) → T (takes p g u v) → R v → R u) →
      (t s : List ℕ) → T (is_solution p t) → T (is_solution p s) → T (takes p g t s) → R t → R s
  round R h t s st ss tk q =
      let start : Sol = (t, st) in
      let c = cycle start in
      let d = c.0 in
      let e : s ≡ (run start d).0 = one_image t s (run start d).0 tk (subst (λ (u : List ℕ). T (takes p g u (run start d).0)) (sym c.1) (run_takes start d)) (run start d).1
      (solution_e p s ss).sized (P.sol_lt p w s ss) in
      subst R (sym e) (run_all R h start q d)

  -- what a symmetry takes a solution to is a solution, if it is an assignment at all
  pub onward : (t s : List ℕ) → T (is_solution p t) → T (takes p g t s) → length s ≡ p.variables → ((x : ℕ) → x < p.variables → at s x < p.values) → T (is_solution p s)
  onward t s sol h n small = let r = image t sol in subst (λ (u : List ℕ). T (is_solution p u)) (sym (one_image t s r.0 h r.2 r.1 n small)) r.1
