-- A solution obeys the nogoods of a symmetry exactly if the symmetry takes no solution that reads earlier to it. Assumes nothing.
use Rattle.model.specs.Kit.{◌≡◌, refl, sym, ap, ap₂, ◌∙◌, subst, Bool, true, false, not, List, map, Memᴰ, Memᴰ-cast, Memᴰ-map, Memᴰ-of_map, ℕ, ◌<◌, ◌/◌, ◌%◌, lt_of_lt_of_le, arith, T}
use Rattle.model.specs.Kit.{T_not, not_T, ltb, eqb→eq, ltb→lt, lt→ltb, get_or, eq-eqb}
use Rattle.model.specs.Problem.{Problem, pair, is_pair, pairs_of, within, takes, assignments, is_solution}
use Rattle.model.specs.{Lists.both, Lists.all, Lists.any, Lists.at, Lists.earlier, ValueSets.has, ValueSets.members, Nogood.is, Nogood.obeys, Search.nogoods_of, Inner.WellFormed.WellFormed}
use Rattle.model.specs.{Inner.WellFormed.GoodSymmetry, Inner.WellFormed.Respected, Claims.Leader, Claims.is_leader}
use Rattle.model.proofs.Lists.{not_any, both_i, both_l, both_r, TExt, T_of, stable, any_i, any_e, keep_i, keep_e, get_d_at}
use Rattle.model.proofs.{Sets.members_i, Sets.members_e, Assignments.drawn_i, Tree.solution_e, Tree.well_sized}
use Rattle.model.proofs.Pairs as P
use Rattle.model.proofs.Symmetry as S
use Rattle.model.proofs.Obey as O

guarded : (b c d : Bool) → (T b → c ≡ d) → both b c ≡ both b d
guarded true c d h = h tt
guarded false c d h = refl

module _ (p : Problem) (g t s : List ℕ) where
  pub takes_in : T (takes p g t s) → (q : ℕ) → Memᴰ q (pairs_of p t) → Memᴰ (at g q) (pairs_of p s)
  unfolding takes
  takes_in h q m =
      P.within_e (map (at g) (pairs_of p t)) (pairs_of p s) (both_l (within (map (at g) (pairs_of p t)) (pairs_of p s)) (within (pairs_of p s) (map (at g) (pairs_of p t))) h)
      (at g q) (Memᴰ-map (at g) m)

  pub takes_on : T (takes p g t s) → (q : ℕ) → Memᴰ q (pairs_of p s) → (r : ℕ) × Memᴰ r (pairs_of p t) × (at g r ≡ q)
  unfolding takes
  takes_on h q m =
      Memᴰ-of_map (at g) (pairs_of p t)
      (P.within_e (pairs_of p s) (map (at g) (pairs_of p t)) (both_r (within (map (at g) (pairs_of p t)) (pairs_of p s)) (within (pairs_of p s) (map (at g) (pairs_of p t))) h) q m)

module _ (p : Problem) (w : WellFormed p) where
  pub sol_small : (a : List ℕ) → T (is_solution p a) → (x : ℕ) → x < p.variables → at a x < 16
  sol_small a s x h = lt_of_lt_of_le (P.sol_lt p w a s x h) w.sixteen

  -- a solution is one of the assignments
  pub sol_drawn : (a : List ℕ) → T (is_solution p a) → Memᴰ a (assignments p.initial)
  sol_drawn a s =
      let h = solution_e p a s in
      drawn_i p.initial a (well_sized p w).1 (h.sized ∙ sym w.sized, λ x l. h.drawn x (subst (λ (k : ℕ). x < k) w.sized l))

-- the test of a leader says what it should
module _ (less : List ℕ → List ℕ → Bool) (p : Problem) (w : WellFormed p) (s : List ℕ) where
  abbrev beats : List ℕ → List ℕ → Bool
  beats g t = both (is_solution p t) (both (less t s) (takes p g t s))

  abbrev beaten_by : List ℕ → Bool
  beaten_by g = any (beats g) (assignments p.initial)

  pub leader_e : T (is_leader less p s) → Leader less p s
  leader_e h = record {
    solves = both_l (is_solution p s) _ h;
    unbeaten = λ g t m st e tk. T_not (any beaten_by p.symmetries) (both_r (is_solution p s) (not (any beaten_by p.symmetries)) h)
        (any_i beaten_by p.symmetries g m (any_i (beats g) (assignments p.initial) t (sol_drawn p w t st)
        (both_i (is_solution p t) (both (less t s) (takes p g t s)) st (both_i (less t s) (takes p g t s) e tk))));
  }

  pub leader_i : Leader less p s → T (is_leader less p s)
  leader_i l =
      both_i (is_solution p s) (not (any beaten_by p.symmetries)) l.solves
      (not_T (any beaten_by p.symmetries) (λ h.
      let r = any_e beaten_by p.symmetries h in
      let q = any_e (beats r.0) (assignments p.initial) r.2 in
      let t = q.0 in
      let b = both_r (is_solution p t) (both (less t s) (takes p r.0 t s)) q.2 in
      l.unbeaten r.0 t r.1 (both_l (is_solution p t) (both (less t s) (takes p r.0 t s)) q.2) (both_l (less t s) (takes p r.0 t s) b) (both_r (less t s) (takes p r.0 t s) b)))

module _ (p : Problem) (w : WellFormed p) (respected : Respected p) where
  -- an entry of the list holds of s exactly if its number is one of the pairs of s
  module _ (s : List ℕ) (sol : T (is_solution p s)) where
    meets_i : (q : ℕ) → Memᴰ q (pairs_of p s) → T (is s (q / p.values) (q % p.values))
    meets_i q m =
        let r = P.pairs_e p s q m in
        let x = r.0 in
        let l = P.sol_lt p w s sol x r.1 in
        let ex : q / p.values ≡ x = ap (λ (k : ℕ). k / p.values) r.2 ∙ P.pair_div p x (at s x) l in
        let ev : q % p.values ≡ at s x = ap (λ (k : ℕ). k % p.values) r.2 ∙ P.pair_mod p x (at s x) l in
        T_of (is s (q / p.values) (q % p.values))
        (ap₂ (λ (y v : ℕ). is s y v) ex ev ∙ eq-eqb (get_or s x 16) (at s x) (get_d_at s x 16 (subst (λ (k : ℕ). x < k) (sym (solution_e p s sol).sized) r.1)))

    meets_e : (q : ℕ) → T (is_pair p q) → T (is s (q / p.values) (q % p.values)) → Memᴰ q (pairs_of p s)
    meets_e q t h =
        let x = q / p.values in
        let l : x < p.variables = P.is_pair_var p w q t in
        let e : at s x ≡ q % p.values = sym (get_d_at s x 16 (subst (λ (k : ℕ). x < k) (sym (solution_e p s sol).sized) l)) ∙ eqb→eq (get_or s x 16) (q % p.values) h in
        Memᴰ-cast (sym (P.pair_of p q) ∙ ap (pair p x) (sym e)) (P.pairs_i p s x l)

    module _ (g : List ℕ) (m : Memᴰ g p.symmetries) where
      good : GoodSymmetry p g
      good = w.symmetric g m

      -- t contains each pair that g sends into s
      sent : (t : List ℕ) → T (is_solution p t) → T (takes p g t s) → (x v : ℕ) → x < p.variables → T (has (at p.initial x) v) → T (O.meets p g s x v) → at t x ≡ v
      sent t st h x v l hv mt =
          let q = pair p x v in
          let tq : T (is_pair p q) = P.is_pair_i p w.narrow x v l hv in
          let k = takes_on p g t s h (at g q) (meets_e (at g q) (S.to_pair p w g good q tq) mt) in
          let e : q ≡ k.0 = S.injective p w g good q k.0 (P.is_pair_lt p q tq) (P.is_pair_lt p k.0 (P.sol_pair p w t st k.0 k.1)) (sym k.2) in
          P.sol_at p w t st x v (P.init_lt p w.narrow x v l hv) (Memᴰ-cast e k.1)

      abbrev pub beaten : List ℕ → Bool
      beaten t = both (is_solution p t) (both (earlier t s) (takes p g t s))

      -- who obeys is beaten by no solution: the first difference would break a nogood
      obeys_none : T (obeys s (nogoods_of p g s)) → (t : List ℕ) → T (is_solution p t) → T (earlier t s) → T (takes p g t s) → ⊥
      obeys_none h t st e tk =
          let f = O.first_e t s e in
          let j = f.0 in
          let lj : j < p.variables = subst (λ (k : ℕ). j < k) (solution_e p s sol).sized f.1.1 in
          let met : (x : ℕ) → x < p.variables → T (O.meets p g s x (at t x)) = λ x l. meets_i (at g (pair p x (at t x))) (takes_in p g t s tk (pair p x (at t x)) (P.pairs_i p t x l)) in
          O.obeys_e p g s h j (at t j) f.1.1 (λ i l. subst (λ (v : ℕ). T (O.meets p g s i v)) (f.1.2 i l) (met i (omega arith)))
          (keep_i (λ v. ltb v (at s j)) (members (at p.initial j)) (at t j) (members_i (at p.initial j) (at t j) (sol_small p w t st j lj) ((solution_e p t st).drawn j lj))
          (lt→ltb (at t j) (at s j) f.1.3))
          (met j lj)

      -- and a broken nogood gives one: the preimage of s reads earlier
      none_obeys : ((t : List ℕ) → T (is_solution p t) → T (earlier t s) → T (takes p g t s) → ⊥) → T (obeys s (nogoods_of p g s))
      none_obeys h =
          stable (obeys s (nogoods_of p g s))
          (λ bad. let r = O.obeys_not p g s bad in
          let j = r.0 in
          let v = r.1 in
          let n = (solution_e p s sol).sized in
          let lj : j < p.variables = subst (λ (k : ℕ). j < k) n r.2 in
          let k = keep_e (λ u. ltb u (at s j)) (members (at p.initial j)) v r.4 in
          let pre = S.preimage p w respected g m s sol in
          let t = pre.0 in
          let nt = (solution_e p t pre.1).sized in
          let ej : at t j ≡ v = sent t pre.1 pre.2 j v lj (members_e (at p.initial j) v k.0).1 r.5 in
          let less : v < at s j = ltb→lt v (at s j) k.1 in
          h t pre.1 (O.first_i t s j (
            subst (λ (z : ℕ). j < z) (sym nt) lj,
            r.2,
            λ i l. (let li : i < p.variables = omega arith in sent t pre.1 pre.2 i (at s i) li ((solution_e p s sol).drawn i li) (r.3 i l)),
            subst (λ (z : ℕ). z < at s j) (sym ej) less,
          )) pre.2)

      -- s obeys g's list exactly if g takes no solution that reads earlier to it
      pub obeys_is : obeys s (nogoods_of p g s) ≡ not (any (λ t. both (is_solution p t) (both (earlier t s) (takes p g t s))) (assignments p.initial))
      obeys_is =
          TExt (obeys s (nogoods_of p g s)) (not (any beaten (assignments p.initial)))
          (λ h. not_T (any beaten (assignments p.initial))
          (λ a. let r = any_e beaten (assignments p.initial) a in
          let b = both_r (is_solution p r.0) (both (earlier r.0 s) (takes p g r.0 s)) r.2 in
          obeys_none h r.0 (both_l (is_solution p r.0) (both (earlier r.0 s) (takes p g r.0 s)) r.2) (both_l (earlier r.0 s) (takes p g r.0 s) b)
          (both_r (earlier r.0 s) (takes p g r.0 s) b)))
          (λ h. none_obeys (λ t st e tk. T_not (any beaten (assignments p.initial)) h
          (any_i beaten (assignments p.initial) t (sol_drawn p w t st) (both_i (is_solution p t) (both (earlier t s) (takes p g t s)) st (both_i (earlier t s) (takes p g t s) e tk)))))

  -- a leader is a solution that obeys the nogoods of every symmetry
  pub leader_is : (s : List ℕ) → is_leader earlier p s ≡ both (is_solution p s) (all (λ g. obeys s (nogoods_of p g s)) p.symmetries)
  leader_is s =
      guarded (is_solution p s) (not (any (λ g. any (λ t. both (is_solution p t) (both (earlier t s) (takes p g t s))) (assignments p.initial)) p.symmetries))
      (all (λ g. obeys s (nogoods_of p g s)) p.symmetries)
      (λ sol. not_any (λ g. any (λ t. both (is_solution p t) (both (earlier t s) (takes p g t s))) (assignments p.initial)) (λ g. obeys s (nogoods_of p g s)) p.symmetries
      (λ g m. obeys_is s sol g m))
