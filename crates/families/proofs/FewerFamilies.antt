-- Families and other symmetries: more symmetries never make more families, those that join nothing new don't matter, nor does their order, and
-- without any each solution is a family. Assumes nothing.
use Rattle.model.specs.Kit.{◌≡◌, refl, sym, ap, ◌∙◌, subst, not, List, [], Memᴰ, Memᴰ-not_nil, ℕ, ◌≤◌, arith, T, length}
use Rattle.model.specs.Problem.{Problem, pair, pairs_of, takes, is_solution, assignments, with_symmetries}
use Rattle.model.specs.{Lists.both, Lists.any, Lists.keep, Lists.earlier, Claims.is_leader, Claims.leaders, Inner.WellFormed.WellFormed, Inner.WellFormed.Respected}
use Rattle.families.specs.Families.{Joined, alone, further, solutions_of, is_earliest, earliest_of, families_of}
use Rattle.model.proofs.{Lists.earlier_asym, Lists.keep_all, Lists.keep_ext, Lists.both_true, Asked.well_formed_with}
use Rattle.families.proofs.{Joined.joined_to, Joined.joined_trans, Joined.joined_one, FamilyCount.in_solution, FamilyCount.earliest_i, FamilyCount.earliest_e, FamilyCount.keep_fewer}

module _ (p : Problem) (gs : List (List ℕ)) where
  abbrev q : Problem
  q = with_symmetries p gs

  -- solutions and what a symmetry takes them to are those of p
  solution_same : (s : List ℕ) → is_solution (with_symmetries p gs) s ≡ is_solution p s
  unfolding is_solution
  solution_same s = refl

  takes_same : (g a b : List ℕ) → takes (with_symmetries p gs) g a b ≡ takes p g a b
  unfolding takes pairs_of pair
  takes_same g a b = refl

  pub solutions_same : solutions_of (with_symmetries p gs) ≡ solutions_of p
  unfolding solutions_of
  solutions_same = keep_ext (is_solution q) (is_solution p) (assignments p.initial) (λ s m. solution_same s)

  -- what is joined stays joined
  pub joined_more : ((g : List ℕ) → Memᴰ g p.symmetries → Memᴰ g gs) → (a b : List ℕ) → Joined p a b → Joined (with_symmetries p gs) a b
  joined_more h a b (alone s) = alone (subst T (sym (solution_same a)) s)
  joined_more h a b (further c e g j m t s) = further c e g (joined_more h a c j) (h g m) (subst T (sym (takes_same g c e)) t) (subst T (sym (solution_same e)) s)

  -- symmetries that join nothing new
  abbrev Generated : Type 0
  Generated = (g a b : List ℕ) → Memᴰ g gs → T (is_solution p a) → T (takes p g a b) → T (is_solution p b) → Joined p a b

  pub joined_fewer : Generated → (a b : List ℕ) → Joined (with_symmetries p gs) a b → Joined p a b
  joined_fewer h a b (alone s) = alone (subst T (solution_same a) s)
  joined_fewer h a b (further c e g j m t s) =
      let k = joined_fewer h a c j in
      joined_trans p a c e k (h g c e m (joined_to p a c k) (subst T (takes_same g c e) t) (subst T (solution_same e) s))

  module _ (w : WellFormed p) (respected : Respected p) (v : WellFormed (with_symmetries p gs)) (rq : Respected (with_symmetries p gs)) where
    -- more symmetries: no more families
    pub families_more : ((g : List ℕ) → Memᴰ g p.symmetries → Memᴰ g gs) → families_of (with_symmetries p gs) ≤ families_of p
    unfolding families_of earliest_of
    families_more h =
        subst (λ (l : List (List ℕ)). length (keep (is_earliest q) l) ≤ length (keep (is_earliest p) (solutions_of p))) (sym solutions_same)
        (keep_fewer (is_earliest q) (is_earliest p) (solutions_of p) (λ s m t. let sol = in_solution p w respected s m in
        earliest_i p w respected s sol (λ u j e. earliest_e q v rq s (subst T (sym (solution_same s)) sol) t u (joined_more h s u j) e)))

    -- nothing new joined: no fewer families
    pub families_fewer : Generated → families_of p ≤ families_of (with_symmetries p gs)
    unfolding families_of earliest_of
    families_fewer h =
        subst (λ (l : List (List ℕ)). length (keep (is_earliest p) (solutions_of p)) ≤ length (keep (is_earliest q) l)) (sym solutions_same)
        (keep_fewer (is_earliest p) (is_earliest q) (solutions_of p) (λ s m t. let sol = in_solution p w respected s m in
        earliest_i q v rq s (subst T (sym (solution_same s)) sol) (λ u j e. earliest_e p w respected s sol t u (joined_fewer h s u j) e)))

-- further symmetries that join only what is joined already, as those that two others make one after the other, change nothing
pub families_generated : (p : Problem) (gs : List (List ℕ)) → WellFormed p → Respected p → WellFormed (with_symmetries p gs) → Respected (with_symmetries p gs) →
    ((g : List ℕ) → Memᴰ g p.symmetries → Memᴰ g gs) → ((g a b : List ℕ) → Memᴰ g gs → T (is_solution p a) → T (takes p g a b) → T (is_solution p b) → Joined p a b) →
    families_of (with_symmetries p gs) ≡ families_of p
families_generated p gs w respected v rq h k =
    let a = families_more p gs w respected v rq h in
    let b = families_fewer p gs w respected v rq k in
    omega arith

-- nor does another order of them, or repeats
pub families_same : (p : Problem) (gs : List (List ℕ)) → WellFormed p → Respected p → Respected (with_symmetries p gs) → ((g : List ℕ) → Memᴰ g p.symmetries → Memᴰ g gs) →
    ((g : List ℕ) → Memᴰ g gs → Memᴰ g p.symmetries) →
    families_of (with_symmetries p gs) ≡ families_of p
families_same p gs w respected rq h k = families_generated p gs w respected (well_formed_with p gs w (λ g m. w.symmetric g (k g m))) rq h (λ g a b m sa t sb. joined_one p a b g sa (k g m) t sb)

-- without symmetries each solution is a family
pub families_none : (p : Problem) → WellFormed p → Respected p → p.symmetries ≡ [] → families_of p ≡ length (solutions_of p)
unfolding families_of earliest_of
families_none p w respected e =
    ap length (keep_all (is_earliest p) (solutions_of p) (λ s m. earliest_i p w respected s (in_solution p w respected s m)
    (λ t j b. let z : T (earlier s s) = subst (λ (u : List ℕ). T (earlier u s)) (sym (only s t j)) b in earlier_asym s s z z)))
  where
    only : (s t : List ℕ) → Joined p s t → s ≡ t
    only s t (alone h) = refl
    only s t (further c d g j m k h) = absurd (Memᴰ-not_nil (subst (Memᴰ g) e m))

-- and a finished run without them lists all solutions
pub leaders_none : (p : Problem) → p.symmetries ≡ [] → leaders p ≡ solutions_of p
unfolding solutions_of any
leaders_none p e = keep_ext (is_leader earlier p) (is_solution p) (assignments p.initial)
    (λ s m. ap (λ (gs : List (List ℕ)). both (is_solution p s) (not (any (λ g. any (λ t. both (is_solution p t) (both (earlier t s) (takes p g t s))) (assignments p.initial)) gs))) e ∙ both_true
    (is_solution p s))

pub leaders_without : (p : Problem) → leaders (with_symmetries p []) ≡ solutions_of p
leaders_without p = leaders_none (with_symmetries p []) refl ∙ solutions_same p []
