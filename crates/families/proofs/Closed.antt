-- Closed symmetries: what is joined is joined by one of them, so the leaders are the earliest of their families (specs/Families). Assumes nothing.
use Rattle.model.specs.Kit.{◌≡◌, refl, sym, ap, ◌∙◌, subst, ◌⊎◌, inl, inr, ⊎_elim, List, map, Memᴰ, Memᴰ-cast, Memᴰ-map, Memᴰ-of_map, ℕ, ◌*◌, ◌<◌, T, eqb, eqb→eq, length, eq-eqb}
use Rattle.model.specs.Problem.{Problem, pair, pairs_of, within, takes, is_solution, assignments}
use Rattle.model.specs.{Lists.both, Lists.below, Lists.at, Lists.earlier, Claims.Leader, Claims.is_leader, Claims.leaders, Inner.WellFormed.WellFormed, Inner.WellFormed.Respected}
use Rattle.families.specs.Families.{Joined, alone, further, solutions_of, is_earliest, earliest_of, families_of, Makes, MovesNothing, Closed, makes, moves_nothing}
use Rattle.families.specs.Inner.FamilyClaims.{OneLeaderEachClaim, OneLeaderEach}
use Rattle.model.proofs.Lists.{earlier_asym, T_of, TExt, both_i, both_l, both_r, all_i, all_e, keep_ext, below_i, below_e, at_ext}
use Rattle.model.proofs.{Tree.solution_e, Leaders.takes_in, Leaders.takes_on, Leaders.leader_i, Leaders.leader_e}
use Rattle.families.proofs.Joined.{joined_from, joined_to, joined_one, joined_trans, joined_sym}
use Rattle.families.proofs.FamilyCount.{row_order, keep_keep, earliest_i, earliest_e, earliest_of_lem}
use Rattle.model.proofs.Pairs as P

-- ---- the tests of two symmetries
module _ (p : Problem) where
  abbrev size : ℕ
  size = p.variables * p.values

  pub makes_i : (f g h : List ℕ) → Makes p f g h → T (makes p f g h)
  unfolding makes
  makes_i f g h e = all_i (λ q. eqb (at g (at f q)) (at h q)) (below size) (λ q m. T_of (eqb (at g (at f q)) (at h q)) (eq-eqb (at g (at f q)) (at h q) (e q (below_e size q m))))

  pub makes_e : (f g h : List ℕ) → T (makes p f g h) → Makes p f g h
  unfolding makes
  makes_e f g h t q l = eqb→eq (at g (at f q)) (at h q) (all_e (λ q. eqb (at g (at f q)) (at h q)) (below size) t q (below_i size q l))

  pub nothing_i : (f g : List ℕ) → MovesNothing p f g → T (moves_nothing p f g)
  unfolding moves_nothing
  nothing_i f g e = all_i (λ q. eqb (at g (at f q)) q) (below size) (λ q m. T_of (eqb (at g (at f q)) q) (eq-eqb (at g (at f q)) q (e q (below_e size q m))))

  pub nothing_e : (f g : List ℕ) → T (moves_nothing p f g) → MovesNothing p f g
  unfolding moves_nothing
  nothing_e f g t q l = eqb→eq (at g (at f q)) q (all_e (λ q. eqb (at g (at f q)) q) (below size) t q (below_i size q l))

  pub takes_i : (g t s : List ℕ) → ((q : ℕ) → Memᴰ q (pairs_of p t) → Memᴰ (at g q) (pairs_of p s)) →
      ((q : ℕ) → Memᴰ q (pairs_of p s) → (r : ℕ) × Memᴰ r (pairs_of p t) × (at g r ≡ q)) → T (takes p g t s)
  unfolding takes
  takes_i g t s i o =
      both_i (within (map (at g) (pairs_of p t)) (pairs_of p s)) (within (pairs_of p s) (map (at g) (pairs_of p t)))
      (P.within_i (map (at g) (pairs_of p t)) (pairs_of p s) (λ q m. let c = Memᴰ-of_map (at g) (pairs_of p t) m in Memᴰ-cast (sym c.2) (i c.0 c.1)))
      (P.within_i (pairs_of p s) (map (at g) (pairs_of p t)) (λ q m. let c = o q m in Memᴰ-cast (sym c.2) (Memᴰ-map (at g) c.1)))

  module _ (w : WellFormed p) (respected : Respected p) where
    -- the same pairs, the same solution
    pub same_solution : (a b : List ℕ) → T (is_solution p a) → T (is_solution p b) → ((q : ℕ) → Memᴰ q (pairs_of p a) → Memᴰ q (pairs_of p b)) → a ≡ b
    same_solution a b sa sb h =
        at_ext a b ((solution_e p a sa).sized ∙ sym (solution_e p b sb).sized)
        (λ x l. let lx : x < p.variables = subst (λ (z : ℕ). x < z) (solution_e p a sa).sized l in
        sym (P.sol_at p w b sb x (at a x) (P.sol_lt p w a sa x lx) (h (pair p x (at a x)) (P.pairs_i p a x lx))))

    module _ (a b c f g : List ℕ) (sa : T (is_solution p a)) (sc : T (is_solution p c)) (tf : T (takes p f a b)) (tg : T (takes p g b c)) where
      pair_below : (q : ℕ) → Memᴰ q (pairs_of p a) → q < size
      pair_below q m = P.is_pair_lt p q (P.sol_pair p w a sa q m)

      through : (q : ℕ) → Memᴰ q (pairs_of p a) → Memᴰ (at g (at f q)) (pairs_of p c)
      through q m = takes_in p g b c tg (at f q) (takes_in p f a b tf q m)

      -- two symmetries that make one take where that one takes
      pub takes_both : (h : List ℕ) → Makes p f g h → T (takes p h a c)
      takes_both h e =
          takes_i h a c (λ q m. Memᴰ-cast (sym (e q (pair_below q m))) (through q m))
          (λ q m. let r = takes_on p g b c tg q m in let k = takes_on p f a b tf r.0 r.1 in (k.0, k.1, sym (e k.0 (pair_below k.0 k.1)) ∙ ap (at g) k.2 ∙ r.2))

      -- two that move nothing bring back
      pub brings_back : MovesNothing p f g → a ≡ c
      brings_back e = same_solution a c sa sc (λ q m. Memᴰ-cast (sym (e q (pair_below q m))) (through q m))

    -- ---- closed symmetries
    module _ (closed : Closed p) where
      abbrev One : List ℕ → List ℕ → Type 0
      One a b = (a ≡ b) ⊎ ((g : List ℕ) × Memᴰ g p.symmetries × T (takes p g a b))

      -- what is joined is joined by one symmetry or none
      pub one_step : (a b : List ℕ) → Joined p a b → One a b
      one_step a b (alone s) = inl refl
      one_step a b (further c e g j m t s) = go (one_step a c j)
        where
          go : One a c → One a e
          go (inl q) = inr (g, m, subst (λ (z : List ℕ). T (takes p g z e)) (sym q) t)
          go (inr r) =
              ⊎_elim {C = One a e} (λ h. inr (h.0, h.1, takes_both a c e r.0 g (joined_from p a c j) s r.2 t h.0 h.2))
              (λ q. inl (brings_back a c e r.0 g (joined_from p a c j) s r.2 t q)) (closed r.0 g r.1 m)

      pub leader_earliest : (s : List ℕ) → Leader earlier p s → (t : List ℕ) → Joined p s t → T (earlier t s) → ⊥
      leader_earliest s l t j e =
          ⊎_elim {C = ⊥} (λ q. let z : T (earlier s s) = subst (λ (u : List ℕ). T (earlier u s)) q e in earlier_asym s s z z)
          (λ r. l.unbeaten r.0 t r.1 (joined_to p s t j) e r.2) (one_step t s (joined_sym p w respected s t j))

    -- the earliest of a family is a leader, closed or not
    pub earliest_leader : (s : List ℕ) → T (is_solution p s) → ((t : List ℕ) → Joined p s t → T (earlier t s) → ⊥) → Leader earlier p s
    earliest_leader s sol h = record { solves = sol; unbeaten = λ g t m st e tk. h t (joined_sym p w respected t s (joined_one p t s g st m tk sol)) e }

    module _ (closed : Closed p) where
      leader_test : (s : List ℕ) → is_leader earlier p s ≡ both (is_solution p s) (is_earliest p s)
      leader_test s =
          TExt (is_leader earlier p s) (both (is_solution p s) (is_earliest p s))
          (λ t. let l = leader_e earlier p w s t in both_i (is_solution p s) (is_earliest p s) l.solves (earliest_i p w respected s l.solves (leader_earliest closed s l)))
          (λ t. let sol = both_l (is_solution p s) (is_earliest p s) t in
          leader_i earlier p w s (earliest_leader s sol (earliest_e p w respected s sol (both_r (is_solution p s) (is_earliest p s) t))))

      -- the leaders are the earliest of the families
      pub leaders_earliest : leaders p ≡ earliest_of p
      unfolding earliest_of solutions_of
      leaders_earliest = keep_ext (is_leader earlier p) (λ s. both (is_solution p s) (is_earliest p s)) (assignments p.initial) (λ s m. leader_test s) ∙ sym
          (keep_keep (is_solution p) (is_earliest p) (assignments p.initial))

      pub one_of_each : OneLeaderEach p
      unfolding families_of
      one_of_each = record {
        earliest = λ s. (λ l. (l.solves, leader_earliest closed s l), λ r. earliest_leader s r.0 r.1);
        each = λ s sol.
            let r = earliest_of_lem p w respected s sol in
            let l = r.0 in
            let lead = earliest_leader l r.1 (earliest_e p w respected l r.1 r.2) in
            (l, lead, r.3, λ m lm j. only m l lm lead (joined_trans p m s l j (joined_sym p w respected l s r.3)));
        count = ap length leaders_earliest;
      }
        where
          only : (m l : List ℕ) → Leader earlier p m → Leader earlier p l → Joined p m l → m ≡ l
          only m l lm ll j =
              ⊎_elim {C = m ≡ l} (λ e. absurd (leader_earliest closed l ll m (joined_sym p w respected m l j) e))
              (⊎_elim {C = m ≡ l} (λ e. absurd (leader_earliest closed m lm l j e)) (λ e. e)) (row_order m l ((solution_e p m lm.solves).sized ∙ sym (solution_e p l ll.solves).sized))

pub one_leader_each : OneLeaderEachClaim
one_leader_each = one_of_each
