-- Prefixes that agree on what is left have the same nodes below them, up to the values settled before. Assumes nothing.
use Rattle.model.specs.Kit.{◌≡◌, refl, sym, ap, ap₂, ◌∙◌, subst, Bool, true, false, List, [], ◌∷◌, ◌++◌, map, Memᴰ, Memᴰ-of_map, append_assoc, append-nil, ℕ, zero, suc, ◌+◌, ◌-◌, ℕ_discrete}
use Rattle.model.specs.Kit.{arith, eqb, length, drop, length-append, length-map, ne_eqb}
use Rattle.model.specs.{Lists.both, Lists.keep, Lists.flat, Lists.at, ValueSets.members, Problem.Problem, Search.sets_at, Search.is_live, Search.nodes_below, Search.is_plan, Run.settled_by}
use Rattle.model.specs.{Run.counts_by}
use Rattle.model.specs.{Inner.WellFormed.WellFormed}
use lib.Seq.{drop_at}
use Rattle.model.proofs.{Lists.map_ext, Lists.map_flat_map, Lists.keep_ext, Tally.tabulate_ext}
use Rattle.run_alike.specs.{Inner.Alike.moved, Inner.Claims.SameBelow}
use Rattle.run_alike.proofs.Sets.{Agree, live_alike, sets_alike}

-- ---- lists
keep_map : {A B : Type 0} (q : B → Bool) (f : A → B) (l : List A) → keep q (map f l) ≡ map f (keep (λ x. q (f x)) l)
unfolding keep
keep_map q f [] = refl
keep_map {A} {B} q f (x ∷ l) = go (q (f x)) (keep_map q f l)
  where
    go : (c : Bool) → keep q (map f l) ≡ map f (keep (λ x. q (f x)) l) → elim c [ true ↦ f x ∷ keep q (map f l) | false ↦ keep q (map f l) ] ≡ map f
        (elim c [ true ↦ x ∷ keep (λ x. q (f x)) l | false ↦ keep (λ x. q (f x)) l ])
    go true ih = ap (λ (r : List B). f x ∷ r) ih
    go false ih = ih

counts_map : {A : Type 0} (c : A → ℕ) (f : A → A) (l : List A) → ((x : A) → Memᴰ x l → c (f x) ≡ c x) → counts_by c (map f l) ≡ counts_by c l
unfolding counts_by
counts_map {A} c f l h =
    tabulate_ext 12 (λ x. length (keep (λ y. eqb (c y) x) (map f l))) (λ x. length (keep (λ y. eqb (c y) x) l))
    (λ x. ap (λ (r : List A). length r) (keep_map (λ y. eqb (c y) x) f l) ∙ length-map (keep (λ y. eqb (c (f y)) x) l) f
    ∙ ap (λ (r : List A). length r) (keep_ext (λ y. eqb (c (f y)) x) (λ y. eqb (c y) x) l (λ y m. ap (λ (n : ℕ). eqb n x) (h y m))))

module _ (p : Problem) (w : WellFormed p) where
  module _ (a b : List ℕ) (h : Agree p a b) where
    -- ---- the nodes
    moved_at : (more : List ℕ) → moved a (b ++ more) ≡ a ++ more
    moved_at more = ap (λ (l : List ℕ). a ++ l) (drop_at b more (length a) (sym h.sized))

    pub nodes_alike : (m : ℕ) (more : List ℕ) → length a + length more + m ≡ p.variables → nodes_below p m (a ++ more) ≡ map (moved a) (nodes_below p m (b ++ more))
    unfolding nodes_below
    nodes_alike zero more e = refl
    nodes_alike (suc m) more e =
        ap (λ (s : ℕ). flat (map F (members s))) (sets_alike p w a b h more (omega arith) (length (a ++ more)) (omega (arith, length-append a more)) ∙ ap (at (sets_at p (b ++ more))) long)
        ∙ ap (λ (l : List (List (List ℕ))). flat l) (map_ext F (λ v. map (moved a) (G v)) M (λ v i. one v (nodes_alike m (more ++ (v ∷ [])))))
        ∙ sym (map_flat_map (moved a) G M)
      where
        long : length (a ++ more) ≡ length (b ++ more)
        long = length-append a more ∙ ap (λ (n : ℕ). n + length more) h.sized ∙ sym (length-append b more)

        M : List ℕ
        M = members (at (sets_at p (b ++ more)) (length (b ++ more)))

        F : ℕ → List (List ℕ)
        F v = (a ++ more ++ (v ∷ [])) ∷ nodes_below p m (a ++ more ++ (v ∷ []))

        G : ℕ → List (List ℕ)
        G v = (b ++ more ++ (v ∷ [])) ∷ nodes_below p m (b ++ more ++ (v ∷ []))

        one : (v : ℕ) → (length a + length (more ++ (v ∷ [])) + m ≡ p.variables → nodes_below p m (a ++ (more ++ (v ∷ []))) ≡ map (moved a) (nodes_below p m (b ++ (more ++ (v ∷ []))))) →
            F v ≡ map (moved a) (G v)
        one v ih =
            ap (λ (l : List ℕ). l ∷ nodes_below p m l) (append_assoc a more (v ∷ []))
            ∙ ap₂ (λ (t : List ℕ) (l : List (List ℕ)). t ∷ l) (sym (moved_at (more ++ (v ∷ [])))) (ih (omega (arith, length-append more (v ∷ []))))
            ∙ ap (λ (l : List ℕ). map (moved a) (l ∷ nodes_below p m l)) (sym (append_assoc b more (v ∷ [])))

    -- ---- the plans
    pub plan_alike : (s : List ℕ) → is_plan p (a ++ s) ≡ is_plan p (b ++ s)
    unfolding is_plan
    plan_alike s = ap (λ (n : ℕ). both (eqb n p.variables) (is_live p (a ++ s))) long ∙ go (ℕ_discrete (length (b ++ s)) p.variables)
      where
        long : length (a ++ s) ≡ length (b ++ s)
        long = length-append a s ∙ ap (λ (n : ℕ). n + length s) h.sized ∙ sym (length-append b s)

        go : Dec (length (b ++ s) ≡ p.variables) → both (eqb (length (b ++ s)) p.variables) (is_live p (a ++ s)) ≡ both (eqb (length (b ++ s)) p.variables) (is_live p (b ++ s))
        go (yes e) = ap (both (eqb (length (b ++ s)) p.variables)) (live_alike p w a b h s (omega (arith, length-append a s, long)))
        go (no n) = let e = ne_eqb (length (b ++ s)) p.variables n in ap (λ (c : Bool). both c (is_live p (a ++ s))) e ∙ sym (ap (λ (c : Bool). both c (is_live p (b ++ s))) e)

  self : (a b : List ℕ) → Agree p a b → Agree p b b
  self a b h = record { sized = refl; first = h.second; second = h.second; later = λ x l. refl; settled = λ c m n x i l. refl; lists = λ g m s more e r l d o. o; back = λ g m s more e r l d o. o }

  pub same_below : (a b : List ℕ) → Agree p a b → (m : ℕ) → length a + m ≡ p.variables → SameBelow p m a b
  same_below a b h m e = record {
    nodes = nodes;
    plans = plans;
    made = ap (λ (l : List (List ℕ)). length l) nodes ∙ length-map N (moved a);
    listed = ap (λ (l : List (List ℕ)). length l) plans ∙ length-map (keep (is_plan p) N) (moved a);
    counts = λ f. ap (counts_by (λ t. f (settled_by t))) nodes ∙ counts_map (λ t. f (settled_by t)) (moved a) N (λ t i. ap (λ (n : ℕ). f (n - 1)) (long t i));
    same = plan_alike a b h;
  }
    where
      N : List (List ℕ)
      N = nodes_below p m b

      bare : (c d : List ℕ) → Agree p c d → length c + m ≡ p.variables → nodes_below p m c ≡ map (moved c) (nodes_below p m d)
      bare c d q e = ap (nodes_below p m) (sym (append-nil c)) ∙ nodes_alike c d q m [] (omega arith) ∙ ap (λ (l : List ℕ). map (moved c) (nodes_below p m l)) (append-nil d)

      nodes : nodes_below p m a ≡ map (moved a) N
      nodes = bare a b h e

      -- each node below b begins with it
      begins : (t : List ℕ) → Memᴰ t N → (s : List ℕ) × (t ≡ b ++ s)
      begins t i =
          let r = Memᴰ-of_map (moved b) N (subst (λ (l : List (List ℕ)). Memᴰ t l) (bare b b (self a b h) (omega (arith, h.sized))) i) in
          (drop (length b) r.0, sym r.2)

      long : (t : List ℕ) → Memᴰ t N → length (moved a t) ≡ length t
      long t i =
          let r = begins t i in
          ap (λ (l : List ℕ). length (moved a l)) r.1 ∙ ap (λ (l : List ℕ). length l) (moved_at a b h r.0) ∙ length-append a r.0 ∙ ap (λ (n : ℕ). n + length r.0) h.sized
          ∙ sym (length-append b r.0)
          ∙ ap (λ (l : List ℕ). length l) (sym r.1)

      plans : keep (is_plan p) (nodes_below p m a) ≡ map (moved a) (keep (is_plan p) N)
      plans =
          ap (keep (is_plan p)) nodes ∙ keep_map (is_plan p) (moved a) N
          ∙ ap (map (moved a)) (keep_ext (λ t. is_plan p (moved a t)) (is_plan p) N
          (λ t i. let r = begins t i in ap (λ (l : List ℕ). is_plan p (moved a l)) r.1 ∙ ap (is_plan p) (moved_at a b h r.0) ∙ plan_alike a b h r.0 ∙ ap (is_plan p) (sym r.1)))
