-- The nodes of a part below a prefix, one value at a time (specs/Within). Holds of every problem. Assumes nothing.
use Rattle.model.specs.Kit.{◌≡◌, refl, sym, ap, ap₂, ◌∙◌, subst, Bool, true, false, not, List, [], ◌∷◌, ◌++◌, map, Memᴰ, Memᴰ-head, Memᴰ-tail, append-nil, ℕ, suc, ◌+◌, ◌≤◌, ◌<◌, arith}
use Rattle.model.specs.Kit.{T, eqb, ltb, length, ltb-true, ltb-false, eqb-true, eqb-false, ne_eqb, lt-ltb, le-ltb}
use Rattle.model.specs.Lists.{both, either, any, keep, flat, below, at}
use Rattle.model.specs.{ValueSets.has, ValueSets.members, Problem.Problem, Search.sets_at, Search.is_live, Search.nodes_below, Search.nodes}
use lib.Seq.{append_snoc}
use Rattle.model.proofs.Lists.{T_of, of_T, not_of, of_not, both_l, both_r, any_cons, among_i, among_e, keep_yes, keep_no, keep_ext, keep_all, keep_none, keep_e, keep_i, keep_flat_map, map_ext}
use Rattle.model.proofs.Lists.{below_e, Sorted, sorted_keep}
use Rattle.run_cut.specs.{Parts.after, Between.nodes_between, Inner.Paths.nodes_of, Inner.Paths.candidates_at, Inner.Paths.reached}
use Rattle.run_cut.proofs.Parts.{after_eq, after_ne, after_front, after_nil, nil_after, branch, branch_form, below_longer, sorted_candidates}
use Rattle.run_cut.proofs.Resume.{dead_below, node_reached}
use Rattle.run_ranges.specs.Inner.Within.{within, given, leaves, into_nodes, onto_nodes, in_range, mid_nodes, up_to_nodes}
use Rattle.run_ranges.proofs.Between.{keep_keep}

-- ---- a sorted list of values, split at one of them
module _ (G : ℕ → List (List ℕ)) where
  abbrev run : List ℕ → List (List ℕ)
  run ms = flat (map G ms)

  any_no : (v w : ℕ) (ms : List ℕ) → (v ≡ w → ⊥) → any (eqb v) (w ∷ ms) ≡ any (eqb v) ms
  any_no v w ms n = any_cons (eqb v) w ms ∙ ap (λ (b : Bool). either b (any (eqb v) ms)) (ne_eqb v w n)

  none_in : (v : ℕ) (ms : List ℕ) → ((u : ℕ) → Memᴰ u ms → u ≡ v → ⊥) → any (eqb v) ms ≡ false
  none_in v ms h = not_of (any (eqb v) ms) (λ t. h v (among_e v ms t) refl)

  given_in : (v : ℕ) (ms : List ℕ) → any (eqb v) (v ∷ ms) ≡ true
  given_in v ms = of_T (any (eqb v) (v ∷ ms)) (among_i v (v ∷ ms) (Memᴰ-head refl))

  -- what stands below v gives nothing
  pub pick_low : (v : ℕ) → ((w : ℕ) → w < v → G w ≡ []) → (ms : List ℕ) → Sorted (λ (x y : ℕ). x < y) ms → run ms ≡ given (any (eqb v) ms) (G v) ++ run (keep (ltb v) ms)
  unfolding flat keep any
  pick_low v lo [] s = refl
  pick_low v lo (w ∷ ms) s = go (pick_low v lo ms s.1) (eqb v w) refl (ltb v w) refl
    where
      go : run ms ≡ given (any (eqb v) ms) (G v) ++ run (keep (ltb v) ms) → (b : Bool) → eqb v w ≡ b → (c : Bool) → ltb v w ≡ c → G w ++ run ms ≡ given (any (eqb v) (w ∷ ms)) (G v) ++ run
          (keep (ltb v) (w ∷ ms))
      go ih true e c f =
          let q : v ≡ w = eqb-true v w e in
          let all : keep (ltb v) ms ≡ ms = keep_all (ltb v) ms (λ u m. let k = s.0 u m in T_of (ltb v u) (lt-ltb v u (omega arith))) in
          ap₂ (λ (l k : List (List ℕ)). l ++ k) (ap G (sym q)) (ap run (sym all))
          ∙ sym (ap₂ (λ (b : Bool) (l : List ℕ). given b (G v) ++ run l) (subst (λ (z : ℕ). any (eqb v) (z ∷ ms) ≡ true) q (given_in v ms)) (keep_no (ltb v) w ms (le-ltb v w (omega arith))))
      go ih false e true f =
          let h : v < w = ltb-true v w f in
          let all : keep (ltb v) ms ≡ ms = keep_all (ltb v) ms (λ u m. let k = s.0 u m in T_of (ltb v u) (lt-ltb v u (omega arith))) in
          sym (ap₂ (λ (b : Bool) (l : List ℕ). given b (G v) ++ run l) (any_no v w ms (λ z. omega arith) ∙ none_in v ms (λ u m z. let k = s.0 u m in omega arith))
          (keep_yes (ltb v) w ms f ∙ ap (λ (l : List ℕ). w ∷ l) all))
      go ih false e false f =
          let n = eqb-false v w e in
          let l = ltb-false v w f in
          ap₂ (λ (l k : List (List ℕ)). l ++ k) (lo w (omega arith)) ih
          ∙ sym (ap₂ (λ (b : Bool) (l : List ℕ). given b (G v) ++ run l) (any_no v w ms n) (keep_no (ltb v) w ms f))

  -- what stands above v gives nothing
  pub pick_high : (v : ℕ) → ((w : ℕ) → v < w → G w ≡ []) → (ms : List ℕ) → Sorted (λ (x y : ℕ). x < y) ms → run ms ≡ run (keep (λ w. ltb w v) ms) ++ given (any (eqb v) ms) (G v)
  unfolding flat keep any
  pick_high v hi [] s = refl
  pick_high v hi (w ∷ ms) s = go (pick_high v hi ms s.1) (eqb v w) refl (ltb w v) refl
    where
      below_v : List ℕ → List ℕ
      below_v l = keep (λ u. ltb u v) l

      highs : v ≤ w → run ms ≡ []
      highs h = go2 ms (λ u m. let k = s.0 u m in omega arith)
        where
          go2 : (l : List ℕ) → ((u : ℕ) → Memᴰ u l → v < u) → run l ≡ []
          go2 [] f = refl
          go2 (u ∷ l) f = ap₂ (λ (a b : List (List ℕ)). a ++ b) (hi u (f u (Memᴰ-head refl))) (go2 l (λ x m. f x (Memᴰ-tail m)))

      no_lows : v ≤ w → below_v (w ∷ ms) ≡ []
      no_lows h = keep_none (λ u. ltb u v) (w ∷ ms) each
        where
          each : (u : ℕ) → Memᴰ u (w ∷ ms) → T (ltb u v) → ⊥
          each u (Memᴰ-head q) t = of_not (ltb u v) (le-ltb u v (omega arith)) t
          each u (Memᴰ-tail m) t = of_not (ltb u v) (le-ltb u v (let k = s.0 u m in omega arith)) t

      go : run ms ≡ run (below_v ms) ++ given (any (eqb v) ms) (G v) → (b : Bool) → eqb v w ≡ b → (c : Bool) → ltb w v ≡ c → G w ++ run ms ≡ run
          (below_v (w ∷ ms)) ++ given (any (eqb v) (w ∷ ms)) (G v)
      go ih true e c f =
          let q : v ≡ w = eqb-true v w e in
          ap₂ (λ (l k : List (List ℕ)). l ++ k) (ap G (sym q)) (highs (omega arith)) ∙ append-nil (G v)
          ∙ sym (ap₂ (λ (l : List ℕ) (b : Bool). run l ++ given b (G v)) (no_lows (omega arith)) (subst (λ (z : ℕ). any (eqb v) (z ∷ ms) ≡ true) q (given_in v ms)))
      go ih false e true f =
          let h = ltb-true w v f in
          ap (λ (l : List (List ℕ)). G w ++ l) ih ∙ sym (assoc (G w) (run (below_v ms)) (given (any (eqb v) ms) (G v)))
          ∙ sym (ap₂ (λ (l : List ℕ) (b : Bool). run l ++ given b (G v)) (keep_yes (λ u. ltb u v) w ms f) (any_no v w ms (eqb-false v w e)))
        where
          assoc : (a b c : List (List ℕ)) → (a ++ b) ++ c ≡ a ++ (b ++ c)
          assoc [] b c = refl
          assoc (x ∷ a) b c = ap (λ (l : List (List ℕ)). x ∷ l) (assoc a b c)
      go ih false e false f =
          let n = eqb-false v w e in
          let l = ltb-false w v f in
          ap₂ (λ (a b : List (List ℕ)). a ++ b) (hi w (omega arith)) (highs (omega arith))
          ∙ sym (ap₂ (λ (l : List ℕ) (b : Bool). run l ++ given b (G v)) (no_lows (omega arith)) (any_no v w ms n ∙ none_in v ms (λ u m z. let k = s.0 u m in omega arith)))

any_kept : (q : ℕ → Bool) (v : ℕ) (ms : List ℕ) → T (q v) → any (eqb v) (keep q ms) ≡ any (eqb v) ms
any_kept q v ms t = go (any (eqb v) ms) refl
  where
    go : (b : Bool) → any (eqb v) ms ≡ b → any (eqb v) (keep q ms) ≡ b
    go true e = of_T (any (eqb v) (keep q ms)) (among_i v (keep q ms) (keep_i q ms v (among_e v ms (T_of (any (eqb v) ms) e)) t))
    go false e = not_of (any (eqb v) (keep q ms)) (λ u. of_not (any (eqb v) ms) e (among_i v ms (keep_e q ms v (among_e v (keep q ms) u)).0))

module _ (p : Problem) where
  candidate_small : (prefix : List ℕ) (v : ℕ) → Memᴰ v (candidates_at p prefix) → v < 16
  unfolding members
  candidate_small prefix v m = below_e 16 v (keep_e (has (at (sets_at p prefix) _)) (below 16) v m).0

  -- a node below a prefix, by its first value
  below_form : (k : ℕ) (q t : List ℕ) → Memᴰ t (nodes_below p k q) → (x : ℕ) × (r : List ℕ) × ((t ≡ q ++ (x ∷ r)) × (x < 16))
  unfolding reached
  below_form k q t m = let j = node_reached p k q t m in go j.0 j.1 j.2 j.3
    where
      go : (r : List ℕ) → t ≡ q ++ r → T (reached p q r) → 0 < length r → (x : ℕ) × (s : List ℕ) × ((t ≡ q ++ (x ∷ s)) × (x < 16))
      go [] e h l = absurd (let z : 0 < 0 = l in omega arith)
      go (x ∷ r) e h l = (x, r, (e, candidate_small q x (among_e x (candidates_at p q) (both_l (any (eqb x) (candidates_at p q)) (reached p (q ++ (x ∷ [])) r) h))))

  -- ---- the whole part, none left, a dead prefix
  pub within_whole : (from upto : List ℕ) → within p p.variables [] from upto ≡ nodes_between p from upto
  unfolding within nodes_between nodes
  within_whole from upto = refl

  pub within_zero : (prefix from upto : List ℕ) → within p 0 prefix from upto ≡ []
  unfolding within nodes_below keep
  within_zero prefix from upto = refl

  pub within_dead : (k : ℕ) (prefix from upto : List ℕ) → is_live p prefix ≡ false → within p k prefix from upto ≡ []
  unfolding within keep
  within_dead k prefix from upto d = ap (keep (λ t. both (after (prefix ++ from) t) (not (after (prefix ++ upto) t)))) (dead_below p k prefix d)

  pub within_ended : (k : ℕ) (prefix from : List ℕ) → within p k prefix from [] ≡ []
  unfolding within
  within_ended k prefix from = keep_none _ (nodes_below p k prefix) (λ t m u.
      let j = below_longer p k prefix t m in
      let a : after (prefix ++ []) t ≡ true = ap (after (prefix ++ [])) j.2 ∙ after_front prefix [] (j.0 ∷ j.1) ∙ of_T (after [] (j.0 ∷ j.1)) (after_nil j.0 j.1) in
      of_not (not (after (prefix ++ []) t)) (ap not a) (both_r (after (prefix ++ from) t) (not (after (prefix ++ []) t)) u))

  -- ---- one value at a time
  module _ (k : ℕ) (prefix : List ℕ) where
    abbrev test : List ℕ → List ℕ → List ℕ → Bool
    test f u t = both (after (prefix ++ f) t) (not (after (prefix ++ u) t))

    abbrev part : List ℕ → List ℕ → ℕ → List (List ℕ)
    part f u v = keep (test f u) (branch p k prefix v)

    by_value : (f u : List ℕ) → within p (suc k) prefix f u ≡ flat (map (part f u) (candidates_at p prefix))
    unfolding within nodes_below
    by_value f u = keep_flat_map (test f u) (branch p k prefix) (candidates_at p prefix)

    test_at : (f u : List ℕ) (v : ℕ) (r : List ℕ) → test f u (prefix ++ (v ∷ r)) ≡ both (after f (v ∷ r)) (not (after u (v ∷ r)))
    test_at f u v r = ap₂ (λ (a b : Bool). both a (not b)) (after_front prefix f (v ∷ r)) (after_front prefix u (v ∷ r))

    -- by what holds of every node of the value
    part_none : (f u : List ℕ) (v : ℕ) → ((r : List ℕ) → both (after f (v ∷ r)) (not (after u (v ∷ r))) ≡ false) → part f u v ≡ []
    part_none f u v h = keep_none (test f u) (branch p k prefix v) (λ t m w. let j = branch_form p k prefix v t m in of_not (test f u t) (ap (test f u) j.1 ∙ test_at f u v j.0 ∙ h j.0) w)

    part_all : (f u : List ℕ) (v : ℕ) → ((r : List ℕ) → both (after f (v ∷ r)) (not (after u (v ∷ r))) ≡ true) → part f u v ≡ branch p k prefix v
    part_all f u v h = keep_all (test f u) (branch p k prefix v) (λ t m. let j = branch_form p k prefix v t m in T_of (test f u t) (ap (test f u) j.1 ∙ test_at f u v j.0 ∙ h j.0))

    -- the nodes below one value, by the rests of the paths
    part_below : (f u g w : List ℕ) (v : ℕ) → ((x : ℕ) (r : List ℕ) → x < 16 → both (after f (v ∷ x ∷ r)) (not (after u (v ∷ x ∷ r))) ≡ both (after g (x ∷ r)) (not (after w (x ∷ r)))) →
        keep (test f u) (nodes_below p k (prefix ++ (v ∷ []))) ≡ within p k (prefix ++ (v ∷ [])) g w
    unfolding within
    part_below f u g w v h = keep_ext (test f u) _ (nodes_below p k (prefix ++ (v ∷ []))) (λ t m.
        let j = below_form k (prefix ++ (v ∷ [])) t m in
        ap (test f u) (j.2.0 ∙ append_snoc prefix v (j.0 ∷ j.1)) ∙ test_at f u v (j.0 ∷ j.1) ∙ h j.0 j.1 j.2.1
        ∙ sym (ap (λ (z : List ℕ). both (after ((prefix ++ (v ∷ [])) ++ g) z) (not (after ((prefix ++ (v ∷ [])) ++ w) z))) j.2.0
        ∙ ap₂ (λ (a b : Bool). both a (not b)) (after_front (prefix ++ (v ∷ [])) g (j.0 ∷ j.1)) (after_front (prefix ++ (v ∷ [])) w (j.0 ∷ j.1))))

    -- the first values differ: the smaller decides
    after_same : (v : ℕ) (f r : List ℕ) → after (v ∷ f) (v ∷ r) ≡ after f r
    after_same v f r = after_eq v f r

    after_less : (a v : ℕ) (f r : List ℕ) → a < v → after (a ∷ f) (v ∷ r) ≡ true
    after_less a v f r l = after_ne a v f r (λ e. omega arith) ∙ lt-ltb a v l

    after_more : (a v : ℕ) (f r : List ℕ) → v < a → after (a ∷ f) (v ∷ r) ≡ false
    after_more a v f r l = after_ne a v f r (λ e. omega arith) ∙ le-ltb a v (omega arith)

    both_no : (b : Bool) → both b false ≡ false
    both_no true = refl
    both_no false = refl

    -- the value a of the lower path: its node is left out
    part_lower : (a : ℕ) (f u g w : List ℕ) → ((x : ℕ) (r : List ℕ) → x < 16 → both (after f (x ∷ r)) (not (after u (a ∷ x ∷ r))) ≡ both (after g (x ∷ r)) (not (after w (x ∷ r)))) →
        part (a ∷ f) u a ≡ within p k (prefix ++ (a ∷ [])) g w
    part_lower a f u g w h =
        keep_no (test (a ∷ f) u) (prefix ++ (a ∷ [])) (nodes_below p k (prefix ++ (a ∷ [])))
        (test_at (a ∷ f) u a [] ∙ ap (λ (b : Bool). both b (not (after u (a ∷ [])))) (after_same a f [] ∙ nil_after f))
        ∙ part_below (a ∷ f) u g w a (λ x r l. ap (λ (b : Bool). both b (not (after u (a ∷ x ∷ r)))) (after_same a f (x ∷ r)) ∙ h x r l)

    -- the value b of the upper path, above the lower path: its node comes first
    part_upper : (b : ℕ) (f u : List ℕ) → ((r : List ℕ) → after f (b ∷ r) ≡ true) → part f (b ∷ u) b ≡ (prefix ++ (b ∷ [])) ∷ within p k (prefix ++ (b ∷ [])) [] u
    part_upper b f u h =
        keep_yes (test f (b ∷ u)) (prefix ++ (b ∷ [])) (nodes_below p k (prefix ++ (b ∷ []))) (test_at f (b ∷ u) b [] ∙ ap₂ (λ (x y : Bool). both x (not y)) (h []) (after_same b u [] ∙ nil_after u))
        ∙ ap (λ (l : List (List ℕ)). (prefix ++ (b ∷ [])) ∷ l)
        (part_below f (b ∷ u) [] u b (λ x r l. ap₂ (λ (y z : Bool). both y (not z)) (h (x ∷ r)) (after_same b u (x ∷ r)) ∙ sym
        (ap (λ (y : Bool). both y (not (after u (x ∷ r)))) (of_T (after [] (x ∷ r)) (after_nil x r)))))

    -- the path 255 bounds nothing
    open_end : (x : ℕ) (r : List ℕ) → x < 16 → after (255 ∷ []) (x ∷ r) ≡ false
    open_end x r l = after_more 255 x [] r (omega arith)

    pub within_equal : (a : ℕ) (f u : List ℕ) → within p (suc k) prefix (a ∷ f) (a ∷ u) ≡ into_nodes p k prefix a f u
    unfolding into_nodes flat
    within_equal a f u =
        by_value (a ∷ f) (a ∷ u)
        ∙ pick_low (part (a ∷ f) (a ∷ u)) a (λ w l. part_none (a ∷ f) (a ∷ u) w (λ r. ap (λ (b : Bool). both b (not (after (a ∷ u) (w ∷ r)))) (after_more a w f r l))) (candidates_at p prefix)
        (sorted_candidates p prefix)
        ∙ ap₂ (λ (x y : List (List ℕ)). given (leaves p prefix a) x ++ y) (part_lower a f (a ∷ u) f u (λ x r l. ap (λ (b : Bool). both (after f (x ∷ r)) (not b)) (after_same a u (x ∷ r)))) nothing
        ∙ append-nil (given (leaves p prefix a) (within p k (prefix ++ (a ∷ [])) f u))
      where
        nothing : flat (map (part (a ∷ f) (a ∷ u)) (keep (ltb a) (candidates_at p prefix))) ≡ []
        nothing = none (keep (ltb a) (candidates_at p prefix)) (λ w m. ltb-true a w (of_T (ltb a w) (keep_e (ltb a) (candidates_at p prefix) w m).1))
          where
            none : (ms : List ℕ) → ((w : ℕ) → Memᴰ w ms → a < w) → flat (map (part (a ∷ f) (a ∷ u)) ms) ≡ []
            none [] h = refl
            none (w ∷ ms) h = ap₂ (λ (x y : List (List ℕ)). x ++ y) (part_none (a ∷ f) (a ∷ u) w
                (λ r. ap₂ (λ (x y : Bool). both x (not y)) (after_less a w f r (h w (Memᴰ-head refl))) (after_less a w u r (h w (Memᴰ-head refl)))))
                (none ms (λ v m. h v (Memᴰ-tail m)))

    pub within_back : (a b : ℕ) (f u : List ℕ) → b < a → within p (suc k) prefix (a ∷ f) (b ∷ u) ≡ []
    unfolding flat
    within_back a b f u l = by_value (a ∷ f) (b ∷ u) ∙ none (candidates_at p prefix)
      where
        each : (w : ℕ) (c : Bool) → ltb b w ≡ c → part (a ∷ f) (b ∷ u) w ≡ []
        each w true e = part_none (a ∷ f) (b ∷ u) w (λ r. ap (λ (y : Bool). both (after (a ∷ f) (w ∷ r)) (not y)) (after_less b w u r (ltb-true b w e)) ∙ both_no (after (a ∷ f) (w ∷ r)))
        each w false e = part_none (a ∷ f) (b ∷ u) w (λ r. ap (λ (x : Bool). both x (not (after (b ∷ u) (w ∷ r)))) (after_more a w f r (let z = ltb-false b w e in omega arith)))

        none : (ms : List ℕ) → flat (map (part (a ∷ f) (b ∷ u)) ms) ≡ []
        none [] = refl
        none (w ∷ ms) = ap₂ (λ (x y : List (List ℕ)). x ++ y) (each w (ltb b w) refl) (none ms)

    -- values from `low` up, all of whose nodes come after the lower path, up to the upper path's value
    upper_part : (f : List ℕ) (b : ℕ) (u : List ℕ) (low : ℕ) → low ≤ b → ((v : ℕ) (r : List ℕ) → low ≤ v → after f (v ∷ r) ≡ true) →
        flat (map (part f (b ∷ u)) (keep (λ v. not (ltb v low)) (candidates_at p prefix))) ≡ up_to_nodes p k prefix low b u
    unfolding up_to_nodes mid_nodes onto_nodes nodes_of
    upper_part f b u low lb h =
        pick_high (part f (b ∷ u)) b (λ w l. part_none f (b ∷ u) w (λ r. ap (λ (y : Bool). both (after f (w ∷ r)) (not y)) (after_less b w u r l) ∙ both_no (after f (w ∷ r)))) ms
        (sorted_keep (λ (x y : ℕ). x < y) (λ v. not (ltb v low)) (candidates_at p prefix) (sorted_candidates p prefix))
        ∙ ap₂ (λ (x y : List (List ℕ)). x ++ y) mids (ap₂ given (any_kept (λ v. not (ltb v low)) b (candidates_at p prefix) (T_of (not (ltb b low)) (ap not (le-ltb b low lb))))
        (part_upper b f u (λ r. h b r lb)))
      where
        ms : List ℕ
        ms = keep (λ v. not (ltb v low)) (candidates_at p prefix)

        mids : flat (map (part f (b ∷ u)) (keep (λ w. ltb w b) ms)) ≡ flat (map (branch p k prefix) (keep (in_range low b) (candidates_at p prefix)))
        mids =
            ap (λ (l : List ℕ). flat (map (part f (b ∷ u)) l)) (keep_keep (λ w. ltb w b) (λ v. not (ltb v low)) (candidates_at p prefix))
            ∙ ap flat (map_ext (part f (b ∷ u)) (branch p k prefix) (keep (in_range low b) (candidates_at p prefix)) (λ w m.
            let q = (keep_e (in_range low b) (candidates_at p prefix) w m).1 in
            let l1 = both_l (not (ltb w low)) (ltb w b) q in
            let l2 = ltb-true w b (of_T (ltb w b) (both_r (not (ltb w low)) (ltb w b) q)) in
            part_all f (b ∷ u) w (λ r. ap₂ (λ (x y : Bool). both x (not y)) (h w r (above_low w low l1)) (after_more b w u r l2))))
          where
            above_low : (w low : ℕ) → T (not (ltb w low)) → low ≤ w
            above_low w low t = go (ltb w low) refl t
              where
                go : (c : Bool) → ltb w low ≡ c → T (not c) → low ≤ w
                go true e t = absurd t
                go false e t = let z = ltb-false w low e in omega arith

    pub within_open : (b : ℕ) (u : List ℕ) → within p (suc k) prefix [] (b ∷ u) ≡ up_to_nodes p k prefix 0 b u
    within_open b u =
        by_value [] (b ∷ u)
        ∙ ap (λ (l : List ℕ). flat (map (part [] (b ∷ u)) l)) (sym (keep_all (λ v. not (ltb v 0)) (candidates_at p prefix) (λ v m. T_of (not (ltb v 0)) (ap not (le-ltb v 0 (omega arith))))))
        ∙ upper_part [] b u 0 (omega arith) (λ v r l. of_T (after [] (v ∷ r)) (after_nil v r))

    pub within_less : (a b : ℕ) (f u : List ℕ) → a < b → within p (suc k) prefix (a ∷ f) (b ∷ u) ≡ into_nodes p k prefix a f (255 ∷ []) ++ up_to_nodes p k prefix (a + 1) b u
    unfolding into_nodes
    within_less a b f u l =
        by_value (a ∷ f) (b ∷ u)
        ∙ pick_low (part (a ∷ f) (b ∷ u)) a (λ w l. part_none (a ∷ f) (b ∷ u) w (λ r. ap (λ (x : Bool). both x (not (after (b ∷ u) (w ∷ r)))) (after_more a w f r l))) (candidates_at p prefix)
        (sorted_candidates p prefix)
        ∙ ap₂ (λ (x y : List (List ℕ)). given (leaves p prefix a) x ++ y)
        (part_lower a f (b ∷ u) f (255 ∷ []) (λ x r m. ap (λ (y : Bool). both (after f (x ∷ r)) (not y)) (after_more b a u (x ∷ r) l ∙ sym (open_end x r m))))
        (ap (λ (ms : List ℕ). flat (map (part (a ∷ f) (b ∷ u)) ms)) (keep_ext (ltb a) (λ v. not (ltb v (a + 1))) (candidates_at p prefix) (λ v m. same_test v (ltb a v) refl))
        ∙ upper_part (a ∷ f) b u (a + 1) (omega arith) (λ v r h. after_less a v f r (omega arith)))
      where
        same_test : (v : ℕ) (c : Bool) → ltb a v ≡ c → ltb a v ≡ not (ltb v (a + 1))
        same_test v true e = e ∙ sym (ap not (le-ltb v (a + 1) (let z = ltb-true a v e in omega arith)))
        same_test v false e = e ∙ sym (ap not (lt-ltb v (a + 1) (let z = ltb-false a v e in omega arith)))

  -- ---- at the last variable: the upper path's value is one of the values walked along
  pub last_values : (prefix : List ℕ) (low b : ℕ) (u : List ℕ) → low ≤ b → up_to_nodes p 0 prefix low b u ≡ mid_nodes p 0 prefix low (b + 1)
  unfolding up_to_nodes mid_nodes onto_nodes nodes_of within nodes_below keep flat any
  last_values prefix low b u l =
      sym (ap (λ (ms : List ℕ). flat (map (branch p 0 prefix) ms)) (sym (keep_keep (λ v. ltb v (b + 1)) (λ v. not (ltb v low)) (candidates_at p prefix)))
      ∙ go (keep (λ v. not (ltb v low)) (candidates_at p prefix)) (sorted_keep (λ (x y : ℕ). x < y) (λ v. not (ltb v low)) (candidates_at p prefix) (sorted_candidates p prefix))
      ∙ ap₂ (λ (ms : List ℕ) (c : Bool). flat (map (branch p 0 prefix) ms) ++ given c ((prefix ++ (b ∷ [])) ∷ [])) (keep_keep (λ v. ltb v b) (λ v. not (ltb v low)) (candidates_at p prefix))
      (any_kept (λ v. not (ltb v low)) b (candidates_at p prefix) (T_of (not (ltb b low)) (ap not (le-ltb b low l)))))
    where
      go : (ms : List ℕ) → Sorted (λ (x y : ℕ). x < y) ms → flat (map (branch p 0 prefix) (keep (λ v. ltb v (b + 1)) ms)) ≡ flat (map (branch p 0 prefix) (keep (λ v. ltb v b) ms)) ++ given
          (any (eqb b) ms) ((prefix ++ (b ∷ [])) ∷ [])
      go [] s = refl
      go (w ∷ ms) s = step (go ms s.1) (eqb b w) refl (ltb w b) refl
        where
          node : ℕ → List ℕ
          node v = prefix ++ (v ∷ [])

          few : List ℕ → List (List ℕ)
          few l = flat (map (branch p 0 prefix) (keep (λ v. ltb v b) l))

          more : List ℕ → List (List ℕ)
          more l = flat (map (branch p 0 prefix) (keep (λ v. ltb v (b + 1)) l))

          high : (c : ℕ) → c ≤ b + 1 → (l : List ℕ) → ((v : ℕ) → Memᴰ v l → c ≤ v) → keep (λ v. ltb v c) l ≡ []
          high c z l h = keep_none (λ v. ltb v c) l (λ v m t. of_not (ltb v c) (le-ltb v c (h v m)) t)

          above : b ≤ w → (v : ℕ) → Memᴰ v ms → b + 1 ≤ v
          above h v m = let k = s.0 v m in omega arith

          step : more ms ≡ few ms ++ given (any (eqb b) ms) (node b ∷ []) → (c : Bool) → eqb b w ≡ c → (d : Bool) → ltb w b ≡ d → more (w ∷ ms) ≡ few (w ∷ ms) ++ given (any (eqb b) (w ∷ ms))
              (node b ∷ [])
          step ih true e d h =
              let q : b ≡ w = eqb-true b w e in
              ap (λ (l : List ℕ). flat (map (branch p 0 prefix) l)) (keep_yes (λ v. ltb v (b + 1)) w ms (lt-ltb w (b + 1) (omega arith)) ∙ ap (λ (l : List ℕ). w ∷ l)
              (high (b + 1) (omega arith) ms (above (omega arith))))
              ∙ ap (λ (v : ℕ). node v ∷ []) (sym q)
              ∙ sym (ap₂ (λ (l : List ℕ) (c : Bool). flat (map (branch p 0 prefix) l) ++ given c (node b ∷ []))
              (keep_no (λ v. ltb v b) w ms (le-ltb w b (omega arith)) ∙ high b (omega arith) ms (λ v m. let k = above (omega arith) v m in omega arith))
              (subst (λ (z : ℕ). any (eqb b) (z ∷ ms) ≡ true) q (given_in (branch p 0 prefix) b ms)))
          step ih false e true h =
              let l = ltb-true w b h in
              ap (λ (l : List ℕ). flat (map (branch p 0 prefix) l)) (keep_yes (λ v. ltb v (b + 1)) w ms (lt-ltb w (b + 1) (omega arith)))
              ∙ ap (λ (x : List (List ℕ)). node w ∷ x) ih
              ∙ sym (ap₂ (λ (l : List ℕ) (c : Bool). flat (map (branch p 0 prefix) l) ++ given c (node b ∷ [])) (keep_yes (λ v. ltb v b) w ms h) (any_no (branch p 0 prefix) b w ms (eqb-false b w e)))
          step ih false e false h =
              let n = eqb-false b w e in
              let l = ltb-false w b h in
              ap (λ (l : List ℕ). flat (map (branch p 0 prefix) l)) (keep_no (λ v. ltb v (b + 1)) w ms (le-ltb w (b + 1) (omega arith)) ∙ high (b + 1) (omega arith) ms (above (omega arith)))
              ∙ sym (ap₂ (λ (l : List ℕ) (c : Bool). flat (map (branch p 0 prefix) l) ++ given c (node b ∷ []))
              (keep_no (λ v. ltb v b) w ms h ∙ high b (omega arith) ms (λ v m. let k = above (omega arith) v m in omega arith))
              (any_no (branch p 0 prefix) b w ms n ∙ none_in (branch p 0 prefix) b ms (λ v m z. let k = above (omega arith) v m in omega arith)))
