-- A run in parts (specs/Parts, specs/Between): the nodes of a tree ascend in the order of the search, so those after a path are a last part of them;
-- a tree cut into ranges; and a run that goes on from its last node is the whole run. Holds of every problem. Assumes nothing.
use Rattle.model.specs.Kit.{◌≡◌, refl, sym, ap, ap₂, ◌∙◌, subst, Bool, true, false, not, ◌⊎◌, inl, inr, List, [], ◌∷◌, ◌++◌, map, Memᴰ, Memᴰ-head, Memᴰ-tail, Memᴰ-not_nil}
use Rattle.model.specs.Kit.{Memᴰ-of_map, append-nil, ℕ, zero, suc, ◌<◌, arith, T, eqb, ltb, eqb_refl, ltb→lt, lt→ltb, length, ltb-true, ltb-false, eqb-true, eqb-false, ne_eqb}
use Rattle.model.specs.{Lists.both, Lists.keep, Lists.flat, Lists.below, Lists.at, ValueSets.has, ValueSets.members, Problem.Problem, Search.sets_at, Search.nodes_below, Search.nodes}
use lib.Seq.{append_snoc}
use Rattle.run_cut.specs.{Parts.after, Parts.nodes_after, Between.nodes_between, Between.ranges, Between.Cuts, Inner.Paths.candidates_at, Claims.RangesWhole}
use Rattle.model.proofs.Lists.{T_of, of_T, of_not, both_r, both_true, keep_yes, keep_no, keep_all, keep_none, flat_e, Sorted, sorted_keep, sorted_flat_map, sorted_below}

-- ---- the order of the search
pub after_eq : (x : ℕ) (l m : List ℕ) → after (x ∷ l) (x ∷ m) ≡ after l m
unfolding after
after_eq x l m = go (eqb x x) (of_T (eqb x x) (eqb_refl x))
  where
    go : (b : Bool) → b ≡ true → elim b [ true ↦ after l m | false ↦ ltb x x ] ≡ after l m
    go true e = refl
    go false e = absurd (subst T (sym e) tt)

pub after_ne : (x y : ℕ) (l m : List ℕ) → (x ≡ y → ⊥) → after (x ∷ l) (y ∷ m) ≡ ltb x y
unfolding after
after_ne x y l m h = go (eqb x y) (ne_eqb x y h)
  where
    go : (b : Bool) → b ≡ false → elim b [ true ↦ after l m | false ↦ ltb x y ] ≡ ltb x y
    go true e = absurd (subst T e tt)
    go false e = refl

pub after_lt : (x y : ℕ) (l m : List ℕ) → x < y → T (after (x ∷ l) (y ∷ m))
after_lt x y l m h = subst T (sym (after_ne x y l m (λ e. omega arith))) (lt→ltb x y h)

-- a longer path comes after
pub after_nil : (v : ℕ) (t : List ℕ) → T (after [] (v ∷ t))
unfolding after
after_nil v t = tt

pub nil_after : (path : List ℕ) → after path [] ≡ false
unfolding after
nil_after [] = refl
nil_after (x ∷ l) = refl

-- by cases
pub after_e : (x y : ℕ) (l m : List ℕ) → T (after (x ∷ l) (y ∷ m)) → (x < y) ⊎ ((x ≡ y) × T (after l m))
unfolding after
after_e x y l m t = go (eqb x y) refl t
  where
    go : (b : Bool) → eqb x y ≡ b → T (elim b [ true ↦ after l m | false ↦ ltb x y ]) → (x < y) ⊎ ((x ≡ y) × T (after l m))
    go true e t = inr (eqb-true x y e, t)
    go false e t = inl (ltb→lt x y t)

pub after_i : (x y : ℕ) (l m : List ℕ) → (x < y) ⊎ ((x ≡ y) × T (after l m)) → T (after (x ∷ l) (y ∷ m))
after_i x y l m (inl h) = after_lt x y l m h
after_i x y l m (inr h) = subst (λ (z : ℕ). T (after (x ∷ l) (z ∷ m))) h.0 (subst T (sym (after_eq x l m)) h.1)

-- what stands in front of both does not matter
pub after_front : (prefix a b : List ℕ) → after (prefix ++ a) (prefix ++ b) ≡ after a b
after_front [] a b = refl
after_front (x ∷ prefix) a b = after_eq x (prefix ++ a) (prefix ++ b) ∙ after_front prefix a b

-- it is a strict order in which any two paths are equal or one comes after the other
pub after_not : (a : List ℕ) → T (after a a) → ⊥
unfolding after
after_not [] t = t
after_not (x ∷ a) t = after_not a (subst T (after_eq x a a) t)

pub after_trans : (a b c : List ℕ) → T (after a b) → T (after b c) → T (after a c)
unfolding after
after_trans [] [] c t u = absurd t
after_trans [] (y ∷ b) [] t u = absurd u
after_trans [] (y ∷ b) (z ∷ c) t u = tt
after_trans (x ∷ a) [] c t u = absurd t
after_trans (x ∷ a) (y ∷ b) [] t u = absurd u
after_trans (x ∷ a) (y ∷ b) (z ∷ c) t u = after_i x z a c (go (after_trans a b c) (after_e x y a b t) (after_e y z b c u))
  where
    go : (T (after a b) → T (after b c) → T (after a c)) → (x < y) ⊎ ((x ≡ y) × T (after a b)) → (y < z) ⊎ ((y ≡ z) × T (after b c)) → (x < z) ⊎ ((x ≡ z) × T (after a c))
    go ih (inl h) (inl k) = inl (omega arith)
    go ih (inl h) (inr k) = inl (omega (arith, k.0))
    go ih (inr h) (inl k) = inl (omega (arith, h.0))
    go ih (inr h) (inr k) = inr (h.0 ∙ k.0, ih h.1 k.1)

pub after_asym : (a b : List ℕ) → T (after a b) → T (after b a) → ⊥
after_asym a b t u = after_not a (after_trans a b a t u)

pub after_total : (a b : List ℕ) → (a ≡ b) ⊎ (T (after a b) ⊎ T (after b a))
unfolding after
after_total [] [] = inl refl
after_total [] (y ∷ b) = inr (inl tt)
after_total (x ∷ a) [] = inr (inr tt)
after_total (x ∷ a) (y ∷ b) = go (after_total a b) (eqb x y) refl (ltb x y) refl
  where
    go : (a ≡ b) ⊎ (T (after a b) ⊎ T (after b a)) → (e : Bool) → eqb x y ≡ e → (l : Bool) → ltb x y ≡ l → (x ∷ a ≡ y ∷ b) ⊎ (T (after (x ∷ a) (y ∷ b)) ⊎ T (after (y ∷ b) (x ∷ a)))
    go (inl h) true e l k = inl (ap₂ (λ (z : ℕ) (r : List ℕ). z ∷ r) (eqb-true x y e) h)
    go (inr (inl t)) true e l k = inr (inl (after_i x y a b (inr (eqb-true x y e, t))))
    go (inr (inr t)) true e l k = inr (inr (after_i y x b a (inr (sym (eqb-true x y e), t))))
    go ih false e true k = inr (inl (after_lt x y a b (ltb-true x y k)))
    go ih false e false k = inr (inr (after_lt y x b a (let n = eqb-false x y e in let m = ltb-false x y k in omega arith)))

-- where b does not come before a, what comes after b comes after a
pub after_later : (a b c : List ℕ) → (T (after b a) → ⊥) → T (after b c) → T (after a c)
after_later a b c h t = go (after_total a b)
  where
    go : (a ≡ b) ⊎ (T (after a b) ⊎ T (after b a)) → T (after a c)
    go (inl e) = subst (λ (z : List ℕ). T (after z c)) (sym e) t
    go (inr (inl u)) = after_trans a b c u t
    go (inr (inr u)) = absurd (h u)

-- ---- lists in this order
abbrev pub Later : List ℕ → List ℕ → Type 0
Later a b = T (after a b)

-- a cut: what comes after a, up to b, then what comes after b
pub cut_after : (a b : List ℕ) → (T (after b a) → ⊥) → (l : List (List ℕ)) → Sorted Later l → keep (after a) l ≡ keep (λ t. both (after a t) (not (after b t))) l ++ keep (after b) l
unfolding keep
cut_after a b h [] s = refl
cut_after a b h (x ∷ l) s = go (cut_after a b h l s.1) (after b x) refl
  where
    between : List ℕ → Bool
    between t = both (after a t) (not (after b t))

    later : T (after b x) → (y : List ℕ) → Memᴰ y (x ∷ l) → T (after b y)
    later t y (Memᴰ-head e) = subst (λ (z : List ℕ). T (after b z)) (sym e) t
    later t y (Memᴰ-tail m) = after_trans b x y t (s.0 y m)

    go : keep (after a) l ≡ keep between l ++ keep (after b) l → (c : Bool) → after b x ≡ c → keep (after a) (x ∷ l) ≡ keep between (x ∷ l) ++ keep (after b) (x ∷ l)
    go ih true e =
        let t = later (T_of (after b x) e) in
        keep_all (after a) (x ∷ l) (λ y m. after_later a b y h (t y m))
        ∙ sym (ap₂ (λ (k m : List (List ℕ)). k ++ m)
        (keep_none between (x ∷ l) (λ y m u. of_not (not (after b y)) (ap not (of_T (after b y) (t y m))) (both_r (after a y) (not (after b y)) u))) (keep_all (after b) (x ∷ l) t))
    go ih false e = inner (after a x) refl
      where
        same_test : between x ≡ after a x
        same_test = ap (λ (c : Bool). both (after a x) (not c)) e ∙ both_true (after a x)

        inner : (c : Bool) → after a x ≡ c → keep (after a) (x ∷ l) ≡ keep between (x ∷ l) ++ keep (after b) (x ∷ l)
        inner true f =
            keep_yes (after a) x l f ∙ ap (λ (r : List (List ℕ)). x ∷ r) ih
            ∙ sym (ap₂ (λ (k m : List (List ℕ)). k ++ m) (keep_yes between x l (same_test ∙ f)) (keep_no (after b) x l e))
        inner false f =
            keep_no (after a) x l f ∙ ih
            ∙ sym (ap₂ (λ (k m : List (List ℕ)). k ++ m) (keep_no between x l (same_test ∙ f)) (keep_no (after b) x l e))

-- ---- the tree
module _ (p : Problem) where
  -- the nodes of one value of the variable behind a prefix
  abbrev pub branch : ℕ → List ℕ → ℕ → List (List ℕ)
  branch k prefix v = (prefix ++ (v ∷ [])) ∷ nodes_below p k (prefix ++ (v ∷ []))

  pub sorted_candidates : (prefix : List ℕ) → Sorted (λ (x y : ℕ). x < y) (candidates_at p prefix)
  unfolding members
  sorted_candidates prefix = sorted_keep (λ (x y : ℕ). x < y) (has (at (sets_at p prefix) (length prefix))) (below 16) (sorted_below 16)

  -- every node below a prefix is longer
  pub below_longer : (k : ℕ) (prefix t : List ℕ) → Memᴰ t (nodes_below p k prefix) → (v : ℕ) × (r : List ℕ) × (t ≡ prefix ++ (v ∷ r))
  unfolding nodes_below
  below_longer zero prefix t m = absurd (Memᴰ-not_nil m)
  below_longer (suc k) prefix t m =
      let q = flat_e (map (branch k prefix) (candidates_at p prefix)) t m in
      let r = Memᴰ-of_map (branch k prefix) (candidates_at p prefix) q.1 in
      go r.0 (below_longer k (prefix ++ (r.0 ∷ [])) t) (subst (λ (l : List (List ℕ)). Memᴰ t l) (sym r.2) q.2)
    where
      go : (v : ℕ) → (Memᴰ t (nodes_below p k (prefix ++ (v ∷ []))) → (w : ℕ) × (r : List ℕ) × (t ≡ (prefix ++ (v ∷ [])) ++ (w ∷ r))) → Memᴰ t (branch k prefix v) → (w : ℕ) × (r : List ℕ)
          × (t ≡ prefix ++ (w ∷ r))
      go v ih (Memᴰ-head e) = (v, [], e)
      go v ih (Memᴰ-tail i) = let j = ih i in (v, j.0 ∷ j.1, j.2 ∙ append_snoc prefix v (j.0 ∷ j.1))

  pub branch_form : (k : ℕ) (prefix : List ℕ) (v : ℕ) (t : List ℕ) → Memᴰ t (branch k prefix v) → (r : List ℕ) × (t ≡ prefix ++ (v ∷ r))
  branch_form k prefix v t (Memᴰ-head e) = ([], e)
  branch_form k prefix v t (Memᴰ-tail m) = let j = below_longer k (prefix ++ (v ∷ [])) t m in (j.0 ∷ j.1, j.2 ∙ append_snoc prefix v (j.0 ∷ j.1))

  -- so it comes after the prefix
  pub below_after : (k : ℕ) (prefix t : List ℕ) → Memᴰ t (nodes_below p k prefix) → T (after prefix t)
  below_after k prefix t m =
      let j = below_longer k prefix t m in
      subst (λ (z : List ℕ). T (after z t)) (append-nil prefix)
      (subst (λ (z : List ℕ). T (after (prefix ++ []) z)) (sym j.2) (subst T (sym (after_front prefix [] (j.0 ∷ j.1))) (after_nil j.0 j.1)))

  -- the nodes below a prefix ascend
  pub below_ascend : (k : ℕ) (prefix : List ℕ) → Sorted Later (nodes_below p k prefix)
  unfolding nodes_below
  below_ascend zero prefix = tt
  below_ascend (suc k) prefix =
      sorted_flat_map (λ (x y : ℕ). x < y) Later (branch k prefix) (candidates_at p prefix) (sorted_candidates prefix)
      (λ v. (below_after k (prefix ++ (v ∷ [])), below_ascend k (prefix ++ (v ∷ []))))
      (λ v w h a b i j.
      let r = branch_form k prefix v a i in
      let r' = branch_form k prefix w b j in
      subst (λ (z : List ℕ). T (after z b)) (sym r.1) (subst (λ (z : List ℕ). T (after (prefix ++ (v ∷ r.0)) z)) (sym r'.1)
      (subst T (sym (after_front prefix (v ∷ r.0) (w ∷ r'.0))) (after_lt v w r.0 r'.0 h))))

  -- the nodes of the tree ascend: each comes after all before it
  pub nodes_ascend : Sorted Later (nodes p)
  unfolding nodes
  nodes_ascend = below_ascend p.variables []

  pub nodes_start : nodes_after p [] ≡ nodes p
  unfolding nodes_after nodes
  nodes_start = keep_all (after []) (nodes_below p p.variables []) (below_after p.variables [])

  -- ---- ranges
  pub cut : (a b : List ℕ) → (T (after b a) → ⊥) → nodes_after p a ≡ nodes_between p a b ++ nodes_after p b
  unfolding nodes_after nodes_between
  cut a b h = cut_after a b h (nodes p) nodes_ascend

  pub ranges_from : (from : List ℕ) (cuts : List (List ℕ)) → Cuts from cuts → flat (ranges p from cuts) ≡ nodes_after p from
  unfolding ranges flat
  ranges_from from [] c = append-nil (nodes_after p from)
  ranges_from from (b ∷ cuts) c = ap (λ (l : List (List ℕ)). nodes_between p from b ++ l) (ranges_from b cuts c.1) ∙ sym (cut from b c.0)

pub ranges_whole : RangesWhole
ranges_whole p cuts c = ranges_from p [] cuts c ∙ nodes_start p
