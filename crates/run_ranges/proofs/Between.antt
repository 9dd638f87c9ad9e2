-- The nodes between two paths (run_cut's `nodes_between`): parts of the tree that join, a part up to its last node, the whole tree. Holds of every problem. Assumes nothing.
use Rattle.model.specs.Kit.{◌≡◌, refl, sym, ap, ap₂, ◌∙◌, subst, Bool, true, false, not, ◌⊎◌, inl, inr, List, [], ◌∷◌, ◌++◌, Memᴰ, Memᴰ-head, Memᴰ-tail, ℕ, zero, suc, ◌≤◌, ◌<◌, arith}
use Rattle.model.specs.Kit.{T, eqb, ltb, length, take, drop, length-append, take-append-drop, le-ltb}
use Rattle.model.specs.{Lists.both, Lists.keep, Lists.at, Problem.Problem, Search.nodes}
use lib.Seq.{take-append_seam}
use Rattle.model.proofs.Lists.{T_of, of_T, not_of, of_not, both_i, both_l, both_r, both_true, keep_yes, keep_no, keep_ext, keep_none, keep_e, Sorted, sorted_keep, TExt}
use Rattle.run_cut.specs.{Parts.after, Parts.nodes_after, Parts.last_of, Between.nodes_between}
use Rattle.run_cut.proofs.Parts.{after_trans, after_later, after_ne, nil_after, Later, nodes_ascend, nodes_start}
use Rattle.run_cut.proofs.Resume.{node_values, last_in, taken, after_lasts}

-- after one path and not after another
abbrev pub between : List ℕ → List ℕ → List ℕ → Bool
between a b t = both (after a t) (not (after b t))

between_i : (a b t : List ℕ) → T (after a t) → (T (after b t) → ⊥) → T (between a b t)
between_i a b t u v = both_i (after a t) (not (after b t)) u (T_of (not (after b t)) (ap not (not_of (after b t) v)))

between_after : (a b t : List ℕ) → T (between a b t) → T (after a t)
between_after a b t u = both_l (after a t) (not (after b t)) u

pub between_not : (a b t : List ℕ) → T (between a b t) → T (after b t) → ⊥
between_not a b t u v = of_not (not (after b t)) (ap not (of_T (after b t) v)) (both_r (after a t) (not (after b t)) u)

-- a list that ascends, cut in two
pub join_between : (a b c : List ℕ) (l : List (List ℕ)) → Sorted Later l → ((t : List ℕ) → Memᴰ t l → T (after b t) → T (after a t)) →
    ((t : List ℕ) → Memᴰ t l → T (after c t) → T (after b t)) →
    keep (between a c) l ≡ keep (between a b) l ++ keep (between b c) l
unfolding keep
join_between a b c [] s f g = refl
join_between a b c (x ∷ l) s f g = go (join_between a b c l s.1 (λ t m. f t (Memᴰ-tail m)) (λ t m. g t (Memᴰ-tail m))) (after b x) refl
  where
    Goal : Type 0
    Goal = keep (between a c) (x ∷ l) ≡ keep (between a b) (x ∷ l) ++ keep (between b c) (x ∷ l)

    go : keep (between a c) l ≡ keep (between a b) l ++ keep (between b c) l → (d : Bool) → after b x ≡ d → Goal
    go ih true e =
        let all : (t : List ℕ) → Memᴰ t (x ∷ l) → T (after b t) = each in
        keep_ext (between a c) (between b c) (x ∷ l) (λ t m. TExt (between a c t) (between b c t)
        (λ u. between_i b c t (all t m) (between_not a c t u)) (λ u. between_i a c t (f t m (all t m)) (between_not b c t u)))
        ∙ sym (ap (λ (r : List (List ℕ)). r ++ keep (between b c) (x ∷ l)) (keep_none (between a b) (x ∷ l) (λ t m u. between_not a b t u (all t m))))
      where
        each : (t : List ℕ) → Memᴰ t (x ∷ l) → T (after b t)
        each t (Memᴰ-head q) = subst (λ (z : List ℕ). T (after b z)) (sym q) (T_of (after b x) e)
        each t (Memᴰ-tail m) = after_trans b x t (T_of (after b x) e) (s.0 t m)
    go ih false e = inner (after a x) refl
      where
        no_b : T (after b x) → ⊥
        no_b = of_not (after b x) e

        no_c : T (after c x) → ⊥
        no_c u = no_b (g x (Memᴰ-head refl) u)

        out_bc : between b c x ≡ false
        out_bc = not_of (between b c x) (λ u. no_b (between_after b c x u))

        inner : (d : Bool) → after a x ≡ d → Goal
        inner true q =
            let t = T_of (after a x) q in
            keep_yes (between a c) x l (of_T (between a c x) (between_i a c x t no_c)) ∙ ap (λ (r : List (List ℕ)). x ∷ r) ih
            ∙ sym (ap₂ (λ (r k : List (List ℕ)). r ++ k) (keep_yes (between a b) x l (of_T (between a b x) (between_i a b x t no_b))) (keep_no (between b c) x l out_bc))
        inner false q =
            let t = of_not (after a x) q in
            keep_no (between a c) x l (not_of (between a c x) (λ u. t (between_after a c x u))) ∙ ih
            ∙ sym (ap₂ (λ (r k : List (List ℕ)). r ++ k) (keep_no (between a b) x l (not_of (between a b x) (λ u. t (between_after a b x u)))) (keep_no (between b c) x l out_bc))

-- values behind the last of t do not matter to t
pub after_short : (k : ℕ) (path t : List ℕ) → length t ≤ k → after (take k path) t ≡ after path t
unfolding after
after_short zero [] t h = refl
after_short zero (u ∷ path) [] h = refl
after_short zero (u ∷ path) (v ∷ t) h = absurd (let z : suc (length t) ≤ 0 = h in omega arith)
after_short (suc k) [] t h = refl
after_short (suc k) (u ∷ path) [] h = refl
after_short (suc k) (u ∷ path) (v ∷ t) h = go (eqb u v) (after_short k path t (let z : suc (length t) ≤ suc k = h in omega arith))
  where
    go : (b : Bool) → after (take k path) t ≡ after path t → ◌≡◌ {A = Bool} (elim b [ true ↦ after (take k path) t | false ↦ ltb u v ]) (elim b [ true ↦ after path t | false ↦ ltb u v ])
    go true e = e
    go false e = refl

-- elements kept twice
pub keep_keep : {A : Type 0} (q r : A → Bool) (l : List A) → keep q (keep r l) ≡ keep (λ x. both (r x) (q x)) l
unfolding keep
keep_keep q r [] = refl
keep_keep {A} q r (x ∷ l) = go (r x) refl (q x) refl (keep_keep q r l)
  where
    go : (b : Bool) → r x ≡ b → (c : Bool) → q x ≡ c → keep q (keep r l) ≡ keep (λ y. both (r y) (q y)) l → keep q (keep r (x ∷ l)) ≡ keep (λ y. both (r y) (q y)) (x ∷ l)
    go true e true f ih = ap (keep q) (keep_yes r x l e) ∙ keep_yes q x (keep r l) f ∙ ap (λ (m : List A). x ∷ m) ih ∙ sym (keep_yes (λ y. both (r y) (q y)) x l (ap₂ both e f))
    go true e false f ih = ap (keep q) (keep_yes r x l e) ∙ keep_no q x (keep r l) f ∙ ih ∙ sym (keep_no (λ y. both (r y) (q y)) x l (ap₂ both e f))
    go false e c f ih = ap (keep q) (keep_no r x l e) ∙ ih ∙ sym (keep_no (λ y. both (r y) (q y)) x l (ap (λ (b : Bool). both b (q x)) e))

-- the same behind both
cancel : (xs ys zs : List (List ℕ)) → xs ++ zs ≡ ys ++ zs → xs ≡ ys
cancel xs ys zs h =
    let n = sym (length-append xs zs) ∙ ap length h ∙ length-append ys zs in
    let m : length xs ≡ length ys = omega arith in
    sym (take-append_seam xs zs) ∙ ap₂ (λ (k : ℕ) (l : List (List ℕ)). take k l) m h ∙ take-append_seam ys zs

module _ (p : Problem) where
  -- what comes after b comes after a, as far as p has nodes
  abbrev pub Before : List ℕ → List ℕ → Type 0
  Before a b = (t : List ℕ) → Memᴰ t (nodes p) → T (after b t) → T (after a t)

  pub before_of : (a b : List ℕ) → (T (after b a) → ⊥) → Before a b
  before_of a b h t m u = after_later a b t h u

  pub join_nodes : (a b c : List ℕ) → Before a b → Before b c → nodes_between p a c ≡ nodes_between p a b ++ nodes_between p b c
  unfolding nodes_between
  join_nodes a b c f g = join_between a b c (nodes p) (nodes_ascend p) f g

  pub none_between : (a : List ℕ) → nodes_between p a a ≡ []
  unfolding nodes_between
  none_between a = keep_none (between a a) (nodes p) (λ t m u. between_not a a t u (between_after a a t u))

  -- no node is after the path 255
  pub rest_between : (from : List ℕ) → nodes_between p from (255 ∷ []) ≡ nodes_after p from
  unfolding nodes_between nodes_after at
  rest_between from = keep_ext (between from (255 ∷ [])) (after from) (nodes p) (λ t m. ap (both (after from t)) (ap not (low t (node_values p t m).0)) ∙ both_true (after from t))
    where
      low : (t : List ℕ) → ((i : ℕ) → i < length t → at t i < 16) → after (255 ∷ []) t ≡ false
      low [] h = nil_after (255 ∷ [])
      low (v ∷ t) h = let l = h 0 (omega arith) in after_ne 255 v [] t (λ e. omega arith) ∙ le-ltb 255 v (omega arith)

  pub whole_between : nodes_between p [] (255 ∷ []) ≡ nodes p
  whole_between = rest_between [] ∙ nodes_start p

  -- ---- the first k of a part are the part up to the last of them

  -- where a part stands that has made k of its nodes
  pub record Stop (a b : List ℕ) (k : ℕ) (l : List ℕ) : Type 0 where
    pub onward : Before a l
    pub inside : Before l b
    pub done : nodes_between p a l ≡ take k (nodes_between p a b)
    pub left : nodes_between p l b ≡ drop k (nodes_between p a b)

  pub stop : (a b : List ℕ) (k : ℕ) → Before a b → p.variables ≤ 12 → Stop a b k (last_of (take 12 a) (take k (nodes_between p a b)))
  unfolding nodes_between
  stop a b k f small = record { onward = on; inside = in_b; done = cancel (nodes_between p a l) (take k ts) (drop k ts) joined; left = rest }
    where
      ts : List (List ℕ)
      ts = keep (between a b) (nodes p)

      d : List ℕ
      d = take 12 a

      l : List ℕ
      l = last_of d (take k ts)

      made : Memᴰ l (take k ts) → Memᴰ l (nodes p) × T (between a b l)
      made m = keep_e (between a b) (nodes p) l (taken p k ts l m)

      to_d : (t : List ℕ) → Memᴰ t (nodes p) → after d t ≡ after a t
      to_d t m = after_short 12 a t (let n = (node_values p t m).1 in omega arith)

      on : Before a l
      on t m u = go (last_in p d (take k ts))
        where
          go : (l ≡ d) ⊎ Memᴰ l (take k ts) → T (after a t)
          go (inl e) = subst T (to_d t m) (subst (λ (z : List ℕ). T (after z t)) e u)
          go (inr i) = after_trans a l t (between_after a b l (made i).1) u

      in_b : Before l b
      in_b t m u = go (last_in p d (take k ts))
        where
          go : (l ≡ d) ⊎ Memᴰ l (take k ts) → T (after l t)
          go (inl e) = subst (λ (z : List ℕ). T (after z t)) (sym e) (subst T (sym (to_d t m)) (f t m u))
          go (inr i) = after_later l b t (between_not a b l (made i).1) u

      ahead : (t : List ℕ) → Memᴰ t ts → T (after d t)
      ahead t m = let q = keep_e (between a b) (nodes p) t m in subst T (sym (to_d t q.0)) (between_after a b t q.1)

      narrow : (t : List ℕ) → Memᴰ t (nodes p) → between l b t ≡ both (between a b t) (after l t)
      narrow t m = TExt (between l b t) (both (between a b t) (after l t))
          (λ u. both_i (between a b t) (after l t) (between_i a b t (on t m (between_after l b t u)) (between_not l b t u)) (between_after l b t u))
          (λ u. between_i l b t (both_r (between a b t) (after l t) u) (between_not a b t (both_l (between a b t) (after l t) u)))

      rest : keep (between l b) (nodes p) ≡ drop k ts
      rest = keep_ext (between l b) (λ t. both (between a b t) (after l t)) (nodes p) narrow ∙ sym (keep_keep (after l) (between a b) (nodes p))
          ∙ after_lasts p d ts k (ahead, sorted_keep Later (between a b) (nodes p) (nodes_ascend p))

      joined : nodes_between p a l ++ drop k ts ≡ take k ts ++ drop k ts
      joined = ap (λ (z : List (List ℕ)). nodes_between p a l ++ z) (sym rest) ∙ sym (join_nodes a l b on in_b) ∙ sym (take-append-drop k ts)
