-- The forbidden sets among given pairs: what lies in them, and when three pairs hold one. Assumes nothing.
use Rattle.model.specs.Kit.{◌≡◌, refl, sym, ap, ◌∙◌, subst, Bool, true, false, not, List, [], ◌∷◌, map, Memᴰ, Memᴰ-head, Memᴰ-tail, Memᴰ-not_nil, Memᴰ-cast, Memᴰ-map, Memᴰ-of_map}
use Rattle.model.specs.Kit.{◌⊎◌, inl, inr, ⊎_elim, ℕ, suc, ◌*◌, ◌/◌, ◌%◌, ◌≤◌, ◌<◌, arith, T, T_not, not_T, eqb, ltb, length, get_or, eqb-true, eq-eqb, ltb-true, ltb-false}
use Rattle.model.specs.Problem.{Problem, Constraint, pair, pairs_at, within, assignments, excluded, forbidden, constraint_at}
use Rattle.model.specs.{Lists.any, Lists.keep, Lists.at, Lists.same, ValueSets.has, ValueSets.members}
use mathlib.Core.List.Memᴰ
use Rattle.model.specs.Inner.WellFormed.{Stated}
use Rattle.model.proofs.Lists.{T_of, TExt, of_not, both_i, both_l, both_r, any_e, any_i, keep_e, keep_i, flat_i, flat_e}
use Rattle.model.proofs.{Sets.members_i, Sets.members_e, Pairs.within_i, Pairs.within_e, Pairs.doubled_e, Pairs.doubled_i, Pairs.forbidden_e, Pairs.forbidden_doubled, Pairs.init_lt, Pairs.pair_lt}
use Rattle.sheet_table.specs.Inner.Forbidden.{blocked, number_of, PairCode, MaybePair}
use Rattle.sheet_table.specs.Inner.Forbidden.{Begun, clashes}
use Rattle.sheet_table.proofs.Codes.{good, init_16}

-- ---- lists
pub mem_index : {A : Type 0} (l : List A) (d y : A) → Memᴰ y l → (i : ℕ) × (i < length l) × (get_or l i d ≡ y)
mem_index [] d y m = absurd (Memᴰ-not_nil m)
mem_index (x ∷ l) d y (Memᴰ-head e) = (0, omega arith, sym e)
mem_index (x ∷ l) d y (Memᴰ-tail m) = let r = mem_index l d y m in (suc r.0, omega (arith, r.1), r.2)

pub three : (a b e q : ℕ) → Memᴰ q (a ∷ b ∷ e ∷ []) → (q ≡ a) ⊎ ((q ≡ b) ⊎ (q ≡ e))
three a b e q (Memᴰ-head h) = inl h
three a b e q (Memᴰ-tail (Memᴰ-head h)) = inr (inl h)
three a b e q (Memᴰ-tail (Memᴰ-tail (Memᴰ-head h))) = inr (inr h)
three a b e q (Memᴰ-tail (Memᴰ-tail (Memᴰ-tail m))) = absurd (Memᴰ-not_nil m)

-- ---- the choices for a scope
module _ (p : Problem) where
  pub choices_e : (xs a : List ℕ) → Memᴰ a (assignments (map (at p.initial) xs)) → (length a ≡ length xs) × Begun p xs a
  unfolding assignments
  choices_e [] a m = subst (λ (b : List ℕ). (length b ≡ 0) × Begun p [] b) (sym (Memᴰ.eq_of_singleton m)) (refl, tt)
  choices_e (x ∷ xs) a m =
      let rest = assignments (map (at p.initial) xs) in
      let F : ℕ → List (List ℕ) = λ v. map (λ (b : List ℕ). v ∷ b) rest in
      let q = flat_e (map F (members (at p.initial x))) a m in
      let r = Memᴰ-of_map F (members (at p.initial x)) q.1 in
      let k = Memᴰ-of_map (λ (b : List ℕ). r.0 ∷ b) rest (subst (λ z. Memᴰ a z) (sym r.2) q.2) in
      let ih = choices_e xs k.0 k.1 in
      subst (λ (b : List ℕ). (length b ≡ suc (length xs)) × Begun p (x ∷ xs) b) k.2 (ap suc ih.0, ((members_e (at p.initial x) r.0 r.1).1, ih.1))

  pub choices_i : (xs a : List ℕ) → ((x v : ℕ) → Memᴰ x xs → T (has (at p.initial x) v) → v < 16) → length a ≡ length xs → Begun p xs a → Memᴰ a (assignments (map (at p.initial) xs))
  unfolding assignments
  choices_i [] [] s e b = Memᴰ-head refl
  choices_i [] (v ∷ a) s e b = absurd b
  choices_i (x ∷ xs) [] s e b = absurd (omega arith)
  choices_i (x ∷ xs) (v ∷ a) s e b =
      let rest = assignments (map (at p.initial) xs) in
      let F : ℕ → List (List ℕ) = λ v. map (λ (b : List ℕ). v ∷ b) rest in
      flat_i (map F (members (at p.initial x))) (F v) (v ∷ a) (Memᴰ-map F (members_i (at p.initial x) v (s x v (Memᴰ-head refl) b.0) b.0))
      (Memᴰ-map (λ (b : List ℕ). v ∷ b) (choices_i xs a (λ y u m. s y u (Memᴰ-tail m)) (omega arith) b.1))

  -- ---- the forbidden sets of a constraint
  pub excluded_e : (c : Constraint) (h : List ℕ) → Memᴰ h (excluded p c) →
      (vs : List ℕ) × (length vs ≡ length c.scope) × Begun p c.scope vs × (T (any (same vs) c.rows) → ⊥) × (pairs_at p c.scope vs ≡ h)
  unfolding excluded
  excluded_e c h m =
      let S = assignments (map (at p.initial) c.scope) in
      let r = Memᴰ-of_map (pairs_at p c.scope) (keep (λ vs. not (any (same vs) c.rows)) S) m in
      let k = keep_e (λ vs. not (any (same vs) c.rows)) S r.0 r.1 in
      let d = choices_e c.scope r.0 k.0 in
      (r.0, d.0, d.1, T_not (any (same r.0) c.rows) k.1, r.2)

  pub excluded_i : (c : Constraint) (vs : List ℕ) → ((x v : ℕ) → Memᴰ x c.scope → T (has (at p.initial x) v) → v < 16) →
      length vs ≡ length c.scope → Begun p c.scope vs → (T (any (same vs) c.rows) → ⊥) → Memᴰ (pairs_at p c.scope vs) (excluded p c)
  unfolding excluded
  excluded_i c vs s e b n =
      let S = assignments (map (at p.initial) c.scope) in
      Memᴰ-map (pairs_at p c.scope) (keep_i (λ vs. not (any (same vs) c.rows)) S vs (choices_i c.scope vs s e b) (not_T (any (same vs) c.rows) n))

  -- ---- blocked pairs
  pub blocked_i : (image h : List ℕ) → Memᴰ h (forbidden p) → ((q : ℕ) → Memᴰ q h → Memᴰ q image) → T (blocked p image)
  unfolding blocked
  blocked_i image h m i = any_i (λ h. within h image) (forbidden p) h m (within_i h image i)

  pub blocked_e : (image : List ℕ) → T (blocked p image) → (h : List ℕ) × Memᴰ h (forbidden p) × ((q : ℕ) → Memᴰ q h → Memᴰ q image)
  unfolding blocked
  blocked_e image t = let r = any_e (λ h. within h image) (forbidden p) t in (r.0, r.1, within_e r.0 image r.2)

  -- more pairs
  pub blocked_more : (l m : List ℕ) → ((q : ℕ) → Memᴰ q l → Memᴰ q m) → T (blocked p l) → T (blocked p m)
  blocked_more l m f t = let r = blocked_e l t in blocked_i m r.0 r.1 (λ q k. f q (r.2 q k))

  module _ (w : Stated p) where
    small : (k : ℕ) → k < length p.constraints → (x v : ℕ) → Memᴰ x (constraint_at p k).scope → T (has (at p.initial x) v) → v < 16
    small k h x v m t = init_16 p w x v ((good p w k h).inside x m) t

    -- a forbidden set's elements are pairs
    at_pairs : (xs vs : List ℕ) → ((x : ℕ) → Memᴰ x xs → x < p.variables) → Begun p xs vs → (q : ℕ) → Memᴰ q (pairs_at p xs vs) → q < p.variables * p.values
    unfolding pairs_at
    at_pairs [] vs i b q m = absurd (Memᴰ-not_nil m)
    at_pairs (x ∷ xs) [] i b q m = absurd (Memᴰ-not_nil m)
    at_pairs (x ∷ xs) (v ∷ vs) i b q (Memᴰ-head e) =
        let l = i x (Memᴰ-head refl) in
        subst (λ (z : ℕ). z < p.variables * p.values) (sym e) (pair_lt p x v l (init_lt p w.narrow x v l b.0))
    at_pairs (x ∷ xs) (v ∷ vs) i b q (Memᴰ-tail m) = at_pairs xs vs (λ y k. i y (Memᴰ-tail k)) b.1 q m

    pub forbidden_lt : (h : List ℕ) → Memᴰ h (forbidden p) → (q : ℕ) → Memᴰ q h → q < p.variables * p.values
    forbidden_lt h m q k =
        ⊎_elim {C = q < p.variables * p.values}
        (λ d. let r = doubled_e p d.0 h d.2 in
        let z : Memᴰ q (pair p d.0 r.0 ∷ pair p d.0 r.1 ∷ pair p d.0 r.1 ∷ []) = twice (pair p d.0 r.0) (pair p d.0 r.1) q (subst (Memᴰ q) r.5 k) in
        ⊎_elim {C = q < p.variables * p.values} (λ e. under d.0 r.0 d.1 r.2 e)
        (⊎_elim {C = q < p.variables * p.values} (λ e. under d.0 r.1 d.1 r.3 e) (λ e. under d.0 r.1 d.1 r.3 e)) (three _ _ _ q z))
        (λ d. let r = excluded_e d.0 h d.2 in at_pairs d.0.scope r.0 (w.constrained d.0 d.1).inside r.2 q (subst (Memᴰ q) (sym r.4) k))
        (forbidden_e p h m)
      where
        under : (x v : ℕ) → x < p.variables → T (has (at p.initial x) v) → q ≡ pair p x v → q < p.variables * p.values
        under x v l t e = subst (λ (z : ℕ). z < p.variables * p.values) (sym e) (pair_lt p x v l (init_lt p w.narrow x v l t))

        twice : (a b q : ℕ) → Memᴰ q (a ∷ b ∷ []) → Memᴰ q (a ∷ b ∷ b ∷ [])
        twice a b q (Memᴰ-head e) = Memᴰ-head e
        twice a b q (Memᴰ-tail n) = Memᴰ-tail (Memᴰ-tail n)

    -- only the pairs of a list count, and only which they are
    pub blocked_ext : (l m : List ℕ) → ((q : ℕ) → q < p.variables * p.values → Memᴰ q l → Memᴰ q m) → ((q : ℕ) → q < p.variables * p.values → Memᴰ q m → Memᴰ q l)
        → blocked p l ≡ blocked p m
    blocked_ext l m f g =
        TExt (blocked p l) (blocked p m)
        (λ t. let r = blocked_e l t in blocked_i m r.0 r.1 (λ q k. f q (forbidden_lt r.0 r.1 q k) (r.2 q k)))
        (λ t. let r = blocked_e m t in blocked_i l r.0 r.1 (λ q k. g q (forbidden_lt r.0 r.1 q k) (r.2 q k)))

    -- ---- two pairs of one variable
    clash_e : (a b : ℕ) → T (clashes a b) → (a / 16 ≡ b / 16) × (a ≡ b → ⊥)
    clash_e a b t = (
      lib.Dec.eqb→eq (a / 16) (b / 16) (both_l (eqb (a / 16) (b / 16)) (not (eqb a b)) t),
      λ e. T_not (eqb a b) (both_r (eqb (a / 16) (b / 16)) (not (eqb a b)) t) (T_of (eqb a b) (eq-eqb a b e)),
    )

    pub clash_no : (a b : ℕ) → clashes a b ≡ false → a / 16 ≡ b / 16 → a ≡ b
    clash_no a b e h = go (eqb a b) refl
      where
        go : (t : Bool) → eqb a b ≡ t → a ≡ b
        go true q = eqb-true a b q
        go false q = absurd (of_not (clashes a b) e (both_i (eqb (a / 16) (b / 16)) (not (eqb a b)) (T_of (eqb (a / 16) (b / 16)) (eq-eqb (a / 16) (b / 16) h))
            (subst (λ (t : Bool). T (not t)) (sym q) tt)))

    -- the first of two that clash is a pair
    real : (a b : ℕ) → MaybePair p a → MaybePair p b → a / 16 ≡ b / 16 → (a ≡ b → ⊥) → PairCode p a
    real a b (inl e) (inl f) h n = absurd (n (e ∙ sym f))
    real a b (inl e) (inr c) h n = absurd (omega (arith, c.0, w.few))
    real a b (inr c) m h n = c

    pub clash_blocked : (a b : ℕ) (image : List ℕ) → MaybePair p a → MaybePair p b → T (clashes a b) → Memᴰ (number_of p a) image → Memᴰ (number_of p b) image → T (blocked p image)
    clash_blocked a b image ma mb t ia ib =
        let e = clash_e a b t in
        let ca = real a b ma mb e.0 e.1 in
        let cb = real b a mb ma (sym e.0) (λ q. e.1 (sym q)) in
        go (ltb (a % 16) (b % 16)) refl e ca cb
      where
        both_in : (x v u : ℕ) → pair p x v ≡ number_of p a → pair p x u ≡ number_of p b → (q : ℕ) → Memᴰ q (pair p x v ∷ pair p x u ∷ []) → Memᴰ q image
        both_in x v u ea eb q (Memᴰ-head e) = Memᴰ-cast (e ∙ ea) ia
        both_in x v u ea eb q (Memᴰ-tail (Memᴰ-head e)) = Memᴰ-cast (e ∙ eb) ib
        both_in x v u ea eb q (Memᴰ-tail (Memᴰ-tail m)) = absurd (Memᴰ-not_nil m)

        go : (l : Bool) → ltb (a % 16) (b % 16) ≡ l → (a / 16 ≡ b / 16) × (a ≡ b → ⊥) → PairCode p a → PairCode p b → T (blocked p image)
        go true l e ca cb =
            let same-variable : pair p (a / 16) (b % 16) ≡ number_of p b = ap (λ (x : ℕ). pair p x (b % 16)) e.0 in
            blocked_i image (pair p (a / 16) (a % 16) ∷ pair p (a / 16) (b % 16) ∷ [])
            (forbidden_doubled p (a / 16) _ ca.0 (doubled_i p (a / 16) (a % 16) (b % 16) (ltb-true (a % 16) (b % 16) l) (omega arith) ca.1
            (subst (λ (x : ℕ). T (has (at p.initial x) (b % 16))) (sym e.0) cb.1)))
            (both_in (a / 16) (a % 16) (b % 16) refl same-variable)
        go false l e ca cb =
            let f = ltb-false (a % 16) (b % 16) l in
            let x-eq = e.0 in
            let less : b % 16 < a % 16 = lt_of (b % 16) (a % 16) f (λ v. e.1 (omega arith)) in
            let same-variable : pair p (b / 16) (a % 16) ≡ number_of p a = ap (λ (x : ℕ). pair p x (a % 16)) (sym e.0) in
            blocked_i image (pair p (b / 16) (b % 16) ∷ pair p (b / 16) (a % 16) ∷ [])
            (forbidden_doubled p (b / 16) _ cb.0 (doubled_i p (b / 16) (b % 16) (a % 16) less (omega arith) cb.1 (subst (λ (x : ℕ). T (has (at p.initial x) (a % 16))) e.0 ca.1)))
            (swap (both_in (b / 16) (a % 16) (b % 16) same-variable refl))
          where
            lt_of : (m n : ℕ) → m ≤ n → (m ≡ n → ⊥) → m < n
            lt_of m n h k = omega arith

            swap : {x y : ℕ} → ((q : ℕ) → Memᴰ q (x ∷ y ∷ []) → Memᴰ q image) → (q : ℕ) → Memᴰ q (y ∷ x ∷ []) → Memᴰ q image
            swap h q (Memᴰ-head e) = h q (Memᴰ-tail (Memᴰ-head e))
            swap h q (Memᴰ-tail (Memᴰ-head e)) = h q (Memᴰ-head e)
            swap h q (Memᴰ-tail (Memᴰ-tail m)) = absurd (Memᴰ-not_nil m)
