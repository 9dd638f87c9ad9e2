-- When three pairs hold a forbidden set: two of them clash, or a constraint refuses them. Assumes nothing.
use Rattle.model.specs.Kit.{◌≡◌, refl, sym, ap, ap₂, ◌∙◌, subst, Bool, true, false, not, List, [], ◌∷◌, map, Memᴰ, Memᴰ-head, Memᴰ-tail, Memᴰ-not_nil, Memᴰ-cast, ◌⊎◌, inl, inr}
use Rattle.model.specs.Kit.{⊎_elim, ℕ, ◌/◌, ◌%◌, ◌<◌, arith, T, T_not, not_T, eqb, ltb, ltb→lt, lt→ltb, length, eqb-true, eqb-false}
use Rattle.model.specs.{Lists.all, Lists.any, Lists.at, Lists.same, Lists.choose, ValueSets.has, Problem.Problem, Problem.Constraint, Problem.pair, Problem.pairs_at, Problem.constraint_at}
use Rattle.model.specs.{Inner.WellFormed.Stated}
use Rattle.model.proofs.{Lists.both_i, Lists.both_l, Lists.both_r, Lists.all_e, Lists.all_i, Pairs.doubled_e, Pairs.forbidden_e, Pairs.forbidden_excluded, Pairs.init_lt}
use Rattle.arrays.proofs.Links.{is_one}
use Rattle.sheet_table.specs.Inner.Forbidden.{blocked, number_of, MaybePair, Begun}
use Rattle.sheet_table.specs.Inner.Forbidden.{clashes, value_in, refused_by}
use Rattle.sheet_table.proofs.Codes.{good, init_16, code_is}
use Rattle.sheet_carried.proofs.Blocks.{mem_index, three, excluded_e, excluded_i, blocked_i, blocked_e, clash_no}

-- ---- the value that three codes give to a variable
-- one of the codes has the variable x and the value v
abbrev pub Gives : ℕ → ℕ → ℕ → Type 0
Gives a x v = (a / 16 ≡ x) × (a % 16 ≡ v)

abbrev pub OneGives : ℕ → ℕ → ℕ → ℕ → ℕ → Type 0
OneGives a b e x v = Gives a x v ⊎ (Gives b x v ⊎ Gives e x v)

pub found : (a b e x : ℕ) → value_in a b e x < 16 → OneGives a b e x (value_in a b e x)
found a b e x h = go (eqb (a / 16) x) refl (eqb (b / 16) x) refl (eqb (e / 16) x) refl h
  where
    go : (i : Bool) → eqb (a / 16) x ≡ i → (j : Bool) → eqb (b / 16) x ≡ j → (k : Bool) → eqb (e / 16) x ≡ k →
        choose i (a % 16) (choose j (b % 16) (choose k (e % 16) 16)) < 16 → OneGives a b e x (choose i (a % 16) (choose j (b % 16) (choose k (e % 16) 16)))
    go true p j q k r l = inl (eqb-true (a / 16) x p, refl)
    go false p true q k r l = inr (inl (eqb-true (b / 16) x q, refl))
    go false p false q true r l = inr (inr (eqb-true (e / 16) x r, refl))
    go false p false q false r l = absurd (omega arith)

-- where no two clash, it is the value of whichever has the variable
pub found_is : (a b e x v : ℕ) → (a / 16 ≡ b / 16 → a ≡ b) → (a / 16 ≡ e / 16 → a ≡ e) → (b / 16 ≡ e / 16 → b ≡ e) → OneGives a b e x v → value_in a b e x ≡ v
found_is a b e x v ab ae be g = go (eqb (a / 16) x) refl (eqb (b / 16) x) refl (eqb (e / 16) x) refl g
  where
    go : (i : Bool) → eqb (a / 16) x ≡ i → (j : Bool) → eqb (b / 16) x ≡ j → (k : Bool) → eqb (e / 16) x ≡ k → OneGives a b e x v →
        choose i (a % 16) (choose j (b % 16) (choose k (e % 16) 16)) ≡ v
    go true p j q k r (inl g) = g.1
    go true p j q k r (inr (inl g)) = ap (λ (z : ℕ). z % 16) (ab (eqb-true (a / 16) x p ∙ sym g.0)) ∙ g.1
    go true p j q k r (inr (inr g)) = ap (λ (z : ℕ). z % 16) (ae (eqb-true (a / 16) x p ∙ sym g.0)) ∙ g.1
    go false p j q k r (inl g) = absurd (eqb-false (a / 16) x p g.0)
    go false p true q k r (inr (inl g)) = g.1
    go false p true q k r (inr (inr g)) = ap (λ (z : ℕ). z % 16) (be (eqb-true (b / 16) x q ∙ sym g.0)) ∙ g.1
    go false p false q k r (inr (inl g)) = absurd (eqb-false (b / 16) x q g.0)
    go false p false q true r (inr (inr g)) = g.1
    go false p false q false r (inr (inr g)) = absurd (eqb-false (e / 16) x r g.0)

module _ (p : Problem) (w : Stated p) (a b e : ℕ) (ma : MaybePair p a) (mb : MaybePair p b) (me : MaybePair p e) where
  -- a code that gives x a value numbers a pair
  value_has : (y x v : ℕ) → MaybePair p y → x < p.variables → Gives y x v → T (has (at p.initial x) v)
  value_has y x v (inl n) h g = absurd (omega (arith, g.0, w.few))
  value_has y x v (inr c) h g = subst T (ap₂ (λ (z u : ℕ). has (at p.initial z) u) g.0 g.1) c.1

  found_has : (x v : ℕ) → x < p.variables → OneGives a b e x v → T (has (at p.initial x) v)
  found_has x v h (inl g) = value_has a x v ma h g
  found_has x v h (inr (inl g)) = value_has b x v mb h g
  found_has x v h (inr (inr g)) = value_has e x v me h g

  found_in : (x v : ℕ) → OneGives a b e x v → Memᴰ (pair p x v) (number_of p a ∷ number_of p b ∷ number_of p e ∷ [])
  found_in x v (inl g) = Memᴰ-head (sym (ap₂ (pair p) g.0 g.1))
  found_in x v (inr (inl g)) = Memᴰ-tail (Memᴰ-head (sym (ap₂ (pair p) g.0 g.1)))
  found_in x v (inr (inr g)) = Memᴰ-tail (Memᴰ-tail (Memᴰ-head (sym (ap₂ (pair p) g.0 g.1))))

  in_found : (x v : ℕ) → x < p.variables → v < p.values → Memᴰ (pair p x v) (number_of p a ∷ number_of p b ∷ number_of p e ∷ []) → OneGives a b e x v
  in_found x v h l m =
      ⊎_elim {C = OneGives a b e x v} (λ q. inl (code_is p w a x v ma h l q))
      (⊎_elim {C = OneGives a b e x v} (λ q. inr (inl (code_is p w b x v mb h l q))) (λ q. inr (inr (code_is p w e x v me h l q))))
      (three (number_of p a) (number_of p b) (number_of p e) (pair p x v) m)

  -- ---- from a constraint that refuses
  values_begun : (xs : List ℕ) → ((x : ℕ) → Memᴰ x xs → x < p.variables) → ((x : ℕ) → Memᴰ x xs → value_in a b e x < 16) → Begun p xs (map (value_in a b e) xs)
  values_begun [] i f = tt
  values_begun (x ∷ xs) i f =
      (found_has x (value_in a b e x) (i x (Memᴰ-head refl)) (found a b e x (f x (Memᴰ-head refl))), values_begun xs (λ y m. i y (Memᴰ-tail m)) (λ y m. f y (Memᴰ-tail m)))

  values_in : (xs : List ℕ) → ((x : ℕ) → Memᴰ x xs → value_in a b e x < 16) → (q : ℕ) → Memᴰ q (pairs_at p xs (map (value_in a b e) xs)) → Memᴰ q
      (number_of p a ∷ number_of p b ∷ number_of p e ∷ [])
  unfolding pairs_at
  values_in [] f q m = absurd (Memᴰ-not_nil m)
  values_in (x ∷ xs) f q (Memᴰ-head h) = Memᴰ-cast h (found_in x (value_in a b e x) (found a b e x (f x (Memᴰ-head refl))))
  values_in (x ∷ xs) f q (Memᴰ-tail m) = values_in xs (λ y m. f y (Memᴰ-tail m)) q m

  pub refused_all : (c : Constraint) → T (refused_by c a b e) → (x : ℕ) → Memᴰ x c.scope → value_in a b e x < 16
  unfolding refused_by
  refused_all c t x m =
      ltb→lt (value_in a b e x) 16
      (all_e (λ x. ltb (value_in a b e x) 16) c.scope (both_l (all (λ x. ltb (value_in a b e x) 16) c.scope) (not (any (same (map (value_in a b e) c.scope)) c.rows)) t) x m)

  refused_row : (c : Constraint) → T (refused_by c a b e) → T (any (same (map (value_in a b e) c.scope)) c.rows) → ⊥
  unfolding refused_by
  refused_row c t = T_not (any (same (map (value_in a b e) c.scope)) c.rows) (both_r (all (λ x. ltb (value_in a b e x) 16) c.scope)
      (not (any (same (map (value_in a b e) c.scope)) c.rows)) t)

  pub refused_blocked : (k : ℕ) → k < length p.constraints → T (refused_by (constraint_at p k) a b e) → T (blocked p (number_of p a ∷ number_of p b ∷ number_of p e ∷ []))
  refused_blocked k h t =
      let c = constraint_at p k in
      let f = refused_all c t in
      let i = (good p w k h).inside in
      blocked_i p _ (pairs_at p c.scope (map (value_in a b e) c.scope))
      (forbidden_excluded p c _ (is_one p k h)
      (excluded_i p c (map (value_in a b e) c.scope) (λ x v m s. init_16 p w x v (i x m) s) (lib.ListN.length-map c.scope (value_in a b e)) (values_begun c.scope i f) (refused_row c t)))
      (values_in c.scope f)

  -- ---- to a constraint that refuses, where no two clash
  module _ (ab : clashes a b ≡ false) (ae : clashes a e ≡ false) (be : clashes b e ≡ false) where
    only : (x v : ℕ) → x < p.variables → v < p.values → Memᴰ (pair p x v) (number_of p a ∷ number_of p b ∷ number_of p e ∷ []) → value_in a b e x ≡ v
    only x v h l m = found_is a b e x v (clash_no p w a b ab) (clash_no p w a e ae) (clash_no p w b e be) (in_found x v h l m)

    values_are : (xs vs : List ℕ) → ((x : ℕ) → Memᴰ x xs → x < p.variables) → length vs ≡ length xs → Begun p xs vs →
        ((q : ℕ) → Memᴰ q (pairs_at p xs vs) → Memᴰ q (number_of p a ∷ number_of p b ∷ number_of p e ∷ [])) → map (value_in a b e) xs ≡ vs
    unfolding pairs_at
    values_are [] [] i l d m = refl
    values_are [] (v ∷ vs) i l d m = absurd d
    values_are (x ∷ xs) [] i l d m = absurd (omega arith)
    values_are (x ∷ xs) (v ∷ vs) i l d m =
        let h = i x (Memᴰ-head refl) in
        ap₂ (λ (y : ℕ) (r : List ℕ). y ∷ r) (only x v h (init_lt p w.narrow x v h d.0) (m (pair p x v) (Memᴰ-head refl)))
        (values_are xs vs (λ y k. i y (Memᴰ-tail k)) (omega arith) d.1 (λ q k. m q (Memᴰ-tail k)))

    all_small : (xs : List ℕ) → ((x : ℕ) → Memᴰ x xs → x < p.variables) → Begun p xs (map (value_in a b e) xs) → (x : ℕ) → Memᴰ x xs → T (ltb (value_in a b e x) 16)
    all_small [] i d x m = absurd (Memᴰ-not_nil m)
    all_small (y ∷ xs) i d x (Memᴰ-head h) = subst (λ (z : ℕ). T (ltb (value_in a b e z) 16)) (sym h)
        (lt→ltb (value_in a b e y) 16 (init_16 p w y (value_in a b e y) (i y (Memᴰ-head refl)) d.0))
    all_small (y ∷ xs) i d x (Memᴰ-tail m) = all_small xs (λ z k. i z (Memᴰ-tail k)) d.1 x m

    refuses : (c : Constraint) (vs : List ℕ) → ((x : ℕ) → Memᴰ x c.scope → x < p.variables) → Begun p c.scope vs → (T (any (same vs) c.rows) → ⊥) → map (value_in a b e)
        c.scope ≡ vs → T (refused_by c a b e)
    unfolding refused_by
    refuses c vs i d n q =
        both_i (all (λ x. ltb (value_in a b e x) 16) c.scope) (not (any (same (map (value_in a b e) c.scope)) c.rows))
        (all_i (λ x. ltb (value_in a b e x) 16) c.scope (all_small c.scope i (subst (Begun p c.scope) (sym q) d)))
        (not_T (any (same (map (value_in a b e) c.scope)) c.rows) (subst (λ (l : List ℕ). T (any (same l) c.rows) → ⊥) (sym q) n))

    no_doubled : (x v u : ℕ) → x < p.variables → T (has (at p.initial x) v) → T (has (at p.initial x) u) → v < u →
        Memᴰ (pair p x v) (number_of p a ∷ number_of p b ∷ number_of p e ∷ []) → Memᴰ (pair p x u) (number_of p a ∷ number_of p b ∷ number_of p e ∷ []) → ⊥
    no_doubled x v u h s t l m n =
        let f : value_in a b e x ≡ v = only x v h (init_lt p w.narrow x v h s) m in
        let g : value_in a b e x ≡ u = only x u h (init_lt p w.narrow x u h t) n in
        omega (arith, sym f ∙ g)

    pub blocked_refused : T (blocked p (number_of p a ∷ number_of p b ∷ number_of p e ∷ [])) → (k : ℕ) × (k < length p.constraints) × T (refused_by (constraint_at p k) a b e)
    blocked_refused t =
        let r = blocked_e p _ t in
        let i = r.2 in
        ⊎_elim {C = (k : ℕ) × (k < length p.constraints) × T (refused_by (constraint_at p k) a b e)}
        (λ d. let q = doubled_e p d.0 r.0 d.2 in
        absurd (no_doubled d.0 q.0 q.1 d.1 q.2 q.3 q.4 (i _ (subst (Memᴰ (pair p d.0 q.0)) (sym q.5) (Memᴰ-head refl)))
        (i _ (subst (Memᴰ (pair p d.0 q.1)) (sym q.5) (Memᴰ-tail (Memᴰ-head refl))))))
        (λ d. let q = excluded_e p d.0 r.0 d.2 in
        let s = mem_index p.constraints (record { scope = []; rows = [] }) d.0 d.1 in
        let j = (w.constrained d.0 d.1).inside in (
          s.0,
          s.1,
          subst (λ (c : Constraint). T (refused_by c a b e)) (sym s.2)
              (refuses d.0 q.0 j q.2 q.3 (values_are d.0.scope q.0 j q.1 q.2 (λ z m. i z (subst (Memᴰ z) q.4 m)))),
        ))
        (forbidden_e p r.0 r.1)
