-- Whether a constraint refuses three pairs: their values for its scope, one after another, and the test of the row. Assumes nothing.
use Rattle.model.specs.Kit.{◌≡◌, refl, sym, ap, ap₂, ◌∙◌, subst, Bool, true, false, not, List, [], ◌∷◌, ◌++◌, map, Memᴰ, ℕ, zero, suc, ◌+◌, ◌*◌, ◌/◌, ◌%◌, ◌≤◌, ◌<◌, not-suc-le-zero, add-one}
use Rattle.model.specs.Kit.{arith, T, eqb, ltb, ltb→lt, lt→ltb, length, take, length-map, length-take-le, get_or-take}
use Rattle.model.specs.{Lists.all, Lists.any, Lists.at, Lists.same, Lists.both, ValueSets.has, Problem.Problem, Problem.Constraint, Problem.constraint_at, Inner.WellFormed.GoodConstraint}
use lib.Seq.{take-suc, take-length}
use Rattle.model.proofs.Lists.{of_T, not_of, both_l, all_i, all_e, at_mem, mem_at, at_map, map_append}
use Rattle.arrays.specs.Inner.Places.{SUPPORTS}
use Rattle.sheet_table.specs.{Inner.Table.Ready, Inner.Forbidden.packed, Inner.Forbidden.value_in, Inner.Forbidden.refused_by, Inner.Forbidden.LookedUp}
use Rattle.sheet_table.proofs.Codes.{good}
use Rattle.sheet_carried.proofs.Keys.{Digits, packed_snoc, packed_none, packed_lt, row_test}

-- one variable more
snoc : (f : ℕ → ℕ) (l : List ℕ) (i : ℕ) → i < length l → map f (take (suc i) l) ≡ map f (take i l) ++ (f (at l i) ∷ [])
unfolding at
snoc f l i h = ap (map f) (take-suc l i 0 h) ∙ map_append f (take i l) _

module _ (c : Constraint) (a b e : ℕ) where
  pub looked_none : LookedUp c a b e 0 0
  looked_none = record { within = omega arith; keyed = sym packed_none; small = λ j h. absurd (not-suc-le-zero h) }

  module _ (i key : ℕ) (l : LookedUp c a b e i key) where
    digits : Digits (map (value_in a b e) (take i c.scope))
    unfolding at
    digits j h =
        let n : length (map (value_in a b e) (take i c.scope)) ≡ i = length-map (take i c.scope) (value_in a b e) ∙ length-take-le i c.scope l.within in
        let k : j < i = omega arith in
        subst (λ (v : ℕ). v < 16) (sym (at_map (value_in a b e) (take i c.scope) j (subst (λ (m : ℕ). j < m) (sym (length-take-le i c.scope l.within)) k) ∙ ap (value_in a b e)
        (get_or-take i c.scope j 0 k))) (l.small j k)

    pub looked_lt : i < length c.scope → length c.scope ≤ 3 → key < 256
    looked_lt h f =
        subst (λ (n : ℕ). n < 256) (sym l.keyed)
        (packed_lt (map (value_in a b e) (take i c.scope)) (omega (arith, length-map (take i c.scope) (value_in a b e), length-take-le i c.scope l.within)) digits)

    pub looked_more : (x v : ℕ) → i < length c.scope → x ≡ at c.scope i → v ≡ value_in a b e x → v < 16 → LookedUp c a b e (i + 1) (16 * key + v)
    looked_more x v h y q s =
        let z : v ≡ value_in a b e (at c.scope i) = q ∙ ap (value_in a b e) y in
        record {
          within = omega arith;
          keyed = ap₂ (λ (n u : ℕ). 16 * n + u) l.keyed z ∙ sym (packed_snoc (map (value_in a b e) (take i c.scope)) (value_in a b e (at c.scope i))) ∙ sym
              (ap packed (snoc (value_in a b e) c.scope i h)) ∙ ap (λ (n : ℕ). packed (map (value_in a b e) (take n c.scope))) (sym (add-one i));
          small = λ j k. go j k z (eqb j i) refl;
        }
      where
        go : (j : ℕ) → j < i + 1 → v ≡ value_in a b e (at c.scope i) → (t : Bool) → eqb j i ≡ t → value_in a b e (at c.scope j) < 16
        go j k z true f = subst (λ (n : ℕ). value_in a b e (at c.scope n) < 16) (sym (borrow.Author.Tests.eqb-true j i f)) (subst (λ (n : ℕ). n < 16) z s)
        go j k z false f = let n : j ≡ i → ⊥ = borrow.Author.Tests.eqb-false j i f in l.small j (omega arith)

    -- a variable that none of the pairs has
    pub looked_stop : (x v : ℕ) → i < length c.scope → x ≡ at c.scope i → v ≡ value_in a b e x → 16 ≤ v → false ≡ refused_by c a b e
    unfolding refused_by
    looked_stop x v h y q s =
        sym (not_of (refused_by c a b e)
        (λ t. let k = ltb→lt (value_in a b e (at c.scope i)) 16 (all_e (λ x. ltb (value_in a b e x) 16) c.scope (both_l (all (λ x. ltb (value_in a b e x) 16) c.scope) _ t) (at c.scope i)
        (mem_at c.scope i h)) in
        omega (arith, k, q ∙ ap (value_in a b e) y)))

-- the test of the row
module _ (p : Problem) (numbers supports : List ℕ) (r : Ready p numbers supports) (k : ℕ) (h : k < length p.constraints) (a b e i key : ℕ) (l : LookedUp (constraint_at p k) a b e i key)
    (o : length (constraint_at p k).scope ≤ i) where
  g : GoodConstraint p (constraint_at p k)
  g = good p r.framed.stated k h

  -- all values but the last, and the last
  split : (m : ℕ) → suc m ≡ length (constraint_at p k).scope → map (value_in a b e) (constraint_at p k).scope ≡ map (value_in a b e) (take m (constraint_at p k).scope) ++
      (value_in a b e (at (constraint_at p k).scope m) ∷ [])
  split m n = ap (map (value_in a b e)) (sym (take-length (constraint_at p k).scope) ∙ ap (λ (j : ℕ). take j (constraint_at p k).scope) (sym n)) ∙ snoc (value_in a b e) (constraint_at p k).scope m
      (omega arith)

  before : (m : ℕ) → suc m ≡ length (constraint_at p k).scope → LookedUp (constraint_at p k) a b e m (packed (map (value_in a b e) (take m (constraint_at p k).scope)))
  before m n = record { within = omega arith; keyed = refl; small = λ j q. l.small j (omega arith) }

  key_is : (m : ℕ) → suc m ≡ length (constraint_at p k).scope → key ≡ 16 * packed (map (value_in a b e) (take m (constraint_at p k).scope)) + value_in a b e (at (constraint_at p k).scope m)
  key_is m n =
      let w = l.within in
      let q : i ≡ length (constraint_at p k).scope = omega arith in
      l.keyed ∙ ap (λ (j : ℕ). packed (map (value_in a b e) (take j (constraint_at p k).scope))) q ∙ ap (λ (s : List ℕ). packed (map (value_in a b e) s)) (take-length (constraint_at p k).scope)
      ∙ ap packed (split m n) ∙ packed_snoc _ _

  -- the digits of the key
  key_parts : (m : ℕ) → suc m ≡ length (constraint_at p k).scope → (key / 16 ≡ packed (map (value_in a b e) (take m (constraint_at p k).scope))) ×
      (key % 16 ≡ value_in a b e (at (constraint_at p k).scope m))
  key_parts m n = let s = l.small m (omega arith) in let q = key_is m n in (omega arith, omega arith)

  -- the last place of the scope
  last : (m : ℕ) × (suc m ≡ length (constraint_at p k).scope)
  last = go (length (constraint_at p k).scope) g.some
    where
      go : (n : ℕ) → 1 ≤ n → (m : ℕ) × (suc m ≡ n)
      go zero q = absurd (omega arith)
      go (suc n) q = (n, refl)

  pub looked_place : 256 * k + key / 16 < SUPPORTS
  looked_place =
      let n = last in
      omega (arith, (key_parts n.0 n.1).0, looked_lt (constraint_at p k) a b e n.0 _ (before n.0 n.1) (omega (arith, n.1)) g.few, r.framed.stated.most)

  pub looked_all : (s : ℕ) → s ≡ at supports (256 * k + key / 16) → not (has s (key % 16)) ≡ refused_by (constraint_at p k) a b e
  unfolding refused_by
  looked_all s q =
      let n = last in
      let d = key_parts n.0 n.1 in
      let t : (x : ℕ) → Memᴰ x (constraint_at p k).scope → T (ltb (value_in a b e x) 16) = λ x m.
      (let z = at_mem (constraint_at p k).scope x m in lt→ltb (value_in a b e x) 16 (subst (λ (y : ℕ). value_in a b e y < 16) z.2 (l.small z.0 (omega (arith, z.1))))) in
      ap not
      (ap (λ (u : ℕ). has u (key % 16)) q
      ∙ ap₂ (λ (u v : ℕ). has (at supports (256 * k + u)) v) d.0 d.1
      ∙ row_test p supports r.supported k h (map (value_in a b e) (take n.0 (constraint_at p k).scope)) (value_in a b e (at (constraint_at p k).scope n.0))
      (ap suc (length-map (take n.0 (constraint_at p k).scope) (value_in a b e) ∙ length-take-le n.0 (constraint_at p k).scope (omega (arith, n.1))) ∙ n.1)
      (omega (arith, length-map (take n.0 (constraint_at p k).scope) (value_in a b e), length-take-le n.0 (constraint_at p k).scope (omega (arith, n.1)), n.1, g.few))
      (digits (constraint_at p k) a b e n.0 _ (before n.0 n.1)) (l.small n.0 (omega (arith, n.1)))
      ∙ ap (λ (us : List ℕ). any (same us) (constraint_at p k).rows) (sym (split n.0 n.1)))
      ∙ sym (ap (λ (z : Bool). both z (not (any (same (map (value_in a b e) (constraint_at p k).scope)) (constraint_at p k).rows)))
      (of_T (all (λ x. ltb (value_in a b e x) 16) (constraint_at p k).scope) (all_i (λ x. ltb (value_in a b e x) 16) (constraint_at p k).scope t)))
