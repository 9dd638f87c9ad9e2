-- Two pairs that a constraint on their variables refuses. Assumes nothing.
use Rattle.model.specs.Kit.{◌≡◌, sym, ap, ◌∙◌, subst, true, false, List, [], ◌∷◌, Memᴰ, Memᴰ-head, Memᴰ-tail, Memᴰ-not_nil, ℕ, zero, suc, ◌+◌, ◌*◌, ◌/◌, ◌%◌, ◌^◌, ◌≤◌, ◌<◌}
use Rattle.model.specs.Kit.{lt_of_le_of_lt, lt_of_lt_of_le, not-suc-le-zero, le_of_suc-le-suc, arith, T, eqb, ltb, ltb→lt, length, bit_and, and_le_l, count_trailing_zeros}
use Rattle.model.specs.{Lists.any, Lists.at, Lists.same, Lists.ascending, ValueSets.has, Problem.Problem, Problem.pairs_at, Problem.constraint_at, Inner.WellFormed.Stated}
use lib.Pow.{pow_mono}
use Rattle.model.specs.Inner.WellFormed.{GoodConstraint}
use Rattle.model.proofs.{Lists.of_not, Lists.both_l, Lists.both_r, Lists.among_e, Sets.has_lt, Masks.has_and, Members.low_has, Pairs.forbidden_excluded}
use Rattle.arrays.specs.Inner.Places.{SUPPORTS}
use Rattle.arrays.proofs.Links.{is_one}
use Rattle.sheet_table.specs.Inner.Forbidden.{blocked, number_of, PairCode, MaybePair}
use Rattle.sheet_table.specs.Inner.Forbidden.{Begun, Triple, packed, packed_on}
use Rattle.sheet_table.proofs.Codes.{good, init_16, variable_lt}
use Rattle.sheet_carried.proofs.{Keys.Digits, Keys.row_test, Blocks.excluded_i, Blocks.blocked_i, Blocks.blocked_more, Scopes.first_two, Surely.real}

-- a scope of two that has two variables
whole_two : (x y : ℕ) (scope : List ℕ) → length scope ≡ 2 → T (ascending scope) → x < y → T (any (eqb x) scope) → T (any (eqb y) scope) → scope ≡ x ∷ y ∷ []
unfolding ascending
whole_two x y [] l o h a b = absurd (omega arith)
whole_two x y (u ∷ []) l o h a b = absurd (omega arith)
whole_two x y (u ∷ v ∷ w ∷ r) l o h a b = absurd (omega arith)
whole_two x y (u ∷ v ∷ []) l o h a b = go (among_e x _ a) (among_e y _ b)
  where
    less : u < v
    less = ltb→lt u v (first_two (ltb u v) true o).0

    go : Memᴰ x (u ∷ v ∷ []) → Memᴰ y (u ∷ v ∷ []) → u ∷ v ∷ [] ≡ x ∷ y ∷ []
    go (Memᴰ-head e) (Memᴰ-head f) = absurd (omega arith)
    go (Memᴰ-head e) (Memᴰ-tail (Memᴰ-head f)) = cc
    go (Memᴰ-tail (Memᴰ-head e)) (Memᴰ-head f) = absurd (omega (arith, less))
    go (Memᴰ-tail (Memᴰ-head e)) (Memᴰ-tail (Memᴰ-head f)) = absurd (omega arith)
    go (Memᴰ-head e) (Memᴰ-tail (Memᴰ-tail m)) = absurd (Memᴰ-not_nil m)
    go (Memᴰ-tail (Memᴰ-head e)) (Memᴰ-tail (Memᴰ-tail m)) = absurd (Memᴰ-not_nil m)
    go (Memᴰ-tail (Memᴰ-tail m)) b = absurd (Memᴰ-not_nil m)

one_digit : (u : ℕ) → u < 16 → Digits (u ∷ [])
unfolding at
one_digit u h zero i = h
one_digit u h (suc j) i = absurd (not-suc-le-zero (le_of_suc-le-suc i))

-- as the code finds it: the lowest of the constraints on both variables, which is on two
module _ (p : Problem) (numbers supports : List ℕ) (a b : ℕ) (t : Triple p numbers supports 255 a b) (set : ℕ) (es : set ≡ bit_and (at numbers (a / 16)) (at numbers (b / 16))) (n : set ≡ 0 → ⊥) where
  w : Stated p
  w = t.ready.framed.stated

  few : set < 2 ^ length p.constraints
  few = subst (λ (s : ℕ). s < 2 ^ length p.constraints) (sym es) (lt_of_le_of_lt (and_le_l _ (at numbers (b / 16)))
      (t.ready.framed.numbered.touching_few (a / 16) (variable_lt p w a t.second)))

  low_in : T (has set (count_trailing_zeros 64 set))
  low_in = (low_has 64 set (omega arith) (lt_of_lt_of_le few (pow_mono (let h : length p.constraints ≤ 64 = omega (arith, w.most) in h)))).0

  pub couple_lt : count_trailing_zeros 64 set < length p.constraints
  couple_lt = has_lt (length p.constraints) set _ few low_in

  pub couple_row : 256 * count_trailing_zeros 64 set + a % 16 < SUPPORTS
  couple_row = omega (arith, couple_lt, w.most)

  module _ (h : a / 16 < b / 16) (two : length (constraint_at p (count_trailing_zeros 64 set)).scope ≡ 2) (s : ℕ) (e : s ≡ at supports (256 * count_trailing_zeros 64 set + a % 16))
      (no : has s (b % 16) ≡ false) where
    abbrev k : ℕ
    k = count_trailing_zeros 64 set

    g : GoodConstraint p (constraint_at p k)
    g = good p w k couple_lt

    parts : T (has (at numbers (a / 16)) k) × T (has (at numbers (b / 16)) k)
    parts =
        let i = subst T (ap (λ (m : ℕ). has m k) es ∙ has_and (at numbers (a / 16)) (at numbers (b / 16)) k) low_in in
        (both_l (has (at numbers (a / 16)) k) (has (at numbers (b / 16)) k) i, both_r (has (at numbers (a / 16)) k) (has (at numbers (b / 16)) k) i)

    on : (c : ℕ) → MaybePair p c → T (has (at numbers (c / 16)) k) → T (any (eqb (c / 16)) (constraint_at p k).scope)
    on c m i = subst T (t.ready.framed.numbered.touching (c / 16) k (variable_lt p w c m) couple_lt) i

    pair_of : (c : ℕ) → MaybePair p c → T (has (at numbers (c / 16)) k) → PairCode p c
    pair_of c m i = real p w c m (g.inside (c / 16) (among_e (c / 16) (constraint_at p k).scope (on c m i)))

    scope_is : (constraint_at p k).scope ≡ a / 16 ∷ b / 16 ∷ []
    scope_is = whole_two (a / 16) (b / 16) (constraint_at p k).scope two g.ordered h (on a t.second parts.0) (on b t.third parts.1)

    row_no : T (any (same (a % 16 ∷ b % 16 ∷ [])) (constraint_at p k).rows) → ⊥
    unfolding packed_on
    row_no =
        let place : a % 16 ≡ packed (a % 16 ∷ []) = omega arith in
        of_not _
        (sym (row_test p supports t.ready.supported k couple_lt (a % 16 ∷ []) (b % 16) (sym two) (omega arith) (one_digit (a % 16) (omega arith)) (omega arith))
        ∙ ap (λ (m : ℕ). has (at supports (256 * k + m)) (b % 16)) (sym place) ∙ ap (λ (m : ℕ). has m (b % 16)) (sym e) ∙ no)

    pub couple_blocked : T (blocked p (number_of p a ∷ number_of p b ∷ []))
    unfolding pairs_at
    couple_blocked =
        let c = constraint_at p k in
        let vs = a % 16 ∷ b % 16 ∷ [] in
        blocked_i p _ (pairs_at p c.scope vs)
        (forbidden_excluded p c _ (is_one p k couple_lt)
        (excluded_i p c vs (λ x v m i. init_16 p w x v (g.inside x m) i) (sym (ap length scope_is))
        (subst (λ (xs : List ℕ). Begun p xs vs) (sym scope_is) ((pair_of a t.second parts.0).1, ((pair_of b t.third parts.1).1, tt))) row_no))
        (λ q m. subst (λ (xs : List ℕ). Memᴰ q (pairs_at p xs vs)) scope_is m)

-- with 255 before them, in either order
pub couple_after : (p : Problem) (c x y : ℕ) → T (blocked p (x ∷ y ∷ [])) → T (blocked p (c ∷ x ∷ y ∷ []))
couple_after p c x y = blocked_more p _ _ (λ q m. Memᴰ-tail m)

pub couple_turned : (p : Problem) (c x y : ℕ) → T (blocked p (x ∷ y ∷ [])) → T (blocked p (c ∷ y ∷ x ∷ []))
couple_turned p c x y = blocked_more p _ _ go
  where
    go : (q : ℕ) → Memᴰ q (x ∷ y ∷ []) → Memᴰ q (c ∷ y ∷ x ∷ [])
    go q (Memᴰ-head e) = Memᴰ-tail (Memᴰ-tail (Memᴰ-head e))
    go q (Memᴰ-tail (Memᴰ-head e)) = Memᴰ-tail (Memᴰ-head e)
    go q (Memᴰ-tail (Memᴰ-tail m)) = absurd (Memᴰ-not_nil m)

pub triple_turned : (p : Problem) (numbers supports : List ℕ) (c a b : ℕ) → Triple p numbers supports c a b → Triple p numbers supports c b a
triple_turned p numbers supports c a b t = record { ready = t.ready; first = t.first; second = t.third; third = t.second }
