-- Values of a variable that a constraint on it and the variables of two pairs refuses with them. Assumes nothing.
use Rattle.model.specs.Kit.{◌≡◌, refl, sym, ap, ◌∙◌, subst, Bool, true, false, not, List, [], ◌∷◌, Memᴰ, Memᴰ-head, Memᴰ-tail, Memᴰ-not_nil, inl, inr, ℕ, zero, suc, ◌+◌, ◌*◌, ◌/◌}
use Rattle.model.specs.Kit.{◌%◌, ◌^◌, ◌≤◌, ◌<◌, mul-le-mul_right, lt_of_le_of_lt, lt_of_lt_of_le, not-suc-le-zero, le_of_suc-le-suc, arith, T, T_not, eqb, ltb, ltb→lt, length, bit_and, and_le_l}
use Rattle.model.specs.Kit.{count_trailing_zeros}
use Rattle.model.specs.{Lists.any, Lists.at, Lists.same, Lists.both, Lists.ascending, ValueSets.has, ValueSets.mask_of, ValueSets.full_mask, ValueSets.only_mask, ValueSets.union_mask, Problem.Problem}
use Rattle.model.specs.{Problem.pairs_at, Problem.constraint_at, Inner.WellFormed.Stated, Inner.WellFormed.GoodConstraint}
use native.Mathlib.Nat.{mul_comm}
use lib.Bits.{or_zero_r}
use lib.Pow.{pow_mono}
use Rattle.model.proofs.{Lists.T_of, Lists.of_T, Lists.both_l, Lists.both_r, Lists.among_e, Sets.has_lt, Sets.has_none, Sets.mask_e, Masks.has_and, Masks.has_one, Members.low_has, Lowest.with_one}
use Rattle.model.proofs.{Filling.gathered_begin, Filling.gathered_more, Pairs.forbidden_excluded}
use Rattle.arrays.specs.Inner.Places.{SUPPORTS}
use Rattle.arrays.proofs.Links.{is_one}
use Rattle.sheet_table.specs.{Inner.Table.Ready, Inner.Forbidden.blocked, Inner.Forbidden.number_of, Inner.Forbidden.PairCode}
use Rattle.sheet_table.specs.Inner.Forbidden.{MaybePair, Begun, Lacking, On, Sure, packed, packed_on}
use Rattle.sheet_table.proofs.Codes.{good, init_16, variable_lt}
use Rattle.sheet_carried.proofs.{Keys.Digits, Keys.row_test, Blocks.three, Blocks.excluded_i, Blocks.blocked_i, Blocks.blocked_more, Scopes.Among, Scopes.first_two, Scopes.ascends}

-- ---- a scope that has three variables
-- three ascending numbers among three that do not fall are these
module _ (u v w x y z : ℕ) (l : u ≤ v) (m : v ≤ w) (h : x < y) (k : y < z) where
  bottom : (q : ℕ) → Among u v w q → u ≤ q
  bottom q (inl e) = omega arith
  bottom q (inr (inl e)) = omega arith
  bottom q (inr (inr e)) = omega arith

  top : (q : ℕ) → Among u v w q → q ≤ w
  top q (inl e) = omega arith
  top q (inr (inl e)) = omega arith
  top q (inr (inr e)) = omega arith

  second : Among u v w y → u ≤ x → z ≤ w → v ≡ y
  second (inl e) i j = absurd (omega arith)
  second (inr (inl e)) i j = sym e
  second (inr (inr e)) i j = absurd (omega arith)

  first : Among u v w x → v ≡ y → z ≤ w → u ≡ x
  first (inl e) i j = sym e
  first (inr (inl e)) i j = absurd (omega arith)
  first (inr (inr e)) i j = absurd (omega arith)

  third : Among u v w z → v ≡ y → u ≤ x → w ≡ z
  third (inl e) i j = absurd (omega arith)
  third (inr (inl e)) i j = absurd (omega arith)
  third (inr (inr e)) i j = sym e

  all_three : Among u v w x → Among u v w y → Among u v w z → (u ≡ x) × (v ≡ y) × (w ≡ z)
  all_three a b c =
      let i = bottom x a in
      let j = top z c in
      let e = second b i j in
      (first a e j, e, third c e i)

one : (u q : ℕ) → Memᴰ q (u ∷ []) → Among u u u q
one u q (Memᴰ-head e) = inl e
one u q (Memᴰ-tail m) = absurd (Memᴰ-not_nil m)

two : (u v q : ℕ) → Memᴰ q (u ∷ v ∷ []) → Among u v v q
two u v q (Memᴰ-head e) = inl e
two u v q (Memᴰ-tail (Memᴰ-head e)) = inr (inl e)
two u v q (Memᴰ-tail (Memᴰ-tail m)) = absurd (Memᴰ-not_nil m)

pub whole_scope : (x y z : ℕ) (scope : List ℕ) → length scope ≤ 3 → T (ascending scope) → x < y → y < z →
    T (any (eqb x) scope) → T (any (eqb y) scope) → T (any (eqb z) scope) → scope ≡ x ∷ y ∷ z ∷ []
unfolding ascending
whole_scope x y z [] l o h k a b c = absurd (Memᴰ-not_nil (among_e x [] a))
whole_scope x y z (u ∷ []) l o h k a b c =
    let r = all_three u u u x y z (omega arith) (omega arith) h k (one u x (among_e x _ a)) (one u y (among_e y _ b)) (one u z (among_e z _ c)) in
    absurd (omega (arith, r.0, r.1))
whole_scope x y z (u ∷ v ∷ []) l o h k a b c =
    let i : u < v = ltb→lt u v (first_two (ltb u v) true o).0 in
    let r = all_three u v v x y z (omega arith) (omega arith) h k (two u v x (among_e x _ a)) (two u v y (among_e y _ b)) (two u v z (among_e z _ c)) in
    absurd (omega (arith, r.1, r.2))
whole_scope x y z (u ∷ v ∷ w ∷ []) l o h k a b c =
    let i = ascends u v w o in
    let r = all_three u v w x y z (omega (arith, i.0)) (omega (arith, i.1)) h k (three u v w x (among_e x _ a)) (three u v w y (among_e y _ b)) (three u v w z (among_e z _ c)) in
    cc
whole_scope x y z (u ∷ v ∷ w ∷ s ∷ r) l o h k a b c = absurd (omega arith)

-- ---- three pairs of the variables of a constraint, whose values are no row
module _ (p : Problem) (w : Stated p) where
  -- a pair, where its variable is below another
  pub real : (a : ℕ) → MaybePair p a → a / 16 < p.variables → PairCode p a
  real a (inl e) h = absurd (omega (arith, w.few))
  real a (inr c) h = c

  no_row : (k a b e : ℕ) → k < length p.constraints → (constraint_at p k).scope ≡ a / 16 ∷ b / 16 ∷ e / 16 ∷ [] → PairCode p a → PairCode p b → PairCode p e →
      (T (any (same (a % 16 ∷ b % 16 ∷ e % 16 ∷ [])) (constraint_at p k).rows) → ⊥) → T (blocked p (number_of p a ∷ number_of p b ∷ number_of p e ∷ []))
  unfolding pairs_at
  no_row k a b e h s ca cb ce n =
      let c = constraint_at p k in
      let vs = a % 16 ∷ b % 16 ∷ e % 16 ∷ [] in
      blocked_i p _ (pairs_at p c.scope vs)
      (forbidden_excluded p c _ (is_one p k h)
      (excluded_i p c vs (λ x v m t. init_16 p w x v ((good p w k h).inside x m) t) (sym (ap length s)) (subst (λ (xs : List ℕ). Begun p xs vs) (sym s) (ca.1, (cb.1, (ce.1, tt)))) n))
      (λ q m. subst (λ (xs : List ℕ). Memᴰ q (pairs_at p xs vs)) s m)

two_digits : (u v : ℕ) → u < 16 → v < 16 → Digits (u ∷ v ∷ [])
unfolding at
two_digits u v h l zero i = h
two_digits u v h l (suc zero) i = l
two_digits u v h l (suc (suc j)) i = absurd (not-suc-le-zero (le_of_suc-le-suc (le_of_suc-le-suc i)))

-- ---- the order of three pairs
module _ (p : Problem) (x y z : ℕ) where
  pub first_two_turned : T (blocked p (x ∷ y ∷ z ∷ [])) → T (blocked p (y ∷ x ∷ z ∷ []))
  first_two_turned = blocked_more p _ _ go
    where
      go : (q : ℕ) → Memᴰ q (x ∷ y ∷ z ∷ []) → Memᴰ q (y ∷ x ∷ z ∷ [])
      go q (Memᴰ-head e) = Memᴰ-tail (Memᴰ-head e)
      go q (Memᴰ-tail (Memᴰ-head e)) = Memᴰ-head e
      go q (Memᴰ-tail (Memᴰ-tail m)) = Memᴰ-tail (Memᴰ-tail m)

  pub last_two_turned : T (blocked p (x ∷ y ∷ z ∷ [])) → T (blocked p (x ∷ z ∷ y ∷ []))
  last_two_turned = blocked_more p _ _ go
    where
      go : (q : ℕ) → Memᴰ q (x ∷ y ∷ z ∷ []) → Memᴰ q (x ∷ z ∷ y ∷ [])
      go q (Memᴰ-head e) = Memᴰ-head e
      go q (Memᴰ-tail (Memᴰ-head e)) = Memᴰ-tail (Memᴰ-tail (Memᴰ-head e))
      go q (Memᴰ-tail (Memᴰ-tail (Memᴰ-head e))) = Memᴰ-tail (Memᴰ-head e)
      go q (Memᴰ-tail (Memᴰ-tail (Memᴰ-tail m))) = absurd (Memᴰ-not_nil m)

-- ---- values that a set lacks, one after another
pub lacking_place : (base step v : ℕ) → base + 15 * step < SUPPORTS → v < 16 → base + step * v < SUPPORTS
lacking_place base step v h l = let m : v ≤ 15 = omega arith in omega (arith, mul-le-mul_right step m, mul_comm step v)

pub lacking_none : (supports : List ℕ) (base step w : ℕ) → Lacking supports base step w 0 0
lacking_none supports base step w = (gathered_begin _).has_is

-- as the code finds them: `contains` says whether the set at n has w
module _ (supports : List ℕ) (base step w n set s : ℕ) (l : Lacking supports base step w n set) (e : s ≡ at supports (base + step * n)) where
  lacks : (b : Bool) → has s w ≡ b → not (has (at supports (base + step * n)) w) ≡ not b
  lacks b f = ap not (ap (λ (m : ℕ). has m w) (sym e) ∙ f)

  pub lacking_same : has s w ≡ true → Lacking supports base step w (n + 1) set
  lacking_same f =
      subst (Lacking supports base step w (n + 1)) (or_zero_r set)
      (gathered_more _ n set 0 (record { has_is = l }) (λ x. has_none x ∙ sym (ap (λ (b : Bool). both b (eqb x n)) (lacks true f)))).has_is

  pub lacking_more : (new : ℕ) → set < 2 ^ 16 → n < 16 → new ≡ union_mask set (only_mask (full_mask 16) n) → has s w ≡ false → Lacking supports base step w (n + 1) new
  lacking_more new h small q f =
      subst (Lacking supports base step w (n + 1)) (sym (q ∙ with_one set n h small))
      (gathered_more _ n set (2 ^ n) (record { has_is = l }) (λ x. has_one n x ∙ sym (ap (λ (b : Bool). both b (eqb x n)) (lacks false f)))).has_is

pub lacking_all : (supports : List ℕ) (base step w n set : ℕ) → 16 ≤ n → n ≤ 16 → Lacking supports base step w n set → Lacking supports base step w 16 set
lacking_all supports base step w n set h k l = let e : n ≡ 16 = omega arith in subst (λ (m : ℕ). Lacking supports base step w m set) e l

lacking_e : (supports : List ℕ) (base step w set v : ℕ) → Lacking supports base step w 16 set → T (has set v) → T (has (at supports (base + step * v)) w) → ⊥
lacking_e supports base step w set v l t = T_not (has (at supports (base + step * v)) w) (both_r (ltb v 16) _ (subst T (l v) t))

-- ---- as the code finds them
pub sure_none : (p : Problem) (a b y : ℕ) → Sure p a b y 0
sure_none p a b y e q c t = absurd (subst T (has_none (e % 16)) t)

pub sure_turned : (p : Problem) (a b y set : ℕ) → Sure p b a y set → Sure p a b y set
sure_turned p a b y set s e f c t = first_two_turned p _ _ _ (s e f c t)

-- a constraint on the three variables
module _ (p : Problem) (numbers supports : List ℕ) (k a b y : ℕ) (o : On p numbers supports k a b y) (h : a / 16 < b / 16) where
  w : Stated p
  w = o.ready.framed.stated

  g : GoodConstraint p (constraint_at p k)
  g = good p w k o.inside

  -- pairs of it in order, whose values are no row
  in_order : (c d e : ℕ) → (constraint_at p k).scope ≡ c / 16 ∷ d / 16 ∷ e / 16 ∷ [] → PairCode p c → PairCode p d → PairCode p e →
      (T (has (at supports (256 * k + (16 * (c % 16) + d % 16))) (e % 16)) → ⊥) → T (blocked p (number_of p c ∷ number_of p d ∷ number_of p e ∷ []))
  unfolding packed_on
  in_order c d e s cc cd ce n =
      let place : 16 * (c % 16) + d % 16 ≡ packed (c % 16 ∷ d % 16 ∷ []) = omega arith in
      let row : has (at supports (256 * k + (16 * (c % 16) + d % 16))) (e % 16) ≡ any (same (c % 16 ∷ d % 16 ∷ e % 16 ∷ [])) (constraint_at p k).rows =
      ap (λ (m : ℕ). has (at supports (256 * k + m)) (e % 16)) place
      ∙ row_test p supports o.ready.supported k o.inside (c % 16 ∷ d % 16 ∷ []) (e % 16) (sym (ap length s)) (omega arith) (two_digits (c % 16) (d % 16) (omega arith) (omega arith))
      (omega arith) in
      no_row p w k c d e o.inside s cc cd ce (λ t. n (subst T (sym row) t))

  -- the two pairs are pairs
  variable_in : (x : ℕ) → T (any (eqb x) (constraint_at p k).scope) → x < p.variables
  variable_in x t = g.inside x (among_e x (constraint_at p k).scope t)

  pair_a : PairCode p a
  pair_a = real p w a o.first (variable_in (a / 16) o.has_first)

  pair_b : PairCode p b
  pair_b = real p w b o.second (variable_in (b / 16) o.has_second)

  module _ (e : ℕ) (f : e / 16 ≡ y) (c : PairCode p e) where
    has_e : T (any (eqb (e / 16)) (constraint_at p k).scope)
    has_e = subst (λ (x : ℕ). T (any (eqb x) (constraint_at p k).scope)) (sym f) o.has_third

    pub after : b / 16 < y → (T (has (at supports (256 * k + (16 * (a % 16) + b % 16))) (e % 16)) → ⊥) → T (blocked p (number_of p a ∷ number_of p b ∷ number_of p e ∷ []))
    after i n =
        in_order a b e (whole_scope (a / 16) (b / 16) (e / 16) (constraint_at p k).scope g.few g.ordered h (omega arith) o.has_first o.has_second has_e)
        pair_a pair_b c n

    before : y < a / 16 → (T (has (at supports (256 * k + (16 * (e % 16) + a % 16))) (b % 16)) → ⊥) → T (blocked p (number_of p a ∷ number_of p b ∷ number_of p e ∷ []))
    before i n =
        last_two_turned p _ _ _ (first_two_turned p _ _ _
        (in_order e a b (whole_scope (e / 16) (a / 16) (b / 16) (constraint_at p k).scope g.few g.ordered (omega arith) h has_e o.has_first o.has_second)
        c pair_a pair_b n))

    between : a / 16 < y → y < b / 16 → (T (has (at supports (256 * k + (16 * (a % 16) + e % 16))) (b % 16)) → ⊥) → T (blocked p (number_of p a ∷ number_of p b ∷ number_of p e ∷ []))
    between i j n =
        last_two_turned p _ _ _
        (in_order a e b (whole_scope (a / 16) (e / 16) (b / 16) (constraint_at p k).scope g.few g.ordered (omega arith) (omega arith) o.has_first has_e o.has_second)
        pair_a c pair_b n)

  pub sure_after : b / 16 < y → (s : ℕ) → s ≡ mask_of (λ v. not (has (at supports (256 * k + 16 * (a % 16) + b % 16)) v)) → Sure p a b y s
  sure_after i s q e f c t =
      let place : 256 * k + 16 * (a % 16) + b % 16 ≡ 256 * k + (16 * (a % 16) + b % 16) = omega arith in
      after e f c i (λ z. T_not (has (at supports (256 * k + 16 * (a % 16) + b % 16)) (e % 16)) (mask_e _ (e % 16) (subst (λ (n : ℕ). T (has n (e % 16))) q t)).1
      (subst (λ (n : ℕ). T (has (at supports n) (e % 16))) (sym place) z))

  pub sure_before : y < a / 16 → (set : ℕ) → Lacking supports (256 * k + a % 16) 16 (b % 16) 16 set → Sure p a b y set
  sure_before i set l e f c t =
      let place : 256 * k + (16 * (e % 16) + a % 16) ≡ 256 * k + a % 16 + 16 * (e % 16) = omega arith in
      before e f c i (λ z. lacking_e supports _ _ _ set (e % 16) l t (subst (λ (n : ℕ). T (has (at supports n) (b % 16))) place z))

  pub sure_between : a / 16 < y → y < b / 16 → (set : ℕ) → Lacking supports (256 * k + 16 * (a % 16)) 1 (b % 16) 16 set → Sure p a b y set
  sure_between i j set l e f c t =
      let place : 256 * k + (16 * (a % 16) + e % 16) ≡ 256 * k + 16 * (a % 16) + 1 * (e % 16) = omega arith in
      between e f c i j (λ z. lacking_e supports _ _ _ set (e % 16) l t (subst (λ (n : ℕ). T (has (at supports n) (b % 16))) place z))

-- the constraints on three variables
module _ (p : Problem) (numbers supports : List ℕ) (r : Ready p numbers supports) (x y z : ℕ) (lx : x < 16) (ly : y < 16) (lz : z < 16) (set : ℕ)
    (es : set ≡ bit_and (bit_and (at numbers x) (at numbers y)) (at numbers z)) where
  few : set < 2 ^ length p.constraints
  few = subst (λ (s : ℕ). s < 2 ^ length p.constraints) (sym es) (lt_of_le_of_lt (and_le_l _ (at numbers z)) (lt_of_le_of_lt (and_le_l _ (at numbers y)) (r.framed.numbered.touching_few x lx)))

  pub low_in : (set ≡ 0 → ⊥) → T (has set (count_trailing_zeros 64 set))
  low_in n = (low_has 64 set (omega arith) (lt_of_lt_of_le few (pow_mono (let h : length p.constraints ≤ 64 = omega (arith, r.framed.stated.most) in h)))).0

  module _ (k : ℕ) (i : T (has set k)) where
    pub on_three_lt : k < length p.constraints
    on_three_lt = has_lt (length p.constraints) set k few i

    pub on_three : T (any (eqb x) (constraint_at p k).scope) × T (any (eqb y) (constraint_at p k).scope) × T (any (eqb z) (constraint_at p k).scope)
    on_three =
        let t = subst T (ap (λ (s : ℕ). has s k) es ∙ has_and _ (at numbers z) k) i in
        let s = subst T (has_and (at numbers x) (at numbers y) k) (both_l (has (bit_and (at numbers x) (at numbers y)) k) (has (at numbers z) k) t) in (
          subst T (r.framed.numbered.touching x k lx on_three_lt) (both_l (has (at numbers x) k) (has (at numbers y) k) s),
          subst T (r.framed.numbered.touching y k ly on_three_lt) (both_r (has (at numbers x) k) (has (at numbers y) k) s),
          subst T (r.framed.numbered.touching z k lz on_three_lt) (both_r (has (bit_and (at numbers x) (at numbers y)) k) (has (at numbers z) k) t),
        )

-- the lowest of those on the variables of two pairs and a third
module _ (p : Problem) (numbers supports : List ℕ) (r : Ready p numbers supports) (a b y : ℕ) (ma : MaybePair p a) (mb : MaybePair p b) (l : y < 16) (set : ℕ)
    (es : set ≡ bit_and (bit_and (at numbers (a / 16)) (at numbers (b / 16))) (at numbers y)) (n : set ≡ 0 → ⊥) where
  pub on_lowest : On p numbers supports (count_trailing_zeros 64 set) a b y
  on_lowest =
      let la = variable_lt p r.framed.stated a ma in
      let lb = variable_lt p r.framed.stated b mb in
      let i = low_in p numbers supports r (a / 16) (b / 16) y la lb l set es n in
      let h = on_three p numbers supports r (a / 16) (b / 16) y la lb l set es (count_trailing_zeros 64 set) i in
      record {
        ready = r;
        inside = on_three_lt p numbers supports r (a / 16) (b / 16) y la lb l set es
            (count_trailing_zeros 64 set) i;
        first = ma;
        second = mb;
        has_first = h.0;
        has_second = h.1;
        has_third = h.2;
      }

  pub on_small : count_trailing_zeros 64 set < 32
  on_small = omega (arith, on_lowest.inside, r.framed.stated.most)

pub on_turned : (p : Problem) (numbers supports : List ℕ) (k a b y : ℕ) → On p numbers supports k a b y → On p numbers supports k b a y
on_turned p numbers supports k a b y o =
    record { ready = o.ready; inside = o.inside; first = o.second; second = o.first; has_first = o.has_second; has_second = o.has_first; has_third = o.has_third }

-- those of the same variable
pub sure_same : (p : Problem) (a b y z known : ℕ) → y ≡ z → Sure p a b z known → Sure p a b y known
sure_same p a b y z known q s e h = s e (h ∙ q)

-- a value that is among those known
pub sure_blocked : (p : Problem) (a b e sure : ℕ) → Sure p a b (e / 16) sure → PairCode p e → has sure (e % 16) ≡ true → true ≡ blocked p (number_of p a ∷ number_of p b ∷ number_of p e ∷ [])
sure_blocked p a b e sure s c q = sym (of_T _ (s e refl c (T_of (has sure (e % 16)) q)))
