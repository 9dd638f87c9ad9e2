-- The loops that run through the members of a set and unite what each of them gives. Assumes nothing.
use Rattle.model.specs.Kit.{◌≡◌, refl, sym, ap, ◌∙◌, subst, Bool, true, not, ◌⊎◌, inl, inr, ⊎_elim, List, ℕ, ◌+◌, ◌*◌, ◌^◌, ◌<◌, lt_of_le_of_lt, arith, T, eqb, bit_and, bit_or, count_trailing_zeros}
use Rattle.model.specs.Kit.{eqb-true}
use Rattle.model.specs.Kit.{eq-eqb, ne_eqb}
use Rattle.model.specs.{Lists.at, ValueSets.has, ValueSets.mask_of, ValueSets.without_mask, ValueSets.union_mask, ValueSets.lowest_of, ValueSets.one_if}
use lib.Bits.{and_le_r}
use Rattle.model.proofs.Members.{low_has, rest_i, without_lowest_op, Rest, rest_begin, has_0, Union, union_begin, union_end, lowest_left, others_left, others_union, and_i, and_e}
use Rattle.model.proofs.{Lists.T_of, Lists.both_i, Lists.both_l, Lists.both_r, Sets.has_lt, Sets.has_mask, Sets.mask_lt, Sets.member, Masks.has_one_if, Masks.lowest_op, Masks.union_op}
use Rattle.arrays.specs.{Inner.Places.OTHERS, Inner.Tables.between}
use Rattle.prune_constraints.specs.Inner.Steps.{OneValue, Together, Supported2, Together3, Supported3, Touched}
use Rattle.prune_constraints.specs.Inner.Lanes.{FullLanes, LaneUnion, InLanes, InLane}
use Rattle.prune_constraints.proofs.Bits.{one_small}

-- the member itself where some set is not empty
pub full_i : (s u : ℕ) → (s ≡ 0 → ⊥) → T (has (one_if (not (eqb s 0)) u) u)
full_i s u n = subst T (sym (has_one_if (not (eqb s 0)) u u)) (both_i (not (eqb s 0)) (eqb u u) (T_of (not (eqb s 0)) (ap not (ne_eqb s 0 n))) (lib.Dec.eqb_refl u))

pub full_e : (s u w : ℕ) → T (has (one_if (not (eqb s 0)) u) w) → (w ≡ u) × (s ≡ 0 → ⊥)
full_e s u w t =
    let q = subst T (has_one_if (not (eqb s 0)) u w) t in
    (lib.Dec.eqb→eq w u (both_r (not (eqb s 0)) (eqb w u) q), λ e. subst T (ap not (eq-eqb s 0 e)) (both_l (not (eqb s 0)) (eqb w u) q))

pub one_i : (s u : ℕ) → (v : ℕ) → T (has s v) → T (has (one_if (not (eqb s 0)) u) u)
one_i s u v t = full_i s u (λ e. has_0 v (subst (λ (n : ℕ). T (has n v)) e t))

pub one_e : (k s u w : ℕ) → s < 2 ^ k → T (has (one_if (not (eqb s 0)) u) w) → (w ≡ u) × ((v : ℕ) × T (has s v))
one_e k s u w h t = let q = full_e s u w t in let n : s ≡ 0 → ⊥ = q.1 in (q.0, (count_trailing_zeros k s, (low_has k s (omega arith) h).0))

-- a value left is the lowest or one of the others
others_or : (m v m' : ℕ) → m < 2 ^ 16 → (m ≡ 0 → ⊥) → v ≡ lowest_of m → m' ≡ without_mask m (lowest_of m) → (u : ℕ) → T (has m u) → T (has m' u) ⊎ (u ≡ v)
others_or m v m' h n low less u r = ⊎_elim (λ o. inl (subst (λ (i : ℕ). T (has i u)) (without_lowest_op m h ∙ sym less) o)) (λ o. inr (o ∙ lowest_op 16 m ∙ sym low)) (rest_i 16 m (omega arith) h u r)

pub one_lt : (s : ℕ) (b : Bool) (v : ℕ) → s ≡ one_if b v → v < 16 → s < 2 ^ 16
one_lt s b v e h = subst (λ (z : ℕ). z < 2 ^ 16) (sym e) (one_small b v h)

pub small : (f : ℕ → Bool) (r : ℕ) → r ≡ mask_of f → r < 2 ^ 16
small f r e = subst (λ (z : ℕ). z < 2 ^ 16) (sym e) (mask_lt 16 f)

-- a set that is empty without its lowest value
pub one_value : (a r : ℕ) (b : Bool) → a < 2 ^ 16 → (a ≡ 0 → ⊥) → r ≡ without_mask a (lowest_of a) → b ≡ eqb r 0 → b ≡ true → OneValue a
one_value a r b h n e q t = record { some = n; only = λ u v i j. low u i ∙ sym (low v j) }
  where
    low : (v : ℕ) → T (has a v) → v ≡ count_trailing_zeros 16 a
    low v i = ⊎_elim (λ j. absurd (has_0 v (subst (λ (z : ℕ). T (has z v)) (without_lowest_op a h ∙ sym e ∙ eqb-true r 0 (sym q ∙ t)) j))) (λ j. j) (rest_i 16 a (omega arith) h v i)

-- the one value of a set
pub single : (a : ℕ) → a < 2 ^ 16 → OneValue a → (v : ℕ) → T (has a v) → v ≡ lowest_of a
single a h o v t = o.only v (lowest_of a) t (lowest_left a a _ (rest_begin 16 a h) o.some refl).0

-- ---- two sets by sixteen sets of a table
module _ (t : List ℕ) (base a b : ℕ) where
  -- v gives itself where its set meets b, and the values of b that its set has
  abbrev Meets : ℕ → ℕ → Type 0
  Meets v u = (u ≡ v) × ((w : ℕ) × T (has b w) × T (has (at t (base + v)) w))

  abbrev Gives : ℕ → ℕ → Type 0
  Gives v w = T (has b w) × T (has (at t (base + v)) w)

  pub record Supporting2 (m first last : ℕ) : Type 0 where
    pub rest : Rest 16 a m
    pub narrow : first < 2 ^ 16
    pub firsts : Union Meets a m first
    pub lasts : Union Gives a m last

  pub supporting2_begin : a < 2 ^ 16 → Supporting2 a 0 0
  supporting2_begin h = record { rest = rest_begin 16 a h; narrow = omega arith; firsts = union_begin Meets a; lasts = union_begin Gives a }

  -- the lowest value v of those left
  pub supporting2_turn : (k m v m' : ℕ) {first s first' last last' : ℕ} → Supporting2 m first last → (m ≡ 0 → ⊥) → v ≡ lowest_of m → m' ≡ without_mask m (lowest_of m) → b < 2 ^ k →
      s ≡ one_if (not (eqb (bit_and (at t (base + v)) b) 0)) v → first' ≡ union_mask first s → last' ≡ bit_or last (bit_and (at t (base + v)) b) → Supporting2 m' first' last'
  supporting2_turn k m v m' {first} {s} {first'} {last} {last'} j n low less h e f l = record {
    rest = others_left a m v j.rest n low m' less;
    narrow = small _ first' f;
    firsts =
        others_union a m v j.rest n low m' less Meets first s first' j.firsts (f ∙ sym (union_op first s j.narrow (one_lt s (not (eqb x 0)) v e (lowest_left a m v j.rest n low).1)))
        (λ u q. subst (λ (z : ℕ). T (has z u)) (sym e) (subst (λ (z : ℕ). T (has (one_if (not (eqb x 0)) v) z)) (sym q.0)
        (one_i x v q.1.0 (and_i (at t (base + v)) b q.1.0 q.1.2 q.1.1))))
        (λ u q. let r = one_e k x v u (lt_of_le_of_lt (and_le_r (at t (base + v)) b) h) (subst (λ (z : ℕ). T (has z u)) e q) in let d = and_e (at t (base + v)) b r.1.0 r.1.1 in
        (r.0, (r.1.0, d.1, d.0)));
    lasts =
        others_union a m v j.rest n low m' less Gives last x last' j.lasts l
        (λ w q. and_i (at t (base + v)) b w q.1 q.0)
        (λ w q. let d = and_e (at t (base + v)) b w q in (d.1, d.0));
  }
    where
      x : ℕ
      x = bit_and (at t (base + v)) b

  pub supporting2_end : (m first last : ℕ) → m ≡ 0 → Supporting2 m first last → Supported2 t base a b first last
  supporting2_end m first last e j = record {
    first_i = λ v w q. union_end Meets a m first e j.firsts v v q.0 (refl, (w, q.1, q.2));
    first_e = λ v q. let r = j.firsts.got v q in (
      r.2.1.0,
      (
        subst (λ (z : ℕ). T (has a z)) (sym r.2.0) r.1,
        r.2.1.1,
        subst (λ (z : ℕ). T (has (at t (base + z)) r.2.1.0))
            (sym r.2.0) r.2.1.2,
      ),
    );
    last_i = λ v w q. union_end Gives a m last e j.lasts v w q.0 (q.1, q.2);
    last_e = λ w q. let r = j.lasts.got w q in (r.0, (r.1, r.2.0, r.2.1));
  }

  -- v gives something
  some_given : (k v : ℕ) → b < 2 ^ k → (bit_and (at t (base + v)) b ≡ 0 → ⊥) → (w : ℕ) × Gives v w
  some_given k v h n =
      let x = bit_and (at t (base + v)) b in
      let d = and_e (at t (base + v)) b (count_trailing_zeros k x) (low_has k x (omega arith) (lt_of_le_of_lt (and_le_r (at t (base + v)) b) h)).0 in
      (count_trailing_zeros k x, (d.1, d.0))

  -- each value passed gives something
  pub record Passing (m all : ℕ) : Type 0 where
    pub rest : Rest 16 a m
    pub firsts : (v : ℕ) → T (has a v) → ((w : ℕ) × Gives v w) ⊎ T (has m v)
    pub lasts : Union Gives a m all

  pub passing_begin : a < 2 ^ 16 → Passing a 0
  passing_begin h = record { rest = rest_begin 16 a h; firsts = λ v q. inr q; lasts = union_begin Gives a }

  pub passing_turn : (k m v m' : ℕ) {all all' : ℕ} → Passing m all → (m ≡ 0 → ⊥) → v ≡ lowest_of m → m' ≡ without_mask m (lowest_of m) → b < 2 ^ k →
      (bit_and (at t (base + v)) b ≡ 0 → ⊥) → all' ≡ bit_or all (bit_and (at t (base + v)) b) → Passing m' all'
  passing_turn k m v m' {all} {all'} j n low less h z l = record {
    rest = others_left a m v j.rest n low m' less;
    firsts = λ u q. ⊎_elim inl (λ r. ⊎_elim (λ o. inr o) (λ o. inl (subst (λ (i : ℕ). (w : ℕ) × Gives i w) (sym o) (some_given k v h z)))
        (others_or m v m' j.rest.0 n low less u r)) (j.firsts u q);
    lasts = others_union a m v j.rest n low m' less Gives all x all' j.lasts l (λ w q. and_i (at t (base + v)) b w q.1 q.0) (λ w q. let d = and_e (at t (base + v)) b w q in (d.1, d.0));
  }
    where
      x : ℕ
      x = bit_and (at t (base + v)) b

  pub passing_end : (m all : ℕ) → m ≡ 0 → Passing m all → Supported2 t base a b a all
  passing_end m all e j = record {
    first_i = λ v w q. q.0;
    first_e = λ v q. ⊎_elim (λ r. (r.0, (q, r.1.0, r.1.1))) (λ r. absurd (has_0 v (subst (λ (n : ℕ). T (has n v)) e r))) (j.firsts v q);
    last_i = λ v w q. union_end Gives a m all e j.lasts v w q.0 (q.1, q.2);
    last_e = λ w q. let r = j.lasts.got w q in (r.0, (r.1, r.2.0, r.2.1));
  }

-- ---- three sets by 256 sets of a table
module _ (t : List ℕ) (base a b e : ℕ) where
  -- where a has one value u, what goes together by the sixteen sets for u
  pub supported3_one : (u : ℕ) {second last : ℕ} → a < 2 ^ 16 → OneValue a → u ≡ lowest_of a → second < 2 ^ 16 → (second ≡ 0 → ⊥) → Supported2 t (base + 16 * u) b e second last → Supported3
      (Together3 t base a b e) a second last
  supported3_one u {second} h o low l n j = record {
    first_i = λ i v w q. q.0;
    first_e = λ i q. let m = member second l n in let r = j.first_e m.0 m.2 in (m.0, (r.0, (q, subst (λ (c : ℕ). Together t (base + 16 * c) b e m.0 r.0) (sym (is_u i q)) r.1)));
    second_i = λ i v w q. j.first_i v w (here i v w q);
    second_e = λ v q. let r = j.first_e v q in (u, (r.0, (u_has, r.1)));
    last_i = λ i v w q. j.last_i v w (here i v w q);
    last_e = λ w q. let r = j.last_e w q in (u, (r.0, (u_has, r.1)));
  }
    where
      u_has : T (has a u)
      u_has = (lowest_left a a u (rest_begin 16 a h) o.some low).0

      is_u : (i : ℕ) → T (has a i) → i ≡ u
      is_u i q = o.only i u q u_has

      here : (i v w : ℕ) → Together3 t base a b e i v w → Together t (base + 16 * u) b e v w
      here i v w q = subst (λ (c : ℕ). Together t (base + 16 * c) b e v w) (is_u i q.0) q.1

-- nothing goes together
pub supported3_none : {M : ℕ → ℕ → ℕ → Type 0} → ((u v w : ℕ) → M u v w → ⊥) → Supported3 M 0 0 0
supported3_none never = record {
  first_i = λ u v w q. absurd (never u v w q);
  first_e = λ u q. absurd (has_0 u q);
  second_i = λ u v w q. absurd (never u v w q);
  second_e = λ v q. absurd (has_0 v q);
  last_i = λ u v w q. absurd (never u v w q);
  last_e = λ w q. absurd (has_0 w q);
}

-- ---- three sets of values below 8 by numbers of eight lanes
-- the sets of constraint k in lanes by the first variable: of a value v of the second those of the third, and of a value w of the third those of the second
abbrev pub of_second : List ℕ → ℕ → ℕ → ℕ → ℕ
of_second supports k v u = at supports (256 * k + 16 * u + v)

abbrev pub of_third : List ℕ → ℕ → ℕ → ℕ → ℕ
of_third supports k w u = between supports k w u

module _ (supports : List ℕ) (k a b e : ℕ) (m : b < 2 ^ 8) where
  abbrev M : ℕ → ℕ → ℕ → Type 0
  M = Together3 supports (256 * k) a b e

  third_is : (u v w : ℕ) → T (has b v) → has (between supports k w u) v ≡ has (at supports (256 * k + 16 * u + v)) w
  third_is u v w t = has_mask 16 (λ v. has (at supports (256 * k + 16 * u + v)) w) v (omega (arith, has_lt 8 b v m t))

  -- along the lane of one value u
  pub lane_supported2 : (u : ℕ) {second last : ℕ} → InLane b u e (of_second supports k) last → InLane e u b (of_third supports k) second → Supported2 supports (256 * k + 16 * u) b e second last
  lane_supported2 u f g = record {
    first_i = λ v w q. g.lane_i w v q.1 q.0 (subst T (sym (third_is u v w q.0)) q.2);
    first_e = λ v q. let r = g.lane_e v q in (r.0, (r.2, r.1, subst T (third_is u v r.0 r.2) r.3));
    last_i = λ v w q. f.lane_i v w q.0 q.1 q.2;
    last_e = λ w q. let r = f.lane_e w q in (r.0, (r.1, r.2, r.3));
  }

  -- x and y have what goes together in all lanes
  pub union_both : {x y first second last : ℕ} → a < 2 ^ 8 → e < 2 ^ 8 → InLanes b a e (of_second supports k) x → InLanes e a b (of_third supports k) y → FullLanes x first → LaneUnion y second
      → LaneUnion x last → Supported3 (Together3 supports (256 * k) a b e) first second last
  union_both {x} {y} h l c d f g i = record {
    first_i = λ u v w q. let r = to u v w q in f.full_i u w r.0 r.2 r.3;
    first_e = λ u q. let r = f.full_e u q in let o = from u r.1.0 r.0 r.1.1 r.1.2 in (o.0, (r.1.0, o.1));
    second_i = λ u v w q. let r = to u v w q in g.union_i u v r.0 r.1 (d.lanes_i w u v q.1.1 q.0 q.1.0 (subst T (sym (third_is u v w q.1.0)) q.1.2));
    second_e = λ v q. let r = g.union_e v q in let o = d.lanes_e r.1.0 v r.1.1 r.0 r.1.2 in
        (r.1.0, (o.0, (o.2, (o.3, o.1, subst T (third_is r.1.0 v o.0 o.3) o.4))));
    last_i = λ u v w q. let r = to u v w q in i.union_i u w r.0 r.2 r.3;
    last_e = λ w q. let r = i.union_e w q in let o = from r.1.0 w r.1.1 r.0 r.1.2 in (r.1.0, (o.0, o.1));
  }
    where
      to : (u v w : ℕ) → M u v w → (u < 8) × (v < 8) × (w < 8) × T (has x (8 * u + w))
      to u v w q = (has_lt 8 a u h q.0, has_lt 8 b v m q.1.0, has_lt 8 e w l q.1.1, c.lanes_i v u w q.1.0 q.0 q.1.1 q.1.2)

      from : (u w : ℕ) → u < 8 → w < 8 → T (has x (8 * u + w)) → (v : ℕ) × M u v w
      from u w g h q = let r = c.lanes_e u w g h q in (r.0, (r.2, (r.1, r.3, r.4)))

-- ---- the numbers at the members of a set
abbrev pub Touches : List ℕ → ℕ → ℕ → Type 0
Touches numbers x k = T (has (at numbers (OTHERS + x)) k)

pub touched_all : (numbers : List ℕ) (a m all : ℕ) → m ≡ 0 → Union (Touches numbers) a m all → Touched numbers a all
touched_all numbers a m all e u = record {
  touched_i = λ x k t q. union_end (Touches numbers) a m all e u x k t q;
  touched_e = λ k t. u.got k t;
}
