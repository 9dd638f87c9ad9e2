-- The loop of `arcs`: what holds before each turn, one turn, and both ends. Assumes nothing.
use Rattle.model.specs.Kit.{◌≡◌, refl, sym, ap, ◌∙◌, subst, false, ◌⊎◌, inl, inr, ⊎_elim, List, ℕ, ◌+◌, ◌-◌, ◌*◌, ◌^◌, ◌≤◌, ◌<◌, lt_of_le_of_lt, arith, dec_lt, T, bit_and, bit_or, and_le_l, or_lt}
use Rattle.model.specs.Kit.{count_trailing_zeros}
use Rattle.model.specs.{Lists.at, ValueSets.has, ValueSets.Inside, Problem.Problem}
use lib.Bits.{or_zero_r}
use Rattle.model.proofs.{Lists.TDec, Lists.not_of, Lists.of_not, Sets.has_none, Sets.mask_ext, Sets.inside_antisym, Sets.size, Sets.size_strict, Members.has_0, Members.or_i, Members.or_e}
use Rattle.model.proofs.{Members.low_has, Members.rest_e, Members.rest_i, Members.rest_less, Firsts.take_e, Firsts.take_i, Prunes.prunes_none, Prunes.prunes_then}
use Rattle.arrays.specs.{Inner.Places.LOOSE, Inner.Pruning.Given, Inner.Pruning.Lessened, Inner.Pruning.Arc, Inner.Pruning.sets_of}
use Rattle.prune_pairs.specs.{Inner.Links.ArcsPending, Inner.Links.Settled, Inner.Links.Dead, Inner.Links.ArcsLeft, Inner.Steps.CanCut, Inner.Steps.ArcLeft}
use Rattle.prune_pairs.proofs.{Settled.settled_goes, Settled.settled_stays}

pub record ArcsSoFar (p : Problem) (ds es : List ℕ) (left all low : ℕ) : Type 0 where
  pub wide : left < 2 ^ 64
  pub given : Given p es
  pub lessened : Lessened p ds es all
  pub known : (x : ℕ) → T (has left x) → x < p.variables
  pub arcs : (x : ℕ) → x < p.variables → has left x ≡ false → Arc p (sets_of p es) x
  pub settled : Settled es left low

module _ {p : Problem} {numbers tables ds : List ℕ} {dirty : ℕ} (w : ArcsPending p numbers tables ds dirty) where
  few : p.variables ≤ 12
  few = w.well_formed.few

  sixteen : p.variables ≤ 16
  sixteen = omega (arith, few)

  pub arcs_begin : {low : ℕ} → dirty < 2 ^ 64 → Settled ds dirty low → ArcsSoFar p ds ds dirty 0 low
  arcs_begin h s = record {
    wide = h;
    given = w.given;
    lessened = record {
      ways = λ prefix. prunes_none p prefix (sets_of p ds);
      sixteen = w.given.sixteen;
      full = w.given.full;
      less = λ x v t. t;
      kept = λ x e. refl;
      few = λ x t. absurd (has_0 x t);
    };
    known = w.known;
    arcs = w.arcs;
    settled = s;
  }

  pub arcs_end : {es : List ℕ} {left all low : ℕ} → ArcsSoFar p ds es left all low → left ≡ 0 → ArcsLeft p ds es all
  arcs_end t e = record { lessened = t.lessened; arcs = λ x l. t.arcs x l (ap (λ (m : ℕ). has m x) e ∙ has_none x) }

  -- ---- one turn, by the first variable that is left
  module _ {es : List ℕ} {left all low : ℕ} (t : ArcsSoFar p ds es left all low) (n : left ≡ 0 → ⊥) where
    some : 0 < left
    some = omega arith

    x_in : T (has left (count_trailing_zeros 64 left))
    x_in = (low_has 64 left some t.wide).0

    pub arcs_lt : count_trailing_zeros 64 left < 12
    arcs_lt = let l = t.known (count_trailing_zeros 64 left) x_in in omega (arith, few)

    pub arcs_ready : CanCut p tables es (at numbers LOOSE) (count_trailing_zeros 64 left) low
    arcs_ready = record {
      given = t.given;
      well_formed = w.well_formed;
      rowed = w.rowed;
      loosely = λ u v y z. w.linked.loose (count_trailing_zeros 64 left) u v y z;
      known = t.known (count_trailing_zeros 64 left) x_in;
      settled = λ v y z h i q. settled_goes p es sixteen t.given.sixteen y (t.settled.single y h) i (t.arcs y i (t.settled.clean y h)) (count_trailing_zeros 64 left) v z
          (λ e. of_not (has left y) (t.settled.clean y h) (subst (λ (j : ℕ). T (has left j)) e x_in)) (t.known (count_trailing_zeros 64 left) x_in) q;
    }

    pub arcs_dead : {fs : List ℕ} → Dead p es fs → Dead p ds fs
    arcs_dead k =
        let d = k.ended in
        record {
          ended = (d.0, (λ prefix. prunes_then p prefix (sets_of p ds) (sets_of p es) d.0 (t.lessened.ways prefix) (d.1.0 prefix), d.1.1));
          sixteen = k.sixteen;
          less = λ x v q. t.lessened.less x v (k.less x v q);
        }

    module _ {fs : List ℕ} {changed : ℕ} (k : ArcLeft p es fs (count_trailing_zeros 64 left) changed) where
      l : Lessened p es fs changed
      l = k.lessened

      abbrev next : ℕ
      next = bit_or (bit_and left (left - 1)) changed

      less_first : Inside (sets_of p fs) (sets_of p es)
      less_first y v q =
          let z = take_e p.variables fs l.sixteen sixteen y v q in
          take_i p.variables es t.given.sixteen sixteen y v z.0 (l.less y v z.1)

      turn_given : Given p fs
      turn_given = record { sixteen = l.sixteen; full = l.full; inside = λ y v q. t.given.inside y v (less_first y v q) }

      turn_lessened : Lessened p ds fs (bit_or all changed)
      turn_lessened = record {
        ways = λ prefix. prunes_then p prefix (sets_of p ds) (sets_of p es) (sets_of p fs) (t.lessened.ways prefix) (l.ways prefix);
        sixteen = l.sixteen;
        full = l.full;
        less = λ y v q. t.lessened.less y v (l.less y v q);
        kept = λ y e. l.kept y (not_of (has changed y) (λ q. of_not (has (bit_or all changed) y) e (or_i all changed y (inr q))))
            ∙ t.lessened.kept y (not_of (has all y) (λ q. of_not (has (bit_or all changed) y) e (or_i all changed y (inl q))));
        few = λ y q. ⊎_elim (t.lessened.few y) (l.few y) (or_e all changed y q);
      }

      turn_known : (y : ℕ) → T (has next y) → y < p.variables
      turn_known y q = ⊎_elim (λ z. t.known y (rest_e 64 left some t.wide y z)) (l.few y) (or_e (bit_and left (left - 1)) changed y q)

      -- where the set of y stays, the others only shrink
      arc_stays : (y : ℕ) → y < p.variables → at fs y ≡ at es y → Arc p (sets_of p es) y → Arc p (sets_of p fs) y
      arc_stays y h e a z v q =
          let r = a z v (less_first z v q) in
          let i = take_e p.variables es t.given.sixteen sixteen y r.0 r.1.0 in
          (r.0, (take_i p.variables fs l.sixteen sixteen y r.0 h (subst (λ (s : ℕ). T (has s r.0)) (sym e) i.1), r.1.1))

      turn_arcs : (y : ℕ) → y < p.variables → has next y ≡ false → Arc p (sets_of p fs) y
      turn_arcs y h e = go (TDec (has left y))
        where
          still : at fs y ≡ at es y
          still = l.kept y (not_of (has changed y) (λ q. of_not (has next y) e (or_i (bit_and left (left - 1)) changed y (inr q))))

          first : T (has (bit_and left (left - 1)) y) ⊎ (y ≡ count_trailing_zeros 64 left) → Arc p (sets_of p fs) y
          first (inl q) = absurd (of_not (has next y) e (or_i (bit_and left (left - 1)) changed y (inl q)))
          first (inr q) = subst (Arc p (sets_of p fs)) (sym q) k.arc

          go : T (has left y) ⊎ (T (has left y) → ⊥) → Arc p (sets_of p fs) y
          go (inl q) = first (rest_i 64 left some t.wide y q)
          go (inr q) = arc_stays y h still (t.arcs y h (not_of (has left y) q))

      turn_settled : Settled fs next low
      turn_settled = record {
        clean = λ y h. not_of (has next y)
            (λ q. ⊎_elim (λ z. of_not (has left y) (t.settled.clean y h) (rest_e 64 left some t.wide y z))
            (of_not (has changed y) (settled_stays p es sixteen t.given.sixteen y (t.settled.single y h) l k.changed)) (or_e (bit_and left (left - 1)) changed y q));
        single = λ y h u v a b. t.settled.single y h u v (l.less y u a) (l.less y v b);
      }

      next_wide : changed < 2 ^ 64 → next < 2 ^ 64
      next_wide h = or_lt 64 (bit_and left (left - 1)) changed (lt_of_le_of_lt (and_le_l left (left - 1)) t.wide) h

      pub arcs_turn : changed < 2 ^ 64 → ArcsSoFar p ds fs (bit_or (bit_and left (left - 1)) changed) (bit_or all changed) low
      arcs_turn h = record {
        wide = next_wide h;
        given = turn_given;
        lessened = turn_lessened;
        known = turn_known;
        arcs = turn_arcs;
        settled = turn_settled;
      }

      -- the measure falls: a set loses a value, or a variable less is left
      pub arcs_less : changed < 2 ^ 64 → size fs * 2 ^ 64 + bit_or (bit_and left (left - 1)) changed < size es * 2 ^ 64 + left
      arcs_less h = go (dec_lt (size fs) (size es))
        where
          go : Dec (size fs < size es) → size fs * 2 ^ 64 + next < size es * 2 ^ 64 + left
          go (yes f) = let s : next < 2 ^ 64 = next_wide h in omega arith
          go (no f) =
              let e : fs ≡ es = inside_antisym 16 fs es l.sixteen t.given.sixteen l.less
              (size_strict fs es (l.sixteen.0 ∙ sym t.given.sixteen.0) t.given.sixteen.1 l.less (omega arith)) in
              let none : changed ≡ 0 = mask_ext 64 changed 0 h (omega arith) (λ y b. not_of (has changed y) (λ q. k.changed y q (ap (λ (s : List ℕ). at s y) e)) ∙ sym (has_none y)) in
              let q : next ≡ bit_and left (left - 1) = ap (bit_or (bit_and left (left - 1))) none ∙ or_zero_r (bit_and left (left - 1)) in
              let r : bit_and left (left - 1) < left = rest_less left n in
              let z : size fs ≡ size es = ap size e in
              omega arith
