-- The loop of `constrain`: constraints by variable and the others by turns, and its ends. Assumes nothing.
use Rattle.model.specs.Kit.{◌≡◌, refl, sym, ap, ◌∙◌, subst, Bool, true, false, not, inl, inr, ⊎_elim, List, Memᴰ, ℕ, ◌+◌, ◌-◌, ◌^◌, ◌≤◌, ◌<◌, lt_of_le_of_lt, arith, T, eqb, length, bit_and, bit_or}
use Rattle.model.specs.Kit.{and_le_l, count_trailing_zeros}
use Rattle.model.specs.{Lists.both, Lists.either, Lists.any, Lists.at, ValueSets.has, ValueSets.Inside, Problem.Problem, Problem.constraint_at, Inner.Pruning.Sets}
use Rattle.model.proofs.Lists.{T_of, of_T, not_of, of_not, both_i, both_l, either_l, either_r, either_e, among_i}
use Rattle.model.proofs.{Sets.has_none, Sets.has_lt, Sets.member, Sets.size, Sets.size_inside, Masks.has_or, Masks.has_and, Members.low_has, Members.or_i, Members.or_e, Members.and_e, Firsts.take_at}
use Rattle.model.proofs.{Firsts.take_e, Firsts.take_i, Firsts.full_take, Prunes.prunes_none, Prunes.prunes_then}
use Rattle.arrays.specs.{Inner.Places.LINKED, Inner.Places.OTHERS, Inner.Tables.is_by_rows, Inner.Pruning.Given, Inner.Pruning.Lessened, Inner.Pruning.Ended}
use Rattle.arrays.specs.Inner.Pruning.{Fixed, Arc, sets_of}
use Rattle.arrays.proofs.Links.{good}
use Rattle.prune_constraints.specs.{Inner.Steps.Touched, Inner.LookUps.LookedLeft}
use Rattle.prune_constraints.proofs.{Rows.fixed_kept, Touching.touched_of, Touching.touched_of_lem}
use Rattle.prune.specs.Inner.Steps.{ArraysHold, Pending, PrunedSoFar, AllConstrained, AllConstrainedOr}
use Rattle.prune.proofs.Arcs.{arc_kept, arc_free, arcs_fixed}
use Rattle.prune_pairs.specs.Inner.Links as links
use Rattle.prune_constraints.specs.Inner.Revised as revised

-- ---- what has happened to the sets before a turn
pub pruned_none : (p : Problem) (ds : List ℕ) → PrunedSoFar p ds ds
pruned_none p ds = record { ways = λ prefix. prunes_none p prefix (sets_of p ds); less = λ x v t. t; unused = λ x h. refl }

pub pruned_more : (p : Problem) (ds es fs : List ℕ) (changed : ℕ) → PrunedSoFar p ds es → Lessened p es fs changed → PrunedSoFar p ds fs
pruned_more p ds es fs changed r l = record {
  ways = λ prefix. prunes_then p prefix (sets_of p ds) (sets_of p es) (sets_of p fs) (r.ways prefix) (l.ways prefix);
  less = λ x v t. r.less x v (l.less x v t);
  unused = λ x h. l.kept x (not_of (has changed x) (λ t. let i = l.few x t in omega arith)) ∙ r.unused x h;
}

pub ended_more : (p : Problem) (ds es : List ℕ) → PrunedSoFar p ds es → Ended p es → Ended p ds
ended_more p ds es r e = (e.0, (λ prefix. prunes_then p prefix (sets_of p ds) (sets_of p es) e.0 (r.ways prefix) (e.1.0 prefix), e.1.1))

pub all_constrained_dead : (p : Problem) (ds es : List ℕ) → Ended p ds → AllConstrainedOr p ds es true
all_constrained_dead p ds es e = record { ended = λ q. e; all_constrained = λ q. absurd (subst T q tt) }

pub all_constrained_live : (p : Problem) (ds es : List ℕ) → AllConstrained p ds es → AllConstrainedOr p ds es false
all_constrained_live p ds es e = record { ended = λ q. absurd (subst T (sym q) tt); all_constrained = λ q. e }

module _ {p : Problem} {supports tables numbers : List ℕ} (s : ArraysHold p supports tables numbers) where
  n_few : p.variables ≤ 16
  n_few = omega (arith, s.well_formed.few)

  -- a set of p's that is pruned has a value
  some_value : (es : List ℕ) → Given p es → (x : ℕ) → x < p.variables → (v : ℕ) × T (has (at (sets_of p es) x) v)
  some_value es g x h =
      let m = member (at es x) (g.sixteen.1 x) (full_take p.variables es g.sixteen n_few g.full x h) in
      (m.0, take_i p.variables es g.sixteen n_few x m.0 h m.2)

  pub take_less : (es fs : List ℕ) → Sets 16 es → Sets 16 fs → Inside fs es → Inside (sets_of p fs) (sets_of p es)
  take_less es fs a b i x v t = let r = take_e p.variables fs b n_few x v t in take_i p.variables es a n_few x v r.0 (i x v r.1)

  take_same : (es fs : List ℕ) → Sets 16 es → Sets 16 fs → (x : ℕ) → x < p.variables → at fs x ≡ at es x → at (sets_of p fs) x ≡ at (sets_of p es) x
  take_same es fs a b x h e = take_at p.variables fs b n_few x h ∙ e ∙ sym (take_at p.variables es a n_few x h)

  pub given_more : (es fs : List ℕ) (changed : ℕ) → Given p es → Lessened p es fs changed → Given p fs
  given_more es fs changed g l = record {
    sixteen = l.sixteen;
    full = l.full;
    inside = λ x v t. g.inside x v (take_less es fs g.sixteen l.sixteen l.less x v t);
  }

  -- ---- a constraint without a changed variable keeps what it had
  pub still_fixed : (es fs : List ℕ) (changed left : ℕ) → Sets 16 es → Sets 16 fs → ((x : ℕ) → x < p.variables → has changed x ≡ false → at fs x ≡ at es x) → Touched numbers changed left →
      (k : ℕ) → k < length p.constraints → has left k ≡ false → is_by_rows p k ≡ false → Fixed (sets_of p es) (constraint_at p k) → Fixed (sets_of p fs) (constraint_at p k)
  still_fixed es fs changed left a b kept u k h f r fixed =
      fixed_kept (constraint_at p k) (sets_of p es) (sets_of p fs) fixed
      (λ y m. let i = (good s.well_formed k h).inside y m in take_same es fs a b y i (kept y i (not_of (has changed y) (λ t. of_not (has left k) f (u.touched_i y k t (touches y k h r i m))))))
    where
      touches : (y k : ℕ) → k < length p.constraints → is_by_rows p k ≡ false → y < p.variables → Memᴰ y (constraint_at p k).scope → T (has (at numbers (OTHERS + y)) k)
      touches y k h r i m =
          T_of (has (at numbers (OTHERS + y)) k)
          (s.indexed.linked.touching y k (omega (arith, n_few)) h
          ∙ of_T (both (any (eqb y) (constraint_at p k).scope) (not (is_by_rows p k))) (both_i (any (eqb y) (constraint_at p k).scope) (not (is_by_rows p k)) (among_i y (constraint_at p k).scope m)
          (T_of (not (is_by_rows p k)) (ap not r))))

  pub touched_known : (changed left : ℕ) → Touched numbers changed left → ((x : ℕ) → T (has changed x) → x < 16) → (k : ℕ) → T (has left k) → k < length p.constraints
  touched_known changed left u few k t = let x = u.touched_e k t in has_lt (length p.constraints) (at numbers (OTHERS + x.0)) k
      (s.indexed.linked.touching_few x.0 (few x.0 x.1)) x.2

  -- ---- the arcs of a variable that did not change, or that is in no constraint by variable, stay
  pub still_arc : (es fs : List ℕ) (changed moved : ℕ) → Given p es → Given p fs → Inside fs es → ((x : ℕ) → x < p.variables → has changed x ≡ false → at fs x ≡ at es x) → moved ≡ bit_and changed
      (at numbers LINKED) →
      (x : ℕ) → x < p.variables → has moved x ≡ false → Arc p (sets_of p es) x → Arc p (sets_of p fs) x
  still_arc es fs changed moved a b less kept q x h f arc = go (has changed x) refl
    where
      go : (c : Bool) → has changed x ≡ c → Arc p (sets_of p fs) x
      go true e =
          let z = some_value fs b x h in
          arc_free p numbers s.indexed.linked (sets_of p fs) x z.0
          (not_of (has (at numbers LINKED) x) (λ t. of_not (has moved x) f (subst (λ (m : ℕ). T (has m x)) (sym q)
          (subst T (sym (has_and changed (at numbers LINKED) x)) (both_i (has changed x) (has (at numbers LINKED) x) (T_of (has changed x) e) t)))))
          z.1
      go false e = arc_kept p (sets_of p es) (sets_of p fs) x (take_less es fs a.sixteen b.sixteen less) (take_same es fs a.sixteen b.sixteen x h (kept x h e)) arc

  -- ---- nothing is due: no constraint takes anything
  pub nothing_due : {ds es : List ℕ} {todo dirty : ℕ} → PrunedSoFar p ds es → Pending p numbers es todo dirty → todo ≡ 0 → dirty ≡ 0 → AllConstrained p ds es
  nothing_due {es = es} r w t d = record { so_far = r; given = w.given; fixed = λ k h. go k h (is_by_rows p k) refl; arcs = arcs }
    where
      none : (a i : ℕ) → a ≡ 0 → has a i ≡ false
      none a i e = ap (λ (n : ℕ). has n i) e ∙ has_none i

      arcs : (x : ℕ) → x < p.variables → Arc p (sets_of p es) x
      arcs x h = w.arcs x h (none _ x d)

      go : (k : ℕ) → k < length p.constraints → (b : Bool) → is_by_rows p k ≡ b → Fixed (sets_of p es) (constraint_at p k)
      go k h true e = arcs_fixed p (sets_of p es) (good s.well_formed) k h (T_of (is_by_rows p k) e) arcs
      go k h false e = w.others k h (none _ k t) e

  module _ {es : List ℕ} {left moved : ℕ} (w : Pending p numbers es left moved) where
    pub constraints_pending : revised.ConstraintsPending p numbers supports es left
    constraints_pending = record {
      given = w.given;
      well_formed = s.well_formed;
      numbered = s.indexed.numbered;
      tabled = s.indexed.supported;
      linked = s.indexed.linked;
      worded = s.indexed.worded;
      known = w.known;
      others = w.others;
    }

    -- ---- look-ups leave fs of es
    module _ {fs : List ℕ} {looks looked : ℕ} (l : LookedLeft p numbers supports es fs left looks looked) where
      pub looked_few : (x : ℕ) → T (has looked x) → x < 16
      looked_few x t = let i = l.lessened.few x t in omega (arith, n_few)

      after : revised.ConstraintsPending p numbers supports fs (bit_or (bit_and left ((2 ^ 64 - 1) - looks)) (touched_of numbers looked))
      after = l.pending (touched_of numbers looked) (touched_of_lem s.indexed.linked s.well_formed.most looked looked_few)

      -- the variables that changed are dirty too
      pub looks_turn : Pending p numbers fs (bit_or (bit_and left ((2 ^ 64 - 1) - looks)) (touched_of numbers looked)) (bit_or moved (bit_and looked (at numbers LINKED)))
      looks_turn = record {
        given = after.given;
        known = after.known;
        others = after.others;
        inner = λ x t. ⊎_elim (w.inner x) (λ q. l.lessened.few x (and_e looked (at numbers LINKED) x q).0) (or_e moved (bit_and looked (at numbers LINKED)) x t);
        arcs = λ x h f.
            still_arc es fs looked (bit_and looked (at numbers LINKED)) w.given after.given l.lessened.less (λ y i e. l.lessened.kept y e) refl x h
            (not_of (has (bit_and looked (at numbers LINKED)) x)
            (λ t. of_not (has (bit_or moved (bit_and looked (at numbers LINKED))) x) f (or_i moved (bit_and looked (at numbers LINKED)) x (inr t))))
            (w.arcs x h (not_of (has moved x) (λ t. of_not (has (bit_or moved (bit_and looked (at numbers LINKED))) x) f (or_i moved (bit_and looked (at numbers LINKED)) x (inl t)))));
      }

    -- ---- the first half of a turn: the constraints by variable leave fs of es
    pub arcs_pending : links.ArcsPending p numbers tables es moved
    arcs_pending = record {
      given = w.given;
      well_formed = s.well_formed;
      linked = s.indexed.linked;
      rowed = s.indexed.rowed;
      known = w.inner;
      arcs = w.arcs;
    }

    module _ {fs : List ℕ} {cut : ℕ} (l : links.ArcsLeft p es fs cut) where
      pub arcs_pruned : (ds : List ℕ) → PrunedSoFar p ds es → PrunedSoFar p ds fs
      arcs_pruned ds r = pruned_more p ds es fs cut r l.lessened

      pub arcs_size : size fs ≤ size es
      arcs_size = size_inside fs es (l.lessened.sixteen.0 ∙ sym w.given.sixteen.0) l.lessened.less

      module _ {touched due : ℕ} (u : Touched numbers cut touched) (d : due ≡ bit_or left touched) where
        has_due : (k : ℕ) → has due k ≡ either (has left k) (has touched k)
        has_due k = ap (λ (n : ℕ). has n k) d ∙ has_or left touched k

        -- no variable is dirty, and the constraints of those that changed are due too
        pub arcs_turn : Pending p numbers fs due 0
        arcs_turn = record {
          given = given_more es fs cut w.given l.lessened;
          known = λ k t. ⊎_elim (λ a. w.known k a) (λ a. touched_known cut touched u (λ x b. let i = l.lessened.few x b in omega (arith, n_few)) k a)
              (either_e (has left k) (has touched k) (subst T (has_due k) t));
          others = λ k h f r.
              still_fixed es fs cut touched w.given.sixteen l.lessened.sixteen (λ x i e. l.lessened.kept x e) u k h
              (not_of (has touched k) (λ t. of_not (has due k) f (subst T (sym (has_due k)) (either_r (has left k) (has touched k) t)))) r
              (w.others k h (not_of (has left k) (λ t. of_not (has due k) f (subst T (sym (has_due k)) (either_l (has left k) (has touched k) t)))) r);
          inner = λ x t. absurd (of_not (has 0 x) (has_none x) t);
          arcs = λ x h f. l.arcs x h;
        }

  -- ---- the second half: the other constraints leave gs of fs
  module _ {fs : List ℕ} {due : ℕ} (w : Pending p numbers fs due 0) where
    module _ {gs : List ℕ} {pruned : ℕ} (c : revised.ConstraintsLeft p fs gs pruned) {next : ℕ} (q : next ≡ bit_and pruned (at numbers LINKED)) where
      given_2 : Given p gs
      given_2 = given_more fs gs pruned w.given c.lessened

      pub pending_turn : Pending p numbers gs 0 next
      pending_turn = record {
        given = given_2;
        known = λ k t. absurd (of_not (has 0 k) (has_none k) t);
        others = λ k h f r. c.fixed k h r;
        inner = λ x t. c.lessened.few x (both_l (has pruned x) (has (at numbers LINKED) x) (subst T (ap (λ (n : ℕ). has n x) q ∙ has_and pruned (at numbers LINKED) x) t));
        arcs = λ x h f. still_arc fs gs pruned next w.given given_2 c.lessened.less (λ y i e. c.lessened.kept y e) q x h f (w.arcs x h (has_none x));
      }

      pub pruned_turn : (ds : List ℕ) → PrunedSoFar p ds fs → PrunedSoFar p ds gs
      pruned_turn ds r = pruned_more p ds fs gs pruned r c.lessened

      pub pending_less : pruned < 2 ^ 64 → (next ≡ 0 → ⊥) → size gs < size fs
      pending_less h n =
          let m = (low_has 64 next (omega arith) (subst (λ (z : ℕ). z < 2 ^ 64) (sym q) (lt_of_le_of_lt (and_le_l pruned (at numbers LINKED)) h))).0 in
          c.smaller (count_trailing_zeros 64 next) (both_l (has pruned (count_trailing_zeros 64 next)) (has (at numbers LINKED) (count_trailing_zeros 64 next))
          (subst T (ap (λ (z : ℕ). has z (count_trailing_zeros 64 next)) q ∙ has_and pruned (at numbers LINKED) (count_trailing_zeros 64 next)) m))
