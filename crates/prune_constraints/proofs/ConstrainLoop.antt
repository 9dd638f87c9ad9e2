-- The loops of `constrain8` and `constrain16`: what holds before each turn, one turn, and both ends, whichever constraints a round takes. Assumes nothing.
use Rattle.model.specs.Kit.{◌≡◌, refl, sym, ap, ◌∙◌, subst, Bool, true, false, not, ◌⊎◌, inl, inr, ⊎_elim, List, Memᴰ, ℕ, ◌+◌, ◌-◌, ◌*◌, ◌^◌, ◌≤◌, ◌<◌, lt_of_le_of_lt, arith, ℕ_discrete, T, eqb}
use Rattle.model.specs.Kit.{ltb, length, bit_and, bit_or, and_le_l, or_lt, count_trailing_zeros, ltb-true, ltb-false, eqb-true, eq-eqb}
use Rattle.model.specs.{Lists.both, Lists.any, Lists.at, ValueSets.has, ValueSets.Inside, Problem.Problem, Problem.Constraint, Problem.constraint_at, Inner.Pruning.Sets, Inner.Pruning.Prunes}
use Rattle.model.specs.{Inner.WellFormed.GoodConstraint}
use lib.Bits.{or_zero_r, or_disjoint}
use lib.Pow.{pow_mono}
use Rattle.model.proofs.{Lists.T_of, Lists.of_T, Lists.TExt, Lists.not_of, Lists.of_not, Lists.both_i, Lists.both_r, Lists.among_i, Lists.among_e, Lists.ascending_sorted, Sets.has_none, Sets.has_lt}
use Rattle.model.proofs.{Sets.mask_ext, Sets.inside_antisym, Sets.size, Sets.size_inside, Sets.size_strict, Members.low_has, Members.rest_e, Members.rest_i, Members.rest_less}
use Rattle.model.proofs.{Members.has_0, Members.or_i, Members.or_e, Members.and_e, Firsts.take_i, Firsts.take_full, Firsts.take_empty, Firsts.full_take, Prunes.prunes_none, Prunes.prunes_then}
use Rattle.arrays.specs.{Inner.Places.VALUES, Inner.Places.OTHERS, Inner.Tables.Linked, Inner.Tables.is_by_rows, Inner.Pruning.Fixed, Inner.Pruning.sets_of}
use Rattle.arrays.proofs.Links.{is_one, good}
use Rattle.prune_constraints.specs.Inner.Revised.{revised, Emptied, Pruned, ConstraintsPending, Dead, ConstraintsLeft}
use Rattle.prune_constraints.specs.Inner.Steps.{ConstraintsHeld, Nonempty, Narrow, Waiting, Round}
use Rattle.prune_constraints.proofs.Rows.{revised_sets, revised_inside, revised_fixed, revised_out, fixed_kept}
use Rattle.prune_constraints.proofs.{Bits.without_has, Bits.inside_le, Removal.fixed_take, Removal.fixed_all, Removal.revised_prunes}

-- ---- what a revision changed
module _ (c : Constraint) (ds es : List ℕ) (changed : ℕ) (s : Sets 16 ds) (r : Pruned c ds es changed) where
  still : (x : ℕ) → has changed x ≡ false → at es x ≡ at ds x
  still x e = go (eqb (at es x) (at ds x)) refl
    where
      go : (b : Bool) → eqb (at es x) (at ds x) ≡ b → at es x ≡ at ds x
      go true q = eqb-true (at es x) (at ds x) q
      go false q = absurd (of_not (has changed x) e (T_of (has changed x) (r.moved x ∙ ap not q)))

  differs : (x : ℕ) → T (has changed x) → at es x ≡ at ds x → ⊥
  differs x t e = subst T (r.moved x ∙ ap not (eq-eqb (at es x) (at ds x) e)) t

  in_scope_if : (x : ℕ) → T (has changed x) → Memᴰ x c.scope
  in_scope_if x t = go (any (eqb x) c.scope) refl
    where
      go : (b : Bool) → any (eqb x) c.scope ≡ b → Memᴰ x c.scope
      go true e = among_e x c.scope (T_of (any (eqb x) c.scope) e)
      go false e = absurd (differs x t (ap (λ (l : List ℕ). at l x) r.sets ∙ revised_out ds c s.1 x (λ m. of_not (any (eqb x) c.scope) e (among_i x c.scope m))))

  after : Sets 16 es
  after = subst (Sets 16) (sym r.sets) (revised_sets ds c 16 s.0)

  inside : Inside es ds
  inside = subst (λ (l : List ℕ). Inside l ds) (sym r.sets) (revised_inside ds c)

  -- the sets have no more values, and fewer where one changed
  fewer : size es ≤ size ds
  fewer = size_inside es ds (after.0 ∙ sym s.0) inside

  less_if : (x : ℕ) → T (has changed x) → size es < size ds
  less_if x t = go (ltb (size es) (size ds)) refl
    where
      go : (b : Bool) → ltb (size es) (size ds) ≡ b → size es < size ds
      go true q = ltb-true (size es) (size ds) q
      go false q = absurd (differs x t (ap (λ (l : List ℕ). at l x) (inside_antisym 16 es ds after s inside
          (size_strict es ds (after.0 ∙ sym s.0) s.1 inside (ltb-false (size es) (size ds) q)))))

-- a constraint that is not pruned by variable is among the others of each variable of its scope
among_others : {p : Problem} {numbers : List ℕ} → Linked p numbers → (k : ℕ) → k < length p.constraints → is_by_rows p k ≡ false → (y : ℕ) → y < 16 → Memᴰ y (constraint_at p k).scope → T
    (has (at numbers (OTHERS + y)) k)
among_others {p} {numbers} n k h b y l m =
    T_of (has (at numbers (OTHERS + y)) k)
    (n.touching y k l h ∙ of_T (both (any (eqb y) (constraint_at p k).scope) (not (is_by_rows p k)))
    (both_i (any (eqb y) (constraint_at p k).scope) (not (is_by_rows p k)) (among_i y (constraint_at p k).scope m) (T_of (not (is_by_rows p k)) (ap not b))))

-- ---- a round is taken out of what is due
abbrev pub without : ℕ → ℕ → ℕ
without due round = bit_and due ((2 ^ 64 - 1) - round)

module _ {due round : ℕ} (h : due < 2 ^ 64) (i : round < 2 ^ 64) where
  rest_is : (k : ℕ) → k < 64 → has (without due round) k ≡ both (has due k) (not (has round k))
  rest_is k l = without_has 64 due round k i l

  in_or_out : (k : ℕ) → T (has due k) → T (has round k) ⊎ T (has (without due round) k)
  in_or_out k t = go (has round k) refl
    where
      go : (b : Bool) → has round k ≡ b → T (has round k) ⊎ T (has (without due round) k)
      go true e = inl (T_of (has round k) e)
      go false e = inr (subst T (sym (rest_is k (has_lt 64 due k h t))) (both_i (has due k) (not (has round k)) t (T_of (not (has round k)) (ap not e))))

  -- nothing is in both, and nothing is lost
  parts_sum : Round due round → round + without due round ≡ due
  parts_sum r = sym (or_disjoint round rest none) ∙ mask_ext 64 (bit_or round rest) due (or_lt 64 round rest i rest_lt) h whole
    where
      rest : ℕ
      rest = without due round

      rest_lt : rest < 2 ^ 64
      rest_lt = lt_of_le_of_lt (and_le_l due ((2 ^ 64 - 1) - round)) h

      none : bit_and round rest ≡ 0
      none =
          mask_ext 64 (bit_and round rest) 0 (lt_of_le_of_lt (and_le_l round rest) i) (omega arith)
          (λ k l. not_of (has (bit_and round rest) k) (λ t. let q = and_e round rest k t in subst T (ap not (of_T (has round k) q.0))
          (both_r (has due k) (not (has round k)) (subst T (rest_is k l) q.1))) ∙ sym (has_none k))

      whole : (k : ℕ) → k < 64 → has (bit_or round rest) k ≡ has due k
      whole k l = TExt (has (bit_or round rest) k) (has due k) (λ t. ⊎_elim (r.inside k) (λ q. (and_e due ((2 ^ 64 - 1) - round) k q).0) (or_e round rest k t)) (λ t. or_i round rest k (in_or_out k t))

-- the round before is at its end and the next is chosen, or it goes on
abbrev pub Chosen : ℕ → ℕ → ℕ → ℕ → Type 0
Chosen left next l m = ((left ≡ 0) × (l < 2 ^ 64) × Round next l × (m ≡ without next l)) ⊎ ((left ≡ 0 → ⊥) × (l ≡ left) × (m ≡ next))

-- a round of some that are due, and one of all
pub some_due : {left next l m r : ℕ} → left ≡ 0 → r < 2 ^ 64 → Round next r → l ≡ r → m ≡ without next r → Chosen left next l m
some_due {left} {next} {l} {m} e h r f g = subst (λ (i : ℕ). Chosen left next i m) (sym f) (inl (e, h, r, g))

pub all_due : {left next l m : ℕ} → left ≡ 0 → next < 2 ^ 64 → (next ≡ 0 → ⊥) → l ≡ next → m ≡ 0 → Chosen left next l m
all_due {next = next} e h n f g = some_due e h all f (let s = parts_sum h h all in omega (arith, g))
  where
    all : Round next next
    all = record { some = n; inside = λ k t. t }

pub chosen_some : {left next l m : ℕ} → Chosen left next l m → l ≡ 0 → ⊥
chosen_some (inl q) e = q.2.some e
chosen_some (inr q) e = q.0 (sym q.1 ∙ e)

chosen_sum : {left next l m : ℕ} → next < 2 ^ 64 → Chosen left next l m → l + m ≡ left + next
chosen_sum h (inl q) = let s = parts_sum h q.1 q.2 in omega (arith, q.0, q.3)
chosen_sum h (inr q) = omega (arith, q.1, q.2)

-- ---- what holds before each turn
pub record ConstrainedSoFar (p : Problem) (numbers supports ds es : List ℕ) (left next all : ℕ) : Type 0 where
  pub held : ConstraintsHeld p numbers supports
  pub linked : Linked p numbers
  pub sixteen : Sets 16 es
  pub wide : left < 2 ^ 64
  pub wide_next : next < 2 ^ 64
  pub full : (x : ℕ) → x < p.variables → at es x ≡ 0 → ⊥
  pub known : (k : ℕ) → T (has left k) ⊎ T (has next k) → k < length p.constraints
  pub others : (k : ℕ) → k < length p.constraints → has left k ≡ false → has next k ≡ false → is_by_rows p k ≡ false → Fixed es (constraint_at p k)
  pub ways : (prefix : List ℕ) → Prunes p prefix (sets_of p ds) (sets_of p es)
  pub less : Inside es ds
  pub kept : (x : ℕ) → has all x ≡ false → at es x ≡ at ds x
  pub few : (x : ℕ) → T (has all x) → x < p.variables
  pub shrunk : (x : ℕ) → T (has all x) → size es < size ds
  pub long : length ds ≡ 16

-- the loop's invariant and its measure: the number of values in all sets, then the sets of the constraints
abbrev pub SoFar : List ℕ → List ℕ → List ℕ → ℕ → List ℕ → ℕ → ℕ → ℕ → Type 0
SoFar numbers supports ds todo es left next all = (p : Problem) → ConstraintsPending p numbers supports ds todo → ConstrainedSoFar p numbers supports ds es left next all

abbrev pub measure : List ℕ → ℕ → ℕ → ℕ
measure es left next = size es * 2 ^ 65 + (left + next)

module _ (p : Problem) (numbers supports ds : List ℕ) where
  pub constrained_begin : (todo : ℕ) → todo < 2 ^ 64 → ConstraintsPending p numbers supports ds todo → ConstrainedSoFar p numbers supports ds ds todo 0 0
  constrained_begin todo h w = record {
    held = record { well_formed = w.well_formed; numbered = w.numbered; tabled = w.tabled; worded = w.worded };
    linked = w.linked;
    sixteen = w.given.sixteen;
    wide = h;
    wide_next = omega arith;
    full = full_take p.variables ds w.given.sixteen (omega (arith, w.well_formed.few)) w.given.full;
    known = λ k. ⊎_elim (w.known k) (λ q. absurd (has_0 k q));
    others = λ k l e f b. fixed_all p.variables ds w.given.sixteen (omega (arith, w.well_formed.few)) (constraint_at p k) (good w.well_formed k l).inside (w.others k l e b);
    ways = λ prefix. prunes_none p prefix (sets_of p ds);
    less = λ x v q. q;
    kept = λ x e. refl;
    few = λ x t. absurd (has_0 x t);
    shrunk = λ x t. absurd (has_0 x t);
    long = w.given.sixteen.0;
  }

  -- the next round
  constrained_swap : (es : List ℕ) (left next all round : ℕ) → left ≡ 0 → round < 2 ^ 64 → Round next round → ConstrainedSoFar p numbers supports ds es left next all
      → ConstrainedSoFar p numbers supports ds es round (without next round) all
  constrained_swap es left next all round e h r t = record {
    held = t.held;
    linked = t.linked;
    sixteen = t.sixteen;
    wide = h;
    wide_next = lt_of_le_of_lt (and_le_l next _) t.wide_next;
    full = t.full;
    known = λ k. ⊎_elim (λ q. t.known k (inr (r.inside k q))) (λ q. t.known k (inr (and_e next _ k q).0));
    others = λ k l f g b. t.others k l (ap (λ (n : ℕ). has n k) e ∙ has_none k) (not_of (has next k)
        (λ q. ⊎_elim (of_not (has round k) f) (of_not (has (without next round) k) g) (in_or_out t.wide_next h k q))) b;
    ways = t.ways;
    less = t.less;
    kept = t.kept;
    few = t.few;
    shrunk = t.shrunk;
    long = t.long;
  }

  -- after the choice of the round
  constrained_on : (es : List ℕ) (left next all l m : ℕ) → Chosen left next l m → ConstrainedSoFar p numbers supports ds es left next all → ConstrainedSoFar p numbers supports ds es l m all
  constrained_on es left next all l m (inl q) t = subst (λ (i : ℕ). ConstrainedSoFar p numbers supports ds es l i all) (sym q.3) (constrained_swap es left next all l q.0 q.1 q.2 t)
  constrained_on es left next all l m (inr q) t =
      subst (λ (i : ℕ). ConstrainedSoFar p numbers supports ds es i m all) (sym q.1) (subst (λ (i : ℕ). ConstrainedSoFar p numbers supports ds es left i all) (sym q.2) t)

  pub constrained_end : (es : List ℕ) (left next all : ℕ) → left ≡ 0 → next ≡ 0 → ConstrainedSoFar p numbers supports ds es left next all → ConstraintsLeft p ds es all
  constrained_end es left next all e f t = record {
    lessened = record {
      ways = t.ways;
      sixteen = t.sixteen;
      full = take_full p.variables es t.sixteen (omega (arith, t.held.well_formed.few))
          t.full;
      less = t.less;
      kept = t.kept;
      few = t.few;
    };
    smaller = t.shrunk;
    fixed = λ k l b.
        fixed_take p.variables es t.sixteen (omega (arith, t.held.well_formed.few)) (constraint_at p k) (good t.held.well_formed k l).inside
        (t.others k l (ap (λ (n : ℕ). has n k) e ∙ has_none k) (ap (λ (n : ℕ). has n k) f ∙ has_none k) b);
  }

-- ---- one turn: constraint k has pruned
module _ {p : Problem} {numbers supports ds es : List ℕ} {left₀ next₀ left next all : ℕ} (s : ConstrainedSoFar p numbers supports ds es left₀ next₀ all) (o : Chosen left₀ next₀ left next) where
  t : ConstrainedSoFar p numbers supports ds es left next all
  t = constrained_on p numbers supports ds es left₀ next₀ all left next o s

  some : left ≡ 0 → ⊥
  some = chosen_some o

  abbrev k : ℕ
  k = count_trailing_zeros 64 left

  low : T (has left (count_trailing_zeros 64 left)) × (count_trailing_zeros 64 left < 64)
  low = low_has 64 left (let n = some in omega arith) t.wide

  pub k_lt : count_trailing_zeros 64 left < length p.constraints
  k_lt = t.known k (inl low.0)

  pub k_few : count_trailing_zeros 64 left < 32
  k_few = omega (arith, k_lt, t.held.well_formed.most)

  abbrev c : Constraint
  c = constraint_at p (count_trailing_zeros 64 left)

  c_good : GoodConstraint p (constraint_at p (count_trailing_zeros 64 left))
  c_good = good t.held.well_formed k k_lt

  pub k_full : Nonempty (constraint_at p (count_trailing_zeros 64 left)).scope es
  k_full x m = t.full x (c_good.inside x m)

  -- sets inside narrow ones are narrow
  pub k_narrow : {todo : ℕ} → ConstraintsPending p numbers supports ds todo → at numbers VALUES < 9 → Narrow (constraint_at p (count_trailing_zeros 64 left)).scope es
  k_narrow w h x m =
      let l = c_good.inside x m in
      let a = inside_le (at es x) (at p.initial x) (t.sixteen.1 x) (λ v q. w.given.inside x v
      (take_i p.variables ds w.given.sixteen (omega (arith, w.well_formed.few)) x v l (t.less x v q))) in
      let b = w.well_formed.narrow x l in
      let e : p.values ≤ 8 = omega (arith, w.numbered.values) in
      let d : 2 ^ p.values ≤ 2 ^ 8 = pow_mono e in
      omega arith

  abbrev others : ℕ
  others = bit_and left (left - 1)

  others_i : (j : ℕ) → T (has left j) → T (has others j) ⊎ (j ≡ k)
  others_i = rest_i 64 left (let n = some in omega arith) t.wide

  way : (prefix : List ℕ) → Prunes p prefix (sets_of p ds) (sets_of p (revised es (constraint_at p (count_trailing_zeros 64 left))))
  way prefix = prunes_then p prefix (sets_of p ds) (sets_of p es) (sets_of p (revised es c)) (t.ways prefix) (revised_prunes p t.held.well_formed c (is_one p k k_lt) es t.sixteen prefix)

  -- a set would be empty
  pub constrained_dead : {fs : List ℕ} → Emptied (constraint_at p (count_trailing_zeros 64 left)) es fs → Dead p ds fs
  constrained_dead r = record {
    ended = let z = r.ended in (
      sets_of p (revised es c),
      (
        way,
        take_empty p.variables (revised es c) (revised_sets es c 16 t.sixteen.0) (omega (arith, t.held.well_formed.few)) z.0
            (c_good.inside z.0 z.1) z.2,
      ),
    );
    sixteen = subst (Sets 16) (sym r.kept) t.sixteen;
    less = subst (λ (l : List ℕ). Inside l ds) (sym r.kept) t.less;
  }

  module _ {fs : List ℕ} {changed : ℕ} (r : Pruned (constraint_at p (count_trailing_zeros 64 left)) es fs changed) where
    pub changed_lt : (x : ℕ) → T (has changed x) → x < 16
    changed_lt x q = let i = c_good.inside x (in_scope_if c es fs changed t.sixteen r x q) in omega (arith, t.held.well_formed.few)

    turn_full : (x : ℕ) → x < p.variables → at fs x ≡ 0 → ⊥
    turn_full x i z = go (has changed x) refl
      where
        go : (b : Bool) → has changed x ≡ b → ⊥
        go false q = t.full x i (sym (still c es fs changed t.sixteen r x q) ∙ z)
        go true q = r.full x (in_scope_if c es fs changed t.sixteen r x (T_of (has changed x) q)) z

    turn_kept : (x : ℕ) → has (bit_or all changed) x ≡ false → at fs x ≡ at ds x
    turn_kept x e =
        still c es fs changed t.sixteen r x (not_of (has changed x) (λ q. of_not (has (bit_or all changed) x) e (or_i all changed x (inr q))))
        ∙ t.kept x (not_of (has all x) (λ q. of_not (has (bit_or all changed) x) e (or_i all changed x (inl q))))

    turn_few : (x : ℕ) → T (has (bit_or all changed) x) → x < p.variables
    turn_few x q = ⊎_elim (t.few x) (λ i. c_good.inside x (in_scope_if c es fs changed t.sixteen r x i)) (or_e all changed x q)

    turn_shrunk : (x : ℕ) → T (has (bit_or all changed) x) → size fs < size ds
    turn_shrunk x q =
        ⊎_elim (λ i. let a = t.shrunk x i in let b = fewer c es fs changed t.sixteen r in omega (arith, a, b))
        (λ i. let a = less_if c es fs changed t.sixteen r x i in let b = size_inside es ds (t.sixteen.0 ∙ sym t.long) t.less in omega (arith, a, b)) (or_e all changed x q)

    -- the constraints of g wait for the next round
    module _ {g : ℕ} (h : g < 2 ^ 64) (u : Waiting numbers changed k (bit_and left (left - 1)) g) where
      turn_known : (j : ℕ) → T (has others j) ⊎ T (has (bit_or next g) j) → j < length p.constraints
      turn_known j =
          ⊎_elim (λ q. t.known j (inl (rest_e 64 left (let n = some in omega arith) t.wide j q)))
          (λ q. ⊎_elim (λ i. t.known j (inr i)) (λ i. let x = u.waiting_e j i in has_lt (length p.constraints) (at numbers (OTHERS + x.0)) j
          (t.linked.touching_few x.0 (changed_lt x.0 x.1)) x.2) (or_e next g j q))

      turn_others : (j : ℕ) → j < length p.constraints → has others j ≡ false → has (bit_or next g) j ≡ false → is_by_rows p j ≡ false → Fixed fs (constraint_at p j)
      turn_others j i e f b = go (ℕ_discrete j k)
        where
          out : T (has next j) ⊎ T (has g j) → ⊥
          out q = of_not (has (bit_or next g) j) f (or_i next g j q)

          go : Dec (j ≡ k) → Fixed fs (constraint_at p j)
          go (yes q) = subst (λ (i : ℕ). Fixed fs (constraint_at p i)) (sym q) (subst (λ (m : List ℕ). Fixed m c) (sym r.sets)
              (revised_fixed es c t.sixteen.1 (ascending_sorted c.scope c_good.ordered)))
          go (no q) =
              fixed_kept (constraint_at p j) es fs
              (t.others j i (not_of (has left j) (λ z. ⊎_elim (of_not (has others j) e) q (others_i j z))) (not_of (has next j) (λ z. out (inl z))) b)
              (λ y z. still c es fs changed t.sixteen r y
              (not_of (has changed y)
              (λ a. ⊎_elim (λ v. out (inr v)) (⊎_elim (of_not (has others j) e) q) (u.waiting_i y j a
              (among_others t.linked j i b y (let d = (good t.held.well_formed j i).inside y z in omega (arith, t.held.well_formed.few)) z)))))

      pub constrained_more : ConstrainedSoFar p numbers supports ds fs (bit_and left (left - 1)) (bit_or next g) (bit_or all changed)
      constrained_more = record {
        held = t.held;
        linked = t.linked;
        sixteen = after c es fs changed t.sixteen r;
        wide = lt_of_le_of_lt (and_le_l left (left - 1)) t.wide;
        wide_next = or_lt 64 next g t.wide_next h;
        full = turn_full;
        known = turn_known;
        others = turn_others;
        ways = λ prefix. subst (λ (l : List ℕ). Prunes p prefix (sets_of p ds) (sets_of p l)) (sym r.sets) (way prefix);
        less = λ x v q. t.less x v (inside c es fs changed t.sixteen r x v q);
        kept = turn_kept;
        few = turn_few;
        shrunk = turn_shrunk;
        long = t.long;
      }

      -- something changed: a value less is left
      pub more_less : changed < 2 ^ 64 → (changed ≡ 0 → ⊥) → measure fs (bit_and left (left - 1)) (bit_or next g) < measure es left₀ next₀
      more_less i n =
          let a = less_if c es fs changed t.sixteen r (count_trailing_zeros 64 changed) (low_has 64 changed (omega arith) i).0 in
          let b : others < 2 ^ 64 = lt_of_le_of_lt (and_le_l left (left - 1)) t.wide in
          let d = or_lt 64 next g t.wide_next h in
          omega arith

    -- nothing changed: a constraint less is left
    pub constrained_same : changed ≡ 0 → ConstrainedSoFar p numbers supports ds fs (bit_and left (left - 1)) next all
    constrained_same e =
        subst (ConstrainedSoFar p numbers supports ds fs (bit_and left (left - 1)) next) (ap (bit_or all) e ∙ or_zero_r all)
        (subst (λ (i : ℕ). ConstrainedSoFar p numbers supports ds fs (bit_and left (left - 1)) i (bit_or all changed)) (or_zero_r next)
        (constrained_more {g = 0} (omega arith) record { waiting_i = λ x j q i. absurd (has_0 x (subst (λ (z : ℕ). T (has z x)) e q)); waiting_e = λ j q. absurd (has_0 j q) }))

    pub same_less : measure fs (bit_and left (left - 1)) next < measure es left₀ next₀
    same_less = let a = rest_less left some in let b = fewer c es fs changed t.sixteen r in let z = chosen_sum s.wide_next o in omega arith
