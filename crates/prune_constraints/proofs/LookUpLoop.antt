-- Look-ups: one constraint whose first two sets have one value each, and the loop over some of them. Assumes nothing.
use Rattle.model.specs.Kit.{◌≡◌, refl, sym, ap, ap₂, ◌∙◌, subst, false, not, ◌⊎◌, inl, inr, ⊎_elim, List, [], ◌∷◌, ℕ, ◌+◌, ◌-◌, ◌*◌, ◌^◌, ◌≤◌, ◌<◌, lt_of_le_of_lt, arith, T, length, bit_and}
use Rattle.model.specs.Kit.{bit_or, and_le_l, count_trailing_zeros, eq-eqb}
use Rattle.std.specs.Prelude.{Option}
use Rattle.model.specs.{Lists.at, ValueSets.has, ValueSets.any_empty, Problem.Problem, Problem.constraint_at, Inner.Pruning.Sets}
use Rattle.model.proofs.{Lists.not_of, Lists.of_not, Lists.T_of, Lists.TExt, Lists.both_i, Lists.mem_at, Sets.has_none, Sets.has_lt, Sets.mask_ext, Sets.member, Members.has_0}
use Rattle.model.proofs.{Members.low_has, Members.or_i, Members.or_e, Members.and_e, Members.rest_e, Firsts.take_full}
use Rattle.arrays.specs.{Inner.Places.SCOPES, Inner.Places.OTHERS, Inner.Places.SUPPORTS, Inner.Layout.variable_in, Inner.Pruning.sets_of}
use Rattle.arrays.proofs.Links.{good}
use Rattle.prune_constraints.specs.Inner.Revised.{Emptied, Pruned, Revision, Dead}
use Rattle.prune_constraints.specs.Inner.Steps.{OneValue, Scoped, ConstraintsHeld, SetCut, Touched}
use Rattle.prune_constraints.specs.Inner.LookUps.{Alone, LookUp, LookUpsPending, LookedLeft}
use Rattle.prune_constraints.proofs.Touching.{touched_of, touched_lt, touched_of_lem}
use Rattle.prune_constraints.proofs.ConstrainLoop.{without, Chosen, ConstrainedSoFar, constrained_begin, k_few, k_full, changed_lt, constrained_dead, constrained_more}
use Rattle.prune_constraints.proofs.{Bits.without_has, Unions.single, Rows.revised_inside, Removal.fixed_take, Stores.three_last, Scopes.of_three, Scopes.read_3}

-- ---- one constraint: x and z are what is read of its scope
module _ {p : Problem} {numbers supports ds work : List ℕ} {k v : ℕ} (g : ConstraintsHeld p numbers supports) (l : LookUp p ds work k v) (s : Sets 16 ds) {x z : ℕ}
    (ex : x ≡ variable_in (at numbers (SCOPES + k)) 0) (ez : z ≡ variable_in (at numbers (SCOPES + k)) 2) where
  abbrev y : ℕ
  y = variable_in (at numbers (SCOPES + k)) 1

  look_scoped : Scoped (constraint_at p k) supports k (x ∷ y ∷ z ∷ [])
  look_scoped = read_3 g k l.known x ex y refl z ez (g.numbered.arity k l.known ∙ l.three)

  first : Alone (at ds x) (at work x)
  first = subst (λ (i : ℕ). Alone (at ds i) (at work i)) (sym (ex ∙ g.numbered.scope k 0 l.known (omega (arith, l.three)))) l.first

  second : Alone (at ds y) v
  second = subst (λ (i : ℕ). Alone (at ds i) v) (sym (g.numbered.scope k 1 l.known (omega (arith, l.three)))) l.second

  -- the variables, and the place of the third's values in the table
  pub look_place : (x < 16) × (z < 16) × (256 * k + 16 * at work x + v < SUPPORTS)
  look_place = let i = of_three refl look_scoped.inside in
      (i.0, i.2, omega (arith, has_lt 16 (at ds x) (at work x) (s.1 x) first.1, has_lt 16 (at ds y) v (s.1 y) second.1, look_scoped.room))

  pub look_made : (es : List ℕ) (r : Option ℕ) → SetCut ds es z (bit_and (at ds z) (at supports (256 * k + 16 * at work x + v))) r → Revision (constraint_at p k) ds es r
  look_made es r a = three_last look_scoped ds s first.0 second.0 _
      (ap₂ (λ (i j : ℕ). 256 * k + 16 * i + j) (single (at ds x) (s.1 x) first.0 (at work x) first.1) (single (at ds y) (s.1 y) second.0 v second.1)) es r a

-- ---- the loop
-- only the constraints left, those of `todo` that are not looked up, and those of the changed variables may take something
pub record LookedSoFar (p : Problem) (numbers supports ds es : List ℕ) (todo some left all : ℕ) : Type 0 where
  pub next : ℕ
  pub so_far : ConstrainedSoFar p numbers supports ds es left next all
  pub due : (j : ℕ) → T (has next j) → T (has (without todo some) j) ⊎ ((x : ℕ) × T (has all x) × T (has (at numbers (OTHERS + x)) j))
  pub among : (j : ℕ) → T (has left j) → T (has some j)
  pub changed : (x : ℕ) → T (has all x) → at es x ≡ at ds x → ⊥

module _ {p : Problem} {numbers supports ds work : List ℕ} {todo some v : ℕ} (w : LookUpsPending p numbers supports ds work todo some v) where
  n_few : p.variables ≤ 16
  n_few = omega (arith, w.pending.well_formed.few)

  pub looked_begin : some < 2 ^ 64 → LookedSoFar p numbers supports ds ds todo some some 0
  looked_begin h = record { next = without todo some; so_far = begin; due = λ j q. inl q; among = λ j q. q; changed = λ x q. absurd (has_0 x q) }
    where
      t : ConstrainedSoFar p numbers supports ds ds todo 0 0
      t = constrained_begin p numbers supports ds todo w.wide w.pending

      undue : (k : ℕ) → k < length p.constraints → has some k ≡ false → has (without todo some) k ≡ false → has todo k ≡ false
      undue k l e f = not_of (has todo k) (λ q. of_not (has (without todo some) k) f (subst T (sym (without_has 64 todo some k h (omega (arith, w.pending.well_formed.most))))
          (both_i (has todo k) (not (has some k)) q (T_of (not (has some k)) (ap not e)))))

      begin : ConstrainedSoFar p numbers supports ds ds some (without todo some) 0
      begin = record {
        held = t.held;
        linked = t.linked;
        sixteen = t.sixteen;
        wide = h;
        wide_next = lt_of_le_of_lt (and_le_l todo _) w.wide;
        full = t.full;
        known = λ k. ⊎_elim (λ q. (w.looks k q).known) (λ q. w.pending.known k (and_e todo _ k q).0);
        others = λ k l e f b. t.others k l (undue k l e f) (has_none k) b;
        ways = t.ways;
        less = t.less;
        kept = t.kept;
        few = t.few;
        shrunk = t.shrunk;
        long = t.long;
      }

  module _ {es : List ℕ} {left all : ℕ} (t : LookedSoFar p numbers supports ds es todo some left all) where
    -- the end
    pub looked_end : left ≡ 0 → LookedLeft p numbers supports ds es todo some all
    looked_end e = record {
      lessened = record { ways = u.ways; sixteen = u.sixteen; full = full; less = u.less; kept = u.kept; few = u.few };
      changed = t.changed;
      pending = λ g v. record {
        given = record { sixteen = u.sixteen; full = full; inside = λ x i q. w.pending.given.inside x i ((u.ways []).less x i q) };
        well_formed = w.pending.well_formed;
        numbered = w.pending.numbered;
        tabled = w.pending.tabled;
        linked = w.pending.linked;
        worded = w.pending.worded;
        known = λ k q. ⊎_elim (λ i. w.pending.known k (and_e todo _ k i).0) (λ i. known g v k i) (or_e (without todo some) g k q);
        others = λ k l f b.
            fixed_take p.variables es u.sixteen n_few (constraint_at p k) (good w.pending.well_formed k l).inside
            (u.others k l (ap (λ (n : ℕ). has n k) e ∙ has_none k)
            (not_of (has t.next k) (λ q. of_not (has (bit_or (without todo some) g) k) f
            (or_i (without todo some) g k (⊎_elim inl (λ i. inr (v.touched_i i.0 k i.1 i.2)) (t.due k q))))) b);
      };
    }
      where
        u : ConstrainedSoFar p numbers supports ds es left t.next all
        u = t.so_far

        full : any_empty (sets_of p es) ≡ false
        full = take_full p.variables es u.sixteen n_few u.full

        known : (g : ℕ) → Touched numbers all g → (k : ℕ) → T (has g k) → k < length p.constraints
        known g v k q = let x = v.touched_e k q in has_lt (length p.constraints) (at numbers (OTHERS + x.0)) k
            (w.pending.linked.touching_few x.0 (let i = u.few x.0 x.1 in omega (arith, n_few))) x.2

    -- one turn
    module _ (n : left ≡ 0 → ⊥) where
      abbrev k : ℕ
      k = count_trailing_zeros 64 left

      -- the round goes on
      on : Chosen left t.next left t.next
      on = inr (n, refl, refl)

      pub look_few : count_trailing_zeros 64 left < 32
      look_few = k_few t.so_far on

      pub look_next : LookUp p es work (count_trailing_zeros 64 left) v
      look_next = record { known = l.known; three = l.three; first = alone 0 _ (omega (arith, l.three)) l.first; second = alone 1 v (omega (arith, l.three)) l.second }
        where
          l : LookUp p ds work k v
          l = w.looks k (t.among k (low_has 64 left (omega arith) t.so_far.wide).0)

          one : (i : ℕ) → i < length (constraint_at p k).scope → OneValue (at ds (at (constraint_at p k).scope i)) → OneValue (at es (at (constraint_at p k).scope i))
          one i h o = record { some = k_full t.so_far on _ (mem_at (constraint_at p k).scope i h); only = λ a b q r. o.only a b (t.so_far.less _ a q) (t.so_far.less _ b r) }

          alone : (i a : ℕ) → i < length (constraint_at p k).scope → Alone (at ds (at (constraint_at p k).scope i)) a → Alone (at es (at (constraint_at p k).scope i)) a
          alone i a h o =
              let q = one i h o.0 in
              let m = member (at es (at (constraint_at p k).scope i)) (t.so_far.sixteen.1 _) q.some in
              (q, subst (λ (u : ℕ). T (has (at es (at (constraint_at p k).scope i)) u)) (o.0.only m.0 a (t.so_far.less _ m.0 m.2) o.1) m.2)

      pub looked_dead : {fs : List ℕ} → Emptied (constraint_at p (count_trailing_zeros 64 left)) es fs → Dead p ds fs
      looked_dead r = constrained_dead t.so_far on r

      module _ {fs : List ℕ} {changed : ℕ} (r : Pruned (constraint_at p (count_trailing_zeros 64 left)) es fs changed) where
        pub looked_turn : LookedSoFar p numbers supports ds fs todo some (bit_and left (left - 1)) (bit_or all changed)
        looked_turn = record {
          next = bit_or t.next (touched_of numbers changed);
          so_far = constrained_more t.so_far on r (touched_lt numbers changed) record { waiting_i = λ x j q i. inl (touched.touched_i x j q i); waiting_e = touched.touched_e };
          due = λ j q. ⊎_elim (λ i. ⊎_elim inl (λ d. inr (d.0, or_i all changed d.0 (inl d.1), d.2)) (t.due j i))
              (λ i. let x = touched.touched_e j i in inr (x.0, or_i all changed x.0 (inr x.1), x.2)) (or_e t.next (touched_of numbers changed) j q);
          among = λ j q. t.among j (rest_e 64 left (omega arith) t.so_far.wide j q);
          changed = λ x q e. ⊎_elim (λ i. t.changed x i (between x e)) (λ i. subst T (r.moved x ∙ ap not (eq-eqb (at fs x) (at es x) (e ∙ sym (between x e)))) i) (or_e all changed x q);
        }
          where
            -- a set that is as it was at first has been so on the way
            between : (x : ℕ) → at fs x ≡ at ds x → at es x ≡ at ds x
            between x e =
                mask_ext 16 (at es x) (at ds x) (t.so_far.sixteen.1 x) (w.pending.given.sixteen.1 x)
                (λ v b. TExt (has (at es x) v) (has (at ds x) v) (t.so_far.less x v) (λ q. revised_inside es (constraint_at p k) x v
                (subst (λ (m : List ℕ). T (has (at m x) v)) r.sets (subst (λ (s : ℕ). T (has s v)) (sym e) q))))

            touched : Touched numbers changed (touched_of numbers changed)
            touched = touched_of_lem t.so_far.linked t.so_far.held.well_formed.most changed (changed_lt t.so_far on r)
