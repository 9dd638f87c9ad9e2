-- The sets of a child once the block's later variables are cut: what may be pruned from there, and a set that is empty. Assumes nothing.
use Rattle.model.specs.Kit.{◌≡◌, refl, sym, ap, ◌∙◌, subst, Bool, true, false, not, List, ⊎_elim, ℕ, ◌+◌, ◌-◌, ◌*◌, ◌≤◌, ◌<◌, arith, T, bit_and, bit_or, length, take, eq-eqb}
use Rattle.model.specs.{Lists.either, Lists.at, ValueSets.has, ValueSets.Inside, Problem.Problem, Problem.with_symmetries, Inner.Pruning.Sets, Inner.Pruning.Way}
use Rattle.model.proofs.Lists.{T_of, TExt, of_not, not_of, both_l, either_l, either_r, either_e}
use Rattle.model.proofs.{Sets.empty_i, Sets.mask_ext, Masks.has_and, Masks.has_or, Firsts.take_at, Firsts.take_sets, Firsts.take_length, Firsts.take_full, Firsts.full_take, Tree.well_sized}
use Rattle.arrays.specs.{Inner.Places.BLOCK, Inner.Places.LINKED, Inner.Places.MARKS, Inner.Pruning.Given, Inner.Pruning.sets_of}
use Rattle.prune_constraints.specs.Inner.Steps.{Touched}
use Rattle.prune_symmetries.proofs.Marks.{mark_mono}
use Rattle.block.specs.{Inner.Claims.Ascends, Inner.BlockSets.cut_after}
use Rattle.block.proofs.BlockSets.{cut_sets, cut_e, cut_i}
use Rattle.prune.specs.{Inner.Node.block_of, Inner.Steps.ArraysHold, Inner.Steps.Blocked, Inner.Steps.LiveSets, Inner.Steps.Startable, Inner.Steps.BeforeFixpoint}
use Rattle.prune.specs.Inner.Steps.{LastSettled, AfterFixpoint, CutEmpty, CutTo}
use Rattle.prune.proofs.Pending.{take_less, still_fixed, touched_known, still_arc}
use Rattle.prune.proofs.{FilterLoop.kept_none, FixpointLoop.not_live, FixpointLoop.dead, FixpointLoop.same_at, BlockCut.after_take}

module _ {p : Problem} {gs : List (List ℕ)} {supports tables numbers : List ℕ} (st : ArraysHold p supports tables numbers) (bl : Blocked p gs numbers) {ds : List ℕ}
    (b : LiveSets p ds) (k v : ℕ) where
  n_16 : p.variables ≤ 16
  n_16 = omega (arith, st.well_formed.few)

  abbrev whole : List ℕ
  whole = cut_after (block_of numbers) k v ds

  whole_16 : Sets 16 whole
  whole_16 = cut_sets (block_of numbers) k v ds 16 b.sixteen.0

  pub whole_is : sets_of p whole ≡ cut_after (block_of numbers) k v (sets_of p ds)
  whole_is = after_take (at numbers BLOCK) k v ds b.sixteen p.variables n_16

  -- a set is empty: the prefix is dead
  pub cut_dead : {work : List ℕ} {j : ℕ} → CutEmpty (cut_after (block_of numbers) k v ds) (at numbers BLOCK) → Way (with_symmetries p gs) (take j work) (sets_of p whole)
      → (sets : List ℕ) → AfterFixpoint p gs j work work sets true
  cut_dead {work} {j} d w sets =
      let h = bl.few d.0 d.1.0 in
      dead p gs j work work sets (kept_none work j)
      (not_live (with_symmetries p gs) (take j work) (sets_of p whole) w (well_sized p st.well_formed)
      (empty_i (sets_of p whole) d.0 (subst (λ (n : ℕ). d.0 < n) (sym (take_length p.variables whole whole_16 n_16)) h) (take_at p.variables whole whole_16 n_16 d.0 h ∙ d.1.1)))

  module _ {cut : List ℕ} {changed : ℕ} (c : CutTo ds (cut_after (block_of numbers) k v ds) cut (at numbers BLOCK) changed) where
    cut_is : cut ≡ whole
    cut_is = c.cut_to

    pub cut_sets_are : sets_of p cut ≡ cut_after (block_of numbers) k v (sets_of p ds)
    cut_sets_are = ap (sets_of p) cut_is ∙ whole_is

    cut_16 : Sets 16 cut
    cut_16 = subst (Sets 16) (sym cut_is) whole_16

    less : Inside cut ds
    less x u t = (cut_e (block_of numbers) k v ds x u (subst (λ (l : List ℕ). T (has (at l x) u)) cut_is t)).0

    same : (x : ℕ) → x < 16 → has changed x ≡ false → at cut x ≡ at ds x
    same = same_at ds cut b.sixteen cut_16 changed c.differ

    -- outside of the block nothing changes
    outside : (x : ℕ) → has (at numbers BLOCK) x ≡ false → has changed x ≡ false
    outside x e = not_of (has changed x) (λ t. of_not (has (at numbers BLOCK) x) e (c.few x t))

    -- nor up to k
    early : (x : ℕ) → x ≤ k → has changed x ≡ false
    early x h = not_of (has changed x) (λ t. of_not (has changed x) (c.differ.differ x (c.differ.few x t) ∙ ap not (eq-eqb (at cut x) (at ds x) kept)) t)
      where
        kept : at cut x ≡ at ds x
        kept =
            mask_ext 16 (at cut x) (at ds x) (cut_16.1 x) (b.sixteen.1 x)
            (λ u l. TExt (has (at cut x) u) (has (at ds x) u) (less x u) (λ t. subst (λ (l : List ℕ). T (has (at l x) u)) (sym cut_is)
            (cut_i (block_of numbers) k v ds x u l t (λ f g i. absurd (omega arith)))))

    some : (x : ℕ) → x < p.variables → at cut x ≡ 0 → ⊥
    some x h e = full_take p.variables ds b.sixteen n_16 b.full x h (go (has (at numbers BLOCK) x) refl)
      where
        go : (d : Bool) → has (at numbers BLOCK) x ≡ d → at ds x ≡ 0
        go true q = c.full x (T_of (has (at numbers BLOCK) x) q) e
        go false q = sym (same x (omega (arith, n_16)) (outside x q)) ∙ e

    pub cut_live : LiveSets p cut
    cut_live = record {
      sixteen = cut_16;
      full = take_full p.variables cut cut_16 n_16 some;
      unused = λ x h l. same x l (outside x (not_of (has (at numbers BLOCK) x) (λ t. let q = bl.few x t in omega arith))) ∙ b.unused x h l;
    }

    pub cut_inside : Inside (sets_of p cut) (sets_of p ds)
    cut_inside = take_less st ds cut b.sixteen cut_16 less

    module _ {work : List ℕ} {j todo dirty left todo' dirty' : ℕ} (s : Startable p work numbers ds j todo dirty) (u : Touched numbers changed left) (t : todo' ≡ bit_or todo left)
        (d : dirty' ≡ bit_or dirty (bit_and changed (at numbers LINKED))) where
      given : Given p cut
      given = record { sixteen = cut_16; full = cut_live.full; inside = λ x u t. s.pending.given.inside x u (cut_inside x u t) }

      has_todo : (i : ℕ) → has todo' i ≡ either (has todo i) (has left i)
      has_todo i = ap (λ (n : ℕ). has n i) t ∙ has_or todo left i

      has_dirty : (x : ℕ) → has dirty' x ≡ either (has dirty x) (has (bit_and changed (at numbers LINKED)) x)
      has_dirty x = ap (λ (n : ℕ). has n x) d ∙ has_or dirty (bit_and changed (at numbers LINKED)) x

      same_x : (x : ℕ) → x < p.variables → has changed x ≡ false → at cut x ≡ at ds x
      same_x x h = same x (omega (arith, n_16))

      neither : (a e : Bool) (r : Bool) → r ≡ either a e → r ≡ false → (a ≡ false) × (e ≡ false)
      neither a e r q f = (not_of a (λ x. of_not r f (subst T (sym q) (either_l a e x))), not_of e (λ x. of_not r f (subst T (sym q) (either_r a e x))))

      cut_startable : Startable p work numbers cut j todo' dirty'
      cut_startable = record {
        prefix_held = s.prefix_held;
        live = cut_live;
        pending = record {
          given = given;
          known = λ i q. ⊎_elim {C = i < length p.constraints} (s.pending.known i) (touched_known st changed left u c.differ.few i)
              (either_e (has todo i) (has left i) (subst T (has_todo i) q));
          others = λ i h f r.
              let n = neither (has todo i) (has left i) (has todo' i) (has_todo i) f in
              still_fixed st ds cut changed left b.sixteen cut_16 same_x u i h n.1 r (s.pending.others i h n.0 r);
          inner = λ x q. ⊎_elim {C = x < p.variables} (s.pending.inner x) (λ m. bl.few x
              (c.few x (both_l (has changed x) (has (at numbers LINKED) x) (subst T (has_and changed (at numbers LINKED) x) m))))
              (either_e (has dirty x) (has (bit_and changed (at numbers LINKED)) x) (subst T (has_dirty x) q));
          arcs = λ x h f.
              let n = neither (has dirty x) (has (bit_and changed (at numbers LINKED)) x) (has dirty' x) (has_dirty x) f in
              still_arc st ds cut changed (bit_and changed (at numbers LINKED)) s.pending.given given less same_x refl x h n.1 (s.pending.arcs x h n.0);
        };
        marking = λ e h.
            mark_mono p (sets_of p ds) (sets_of p cut) (take j work) e (at work (16 * j + MARKS + e))
            ((take_sets p.variables cut cut_16 n_16).0 ∙ sym (take_sets p.variables ds b.sixteen n_16).0) cut_inside (s.marking e h);
      }

      -- variable k is settled last, to its value in the prefix, and no earlier one is dirty
      pub cut_last : v ≡ at work k → ((x : ℕ) → T (has dirty x) → k ≤ x) → LastSettled work (k + 1) v dirty'
      cut_last e f = record {
        some = omega arith;
        value = let q : k ≡ k + 1 - 1 = omega arith in e ∙ ap (at work) q;
        clean = λ y h. not_of (has dirty' y)
            (λ q. ⊎_elim (λ i. let g = f y i in omega arith) (λ i. of_not (has changed y) (early y (omega arith))
            (both_l (has changed y) (has (at numbers LINKED) y) (subst T (has_and changed (at numbers LINKED) y) i)))
            (either_e (has dirty y) (has (bit_and changed (at numbers LINKED)) y) (subst T (has_dirty y) q)));
      }

      pub cut_before : Way (with_symmetries p gs) (take j work) (sets_of p cut) × Ascends (block_of numbers) (take j work) (sets_of p cut) → BeforeFixpoint p gs work numbers cut j todo' dirty'
      cut_before w = record { startable = cut_startable; way = w.0; ascends = w.1 }
