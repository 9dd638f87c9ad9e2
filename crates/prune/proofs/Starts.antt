-- The sets that `root`, `child` and `descend` start from are on the way to those at their prefix; what they leave on the stack. Assumes nothing.
use Rattle.model.specs.Kit.{◌≡◌, refl, sym, ap, ap₂, ◌∙◌, subst, Bool, true, false, not, List, [], Memᴰ, ℕ, ◌+◌, ◌-◌, ◌*◌, ◌%◌, ◌^◌, ◌≤◌, ◌<◌, mod-eq_of_lt, add-one, arith, ℕ_discrete, T, eqb}
use Rattle.model.specs.Kit.{ltb, eqb→eq, eqb_refl, bit_and, length, set, take, pow-lt, length-take-le, ltb-true, ltb-false, eqb-true}
use Rattle.model.specs.{Lists.both, Lists.any, Lists.at, ValueSets.has, ValueSets.only_mask, ValueSets.any_empty, ValueSets.Inside, Problem.Problem, Problem.with_symmetries, Problem.constraint_at}
use Rattle.model.specs.{Search.narrowed, Search.sets_at, Search.is_live, Inner.Pruning.Sets, Inner.Pruning.closed, Inner.Pruning.Way}
use lib.Pow.{pow_pos}
use lib.Seq.{take-suc, take-set-lt, set-get_or}
use Rattle.model.proofs.Lists.{T_of, of_T, not_of, of_not, at_ext, at_out, both_i, both_l, both_r, among_i, mem_at, at_set, at_set_other, at_take}
use Rattle.model.proofs.Prune.{narrowed_e, Largest, largest, fixed_e, way_start, sets_at_live, sets_at_sets, live_closed}
use Rattle.model.proofs.{Sets.has_none, Sets.has_lt, Sets.member, Sets.empty_i, Sets.inside_refl, Sets.set_sets, Masks.has_and, Masks.has_not, Masks.has_one, Members.one_bit, Members.only_member}
use Rattle.model.proofs.{Firsts.take_at, Firsts.take_e, Firsts.take_i, Firsts.take_sets, Firsts.take_length, Firsts.take_full, Firsts.full_take, Tree.well_sized}
use Rattle.arrays.specs.Inner.Places.{INITIAL, LINKED, MARKS, OTHERS, SYMMETRIES, VARIABLES, WORK}
use Rattle.arrays.specs.{Inner.Tables.is_by_rows, Inner.Pruning.Fixed, Inner.Pruning.Arc, Inner.Pruning.sets_of}
use Rattle.arrays.proofs.Links.{is_one, good}
use Rattle.prune_constraints.specs.Inner.Steps.{Touched}
use Rattle.prune_pairs.proofs.Partners.{goes_kept}
use Rattle.prune_constraints.proofs.Rows.{fixed_kept}
use Rattle.prune_symmetries.specs.Inner.Levels.{Mark}
use Rattle.prune_symmetries.proofs.Marks.{mark_start, mark_mono, mark_longer}
use Rattle.block.specs.{Inner.Claims.Ascends, Inner.BlockSets.cut_after}
use Rattle.block.proofs.BlockSets.{root_ascends, child_way, child_ascends}
use Rattle.prune.specs.{Inner.Node.Ready, Inner.Node.MarksRight, Inner.Node.AtNode, Inner.Node.Reached, Inner.Node.longer, Inner.Node.block_of, Inner.Steps.ArraysHold}
use Rattle.prune.specs.Inner.Steps.{Blocked, LiveSets, Startable, BeforeFixpoint, Unpruned, AfterFixpoint, Loaded, Stored, MarksCopied}
use Rattle.prune.proofs.{Arcs.arc_kept, Arcs.arc_free, Pending.touched_known}

-- ---- sixteen sets, of which the first n are ds and the others {0}
module _ (n : ℕ) (ds es : List ℕ) (l : length es ≡ 16) (s : Sets n ds) (h : n ≤ 16) (e : (x : ℕ) → x < n → at es x ≡ at ds x) (u : (x : ℕ) → n ≤ x → x < 16 → at es x ≡ 1) where
  pub padded_sets : Sets 16 es
  padded_sets = (l, λ x. go x (ltb x n) refl)
    where
      out : (x : ℕ) → n ≤ x → (b : Bool) → ltb x 16 ≡ b → at es x < 2 ^ 16
      out x k true q = subst (λ (z : ℕ). z < 2 ^ 16) (sym (u x k (ltb-true x 16 q))) (omega arith)
      out x k false q = subst (λ (z : ℕ). z < 2 ^ 16) (sym (at_out es x (subst (λ (m : ℕ). m ≤ x) (sym l) (ltb-false x 16 q)))) (omega arith)

      go : (x : ℕ) (b : Bool) → ltb x n ≡ b → at es x < 2 ^ 16
      go x true q = subst (λ (z : ℕ). z < 2 ^ 16) (sym (e x (ltb-true x n q))) (s.1 x)
      go x false q = out x (ltb-false x n q) (ltb x 16) refl

  pub padded_take : take n es ≡ ds
  padded_take = at_ext (take n es) ds (take_length n es padded_sets h ∙ sym s.0) (λ x k. let m : x < n = subst (λ (z : ℕ). x < z) (take_length n es padded_sets h) k in
      take_at n es padded_sets h x m ∙ e x m)

-- ---- what is left on the stack, where `work` had become `middle` before the fixpoint
module _ (p : Problem) (gs : List (List ℕ)) (few : p.variables ≤ 16) (prefix sets : List ℕ) (k : ℕ) (stack work middle work' : List ℕ) (is : take k middle ≡ prefix)
    (size : length middle ≡ length work) (early : (j : ℕ) → j < 16 * k + MARKS → at middle j ≡ at work j) (late : (j : ℕ) → 16 * k + MARKS + 16 ≤ j → at middle j ≡ at work j) where
  pub reached_dead : AfterFixpoint p gs k middle work' sets true → Reached p gs prefix k stack work stack work' true
  reached_dead a = record {
    answers = a.answers ∙ ap (λ (z : List ℕ). not (is_live (with_symmetries p gs) z)) is;
    holds = λ q. absurd (subst T q tt);
    before = λ i l. refl;
    after = λ i l. refl;
    marked = λ q. absurd (subst T q tt);
    kept = λ j l. a.kept.before j l ∙ early j l;
    beyond = λ j l. a.kept.after j l ∙ late j l;
    stack_length = refl;
    work_length = a.kept.size ∙ size;
  }

  pub reached_live : (stack' : List ℕ) → AfterFixpoint p gs k middle work' sets false → Stored stack k (at sets) stack' → Reached p gs prefix k stack work stack' work' false
  reached_live stack' a s = record {
    answers = a.answers ∙ ap (λ (z : List ℕ). not (is_live (with_symmetries p gs) z)) is;
    holds = λ q. record {
      sets = λ x l. s.here x (omega arith) ∙ sym (take_at p.variables sets (a.live refl).sixteen few x l) ∙ ap (λ (z : List ℕ). at z x) sets_are;
      unused = λ x l h. s.here x h ∙ (a.live refl).unused x l h;
    };
    before = s.before;
    after = s.after;
    marked = λ q. subst (λ (z : List ℕ). MarksRight p z prefix work' k) sets_are (subst (λ (z : List ℕ). MarksRight p (sets_of p sets) z work' k) is (a.marking refl));
    kept = λ j l. a.kept.before j l ∙ early j l;
    beyond = λ j l. a.kept.after j l ∙ late j l;
    stack_length = s.size;
    work_length = a.kept.size ∙ size;
  }
    where
      sets_are : sets_of p sets ≡ sets_at (with_symmetries p gs) prefix
      sets_are = a.sets_are refl ∙ ap (sets_at (with_symmetries p gs)) is

pub arrays_hold : {p : Problem} {gs : List (List ℕ)} {stack work supports tables numbers : List ℕ} → Ready p gs stack work supports tables numbers → ArraysHold p supports tables numbers
arrays_hold r = record { indexed = r.indexed; well_formed = r.well_formed; symmetries = r.symmetries }

pub blocked : {p : Problem} {gs : List (List ℕ)} {stack work supports tables numbers : List ℕ} → Ready p gs stack work supports tables numbers → Blocked p gs numbers
blocked r = record { block = r.block; few = r.block_few }

-- ---- the root
pub some_few : {p : Problem} {gs : List (List ℕ)} {stack work supports tables numbers : List ℕ} → Ready p gs stack work supports tables numbers → at numbers VARIABLES < 64
some_few r = omega (arith, r.indexed.numbered.variables, r.well_formed.few)

pub some_one : (c : ℕ) → c < 64 → 1 ≤ 1 * 2 ^ c % 2 ^ 64
some_one c h = subst (λ (z : ℕ). 1 ≤ z) (sym (one_bit 64 c h)) (pow_pos c)

pub ready_few : {p : Problem} {gs : List (List ℕ)} {stack work supports tables numbers : List ℕ} → Ready p gs stack work supports tables numbers → p.variables ≤ 16
ready_few r = omega (arith, r.well_formed.few)

module _ {p : Problem} {gs : List (List ℕ)} {stack work supports tables numbers : List ℕ} (r : Ready p gs stack work supports tables numbers) (sets : List ℕ)
    (l : length sets ≡ 16) (e : (x : ℕ) → x < 16 → at sets x ≡ at numbers (INITIAL + x) % 65536) where
  initial_sets : Sets p.variables p.initial
  initial_sets = well_sized p r.well_formed

  at_initial : (x : ℕ) → x < p.variables → at sets x ≡ at p.initial x
  at_initial x h = e x (omega (arith, ready_few r)) ∙ ap (λ (z : ℕ). z % 65536) (r.indexed.numbered.initial x h) ∙ mod-eq_of_lt (initial_sets.1 x)

  at_unused : (x : ℕ) → p.variables ≤ x → x < 16 → at sets x ≡ 1
  at_unused x h k = e x k ∙ ap (λ (z : ℕ). z % 65536) (r.indexed.numbered.unused x h k)

  sets_16 : Sets 16 sets
  sets_16 = padded_sets p.variables p.initial sets l initial_sets (ready_few r) at_initial at_unused

  are_initial : sets_of p sets ≡ p.initial
  are_initial = padded_take p.variables p.initial sets l initial_sets (ready_few r) at_initial at_unused

  is_full : any_empty (sets_of p sets) ≡ false
  is_full = take_full p.variables sets sets_16 (ready_few r) (λ x h q. let z = sym (at_initial x h) ∙ q in omega (arith, r.well_formed.nonempty x h, z))

  root_way : Way (with_symmetries p gs) [] (sets_of p sets)
  unfolding narrowed
  root_way = subst (Way (with_symmetries p gs) []) (sym are_initial) (way_start (with_symmetries p gs) [] (well_sized p r.well_formed))

  pub root_unpruned : Unpruned p gs work numbers sets 0
  root_unpruned = record {
    prefix_held = record { depth = omega arith; values = λ j h. absurd (omega arith); work_length = r.work_length };
    live = record { sixteen = sets_16; full = is_full; unused = at_unused };
    inside = subst (λ (z : List ℕ). Inside z p.initial) (sym are_initial) (inside_refl p.initial);
    way = root_way;
    ascends = root_ascends p r.well_formed (block_of numbers) gs r.block (sets_of p sets);
  }

-- ---- sets of which nothing is known: all is due
-- the set of all variables
all_of : (n : ℕ) → n < 64 → 1 * 2 ^ n % 2 ^ 64 - 1 ≡ (2 ^ n - 1) - 0
all_of n h = ap (λ (z : ℕ). z - 1) (one_bit 64 n h) ∙ omega arith

module _ {p : Problem} {gs : List (List ℕ)} {stack work supports tables numbers : List ℕ} (r : Ready p gs stack work supports tables numbers) {sets : List ℕ} {k : ℕ}
    (n : Unpruned p gs work numbers sets k) where
  n_16 : p.variables ≤ 16
  n_16 = ready_few r

  pub unpruned_few : k < 13
  unpruned_few = omega (arith, n.prefix_held.depth, r.well_formed.few)

  module _ (every : ℕ) (q : every ≡ 1 * 2 ^ at numbers VARIABLES % 2 ^ 64 - 1) (todo : ℕ) (u : Touched numbers every todo) where
    every_is : every ≡ (2 ^ p.variables - 1) - 0
    every_is = q ∙ all_of (at numbers VARIABLES) (some_few r) ∙ ap (λ (z : ℕ). (2 ^ z - 1) - 0) r.indexed.numbered.variables

    every_few : (x : ℕ) → T (has every x) → x < 16
    every_few x t =
        let h = has_lt p.variables ((2 ^ p.variables - 1) - 0) x (omega (arith, pow_pos p.variables)) (subst (λ (z : ℕ). T (has z x)) every_is t) in
        omega (arith, n_16)

    every_one : (x : ℕ) → x < p.variables → T (has every x)
    every_one x h = T_of (has every x) (ap (λ (z : ℕ). has z x) every_is ∙ has_not p.variables 0 x (pow_pos p.variables) h ∙ ap not (has_none x))

    -- every constraint that is not pruned by variable is due: it has a variable
    is_due : (j : ℕ) → j < length p.constraints → is_by_rows p j ≡ false → T (has todo j)
    is_due j h b =
        let g = good r.well_formed j h in
        let x = at (constraint_at p j).scope 0 in
        let m = mem_at (constraint_at p j).scope 0 g.some in
        let i = g.inside x m in
        u.touched_i x j (every_one x i)
        (T_of (has (at numbers (OTHERS + x)) j)
        (r.indexed.linked.touching x j (omega (arith, n_16)) h
        ∙ of_T (both (any (eqb x) (constraint_at p j).scope) (not (is_by_rows p j))) (both_i (any (eqb x) (constraint_at p j).scope) (not (is_by_rows p j)) (among_i x (constraint_at p j).scope m)
        (T_of (not (is_by_rows p j)) (ap not b)))))

    module _ (middle : List ℕ) (c : Stored work (k + 1) (λ i. 0) middle) where
      all_early : (j : ℕ) → j < 16 * k + MARKS → at middle j ≡ at work j
      all_early j h = c.before j (omega arith)

      all_late : (j : ℕ) → 16 * k + MARKS + 16 ≤ j → at middle j ≡ at work j
      all_late j h = c.after j (omega arith)

      same_prefix : take k middle ≡ take k work
      same_prefix =
          let e = length-take-le k middle (omega (arith, unpruned_few, c.size, r.work_length)) in
          at_ext (take k middle) (take k work) (e ∙ sym (length-take-le k work (omega (arith, unpruned_few, r.work_length))))
          (λ i h. let h' : i < k = subst (λ (z : ℕ). i < z) e h in at_take k middle i h' ∙ all_early i (omega arith) ∙ sym (at_take k work i h'))

      zero_mark : (i : ℕ) → i < length p.symmetries → at middle (16 * k + MARKS + i) ≡ 0
      zero_mark i h = let e : 16 * k + MARKS + i ≡ 16 * (k + 1) + i = omega arith in ap (at middle) e ∙ c.here i (omega (arith, h, r.symmetries))

      startable : Startable p middle numbers sets k todo (at numbers LINKED)
      startable = record {
        prefix_held = record {
          depth = n.prefix_held.depth;
          values = λ j h. subst (λ (z : ℕ). T (has (at p.initial j) z)) (sym (all_early j (omega arith))) (n.prefix_held.values j h);
          work_length = c.size ∙ r.work_length;
        };
        live = n.live;
        pending = record {
          given = record { sixteen = n.live.sixteen; full = n.live.full; inside = n.inside };
          known = touched_known (arrays_hold r) every todo u every_few;
          others = λ j h f b. absurd (of_not (has todo j) f (is_due j h b));
          inner = r.indexed.linked.linked_few;
          arcs = arcs;
        };
        marking = λ i h. subst (Mark p (sets_of p sets) (take k middle) i) (sym (zero_mark i h)) (mark_start p (sets_of p sets) (take k middle) i);
      }
        where
          arcs : (x : ℕ) → x < p.variables → has (at numbers LINKED) x ≡ false → Arc p (sets_of p sets) x
          arcs x h f =
              let m = member (at sets x) (n.live.sixteen.1 x) (full_take p.variables sets n.live.sixteen n_16 n.live.full x h) in
              arc_free p numbers r.indexed.linked (sets_of p sets) x m.0 f (take_i p.variables sets n.live.sixteen n_16 x m.0 h m.2)

      pub unpruned_start : BeforeFixpoint p gs middle numbers sets k todo (at numbers LINKED)
      unpruned_start = record {
        startable = startable;
        way = subst (λ (z : List ℕ). Way (with_symmetries p gs) z (sets_of p sets)) (sym same_prefix) n.way;
        ascends = subst (λ (z : List ℕ). Ascends (block_of numbers) z (sets_of p sets)) (sym same_prefix) n.ascends;
      }

      pub unpruned_dead : (fs work' : List ℕ) (b : Bool) → AfterFixpoint p gs k middle work' fs b → b ≡ true → Reached p gs (take k work) k stack work stack work' true
      unpruned_dead fs work' b a i =
          reached_dead p gs n_16 (take k work) fs k stack work middle work' same_prefix c.size all_early all_late (subst (AfterFixpoint p gs k middle work' fs) i a)

      pub unpruned_live : (fs work' stack' : List ℕ) (b : Bool) → AfterFixpoint p gs k middle work' fs b → b ≡ false → Stored stack k (at fs) stack' →
          Reached p gs (take k work) k stack work stack' work' false
      unpruned_live fs work' stack' b a i t =
          reached_live p gs n_16 (take k work) fs k stack work middle work' same_prefix c.size all_early all_late stack' (subst (AfterFixpoint p gs k middle work' fs) i a) t

-- ---- the child
module _ {p : Problem} {gs : List (List ℕ)} {stack work supports tables numbers : List ℕ} {k : ℕ} (a : AtNode p gs stack work supports tables numbers k) where
  abbrev tree : Problem
  tree = with_symmetries p gs

  wf_sized : Sets p.variables p.initial
  wf_sized = well_sized p a.ready.well_formed

  parent_sets : Sets p.variables (sets_at tree (take k work))
  parent_sets = sets_at_sets tree (take k work) wf_sized

  n_16' : p.variables ≤ 16
  n_16' = ready_few a.ready

  k_12 : k < 12
  k_12 = omega (arith, a.room, a.ready.well_formed.few)

  prefix_length : length (take k work) ≡ k
  prefix_length = length-take-le k work (omega (arith, k_12, a.ready.work_length))

  pub v_lt : at work k < 16
  v_lt = has_lt 16 (at (sets_at tree (take k work)) k) (at work k) (parent_sets.1 k) a.member

  pub longer_is : take (k + 1) work ≡ longer work k
  unfolding at
  longer_is = ap (λ (z : ℕ). take z work) (add-one k) ∙ take-suc work k 0 (omega (arith, k_12, a.ready.work_length))

  -- the parent's sets are the largest, each of their values stays, and none is empty
  parent_is : sets_at tree (take k work) ≡ closed tree (take k work)
  parent_is = sets_at_live tree (take k work) (live_closed tree (take k work) a.live)

  parent_largest : Largest tree (take k work) (sets_at tree (take k work))
  parent_largest = subst (Largest tree (take k work)) (sym parent_is) (largest tree (take k work) wf_sized)

  parent_full : (x : ℕ) → x < p.variables → at (sets_at tree (take k work)) x ≡ 0 → ⊥
  parent_full x h e = subst T (ap any_empty parent_is ∙ live_closed tree (take k work) a.live) (empty_i (sets_at tree (take k work)) x (subst (λ (z : ℕ). x < z) (sym parent_sets.0) h) e)

  parent_fixed : (j : ℕ) → j < length p.constraints → Fixed (sets_at tree (take k work)) (constraint_at p j)
  parent_fixed j h x v t = (fixed_e tree (take k work) (sets_at tree (take k work)) parent_largest.fixed x v t).rows (constraint_at p j) (is_one p j h)

  parent_arc : (x : ℕ) → x < p.variables → Arc p (sets_at tree (take k work)) x
  parent_arc x h y w u =
      let m = member (at (sets_at tree (take k work)) x) (parent_sets.1 x) (parent_full x h) in
      goes_kept p a.ready.well_formed (sets_at tree (take k work)) x y w m.0 m.2 (fixed_e tree (take k work) (sets_at tree (take k work)) parent_largest.fixed y w u).rows

  pub in_initial : (j : ℕ) → j < k + 1 → T (has (at p.initial j) (at work j))
  in_initial j h = go (ℕ_discrete j k)
    where
      from_parent : (x w : ℕ) → T (has (at (sets_at tree (take k work)) x) w) → T (has (at p.initial x) w) × (x < length (take k work) → w ≡ at (take k work) x)
      from_parent x w t = narrowed_e (take k work) p.initial x w (parent_largest.inside x w t)

      go : Dec (j ≡ k) → T (has (at p.initial j) (at work j))
      go (yes e) = subst (λ (z : ℕ). T (has (at p.initial z) (at work z))) (sym e) (from_parent k (at work k) a.member).0
      go (no n) =
          let l : j < k = omega arith in
          let m = member (at (sets_at tree (take k work)) j) (parent_sets.1 j) (parent_full j (omega (arith, a.room))) in
          let r = from_parent j m.0 m.2 in
          subst (λ (z : ℕ). T (has (at p.initial j) z)) (r.1 (omega (arith, prefix_length)) ∙ at_take k work j l) r.0

  -- ---- the sets of depth k, with one value of variable k's left
  module _ (sets : List ℕ) (l : Loaded stack k sets) {one : ℕ} (o : one ≡ only_mask (at sets k) (at work k % 16)) where
    at_parent : (x : ℕ) → x < p.variables → at sets x ≡ at (sets_at tree (take k work)) x
    at_parent x h = l.1 x (omega (arith, n_16')) ∙ a.held.sets x h

    unused : (x : ℕ) → p.variables ≤ x → x < 16 → at sets x ≡ 1
    unused x h b = l.1 x b ∙ a.held.unused x h b

    before : Sets 16 sets
    before = padded_sets p.variables (sets_at tree (take k work)) sets l.0 parent_sets n_16' at_parent unused

    are_parent : sets_of p sets ≡ sets_at tree (take k work)
    are_parent = padded_take p.variables (sets_at tree (take k work)) sets l.0 parent_sets n_16' at_parent unused

    value_16 : at work k % 16 ≡ at work k
    value_16 = omega (arith, v_lt)

    one_is : one ≡ 2 ^ at work k
    one_is = o ∙ ap (only_mask (at sets k)) value_16 ∙ only_member (at sets k) (at work k) v_lt (subst (λ (z : ℕ). T (has z (at work k))) (sym (at_parent k a.room)) a.member)

    k_in : k < length sets
    k_in = omega (arith, k_12, l.0)

    after : Sets 16 (set sets k one)
    after = set_sets 16 sets k one before (omega (arith, k_12)) (subst (λ (z : ℕ). z < 2 ^ 16) (sym one_is) (pow-lt v_lt))

    start_is : sets_of p (set sets k one) ≡ set (sets_at tree (take k work)) k (2 ^ at work k)
    start_is = take-set-lt p.variables sets k one a.room ∙ ap (λ (z : List ℕ). set z k one) are_parent ∙ ap (λ (z : ℕ). set (sets_at tree (take k work)) k z) one_is

    start_full : any_empty (sets_of p (set sets k one)) ≡ false
    start_full = take_full p.variables (set sets k one) after n_16' (λ x h e. go x h (ℕ_discrete x k) e)
      where
        go : (x : ℕ) → x < p.variables → Dec (x ≡ k) → at (set sets k one) x ≡ 0 → ⊥
        go x h (yes q) e =
            let z : 2 ^ at work k ≡ 0 = sym one_is ∙ sym (at_set sets k one k_in) ∙ ap (at (set sets k one)) (sym q) ∙ e in
            omega (arith, pow_pos (at work k))
        go x h (no n) e = parent_full x h (sym (at_parent x h) ∙ sym (at_set_other sets k one x n) ∙ e)

    start_unused : (x : ℕ) → p.variables ≤ x → x < 16 → at (set sets k one) x ≡ 1
    start_unused x h b = at_set_other sets k one x (λ q. omega (arith, a.room)) ∙ unused x h b

    -- the value of k is one of its set's
    start_value : T (has (at (sets_of p (set sets k one)) k) (at work k))
    start_value =
        take_i p.variables (set sets k one) after n_16' k (at work k) a.room
        (subst (λ (z : ℕ). T (has z (at work k))) (sym (at_set sets k one k_in ∙ one_is)) (subst T (sym (has_one (at work k) (at work k))) (eqb_refl (at work k))))

    start_inside : Inside (sets_of p (set sets k one)) (sets_at tree (take k work))
    start_inside x v t = go (ℕ_discrete x k)
      where
        t' : T (has (at (set sets k one) x) v)
        t' = (take_e p.variables (set sets k one) after n_16' x v t).1

        go : Dec (x ≡ k) → T (has (at (sets_at tree (take k work)) x) v)
        go (yes e) =
            let u : T (has (2 ^ at work k) v) = subst (λ (z : ℕ). T (has z v)) (at_set sets k one k_in ∙ one_is) (subst (λ (z : ℕ). T (has (at (set sets k one) z) v)) e t') in
            let w : v ≡ at work k = eqb-true v (at work k) (of_T (eqb v (at work k)) (subst T (has_one (at work k) v) u)) in
            subst (λ (z : ℕ). T (has (at (sets_at tree (take k work)) z) v)) (sym e) (subst (λ (z : ℕ). T (has (at (sets_at tree (take k work)) k) z)) (sym w) a.member)
        go (no n) = subst (λ (z : ℕ). T (has z v)) (at_set_other sets k one x n ∙ at_parent x (take_e p.variables (set sets k one) after n_16' x v t).0) t'

    pub start_initial : Inside (sets_of p (set sets k one)) p.initial
    start_initial x v t = (narrowed_e (take k work) p.initial x v (parent_largest.inside x v (start_inside x v t))).0

    pub start_live : LiveSets p (set sets k one)
    start_live = record { sixteen = after; full = start_full; unused = start_unused }

    -- with the block's later variables cut the sets are on the way to those of the longer prefix
    pub start_way : (cut : List ℕ) (v : ℕ) → v ≡ at work k % 16 → sets_of p cut ≡ cut_after (block_of numbers) k v (sets_of p (set sets k one)) →
        Way tree (longer work k) (sets_of p cut) × Ascends (block_of numbers) (longer work k) (sets_of p cut)
    start_way cut v i e =
        let t = subst (λ (z : ℕ). T (has (at (sets_at tree (take k work)) z) (at work k))) (sym prefix_length) a.member in
        let q : cut_after (block_of numbers) (length (take k work)) (at work k) (set (sets_at tree (take k work)) (length (take k work)) (2 ^ at work k)) ≡ sets_of p cut =
        ap (λ (z : ℕ). cut_after (block_of numbers) z (at work k) (set (sets_at tree (take k work)) z (2 ^ at work k))) prefix_length
        ∙ ap₂ (λ (u : ℕ) (l : List ℕ). cut_after (block_of numbers) k u l) (sym (i ∙ value_16)) (sym start_is) ∙ sym e in (
          subst (Way tree (longer work k)) q (child_way p a.ready.well_formed (block_of numbers) gs a.ready.block (take k work) (at work k) t),
          subst (Ascends (block_of numbers) (longer work k)) q (child_ascends p a.ready.well_formed (block_of numbers) gs a.ready.block (take k work) (at work k) t),
        )

  -- ---- `work` with the marks of depth k at depth k + 1 too
  module _ (middle : List ℕ) (c : MarksCopied work (at numbers SYMMETRIES) k middle) where
    pub child_early : (j : ℕ) → j < 16 * (k + 1) + MARKS → at middle j ≡ at work j
    child_early = c.kept.before

    child_late : (j : ℕ) → 16 * (k + 1) + MARKS + 16 ≤ j → at middle j ≡ at work j
    child_late = c.kept.after

    value_is : at middle k ≡ at work k
    value_is = child_early k (omega arith)

    pub value_small : at work k % 16 ≡ at middle k
    value_small = omega (arith, value_is, v_lt)

    middle_length : length middle ≡ WORK
    middle_length = c.kept.size ∙ a.ready.work_length

    pub child_prefix : take (k + 1) middle ≡ longer work k
    child_prefix =
        at_ext (take (k + 1) middle) (take (k + 1) work) (length-take-le (k + 1) middle (omega (arith, k_12, middle_length)) ∙ sym
        (length-take-le (k + 1) work (omega (arith, k_12, a.ready.work_length))))
        (λ i h. let h' : i < k + 1 = subst (λ (n : ℕ). i < n) (length-take-le (k + 1) middle (omega (arith, k_12, middle_length))) h in at_take (k + 1) middle i h' ∙ child_early i (omega arith)
        ∙ sym (at_take (k + 1) work i h'))
        ∙ longer_is

    module _ (sets : List ℕ) (l : Loaded stack k sets) (one todo dirty : ℕ) (only : one ≡ only_mask (at sets k) (at work k % 16))
        (d : (at sets k ≡ one → todo ≡ 0) × ((at sets k ≡ one → ⊥) → todo ≡ at numbers (OTHERS + k)))
        (f : (at sets k ≡ one → dirty ≡ 0) × ((at sets k ≡ one → ⊥) → dirty ≡ bit_and (at numbers LINKED) (1 * 2 ^ k % 2 ^ 64))) where
      child_known : (j : ℕ) → T (has todo j) → j < length p.constraints
      child_known j t = go (ℕ_discrete (at sets k) one)
        where
          go : Dec (at sets k ≡ one) → j < length p.constraints
          go (yes e) = absurd (of_not (has 0 j) (has_none j) (subst (λ (z : ℕ). T (has z j)) (d.0 e) t))
          go (no n) = has_lt (length p.constraints) (at numbers (OTHERS + k)) j (a.ready.indexed.linked.touching_few k (omega (arith, k_12))) (subst (λ (z : ℕ). T (has z j)) (d.1 n) t)

      same : at sets k ≡ one → set sets k one ≡ sets
      unfolding at
      same e = ap (set sets k) (sym e) ∙ set-get_or sets k 0

      -- a constraint that is not due has the sets that it had
      undue_same : (j : ℕ) → j < length p.constraints → has todo j ≡ false → is_by_rows p j ≡ false → (y : ℕ) → Memᴰ y (constraint_at p j).scope → at (set sets k one) y ≡ at sets y
      undue_same j h n b y m = go (ℕ_discrete (at sets k) one)
        where
          touches : (y ≡ k) → T (has (at numbers (OTHERS + k)) j)
          touches e =
              T_of (has (at numbers (OTHERS + k)) j)
              (a.ready.indexed.linked.touching k j (omega (arith, k_12)) h
              ∙ of_T (both (any (eqb k) (constraint_at p j).scope) (not (is_by_rows p j)))
              (both_i (any (eqb k) (constraint_at p j).scope) (not (is_by_rows p j)) (among_i k (constraint_at p j).scope (subst (λ (z : ℕ). Memᴰ z (constraint_at p j).scope) e m))
              (T_of (not (is_by_rows p j)) (ap not b))))

          go : Dec (at sets k ≡ one) → at (set sets k one) y ≡ at sets y
          go (yes e) = ap (λ (z : List ℕ). at z y) (same e)
          go (no i) = at_set_other sets k one y (λ e. of_not (has todo j) n (subst (λ (z : ℕ). T (has z j)) (sym (d.1 i)) (touches e)))

      others : (j : ℕ) → j < length p.constraints → has todo j ≡ false → is_by_rows p j ≡ false → Fixed (sets_of p (set sets k one)) (constraint_at p j)
      others j h n b =
          let g = good a.ready.well_formed j h in
          fixed_kept (constraint_at p j) (sets_at tree (take k work)) (sets_of p (set sets k one)) (parent_fixed j h)
          (λ y m. let i = g.inside y m in take_at p.variables (set sets k one) (after sets l only) n_16' y i ∙ undue_same j h n b y m ∙ at_parent sets l only y i)

      -- what is dirty is variable k, where it is in a constraint by variable and has changed
      has_dirty : (at sets k ≡ one → ⊥) → (x : ℕ) → has dirty x ≡ both (has (at numbers LINKED) x) (eqb x k)
      has_dirty n x =
          ap (λ (z : ℕ). has z x) (f.1 n) ∙ has_and (at numbers LINKED) (1 * 2 ^ k % 2 ^ 64) x
          ∙ ap (both (has (at numbers LINKED) x)) (ap (λ (z : ℕ). has z x) (one_bit 64 k (omega (arith, k_12))) ∙ has_one k x)

      dirty_e : (x : ℕ) → T (has dirty x) → T (both (has (at numbers LINKED) x) (eqb x k))
      dirty_e x t = go (ℕ_discrete (at sets k) one)
        where
          go : Dec (at sets k ≡ one) → T (both (has (at numbers LINKED) x) (eqb x k))
          go (yes e) = absurd (of_not (has 0 x) (has_none x) (subst (λ (z : ℕ). T (has z x)) (f.0 e) t))
          go (no n) = subst T (has_dirty n x) t

      inner : (x : ℕ) → T (has dirty x) → x < p.variables
      inner x t = a.ready.indexed.linked.linked_few x (both_l (has (at numbers LINKED) x) (eqb x k) (dirty_e x t))

      pub child_later : (x : ℕ) → T (has dirty x) → k ≤ x
      child_later x t = let e = eqb→eq x k (both_r (has (at numbers LINKED) x) (eqb x k) (dirty_e x t)) in omega arith

      arcs : (x : ℕ) → x < p.variables → has dirty x ≡ false → Arc p (sets_of p (set sets k one)) x
      arcs x h n = go (ℕ_discrete (at sets k) one) (ℕ_discrete x k)
        where
          kept : at (sets_of p (set sets k one)) x ≡ at (sets_at tree (take k work)) x → Arc p (sets_of p (set sets k one)) x
          kept e = arc_kept p (sets_at tree (take k work)) (sets_of p (set sets k one)) x (start_inside sets l only) e (parent_arc x h)

          go : Dec (at sets k ≡ one) → Dec (x ≡ k) → Arc p (sets_of p (set sets k one)) x
          go (yes e) q = kept (ap (λ (z : List ℕ). at (sets_of p z) x) (same e) ∙ ap (λ (z : List ℕ). at z x) (are_parent sets l only))
          go (no i) (yes e) =
              subst (Arc p (sets_of p (set sets k one))) (sym e)
              (arc_free p numbers a.ready.indexed.linked (sets_of p (set sets k one)) k (at work k)
              (not_of (has (at numbers LINKED) k) (λ t. of_not (has dirty k) (ap (has dirty) (sym e) ∙ n)
              (subst T (sym (has_dirty i k)) (both_i (has (at numbers LINKED) k) (eqb k k) t (eqb_refl k)))))
              (start_value sets l only))
          go (no i) (no m) = kept (take_at p.variables (set sets k one) (after sets l only) n_16' x h ∙ at_set_other sets k one x m ∙ at_parent sets l only x h)

      marking : MarksRight p (sets_of p (set sets k one)) (take (k + 1) middle) middle (k + 1)
      marking e h =
          let m = mark_longer p (sets_at tree (take k work)) (take k work) (at work k) e (at work (16 * k + MARKS + e)) (a.marked e h) in
          let n = mark_mono p (sets_at tree (take k work)) (sets_of p (set sets k one)) (longer work k) e (at work (16 * k + MARKS + e))
          ((take_sets p.variables (set sets k one) (after sets l only) n_16').0 ∙ sym parent_sets.0) (start_inside sets l only) m in
          subst (λ (z : List ℕ). Mark p (sets_of p (set sets k one)) z e (at middle (16 * (k + 1) + MARKS + e))) (sym child_prefix)
          (subst (Mark p (sets_of p (set sets k one)) (longer work k) e) (sym (c.here e (omega (arith, h, a.ready.indexed.numbered.symmetries)) (omega (arith, h, a.ready.symmetries)))) n)

      -- before the block's variables are cut
      pub child_startable : Startable p middle numbers (set sets k one) (k + 1) todo dirty
      child_startable = record {
        prefix_held = record {
          depth = omega (arith, a.room);
          values = λ j h. subst (λ (z : ℕ). T (has (at p.initial j) z)) (sym (child_early j (omega arith)))
              (in_initial j h);
          work_length = middle_length;
        };
        live = start_live sets l only;
        pending = record {
          given = record { sixteen = after sets l only; full = (start_live sets l only).full; inside = start_initial sets l only };
          known = child_known;
          others = others;
          inner = inner;
          arcs = arcs;
        };
        marking = marking;
      }

      -- and after
      pub child_on_way : (cut : List ℕ) (v : ℕ) → v ≡ at work k % 16 → sets_of p cut ≡ cut_after (block_of numbers) k v (sets_of p (set sets k one)) →
          Way tree (take (k + 1) middle) (sets_of p cut) × Ascends (block_of numbers) (take (k + 1) middle) (sets_of p cut)
      child_on_way cut v i e =
          let w = start_way sets l only cut v i e in (
            subst (λ (z : List ℕ). Way tree z (sets_of p cut)) (sym child_prefix) w.0,
            subst (λ (z : List ℕ). Ascends (block_of numbers) z (sets_of p cut)) (sym child_prefix) w.1,
          )

    pub child_dead : (sets work' : List ℕ) (r : Bool) → AfterFixpoint p gs (k + 1) middle work' sets r → r ≡ true → Reached p gs (longer work k) (k + 1) stack work stack work' true
    child_dead sets work' r e q = reached_dead p gs n_16' (longer work k) sets (k + 1) stack work middle work' child_prefix c.kept.size child_early child_late
        (subst (AfterFixpoint p gs (k + 1) middle work' sets) q e)

    pub child_live : (sets work' stack' : List ℕ) (r : Bool) → AfterFixpoint p gs (k + 1) middle work' sets r → r ≡ false → Stored stack (k + 1) (at sets) stack' → Reached p gs (longer work k)
        (k + 1) stack work stack' work' false
    child_live sets work' stack' r e q t = reached_live p gs n_16' (longer work k) sets (k + 1) stack work middle work' child_prefix c.kept.size child_early child_late stack'
        (subst (AfterFixpoint p gs (k + 1) middle work' sets) q e) t
