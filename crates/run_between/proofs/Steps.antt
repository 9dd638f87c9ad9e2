-- One value down a path, a node, and walks one behind the other (specs/Steps). Assumes nothing.
use Rattle.model.specs.Kit.{◌≡◌, refl, sym, ap, ap₂, ◌∙◌, subst, Bool, true, false, not, List, [], ◌∷◌, ◌++◌, ℕ, ◌+◌, ◌-◌, ◌*◌, ◌^◌, ◌<◌, add-one, arith, bit_and, T, eqb, ltb, eqb→eq, eqb_refl}
use Rattle.model.specs.Kit.{length}
use Rattle.model.specs.Kit.{set, length-set, not-true, not-false}
use Rattle.model.specs.ValueSets.{has, mask_of, full_mask, members, lowest_of}
use Rattle.model.specs.{Lists.at, Lists.both, Lists.keep, Lists.below, Problem.Problem, Search.sets_at, Search.is_live, Run.Tally}
use native.Mathlib.Nat.{pos_of_ne-zero}
use Rattle.model.proofs.Lists.{T_of, not_of, of_not, both_l, among_i, among_e, keep_ext, below_e, at_set, at_set_other}
use Rattle.model.proofs.Sets.{has_none, has_lt, has_mask, mask_lt, mask_ext, mask_i, mask_e, members_i, members_e}
use Rattle.model.proofs.{Tree.well_sized, Prune.sets_at_sets, Masks.common_op, Lowest.lowest_in}
use Rattle.run_cut.specs.Inner.Paths.{nodes_of, candidates_at}
use Rattle.arrays.specs.Inner.Places.{LIMIT, ROOM, PLANS, LAST, ALL, SPENT, DIAGONAL}
use Rattle.prune.specs.Inner.Node.{AtNode, Reached, longer}
use Rattle.prune.proofs.BlockCut.{not_below}
use Rattle.run_state.specs.{Inner.Walk.with_node, Inner.Walk.walk, Inner.Walk.nodes_for, Inner.Walk.exhausted, Inner.Pair.prefix_of, Inner.Pair.settling, Inner.Pair.order_in}
use Rattle.run_state.specs.{Inner.Pair.own_problem_in}
use Rattle.run_state.specs.Inner.Pair.{state_of, AtPrefix, AtValues, AtValue, Walked, tried, lowest_node}
use Rattle.run_state.proofs.{Memo.memo_on, Walk.walk_append, Walk.walk_stopped, Walk.visit_spent, Prefix.length_prefix, Prefix.prefix_ext, Prefix.prefix_take}
use Rattle.run_tree.proofs.Turns.{all_values, prefix_on}
use Rattle.run_ranges.specs.Inner.Within.{within, given, leaves, into_nodes, in_range, mid_nodes}
use Rattle.run_ranges.proofs.{Within.within_dead, Between.keep_keep}
use Rattle.run_between.specs.Inner.Steps.{range_mask, AtStep, Stepped, AtPut, PutNode}
use Rattle.run_tree.proofs.Turns as turns
use Rattle.run_between.proofs.Prefixes as pre

-- ---- the values of a range
pub range_is : (s low high : ℕ) → s < 2 ^ 16 → bit_and (bit_and s ((2 ^ 16 - 1) - full_mask low)) (full_mask high) ≡ range_mask s low high
range_is s low high h =
    ap (λ (n : ℕ). bit_and n (full_mask high)) (not_below s low h) ∙ common_op (mask_of f) (full_mask high) (mask_lt 16 f) (mask_lt 16 (λ v. ltb v high))
    ∙ mask_ext 16 (mask_of g) (range_mask s low high) (mask_lt 16 g) (mask_lt 16 k) (λ u l.
    has_mask 16 g u l ∙ ap₂ both (has_mask 16 f u l) (has_mask 16 (λ v. ltb v high) u l) ∙ assoc (has s u) (not (ltb u low)) (ltb u high) ∙ sym (has_mask 16 k u l))
  where
    f : ℕ → Bool
    f u = both (has s u) (not (ltb u low))

    g : ℕ → Bool
    g u = both (has (mask_of f) u) (has (full_mask high) u)

    k : ℕ → Bool
    k u = both (has s u) (in_range low high u)

    assoc : (a b c : Bool) → both (both a b) c ≡ both a (both b c)
    assoc true b c = refl
    assoc false b c = refl

pub members_range : (s low high : ℕ) → members (range_mask s low high) ≡ keep (in_range low high) (members s)
unfolding members
members_range s low high =
    keep_ext (has (range_mask s low high)) (λ u. both (has s u) (in_range low high u)) (below 16) (λ u m. has_mask 16 (λ u. both (has s u) (in_range low high u)) u (below_e 16 u m))
    ∙ sym (keep_keep (in_range low high) (has s) (below 16))

module _ (p : Problem) (stack work supports tables numbers list : List ℕ) (tally : Tally) (k : ℕ) (h : AtPrefix p stack work supports tables numbers list tally k) where
  abbrev prefix : List ℕ
  prefix = prefix_of work k

  abbrev Moved : List (List ℕ) → List ℕ → List ℕ → List ℕ → Tally → ℕ → Type 0
  Moved ts stack' work' list' tally' stop = Walked p ts stack work numbers list tally k stack' work' list' tally' stop

  pub shallow : k < 12
  shallow = let f = h.ready.well_formed.few in let i = h.inner in omega arith

  -- ---- a value that the sets leave
  pub set_is : at stack (DIAGONAL * k) ≡ at (sets_at p (prefix_of work k)) (length (prefix_of work k))
  set_is = all_values p stack work supports tables numbers list tally k h ∙ ap (at (sets_at p (prefix_of work k))) (sym (length_prefix work k))

  set_small : at stack (DIAGONAL * k) < 2 ^ 16
  set_small = subst (λ (s : ℕ). s < 2 ^ 16) (sym (all_values p stack work supports tables numbers list tally k h))
      ((sets_at_sets p (prefix_of work k) (well_sized (own_problem_in p numbers) h.ready.well_formed)).1 k)

  pub value_in : (v : ℕ) → T (has (at stack (DIAGONAL * k)) v) → T (has (at (sets_at p (prefix_of work k)) k) v)
  value_in v t = subst (λ (s : ℕ). T (has s v)) (all_values p stack work supports tables numbers list tally k h) t

  pub value_leaves : (v : ℕ) → T (has (at stack (DIAGONAL * k)) v) → T (leaves p (prefix_of work k) v)
  value_leaves v t = among_i v (candidates_at p prefix) (members_i _ v (has_lt 16 (at stack (DIAGONAL * k)) v set_small t) (subst (λ (s : ℕ). T (has s v)) set_is t))

  pub value_out : (v : ℕ) → has (at stack (DIAGONAL * k)) v ≡ false → leaves p (prefix_of work k) v ≡ false
  value_out v e = not_of (leaves p prefix v) (λ t. of_not (has (at stack (DIAGONAL * k)) v) e (subst (λ (s : ℕ). T (has s v)) (sym set_is) (members_e _ v (among_e v (candidates_at p prefix) t)).1))

  pub value_small : (v : ℕ) → T (has (at stack (DIAGONAL * k)) v) → v < 16
  value_small v t = has_lt 16 (at stack (DIAGONAL * k)) v set_small t

  -- ---- walks
  pub walked_none : Moved [] stack work list tally ALL
  unfolding walk
  walked_none = record { state = refl; summed = h.summed; sets = λ i l. refl; values = λ i l. refl; marks = λ i l u. refl; stack_length = refl; work_length = refl; memo = h.memo }

  pub walked_spent : (t : List ℕ) (ts : List (List ℕ)) → tally.nodes ≡ at numbers LIMIT → Moved (t ∷ ts) stack work list tally SPENT
  unfolding walk
  walked_spent t ts e = record {
    state = sym (ap (walk p (order_in numbers p.variables) (at numbers LIMIT) (at numbers ROOM) ts)
        (visit_spent p (order_in numbers p.variables) (at numbers LIMIT) (at numbers ROOM) t (state_of tally work ALL list) refl e)
        ∙ walk_stopped p (order_in numbers p.variables) (at numbers LIMIT) (at numbers ROOM) ts (exhausted (state_of tally work ALL list)) (λ q. omega arith));
    summed = h.summed;
    sets = λ i l. refl;
    values = λ i l. refl;
    marks = λ i l u. refl;
    stack_length = refl;
    work_length = refl;
    memo = h.memo;
  }

  module _ (ts us : List (List ℕ)) (stack' work' list' : List ℕ) (tally' : Tally) (stop : ℕ) (w : Moved ts stack' work' list' tally' stop) where
    pub walked_stops : (stop ≡ ALL → ⊥) → Moved (ts ++ us) stack' work' list' tally' stop
    walked_stops n = record {
      state = sym (walk_append p (order_in numbers p.variables) (at numbers LIMIT) (at numbers ROOM) ts us (state_of tally work ALL list)
          ∙ ap (walk p (order_in numbers p.variables) (at numbers LIMIT) (at numbers ROOM) us) (sym w.state)
          ∙ walk_stopped p (order_in numbers p.variables) (at numbers LIMIT) (at numbers ROOM) us (state_of tally' work' stop list') n);
      summed = w.summed;
      sets = w.sets;
      values = w.values;
      marks = w.marks;
      stack_length = w.stack_length;
      work_length = w.work_length;
      memo = w.memo;
    }

    pub walked_then : stop ≡ ALL → (stack'' work'' list'' : List ℕ) (tally'' : Tally) (stop'' : ℕ) → Walked p us stack' work' numbers list' tally' k stack'' work'' list'' tally'' stop'' → Moved
        (ts ++ us) stack'' work'' list'' tally'' stop''
    walked_then e stack'' work'' list'' tally'' stop'' v = record {
      state = v.state ∙ ap (walk p (order_in numbers p.variables) (at numbers LIMIT) (at numbers ROOM) us) (ap (λ (s : ℕ). state_of tally' work' s list') (sym e) ∙ w.state)
          ∙ sym (walk_append p (order_in numbers p.variables) (at numbers LIMIT) (at numbers ROOM) ts us (state_of tally work ALL list));
      summed = v.summed;
      sets = λ i l. v.sets i l ∙ w.sets i l;
      values = λ i l. v.values i l ∙ w.values i l;
      marks = λ i l u. v.marks i l u ∙ w.marks i l u;
      stack_length = v.stack_length ∙ w.stack_length;
      work_length = v.work_length ∙ w.work_length;
      memo = v.memo;
    }

    pub prefix_then : AtPrefix p stack' work' supports tables numbers list' tally' k
    prefix_then = prefix_on p stack work supports tables numbers list tally k h k (omega arith) ts stack' work' list' tally' stop w

    pub same_prefix : prefix_of work' k ≡ prefix_of work k
    same_prefix = prefix_ext work' work k (λ i l. w.values i l)

  -- the nodes of the values of a range
  pub range_tried : (low high : ℕ) → tried p work k (range_mask (at stack (DIAGONAL * k)) low high) ≡ mid_nodes p (p.variables - (k + 1)) (prefix_of work k) low high
  unfolding nodes_for mid_nodes nodes_of
  range_tried low high =
      ap (nodes_of p (p.variables - (k + 1)) prefix) (members_range (at stack (DIAGONAL * k)) low high ∙ ap (λ (s : ℕ). keep (in_range low high) (members s)) set_is)

  pub range_asks : (low high : ℕ) → AtValues p stack work supports tables numbers list tally k (range_mask (at stack (DIAGONAL * k)) low high)
  range_asks low high = record { prefix = h; inside = λ v t. value_in v (both_l (has (at stack (DIAGONAL * k)) v) _ (mask_e _ v t).1) }

-- ---- `step`
module _ (p : Problem) (stack work supports tables numbers list : List ℕ) (tally : Tally) (k : ℕ) (g : AtStep p stack work supports tables numbers list tally k) where
  abbrev h : AtPrefix p stack work supports tables numbers list tally k
  h = g.prefix

  pub step_asks : T (has (at stack (DIAGONAL * k)) (at work k)) → AtNode (own_problem_in p numbers) p.symmetries stack work supports tables numbers k
  step_asks t = pre.child_asks p stack work supports tables numbers list tally k h (value_in p stack work supports tables numbers list tally k h (at work k) t)

  pub stepped_out : has (at stack (DIAGONAL * k)) (at work k) ≡ false → Stepped p stack work supports tables numbers list tally k stack work false
  unfolding into_nodes
  stepped_out e = record {
    next = λ z. absurd (of_not false refl (T_of false z));
    member = λ z. absurd (of_not false refl (T_of false z));
    ends = λ z from upto. ap (λ (b : Bool). given b (within p (p.variables - (k + 1)) (prefix_of work k ++ (at work k ∷ [])) from upto))
        (value_out p stack work supports tables numbers list tally k h (at work k) e);
    values = λ i l. refl;
    sets = λ i l. refl;
    marks = λ i l u. refl;
    stack_length = refl;
    work_length = refl;
    memo = h.memo;
  }

  pub stepped_in : T (has (at stack (DIAGONAL * k)) (at work k)) → (stack' work' : List ℕ) (dead : Bool) → Reached (own_problem_in p numbers) p.symmetries (longer work k)
      (k + 1) stack work stack' work' dead →
      Stepped p stack work supports tables numbers list tally k stack' work' (not dead)
  unfolding into_nodes
  stepped_in t stack' work' dead q = record {
    next = λ z. subst (AtPrefix p stack' work' supports tables numbers list tally) (sym (add-one k))
        (pre.child_next p stack work supports tables numbers list tally k h stack' work' dead q (not-true dead z) (let i = g.inner in omega arith));
    member = λ z. value_leaves p stack work supports tables numbers list tally k h (at work k) t;
    ends = λ z from upto. gone (leaves p (prefix_of work k) (at work k)) (within_dead p (p.variables - (k + 1)) (prefix_of work k ++ (at work k ∷ [])) from upto (deadly z));
    values = λ i l. q.kept i (omega arith);
    sets = λ i l. q.before i (omega arith);
    marks = λ i l u. q.kept i (omega arith);
    stack_length = q.stack_length;
    work_length = q.work_length;
    memo = memo_on p (own_problem_in p numbers) (order_in numbers p.variables) work work' list (λ i l. q.beyond i (let n = h.inner in let f = h.ready.well_formed.few in omega arith))
        (q.kept PLANS (omega arith)) h.memo;
  }
    where
      gone : (b : Bool) {l : List (List ℕ)} → l ≡ [] → given b l ≡ []
      gone true e = e
      gone false e = refl

      deadly : not dead ≡ false → is_live p (prefix_of work k ++ (at work k ∷ [])) ≡ false
      deadly z = subst (λ (u : List ℕ). is_live p u ≡ false) (ap (λ (u : List ℕ). u ++ (at work k ∷ []))
          (prefix_take work k (let w = h.ready.work_length in let f = shallow p stack work supports tables numbers list tally k h in omega arith)))
          (not-true (is_live p (longer work k)) (sym q.answers ∙ not-false dead z))

-- ---- a node
module _ (p : Problem) (stack work supports tables numbers list : List ℕ) (tally : Tally) (k v : ℕ) (g : AtPut p stack work supports tables numbers list tally k v) where
  abbrev here : AtPrefix p stack work supports tables numbers list tally k
  here = g.prefix

  abbrev f : ℕ → Bool
  f u = eqb u v

  abbrev m : ℕ
  m = mask_of f

  v_small : v < 16
  v_small = has_lt 16 (at (sets_at p (prefix_of work k)) k) v ((sets_at_sets p (prefix_of work k) (well_sized (own_problem_in p numbers) here.ready.well_formed)).1 k) g.member

  in_m : T (has m v)
  in_m = mask_i f v v_small (eqb_refl v)

  not_none : m ≡ 0 → ⊥
  not_none e = of_not (has 0 v) (has_none v) (subst (λ (s : ℕ). T (has s v)) e in_m)

  small : m < 2 ^ 16
  small = mask_lt 16 f

  lowest : v ≡ lowest_of m
  lowest = sym (eqb→eq (lowest_of m) v (mask_e f (lowest_of m) (lowest_in m small not_none)).1)

  at_value : AtValue p stack work supports tables numbers list tally k m
  at_value = record {
    values = record { prefix = here; inside = λ u t. subst (λ (x : ℕ). T (has (at (sets_at p (prefix_of work k)) k) x)) (sym (eqb→eq u v (mask_e f u t).1)) g.member };
    some = pos_of_ne-zero not_none;
    due = g.due;
  }

  abbrev put : List ℕ
  put = set (set work k v) LAST (k + 1)

  pub put_asks : AtNode (own_problem_in p numbers) p.symmetries stack put supports tables numbers k
  put_asks = turns.child_asks p stack work supports tables numbers list tally k m at_value small v lowest

  module _ (stack' work' : List ℕ) (dead : Bool) (q : Reached (own_problem_in p numbers) p.symmetries (longer put k) (k + 1) stack put stack' work' dead) where
    same_node : lowest_node work k m ≡ prefix_of work k ++ (v ∷ [])
    same_node = ap (λ (u : ℕ). prefix_of work k ++ (u ∷ [])) (sym lowest)

    inner_so : k + 1 ≡ p.variables → ⊥
    inner_so e = let i = g.inner in omega arith

    then_so : (ts : List (List ℕ)) (stack'' work'' list'' : List ℕ) (tally'' : Tally) (stop : ℕ) → Walked p ts stack' work' numbers list (with_node (settling numbers k) tally)
        (k + 1) stack'' work'' list'' tally'' stop →
        Walked p ((prefix_of work k ++ (v ∷ [])) ∷ ts) stack work numbers list tally k stack'' work'' list'' tally'' stop
    then_so ts stack'' work'' list'' tally'' stop w =
        subst (λ (t : List ℕ). Walked p (t ∷ ts) stack work numbers list tally k stack'' work'' list'' tally'' stop) same_node
        (turns.entered_then p stack work supports tables numbers list tally k m at_value small v lowest stack' work' dead q inner_so ts stack'' work'' list'' tally'' stop w)

    longer_put : longer put k ≡ prefix_of work k ++ (v ∷ [])
    longer_put =
        let l = shallow p stack work supports tables numbers list tally k here in
        let w = here.ready.work_length in
        let n = length-set (set work k v) LAST (k + 1) ∙ length-set work k v in
        ap₂ (λ (t : List ℕ) (u : ℕ). t ++ (u ∷ []))
        (prefix_take put k (omega arith) ∙ prefix_ext put work k (λ i j. at_set_other (set work k v) LAST (k + 1) i (λ e. omega arith) ∙ at_set_other work k v i (λ e. omega arith)))
        (at_set_other (set work k v) LAST (k + 1) k (λ e. omega arith) ∙ at_set work k v (omega arith))

    pub put_node : PutNode p stack work supports tables numbers list tally k v stack' work' (not dead)
    unfolding walk
    put_node = record {
      dead = λ z. subst (λ (t : List ℕ). is_live p t ≡ false) longer_put (not-true (is_live p (longer put k)) (sym q.answers ∙ not-false dead z));
      alone = λ z. let d = turns.entered_dead p stack work supports tables numbers list tally k m at_value small v lowest stack' work' dead q (not-false dead z) in
          then_so [] stack' work' list (with_node (settling numbers k) tally) ALL
          record {
            state = refl;
            summed = (d.walked (λ e. omega arith)).summed;
            sets = λ i l. refl;
            values = λ i l. refl;
            marks = λ i l u. refl;
            stack_length = refl;
            work_length = refl;
            memo = (d.walked (λ e. omega arith)).memo;
          };
      next = λ z. (turns.entered_inner p stack work supports tables numbers list tally k m at_value small v lowest stack' work' dead q (not-true dead z) inner_so).next refl;
      node = turns.node_is p stack work supports tables numbers list tally k m at_value small v lowest stack' work' dead q ∙ same_node;
      then = then_so;
    }
