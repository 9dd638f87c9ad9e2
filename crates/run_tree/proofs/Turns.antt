-- One turn of `settle_variable` and of `try_value`, as statements about what they are given and what they leave: nothing to try, no node left, and a value
-- whose node is dead, a plan, or has nodes below it. Assumes nothing.
use Rattle.model.specs.Kit.{◌≡◌, refl, sym, ap, ap₂, ◌∙◌, subst, Bool, true, false, List, [], ◌∷◌, ◌++◌, ℕ, suc, ◌+◌, ◌-◌, ◌*◌, ◌^◌, ◌≤◌, ◌<◌, add-one, arith, T, not-true, not-false, length, take}
use Rattle.model.specs.Kit.{set, length-set}
use Rattle.model.specs.{Lists.at, ValueSets.has, ValueSets.without_mask, ValueSets.lowest_of, Problem.Problem, Search.sets_at, Search.is_live, Search.nodes_below, Run.Tally, Run.settled_by}
use Rattle.model.specs.{Inner.WellFormed.WellFormed}
use Rattle.model.proofs.{Lists.T_of, Lists.both_l, Lists.at_set, Lists.at_set_other, Sets.mask_e, Lowest.lowest_in, Lowest.without_less, Tree.well_sized}
use Rattle.order.specs.{Order.Ordering, Reordered.write}
use Rattle.arrays.specs.Inner.Places.{VARIABLES, LIMIT, ROOM, PLANS, LAST, MARKS, ALL, SPENT, DEEPER, WORK, DIAGONAL}
use Rattle.prune.specs.Inner.Node.{Ready, SetsHeld, Marked, AtNode, Reached, longer}
use Rattle.prune.proofs.Marks.{marked_on}
use Rattle.run_state.specs.{Inner.Walk.with_node, Inner.Walk.Summed, Inner.Walk.State, Inner.Walk.listed, Inner.Walk.counted, Inner.Walk.walk, Inner.Walk.nodes_for, Inner.Pair.prefix_of}
use Rattle.run_state.specs.Inner.Pair.{settling, order_in, own_problem_in, state_of, ListRoom, Listed, AtPrefix, AtValues, AtValue, Walked, Entered, tried, lowest_node, lowest_tried}
use Rattle.run_state.specs.Inner.Memo.{Remembers}
use Rattle.run_tree.proofs.Steps.{below_is, step_none, step, step_spent, node_dead, node_plan, node_inner, node_then}
use Rattle.run_state.proofs.Prefix.{length_prefix, prefix_at, prefix_ext, prefix_take, prefix_snoc}
use Rattle.run_state.proofs.{Walk.Fits, Walk.walk_fits, Walk.walk_stopped, Walk.summed_more, Memo.Stay, Memo.memo_stays, Memo.memo_on, Written.order_at, Written.length_order, Written.settling_inside}
use Rattle.run_memo.proofs.Walks.{live_values}
use Rattle.run_entry.proofs.Copies.{listed_stay}

-- the arrays still hold p where what was lent kept its length
pub ready_on : {p : Problem} {gs : List (List ℕ)} {stack work supports tables numbers stack' work' : List ℕ} → Ready p gs stack work supports tables numbers → length stack' ≡ length stack
    → length work' ≡ length work →
    Ready p gs stack' work' supports tables numbers
ready_on h s w = record {
  indexed = h.indexed;
  well_formed = h.well_formed;
  block = h.block;
  block_few = h.block_few;
  symmetries = h.symmetries;
  stack_length = s ∙ h.stack_length;
  work_length = w ∙ h.work_length;
}

-- sets that are unchanged are still right
pub held_on : (p : Problem) (stack stack' : List ℕ) (k : ℕ) (ds : List ℕ) → WellFormed p → ((i : ℕ) → i < 16 * suc k → at stack' i ≡ at stack i) → SetsHeld p stack k ds → SetsHeld p stack' k ds
held_on p stack stack' k ds w e h = record {
  sets = λ x l. e (16 * k + x) (let f = w.few in omega arith) ∙ h.sets x l;
  unused = λ x l u. e (16 * k + x) (omega arith) ∙ h.unused x l u;
}

-- a walk below a prefix, or below a longer one, leaves what is known at it
module _ (p : Problem) (stack work supports tables numbers list : List ℕ) (tally : Tally) (k : ℕ) (h : AtPrefix p stack work supports tables numbers list tally k)
    (j : ℕ) (lower : k ≤ j) (ts : List (List ℕ)) (stack' work' list' : List ℕ) (tally' : Tally) (stop : ℕ) (d : Walked p ts stack work numbers list tally j stack' work' list' tally' stop) where
  pub same : prefix_of work' k ≡ prefix_of work k
  same = prefix_ext work' work k (λ i l. d.values i (omega arith))

  fits : Fits p (at numbers LIMIT) (at numbers ROOM) (length list) (state_of tally' work' stop list')
  fits =
      subst (Fits p (at numbers LIMIT) (at numbers ROOM) (length list)) (sym d.state)
      (walk_fits p (order_in numbers p.variables) (length_order numbers p.variables) (at numbers LIMIT) (at numbers ROOM) (length list) h.room.fits ts (state_of tally work ALL list)
      record { allowed = h.allowed; sized = refl; roomy = h.room.listed })

  pub prefix_on : AtPrefix p stack' work' supports tables numbers list' tally' k
  prefix_on = record {
    ready = ready_on h.ready d.stack_length d.work_length;
    inner = h.inner;
    live = subst (λ (q : List ℕ). T (is_live p q)) (sym same) h.live;
    held = held_on (own_problem_in p numbers) stack stack' k (sets_at p (prefix_of work' k)) h.ready.well_formed (λ i l. d.sets i (omega arith))
        (subst (λ (q : List ℕ). SetsHeld (own_problem_in p numbers) stack k (sets_at p q)) (sym same) h.held);
    marked = marked_on (own_problem_in p numbers) p.symmetries work work' (prefix_of work' k) k h.ready.symmetries (λ i l u. d.marks i l (omega arith))
        (subst (λ (q : List ℕ). Marked (own_problem_in p numbers) p.symmetries work q k) (sym same) h.marked);
    limited = h.limited;
    allowed = fits.allowed;
    summed = d.summed;
    order = h.order;
    room = record {
      some = h.room.some;
      fits = subst (λ (n : ℕ). (n ≡ 0 → ⊥) → at numbers ROOM * p.variables ≤ n) (sym fits.sized) h.room.fits;
      listed = fits.roomy;
      small = h.room.small;
    };
    well = h.well;
    respected = h.respected;
    memo = d.memo;
  }

module _ (p : Problem) (stack work supports tables numbers list : List ℕ) (tally : Tally) (k m : ℕ) (h : AtValues p stack work supports tables numbers list tally k m) where
  abbrev pre : List ℕ
  pre = prefix_of work k

  abbrev limit : ℕ
  limit = at numbers LIMIT

  abbrev room : ℕ
  room = at numbers ROOM

  abbrev order : List ℕ
  order = order_in numbers p.variables

  abbrev left : ℕ
  left = p.variables - (k + 1)

  abbrev now_at : State
  now_at = state_of tally work ALL list

  pub turn_none : m ≡ 0 → Walked p (tried p work k m) stack work numbers list tally k stack work list tally ALL
  turn_none e = record {
    state = sym (ap (λ (s : ℕ). walk p order limit room (nodes_for p left pre s) now_at) e ∙ step_none p order limit room left pre now_at);
    summed = h.prefix.summed;
    sets = λ i l. refl;
    values = λ i l. refl;
    marks = λ i l u. refl;
    stack_length = refl;
    work_length = refl;
    memo = h.prefix.memo;
  }

  module _ (some : 0 < m) (small : m < 2 ^ 16) where
    abbrev node : List ℕ
    node = lowest_node work k m

    abbrev more : ℕ
    more = without_mask m (lowest_of m)

    pub turn_spent : tally.nodes ≡ limit → Walked p (tried p work k m) stack work numbers list tally k stack work list tally SPENT
    turn_spent e = record {
      state = sym (step_spent p order limit room left pre m some small now_at refl e);
      summed = h.prefix.summed;
      sets = λ i l. refl;
      values = λ i l. refl;
      marks = λ i l u. refl;
      stack_length = refl;
      work_length = refl;
      memo = h.prefix.memo;
    }

    module _ (stack' work' list' : List ℕ) (tally' : Tally) (stop : ℕ) (d : Walked p (lowest_tried p work k m) stack work numbers list tally k stack' work' list' tally' stop) where
      same_prefix : prefix_of work' k ≡ pre
      same_prefix = prefix_ext work' work k d.values

      pub turn_stops : (stop ≡ ALL → ⊥) → Walked p (tried p work k m) stack work numbers list tally k stack' work' list' tally' stop
      turn_stops n = record {
        state = sym (step p order limit room left pre m some small now_at refl
            ∙ ap (walk p order limit room (nodes_for p left pre more)) (sym d.state)
            ∙ walk_stopped p order limit room (nodes_for p left pre more) (state_of tally' work' stop list') n);
        summed = d.summed;
        sets = d.sets;
        values = d.values;
        marks = d.marks;
        stack_length = d.stack_length;
        work_length = d.work_length;
        memo = d.memo;
      }

      pub turn_asks : AtValues p stack' work' supports tables numbers list' tally' k more
      turn_asks = record {
        prefix = prefix_on p stack work supports tables numbers list tally k h.prefix k (omega arith) (lowest_tried p work k m) stack' work' list' tally' stop d;
        inside = λ v t.
            subst (λ (q : List ℕ). T (has (at (sets_at p q) k) v)) (sym same_prefix)
            (h.inside v (both_l (has m v) _ (mask_e _ v t).1));
      }

      pub turn_goes : stop ≡ ALL → (stack'' work'' list'' : List ℕ) (tally'' : Tally) (stop'' : ℕ) →
          Walked p (tried p work' k more) stack' work' numbers list' tally' k stack'' work'' list'' tally'' stop'' →
          Walked p (tried p work k m) stack work numbers list tally k stack'' work'' list'' tally'' stop''
      turn_goes g stack'' work'' list'' tally'' stop'' w = record {
        state = w.state ∙ ap₂ (λ (q : List ℕ) (s : State). walk p order limit room (nodes_for p left q more) s) same_prefix (ap (λ (s : ℕ). state_of tally' work' s list') (sym g) ∙ d.state)
            ∙ sym (step p order limit room left pre m some small now_at refl);
        summed = w.summed;
        sets = λ i l. w.sets i l ∙ d.sets i l;
        values = λ i l. w.values i l ∙ d.values i l;
        marks = λ i l u. w.marks i l u ∙ d.marks i l u;
        stack_length = w.stack_length ∙ d.stack_length;
        work_length = w.work_length ∙ d.work_length;
        memo = w.memo;
      }

-- ---- `settle`'s values from the sets: all values of the variable's set are to be tried
module _ (p : Problem) (stack work supports tables numbers list : List ℕ) (tally : Tally) (k : ℕ) (h : AtPrefix p stack work supports tables numbers list tally k) where
  pub all_values : at stack (DIAGONAL * k) ≡ at (sets_at p (prefix_of work k)) k
  all_values = let e : DIAGONAL * k ≡ 16 * k + k = omega arith in ap (at stack) e ∙ h.held.sets k h.inner

  pub values_ask : AtValues p stack work supports tables numbers list tally k (at stack (DIAGONAL * k))
  values_ask = record { prefix = h; inside = λ v t. subst (λ (m : ℕ). T (has m v)) all_values t }

  pub tried_all : tried p work k (at stack (DIAGONAL * k)) ≡ nodes_below p (p.variables - k) (prefix_of work k)
  tried_all =
      let e : p.variables - k ≡ suc (p.variables - (k + 1)) = let i = h.inner in omega arith in
      ap (nodes_for p (p.variables - (k + 1)) (prefix_of work k)) (all_values ∙ ap (at (sets_at p (prefix_of work k))) (sym (length_prefix work k)))
      ∙ sym (below_is p (p.variables - (k + 1)) (prefix_of work k))
      ∙ ap (λ (j : ℕ). nodes_below p j (prefix_of work k)) (sym e)

-- ---- `enter`: the lowest value v stands in `work`, with the number of values that are a node now, and `child` has answered
module _ (p : Problem) (stack work supports tables numbers list : List ℕ) (tally : Tally) (k m : ℕ) (g : AtValue p stack work supports tables numbers list tally k m) (small : m < 2 ^ 16) (v : ℕ)
    (lowest : v ≡ lowest_of m) where
  abbrev h : AtPrefix p stack work supports tables numbers list tally k
  h = g.values.prefix

  abbrev here : List ℕ
  here = lowest_node work k m

  abbrev put : List ℕ
  put = set (set work k v) LAST (k + 1)

  within : k < length work
  within = let f = h.ready.well_formed.few in let i = h.inner in let w = h.ready.work_length in omega arith

  early : k < 12
  early = let f = h.ready.well_formed.few in let i = h.inner in omega arith

  length_put : length put ≡ length work
  length_put = length-set (set work k v) LAST (k + 1) ∙ length-set work k v

  kept : (i : ℕ) → (i ≡ k → ⊥) → (i ≡ LAST → ⊥) → at put i ≡ at work i
  kept i l o = at_set_other (set work k v) LAST (k + 1) i o ∙ at_set_other work k v i l

  before : (i : ℕ) → i < k → at put i ≡ at work i
  before i l = let f = early in kept i (λ e. omega arith) (λ e. omega arith)

  value : at put k ≡ lowest_of m
  value = at_set_other (set work k v) LAST (k + 1) k (let f = early in λ e. omega arith) ∙ at_set work k v within ∙ lowest

  taken : take k put ≡ prefix_of work k
  taken = prefix_take put k (let e = length_put in let w = within in omega arith) ∙ prefix_ext put work k before

  longer_is : longer put k ≡ here
  longer_is = ap₂ (λ (q : List ℕ) (u : ℕ). q ++ (u ∷ [])) taken value

  pub child_asks : AtNode (own_problem_in p numbers) p.symmetries stack put supports tables numbers k
  child_asks = record {
    ready = ready_on h.ready refl length_put;
    room = h.inner;
    live = subst (λ (q : List ℕ). T (is_live p q)) (sym taken) h.live;
    held = subst (λ (q : List ℕ). SetsHeld (own_problem_in p numbers) stack k (sets_at p q)) (sym taken) h.held;
    marked = marked_on (own_problem_in p numbers) p.symmetries work put (take k put) k h.ready.symmetries (λ i l u. let f = early in kept i (λ e. omega arith) (λ e. omega arith))
        (subst (λ (q : List ℕ). Marked (own_problem_in p numbers) p.symmetries work q k) (sym taken) h.marked);
    member = subst (λ (u : ℕ). T (has (at (sets_at p (take k put)) k) u)) (sym value)
        (subst (λ (q : List ℕ). T (has (at (sets_at p q) k) (lowest_of m))) (sym taken) (g.values.inside (lowest_of m) (lowest_in m small (λ e. let o = g.some in omega arith))));
  }

  -- the tally with this node
  abbrev x : ℕ
  x = settling numbers k

  abbrev next : Tally
  next = with_node x tally

  few : x < 12
  few = let f = h.ready.well_formed.few in let i = settling_inside numbers p.variables k h.order h.inner in omega arith

  summed₂ : Summed next
  summed₂ = summed_more x tally few h.summed

  module _ (stack₂ work₂ : List ℕ) (dead : Bool) (q : Reached (own_problem_in p numbers) p.symmetries (longer put k) (k + 1) stack put stack₂ work₂ dead) where
    sets₂ : (i : ℕ) → i < 16 * suc k → at stack₂ i ≡ at stack i
    sets₂ i l = q.before i (omega arith)

    values₂ : (i : ℕ) → i < 16 * suc (suc k) → (i ≡ k → ⊥) → (i ≡ LAST → ⊥) → at work₂ i ≡ at work i
    values₂ i l o n = q.kept i (omega arith) ∙ kept i o n

    before₂ : (i : ℕ) → i < k → at work₂ i ≡ at work i
    before₂ i l = let f = early in values₂ i (omega arith) (λ e. omega arith) (λ e. omega arith)

    marks₂ : (i : ℕ) → MARKS ≤ i → i < 16 * suc (suc k) → at work₂ i ≡ at work i
    marks₂ i l u = let f = early in values₂ i u (λ e. omega arith) (λ e. omega arith)

    plans₂ : at work₂ PLANS ≡ at work PLANS
    plans₂ = let f = early in values₂ PLANS (omega arith) (λ e. omega arith) (λ e. omega arith)

    last₂ : at work₂ LAST ≡ k + 1
    last₂ = q.kept LAST (omega arith) ∙ at_set (set work k v) LAST (k + 1) (let e = length-set work k v in let w = h.ready.work_length in omega arith)

    work_length₂ : length work₂ ≡ length work
    work_length₂ = q.work_length ∙ length_put

    memo₂ : Remembers p (own_problem_in p numbers) (order_in numbers p.variables) work₂ list
    memo₂ =
        let f = early in
        memo_on p (own_problem_in p numbers) (order_in numbers p.variables) work work₂ list (λ i l. q.beyond i (omega arith) ∙ kept i (λ e. omega arith) (λ e. omega arith)) plans₂ h.memo

    node₂ : prefix_of work₂ (k + 1) ≡ here
    node₂ =
        ap (prefix_of work₂) (add-one k)
        ∙ prefix_ext work₂ put (suc k) (λ i l. q.kept i (omega arith))
        ∙ sym (prefix_snoc put k)
        ∙ ap₂ (λ (t : List ℕ) (u : ℕ). t ++ (u ∷ [])) (prefix_ext put work k before) value

    length_node : length here ≡ k + 1
    length_node = ap length (sym node₂) ∙ length_prefix work₂ (k + 1)

    -- the node settles the variable of its depth
    settled : at (order_in numbers p.variables) (settled_by here) ≡ x
    settled = ap (at (order_in numbers p.variables)) (let l = length_node in omega arith) ∙ order_at numbers p.variables k h.inner

    state₂ : state_of next work₂ ALL list ≡ counted (at (order_in numbers p.variables) (settled_by here)) here (state_of tally work ALL list)
    state₂ =
        ap₂ (λ (n : ℕ) (t : List ℕ). record { tally = next; plans = n; stop = ALL; list = list; last = t }) plans₂ (ap (prefix_of work₂) last₂ ∙ node₂)
        ∙ ap (λ (y : ℕ). counted y here (state_of tally work ALL list)) (sym settled)

    live₂ : dead ≡ false → is_live p here ≡ true
    live₂ e = subst (λ (t : List ℕ). is_live p t ≡ true) longer_is (not-false (is_live p (longer put k)) (sym q.answers ∙ e))

    dead₂ : dead ≡ true → is_live p here ≡ false
    dead₂ e = subst (λ (t : List ℕ). is_live p t ≡ false) longer_is (not-true (is_live p (longer put k)) (sym q.answers ∙ e))

    abbrev Out : List ℕ → List ℕ → List ℕ → ℕ → Type 0
    Out stack' work' list' step = Entered p stack work supports tables numbers list tally k m stack' work' list' step

    pub entered_dead : dead ≡ true → Out stack₂ work₂ list ALL
    entered_dead e = record {
      walked = λ n. record {
        state = state₂ ∙ sym (node_dead p (order_in numbers p.variables) (at numbers LIMIT) (at numbers ROOM) (p.variables - (k + 1)) (prefix_of work k) here (state_of tally work ALL list) refl
            g.due (dead₂ e));
        summed = summed₂;
        sets = sets₂;
        values = before₂;
        marks = marks₂;
        stack_length = q.stack_length;
        work_length = work_length₂;
        memo = memo₂;
      };
      next = λ z. absurd (omega arith);
      then = λ z. absurd (omega arith);
    }

    -- a plan
    room₂ : ListRoom p.variables (at numbers ROOM) list (at work₂ PLANS)
    room₂ = subst (ListRoom p.variables (at numbers ROOM) list) (sym plans₂) h.room

    pub plan_asks : ListRoom (at numbers VARIABLES) (at numbers ROOM) list (at work₂ PLANS)
    plan_asks = subst (λ (n : ℕ). ListRoom n (at numbers ROOM) list (at work₂ PLANS)) (sym h.ready.indexed.numbered.variables) room₂

    pub plan_bytes : dead ≡ false → k + 1 ≡ p.variables → (i : ℕ) → i < p.variables → at work₂ i < 256
    plan_bytes e n i l =
        let z : i < k + 1 = omega arith in
        let s = live_values p (well_sized (own_problem_in p numbers) h.ready.well_formed) here (T_of _ (live₂ e)) i (let a = length_node in omega arith) l in
        let a : at here i ≡ at work₂ i = ap (λ (t : List ℕ). at t i) (sym node₂) ∙ prefix_at work₂ (k + 1) i z in
        omega arith

    pub plan_order : Ordering (at numbers VARIABLES) (order_in numbers (at numbers VARIABLES))
    plan_order = subst (λ (n : ℕ). Ordering n (order_in numbers n)) (sym h.ready.indexed.numbered.variables) h.order

    pub plan_sized : length work₂ ≡ WORK
    plan_sized = work_length₂ ∙ h.ready.work_length

    pub entered_plan : dead ≡ false → k + 1 ≡ p.variables → (work₃ list₃ : List ℕ) (stop : ℕ) → Listed (at numbers VARIABLES) (at numbers ROOM)
        (order_in numbers (at numbers VARIABLES)) work₂ list work₃ list₃ stop → Out stack₂ work₃ list₃ stop
    entered_plan e n work₃ list₃ stop w = record {
      walked = λ z. record {
        state = w.state next (prefix_of work₃ (at work₃ LAST))
            ∙ ap (λ (t : List ℕ). listed (at numbers VARIABLES) (at numbers ROOM) (write (order_in numbers (at numbers VARIABLES)) (prefix_of work₂ (at numbers VARIABLES))) record
            { tally = next; plans = at work₂ PLANS; stop = ALL; list = list; last = t }) last₃
            ∙ ap (λ (j : ℕ). listed j (at numbers ROOM) (write (order_in numbers j) (prefix_of work₂ j)) (state_of next work₂ ALL list)) h.ready.indexed.numbered.variables
            ∙ ap₂ (λ (t : List ℕ) (s : State). listed p.variables (at numbers ROOM) (write (order_in numbers p.variables) t) s) (ap (prefix_of work₂) (sym n) ∙ node₂) state₂
            ∙ sym (node_plan p (order_in numbers p.variables) (at numbers LIMIT) (at numbers ROOM) (p.variables - (k + 1)) (prefix_of work k) here (state_of tally work ALL list) refl g.due
            (live₂ e) (length_node ∙ n) (omega arith));
        summed = summed₂;
        sets = sets₂;
        values = λ i l. w.others i (let f = h.ready.well_formed.few in let z = h.inner in λ e. omega arith) ∙ before₂ i l;
        marks = λ i l u. w.others i (λ e. omega arith) ∙ marks₂ i l u;
        stack_length = q.stack_length;
        work_length = w.work_length ∙ work_length₂;
        memo = memo_stays p (own_problem_in p numbers) (order_in numbers p.variables) work₂ list work₃ list₃ (λ i l. w.others i (λ e. omega arith)) stay memo₂;
      };
      next = λ z. absurd (let l = w.known in omega arith);
      then = λ z. absurd (let l = w.known in omega arith);
    }
      where
        variables : at numbers VARIABLES ≡ p.variables
        variables = h.ready.indexed.numbered.variables

        stay : Stay p.variables work₂ list work₃ list₃
        stay = subst (λ (j : ℕ). Stay j work₂ list work₃ list₃) variables
            (listed_stay (at numbers VARIABLES) (at numbers ROOM) (order_in numbers (at numbers VARIABLES)) work₂ list work₃ list₃ stop plan_asks (length_order numbers (at numbers VARIABLES)) w)

        last₃ : prefix_of work₃ (at work₃ LAST) ≡ prefix_of work₂ (at work₂ LAST)
        last₃ =
            ap (prefix_of work₃) (w.others LAST (λ e. omega arith))
            ∙ prefix_ext work₃ work₂ (at work₂ LAST) (λ i l. w.others i (let f = early in let a = last₂ in λ e. omega arith))

    -- nodes below
    next₂ : dead ≡ false → (k + 1 ≡ p.variables → ⊥) → AtPrefix p stack₂ work₂ supports tables numbers list next (k + 1)
    next₂ e n = record {
      ready = ready_on h.ready q.stack_length work_length₂;
      inner = let i = h.inner in omega arith;
      live = T_of (is_live p (prefix_of work₂ (k + 1))) (subst (λ (t : List ℕ). is_live p t ≡ true) (sym node₂) (live₂ e));
      held = subst (λ (t : List ℕ). SetsHeld (own_problem_in p numbers) stack₂ (k + 1) (sets_at p t)) (longer_is ∙ sym node₂) (q.holds e);
      marked = subst (λ (t : List ℕ). Marked (own_problem_in p numbers) p.symmetries work₂ t (k + 1)) (longer_is ∙ sym node₂) (q.marked e);
      limited = h.limited;
      allowed = let a = h.allowed in let d = g.due in omega arith;
      summed = summed₂;
      order = h.order;
      room = room₂;
      well = h.well;
      respected = h.respected;
      memo = memo₂;
    }

    pub entered_inner : dead ≡ false → (k + 1 ≡ p.variables → ⊥) → Out stack₂ work₂ list DEEPER
    entered_inner e n = record {
      walked = λ z. absurd (z refl);
      next = λ z. next₂ e n;
      then = λ z stack₃ work₃ list₃ tally₃ stop w. record {
        state = w.state ∙ ap (λ (ts : List (List ℕ)). walk p (order_in numbers p.variables) (at numbers LIMIT) (at numbers ROOM) ts (state_of next work₂ ALL list))
            (tried_all p stack₂ work₂ supports tables numbers list next (k + 1) (next₂ e n))
            ∙ ap₂ (λ (t : List ℕ) (s : State). walk p (order_in numbers p.variables) (at numbers LIMIT) (at numbers ROOM) (nodes_below p (p.variables - (k + 1)) t) s) node₂ state₂
            ∙ sym (node_inner p (order_in numbers p.variables) (at numbers LIMIT) (at numbers ROOM) (p.variables - (k + 1)) (prefix_of work k) here (state_of tally work ALL list) refl g.due
            (λ z. n (sym length_node ∙ z)));
        summed = w.summed;
        sets = λ i l. w.sets i (omega arith) ∙ sets₂ i l;
        values = λ i l. w.values i (omega arith) ∙ before₂ i l;
        marks = λ i l u. w.marks i l (omega arith) ∙ marks₂ i l u;
        stack_length = w.stack_length ∙ q.stack_length;
        work_length = w.work_length ∙ work_length₂;
        memo = w.memo;
      };
    }

    -- the node, and a walk along some nodes below it
    pub node_is : prefix_of work₂ (k + 1) ≡ lowest_node work k m
    node_is = node₂

    pub entered_then : (k + 1 ≡ p.variables → ⊥) → (ts : List (List ℕ)) (stack₃ work₃ list₃ : List ℕ) (tally₃ : Tally) (stop : ℕ) → Walked p ts stack₂ work₂ numbers list next
        (k + 1) stack₃ work₃ list₃ tally₃ stop →
        Walked p (lowest_node work k m ∷ ts) stack work numbers list tally k stack₃ work₃ list₃ tally₃ stop
    entered_then n ts stack₃ work₃ list₃ tally₃ stop w = record {
      state = w.state ∙ ap (walk p (order_in numbers p.variables) (at numbers LIMIT) (at numbers ROOM) ts) state₂
          ∙ sym (node_then p (order_in numbers p.variables) (at numbers LIMIT) (at numbers ROOM) here ts (state_of tally work ALL list) refl g.due (λ z. n (sym length_node ∙ z)));
      summed = w.summed;
      sets = λ i l. w.sets i (omega arith) ∙ sets₂ i l;
      values = λ i l. w.values i (omega arith) ∙ before₂ i l;
      marks = λ i l u. w.marks i l (omega arith) ∙ marks₂ i l u;
      stack_length = w.stack_length ∙ q.stack_length;
      work_length = w.work_length ∙ work_length₂;
      memo = w.memo;
    }

-- ---- the measures: variables left, then values left, then whether a value is tried
abbrev pub μ_settle : ℕ → ℕ → ℕ
μ_settle k m = (12 - k) * 2 ^ 17 + 2 * m + 1

abbrev pub μ_try : ℕ → ℕ → ℕ
μ_try k m = (12 - k) * 2 ^ 17 + 2 * m

pub try_falls : (k m : ℕ) → μ_try k m < μ_settle k m
try_falls k m = omega arith

pub rest_falls : (k m : ℕ) → 0 < m → m < 2 ^ 16 → μ_settle k (without_mask m (lowest_of m)) < μ_settle k m
rest_falls k m h l = let s = without_less m (lowest_of m) l (lowest_in m l (λ e. omega arith)) in omega arith

pub next_falls : (k m m' : ℕ) → k < 12 → m' < 2 ^ 16 → μ_settle (k + 1) m' < μ_try k m
next_falls k m m' h l = omega arith
