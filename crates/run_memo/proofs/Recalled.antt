-- The walk along the nodes below a prefix, by the figures of an entry and its plans. Assumes nothing.
use Rattle.model.specs.Kit.{◌≡◌, refl, sym, ap, ap₂, ◌∙◌, subst, List, [], ◌++◌, Memᴰ-of_map, map, length-map, ℕ, ◌+◌, ◌-◌, ◌^◌, ◌*◌, ◌≤◌, ◌<◌, dec_lt, arith, T, eqb, eqb→eq, length, drop}
use Rattle.model.specs.Kit.{length-append, length-drop, mul-le-mul_right}
use Rattle.model.specs.{Lists.at, Lists.keep, Lists.tabulate, Lists.total, Problem.Problem, Search.nodes_below, Search.is_plan, Search.is_live, Run.Tally, Run.settled_by, Run.counts_by}
use Rattle.model.proofs.Lists.{at_drop, at_ext, at_append, at_skip, at_tabulate, length_tabulate, both_l, keep_e}
use Rattle.model.proofs.{Tally.length_counts, Tally.counts_total, Tally.at_total, Tree.well_sized}
use Rattle.order.specs.{Order.Ordering, Reordered.write}
use Rattle.arrays.specs.Inner.Places.{VARIABLES, LIMIT, ROOM, PLANS, LAST, ALL, NODES, LENGTH, ROWS, FIRST, ENDS, COUNTS}
use Rattle.run_cut.specs.Parts.{last_of}
use Rattle.run_alike.specs.{Inner.Alike.moved, Inner.Claims.SameBelow}
use Rattle.run_passed.specs.Inner.Passed.{plus, noted_all}
use Rattle.run_passed.proofs.Passed.{walk_by}
use Rattle.run_state.specs.{Inner.Walk.Summed, Inner.Walk.State, Inner.Walk.walk, Inner.Memo.subtree, Inner.Memo.Stand, Inner.Memo.plans_below, Inner.Memo.Kept, Inner.Pair.prefix_of}
use Rattle.run_state.specs.{Inner.Pair.order_in}
use Rattle.run_state.specs.Inner.Pair.{own_problem_in, state_of, ListRoom, AtPrefix, Walked}
use Rattle.run_state.proofs.{Memo.tabulate_ext, Memo.memo_stays, Prefix.length_prefix, Prefix.prefix_at, Prefix.prefix_is, Walk.length_write, Written.length_order}
use Rattle.run_key.specs.Inner.Key.{Placed}
use Rattle.run_entry.specs.Inner.Entry.{Copies, Copied, Stands, Taken}
use Rattle.run_memo.specs.Inner.Steps.{GrowsBy, grown_by}
use Rattle.run_memo.proofs.Walks.{order_small, walk_summed, last_there, live_values}
use Rattle.run_entry.proofs.Copies.{all_before}

module _ (p : Problem) (stack work supports tables numbers list : List ℕ) (tally : Tally) (k : ℕ) (h : AtPrefix p stack work supports tables numbers list tally k)
    (s : ℕ) (z : Placed s) (e : Kept p (own_problem_in p numbers) (order_in numbers p.variables) work list s) (size_b : length e.prefix ≡ k)
    (sb : SameBelow p (p.variables - k) (prefix_of work k) e.prefix) (fits : tally.nodes + at work (s + NODES) ≤ at numbers LIMIT)
    (roomy : at work PLANS + at work (s + ROWS) ≤ at numbers ROOM) where
  abbrev a : List ℕ
  a = prefix_of work k

  abbrev order : List ℕ
  order = order_in numbers p.variables

  abbrev ts : List (List ℕ)
  ts = nodes_below p (p.variables - k) e.prefix

  abbrev f : List ℕ → ℕ
  f u = at order (settled_by u)

  abbrev first : State
  first = state_of tally work ALL list

  few : k < 12
  few = let n = h.ready.well_formed.few in let i = h.inner in omega arith

  sub_is : subtree p e.prefix ≡ ts
  sub_is = ap (λ (i : ℕ). nodes_below p (p.variables - i) e.prefix) size_b

  made : length ts ≡ at work (s + NODES)
  made = ap length (sym sub_is) ∙ sym e.nodes

  some : 0 < length ts
  some = subst (λ (n : ℕ). 0 < n) (sym made) e.some

  abbrev ks : List (List ℕ)
  ks = keep (is_plan p) ts

  plans_kept : plans_below p e.prefix ≡ ks
  plans_kept = ap (keep (is_plan p)) sub_is

  rows_are : at work (s + ROWS) ≡ length ks
  rows_are = e.rows ∙ ap (λ (us : List (List ℕ)). length us) plans_kept

  variables : at numbers VARIABLES ≡ p.variables
  variables = h.ready.indexed.numbered.variables

  pub copies_ask : Copies numbers work list k s
  copies_ask = record {
    few = subst (λ (n : ℕ). n ≤ 12) (sym variables) h.ready.well_formed.few;
    inner = omega (arith, variables, h.inner);
    long = h.ready.work_length;
    placed = z;
    order = subst (λ (n : ℕ). Ordering n (order_in numbers n)) (sym variables) h.order;
    room = subst (λ (n : ℕ). ListRoom n (at numbers ROOM) list (at work PLANS)) (sym variables) h.room;
    fits = roomy;
    past = e.past;
    bytes = λ i l. let s = live_values p (well_sized (own_problem_in p numbers) h.ready.well_formed) a h.live i (omega (arith, length_prefix work k)) (omega (arith, h.inner)) in
        omega (arith, prefix_at work k i l);
  }

  -- the entry's plans
  stands : Stands numbers work list s ks
  unfolding is_plan
  stands = (
    sym rows_are,
    λ t m. eqb→eq (length t) p.variables (plan_long t (keep_e (is_plan p) ts t m).1) ∙ sym variables,
    λ n. subst (λ (m : ℕ). Stand m (at work (s + FIRST)) (map (write (order_in numbers m)) ks) list) (sym variables)
        (subst (λ (us : List (List ℕ)). Stand p.variables (at work (s + FIRST)) (map (write order) us) list) plans_kept (e.stand n)),
  )
    where
      plan_long : (t : List ℕ) → T (is_plan p t) → T (eqb (length t) p.variables)
      plan_long t q = both_l (eqb (length t) p.variables) (is_live p t) q

  module _ (work₁ list' : List ℕ) (c : Copied numbers work list k s work₁ list') (work' : List ℕ) (t : Taken work₁ k s work') where
    -- the entry's numbers stay
    same : (i : ℕ) → at work' (s + i) ≡ at work (s + i)
    same i = t.others (s + i) (omega (arith, z.is)) (λ q. omega (arith, z.is)) (λ q. omega (arith, z.is, few)) ∙ c.others (s + i) (omega (arith, z.is)) (λ q. omega (arith, z.is))

    counts_are : tabulate 12 (λ x. at work (s + COUNTS + x)) ≡ counts_by f ts
    counts_are =
        at_ext (tabulate 12 (λ x. at work (s + COUNTS + x))) (counts_by f ts) (length_tabulate 12 _ ∙ sym (length_counts f ts))
        (λ x l. let j : x < 12 = subst (λ (n : ℕ). x < n) (length_tabulate 12 (λ x. at work (s + COUNTS + x))) l in
        at_tabulate 12 (λ x. at work (s + COUNTS + x)) x j ∙ e.counts x j ∙ ap (λ (us : List (List ℕ)). at (counts_by f us) x) sub_is)

    -- the counts may grow so
    within : (x : ℕ) → x < 12 → at tally.counts x + at work (s + COUNTS + x) < 2 ^ 32
    within x l =
        let u = at_total tally.counts x in
        let v = at_total (counts_by f ts) x in
        let c = e.counts x l ∙ ap (λ (us : List (List ℕ)). at (counts_by f us) x) sub_is in
        omega (arith, h.summed.sum, h.limited, total_is, made)
      where
        total_is : total (counts_by f ts) ≡ length ts
        total_is = counts_total f ts (λ u m. order_small p.variables order (settled_by u) h.order h.ready.well_formed.few)

    at_entry : (j x : ℕ) → at work' (s + j + x) ≡ at work (s + j + x)
    at_entry j x = let q : s + (j + x) ≡ s + j + x = omega arith in subst (λ (i : ℕ). at work' i ≡ at work i) q (same (j + x))

    pub grows : GrowsBy tally work' s
    grows = record {
      twelve = h.summed.twelve;
      counts = λ x l. subst (λ (n : ℕ). at tally.counts x + n < 2 ^ 32) (sym (at_entry COUNTS x)) (within x l);
      nodes = subst (λ (n : ℕ). tally.nodes + n < 2 ^ 32) (sym (same NODES)) (omega (arith, h.limited));
    }

    -- the last node
    ended : prefix_of work' (at work' LAST) ≡ last_of first.last (map (moved a) ts)
    ended =
        ap (prefix_of work') (t.last ∙ c.others (s + LENGTH) (omega (arith, z.is)) (λ q. omega (arith, z.is))) ∙ sym (prefix_is (a ++ drop (length a) L) work' (at work (s + LENGTH)) long each)
        ∙ ap (moved a) (sym (e.last []) ∙ ap (last_of []) sub_is) ∙ sym (last_there a ts some first.last [])
      where
        L : List ℕ
        L = tabulate (at work (s + LENGTH)) (λ x. at work (s + ENDS + x))

        long : length (a ++ drop (length a) L) ≡ at work (s + LENGTH)
        long = omega (arith, length-append a (drop (length a) L), length-drop (length a) L, length_tabulate (at work (s + LENGTH)) (λ x. at work (s + ENDS + x)), length_prefix work k, e.deep, size_b)

        each : (i : ℕ) → i < at work (s + LENGTH) → at (a ++ drop (length a) L) i ≡ at work' i
        each i l = go (dec_lt i k)
          where
            go : Dec (i < k) → at (a ++ drop (length a) L) i ≡ at work' i
            go (yes q) = at_append a (drop (length a) L) i (omega (arith, length_prefix work k)) ∙ prefix_at work k i q ∙ sym (t.before i q (omega (arith, few)) ∙ c.before i q)
            go (no q) =
                let d : length a + (i - length a) ≡ i = omega (arith, length_prefix work k) in
                at_skip a (drop (length a) L) (length a) i refl (omega (arith, length_prefix work k)) ∙ at_drop (length a) L (i - length a) ∙ ap (at L) d
                ∙ at_tabulate (at work (s + LENGTH)) (λ x. at work (s + ENDS + x)) i l ∙ sym (t.values i (omega arith) (omega (arith, e.short)) ∙ c.others (s + ENDS + i) (omega (
                  arith,
                  z.is,
                )) (λ q. omega (arith, z.is)))

    module _ (tally' : Tally) (grown : tally' ≡ grown_by tally work' s) where
      tally_is : tally' ≡ record { nodes = tally.nodes + length ts; counts = plus tally.counts (counts_by f ts) }
      tally_is =
          grown
          ∙ ap₂ (λ (n : ℕ) (cs : List ℕ). record { nodes = tally.nodes + n; counts = plus tally.counts cs }) (same NODES ∙ sym made)
          (tabulate_ext 12 (λ x. at work' (s + COUNTS + x)) (λ x. at work (s + COUNTS + x)) (λ x l. at_entry COUNTS x) ∙ counts_are)

      plans_are : at work' PLANS ≡ at work PLANS + length (map (moved a) ks)
      plans_are = omega (arith, t.others PLANS (omega arith) (λ q. omega arith) (λ q. omega (arith, few)), c.plans, rows_are, length-map ks (moved a))

      list_is : list' ≡ noted_all p.variables (at work PLANS) (map (write order) (map (moved a) ks)) list
      list_is = c.list_is ks stands ∙ ap (λ (n : ℕ). noted_all n (at work PLANS) (map (write (order_in numbers n)) (map (moved a) ks)) list) variables

      state_is : state_of tally' work' ALL list' ≡ walk p order (at numbers LIMIT) (at numbers ROOM) (nodes_below p (p.variables - k) a) first
      state_is =
          ap₂ (λ (y : Tally) (q : List ℕ). record { tally = y; plans = at work' PLANS; stop = ALL; list = list'; last = q }) tally_is ended
          ∙ ap₂ (λ (n : ℕ) (l : List ℕ). record {
            tally = record { nodes = tally.nodes + length ts; counts = plus tally.counts (counts_by f ts) };
            plans = n;
            stop = ALL;
            list = l;
            last = last_of first.last (map (moved a) ts);
          }) plans_are list_is
          ∙ sym (walk_by p order (at numbers LIMIT) (at numbers ROOM) (p.variables - k) a e.prefix first sb refl h.summed.twelve (omega (arith, made)) (omega (arith, rows_are)))

      -- the plans that were listed stay
      kept_bytes : (length list' ≡ length list) × ((j : ℕ) → j < at work PLANS * p.variables → at list' j ≡ at list j)
      kept_bytes = subst (λ (l : List ℕ). (length l ≡ length list) × ((j : ℕ) → j < at work PLANS * p.variables → at l j ≡ at list j)) (sym list_is)
          (all_before p.variables (at work PLANS) (map (write order) (map (moved a) ks)) list
          (λ r m. let q = Memᴰ-of_map (write order) (map (moved a) ks) m in ap length (sym q.2) ∙ length_write order q.0 ∙ length_order numbers p.variables)
          (λ o. let m : (at work PLANS + length (map (write order) (map (moved a) ks))) * p.variables ≤ at numbers ROOM * p.variables = mul-le-mul_right p.variables
          (omega (arith, rows_are, length-map ks (moved a), length-map (map (moved a) ks) (write order))) in omega (arith, h.room.fits o)))

      pub recalled : Walked p (nodes_below p (p.variables - k) a) stack work numbers list tally k stack work' list' tally' ALL
      recalled = record {
        state = state_is;
        summed = subst (λ (u : State). Summed u.tally) (sym state_is)
            (walk_summed p order (at numbers LIMIT) (at numbers ROOM) (λ i. order_small p.variables order i h.order h.ready.well_formed.few) (nodes_below p (p.variables - k) a) first
            h.summed);
        sets = λ i l. refl;
        values = λ i l. t.before i l (omega (arith, few)) ∙ c.before i l;
        marks = λ i l u. t.others i (omega arith) (λ q. omega arith) (λ q. omega (arith, few)) ∙ c.others i (omega arith) (λ q. omega arith);
        stack_length = refl;
        work_length = t.long ∙ c.long;
        memo = memo_stays p (own_problem_in p numbers) order work list work' list'
            (λ i l. t.others i (omega arith) (λ q. omega arith) (λ q. omega (arith, few)) ∙ c.others i (omega arith) (λ q. omega arith))
            (record { plans = omega (arith, plans_are); long = kept_bytes.0; bytes = kept_bytes.1 }) h.memo;
      }
