-- What was walked along may be kept: the entry that is put, and the others. Assumes nothing.
use Rattle.model.specs.Kit.{◌≡◌, refl, sym, ap, ap₂, ◌∙◌, subst, List, Memᴰ, Memᴰ-of_map, map, length-map, ℕ, zero, suc, ◌+◌, ◌-◌, ◌*◌, ◌≤◌, ◌<◌, mul-le-mul_right, dec_lt, ℕ_discrete, arith}
use Rattle.model.specs.Kit.{length}
use Rattle.model.specs.{Lists.at, Lists.keep, Lists.tabulate, Problem.Problem, Search.sets_at, Search.nodes_below, Search.is_plan, Run.Tally, Run.settled_by, Run.counts_by}
use Rattle.order.specs.Reordered.{write}
use Rattle.arrays.specs.Inner.Places.{LIMIT, ROOM, PLANS, LAST, MARKS, ALL, IDLE, ENTRY, DEPTH, LOW, GOOD, NODES, LENGTH, ROWS, FIRST, SETS, ENDS, COUNTS}
use Rattle.prune_symmetries.specs.Inner.Levels.{Mark}
use Rattle.run_cut.specs.Parts.{last_of}
use Rattle.run_passed.specs.Inner.Passed.{plus, noted_all, passed}
use Rattle.run_passed.proofs.Passed.{walk_over, plus_at}
use Rattle.run_state.specs.{Inner.Walk.State, Inner.Memo.MarksRead, Inner.Memo.subtree, Inner.Memo.Stand, Inner.Memo.plans_below, Inner.Memo.Kept, Inner.Memo.entry_at, Inner.Memo.Remembers}
use Rattle.run_state.specs.Inner.Pair.{prefix_of, order_in, own_problem_in, state_of, AtPrefix, Walked}
use Rattle.run_state.proofs.{Memo.tabulate_ext, Memo.kept_on, Memo.memo_on, Prefix.length_prefix, Prefix.prefix_ext, Walk.length_write, Written.length_order}
use Rattle.run_key.specs.Inner.Key.{Placed}
use Rattle.run_entry.specs.Inner.Entry.{Charged, Put, PlansPut}
use Rattle.run_memo.specs.Inner.Steps.{AtNote, Noted}
use Rattle.run_memo.proofs.Walks.{walk_all, last_any}
use Rattle.run_entry.proofs.Copies.{all_before, all_stand}

prefix_tabulate : (work : List ℕ) (n : ℕ) → prefix_of work n ≡ tabulate n (at work)
unfolding prefix_of
prefix_tabulate work n = refl

-- a walk after which numbers of the memo alone are changed
pub walked_on : (p : Problem) (ts : List (List ℕ)) (stack work numbers list : List ℕ) (tally : Tally) (k : ℕ) (stack' work' list' : List ℕ) (tally' : Tally) (stop : ℕ) (work'' : List ℕ) → k < 12 →
    Walked p ts stack work numbers list tally k stack' work' list' tally' stop → ((i : ℕ) → i < IDLE → at work'' i ≡ at work' i) → at work' LAST ≤ 12 → length work'' ≡ length work' →
    Remembers p (own_problem_in p numbers) (order_in numbers p.variables) work'' list' → Walked p ts stack work numbers list tally k stack' work'' list' tally' stop
walked_on p ts stack work numbers list tally k stack' work' list' tally' stop work'' few d same short long memo = record {
  state = ap₂ (λ (n : ℕ) (l : List ℕ). record { tally = tally'; plans = n; stop = stop; list = list'; last = l }) (same PLANS (omega arith)) last ∙ d.state;
  summed = d.summed;
  sets = d.sets;
  values = λ i l. same i (omega arith) ∙ d.values i l;
  marks = λ i l u. same i (omega arith) ∙ d.marks i l u;
  stack_length = d.stack_length;
  work_length = long ∙ d.work_length;
  memo = memo;
}
  where
    last : prefix_of work'' (at work'' LAST) ≡ prefix_of work' (at work' LAST)
    last = ap (prefix_of work'') (same LAST (omega arith)) ∙ prefix_ext work'' work' (at work' LAST) (λ i l. same i (omega arith))

module _ (p : Problem) (stack work supports tables numbers list : List ℕ) (tally : Tally) (k : ℕ) (stack' work' list' : List ℕ) (tally' : Tally) (turn place : ℕ)
    (n : AtNote p stack work supports tables numbers list tally k stack' work' list' tally' turn place ALL) (short : at work' LAST ≤ 12) where
  abbrev h : AtPrefix p stack work supports tables numbers list tally k
  h = n.prefix

  abbrev order : List ℕ
  order = order_in numbers p.variables

  abbrev ts : List (List ℕ)
  ts = nodes_below p (p.variables - k) (prefix_of work k)

  few : k < 12
  few = let m = h.ready.well_formed.few in let i = h.inner in omega arith

  abbrev f : List ℕ → ℕ
  f u = at order (settled_by u)

  abbrev first : State
  first = state_of tally work ALL list

  all : (tally.nodes + length ts ≤ at numbers LIMIT) × (at work PLANS + length (keep (is_plan p) ts) ≤ at numbers ROOM)
  all = walk_all p order (at numbers LIMIT) (at numbers ROOM) ts first refl h.allowed h.room.listed (ap (λ (u : State). u.stop) (sym n.walked.state))

  state_is : state_of tally' work' ALL list' ≡ passed p order (length ts) (counts_by f ts) (keep (is_plan p) ts) (last_of first.last ts) first
  state_is = n.walked.state ∙ walk_over p order (at numbers LIMIT) (at numbers ROOM) ts first refl h.summed.twelve all.0 all.1

  made : tally'.nodes ≡ tally.nodes + length ts
  made = ap (λ (u : State). u.tally.nodes) state_is

  counted : tally'.counts ≡ plus tally.counts (counts_by f ts)
  counted = ap (λ (u : State). u.tally.counts) state_is

  listed : at work' PLANS ≡ at work PLANS + length (keep (is_plan p) ts)
  listed = ap (λ (u : State). u.plans) state_is

  last_is : prefix_of work' (at work' LAST) ≡ last_of first.last ts
  last_is = ap (λ (u : State). u.last) state_is

  abbrev ks : List (List ℕ)
  ks = keep (is_plan p) ts

  list_is : list' ≡ noted_all p.variables (at work PLANS) (map (write order) ks) list
  list_is = ap (λ (u : State). u.list) state_is

  -- the plans stand where they were listed
  stands : (length list' ≡ 0 → ⊥) → Stand p.variables (at work PLANS) (map (write order) ks) list'
  stands o = subst (Stand p.variables (at work PLANS) (map (write order) ks)) (sym list_is)
      (all_stand p.variables (at work PLANS) (map (write order) ks) list sized fits (λ z. o (ap length list_is ∙ (all_before p.variables (at work PLANS) (map (write order) ks) list
      sized fits).0 ∙ z)))
    where
      sized : (r : List ℕ) → Memᴰ r (map (write order) ks) → length r ≡ p.variables
      sized r m = let q = Memᴰ-of_map (write order) ks m in ap length (sym q.2) ∙ length_write order q.0 ∙ length_order numbers p.variables

      fits : (length list ≡ 0 → ⊥) → (at work PLANS + length (map (write order) ks)) * p.variables ≤ length list
      fits n =
          let m : (at work PLANS + length (map (write order) ks)) * p.variables ≤ at numbers ROOM * p.variables = mul-le-mul_right p.variables (omega (
            arith,
            all.1,
            length-map ks
                (write order),
          )) in
          omega (arith, h.room.fits n)

  -- the figures grow
  pub nodes_grow : tally.nodes ≤ tally'.nodes
  nodes_grow = omega (arith, made)

  pub counts_grow : (x : ℕ) → x < 12 → at tally.counts x ≤ at tally'.counts x
  counts_grow x l = omega (arith, ap (λ (l : List ℕ). at l x) counted, plus_at tally.counts (counts_by f ts) x l)

  pub plans_grow : turn - 1 ≤ at work' PLANS
  plans_grow = omega (arith, listed, n.turn_is)

  module _ (work₁ : List ℕ) (c : Charged work' k work₁) where
    pub charged : Noted p stack work numbers list tally k stack' work₁ list' tally' ALL
    charged =
        walked_on p ts stack work numbers list tally k stack' work' list' tally' ALL work₁ few n.walked (λ i l. c.others i (λ q. omega arith)) short c.long
        (memo_on p (own_problem_in p numbers) order work' work₁ list' (λ i l. c.others i (λ q. omega (arith, few))) (c.others PLANS (λ q. omega arith)) n.walked.memo)

    -- some node was made, and the last of them is deep enough
    module _ (deep : k ≤ at work' LAST) (more : tally'.nodes ≡ tally.nodes → ⊥) (low good s : ℕ) (z : Placed s)
        (r : MarksRead (λ e. at work₁ (16 * k + MARKS + e)) (length (own_problem_in p numbers).symmetries) k low good) (work₀ : List ℕ) (put₀ : Put stack' work₁ tally tally' k low good s work₀)
        (work₂ : List ℕ) (rows : PlansPut work₀ (turn - 1) s work₂) where
      put : Put stack' work₁ tally tally' k low good s work₂
      put = record {
        depth = o DEPTH (λ e. omega arith) (λ e. omega arith) ∙ put₀.depth;
        low_is = o LOW (λ e. omega arith) (λ e. omega arith) ∙ put₀.low_is;
        good_is = o GOOD (λ e. omega arith) (λ e. omega arith) ∙ put₀.good_is;
        nodes = o NODES (λ e. omega arith) (λ e. omega arith) ∙ put₀.nodes;
        length_is = o LENGTH (λ e. omega arith) (λ e. omega arith) ∙ put₀.length_is;
        sets = λ j l. rows.others (s + SETS + j) (λ e. omega arith) (λ e. omega arith) ∙ put₀.sets j l;
        ends = λ j l. rows.others (s + ENDS + j) (λ e. omega arith) (λ e. omega arith) ∙ put₀.ends j l;
        counts = λ j l. rows.others (s + COUNTS + j) (λ e. omega arith) (λ e. omega arith) ∙ put₀.counts j l;
        before = λ i l. rows.others i (λ e. omega arith) (λ e. omega arith) ∙ put₀.before i l;
        after = λ i l. rows.others i (λ e. omega arith) (λ e. omega arith) ∙ put₀.after i l;
        long = rows.long ∙ put₀.long;
      }
        where
          o : (j : ℕ) → (s + j ≡ s + FIRST → ⊥) → (s + j ≡ s + ROWS → ⊥) → at work₂ (s + j) ≡ at work₀ (s + j)
          o j a b = rows.others (s + j) a b

      plans₀ : at work₀ PLANS ≡ at work PLANS + length ks
      plans₀ = put₀.before PLANS (omega (arith, z.is)) ∙ c.others PLANS (λ q. omega arith) ∙ listed

      plans₂ : at work₂ PLANS ≡ at work PLANS + length ks
      plans₂ = rows.others PLANS (λ e. omega (arith, z.is)) (λ e. omega (arith, z.is)) ∙ plans₀

      first_is : at work₂ (s + FIRST) ≡ at work PLANS
      first_is = omega (arith, rows.first, n.turn_is)

      rows_are : at work₂ (s + ROWS) ≡ length ks
      rows_are = omega (arith, rows.rows, plans₀, n.turn_is)

      some : 0 < length ts
      some = positive (length ts) made
        where
          positive : (m : ℕ) → tally'.nodes ≡ tally.nodes + m → 0 < m
          positive zero q = absurd (more (omega arith))
          positive (suc m) q = omega arith

      same : (i : ℕ) → i < IDLE → at work₁ i ≡ at work' i
      same i l = c.others i (λ q. omega arith)

      mark_same : (e : ℕ) → e < length (own_problem_in p numbers).symmetries → at work₁ (16 * k + MARKS + e) ≡ at work (16 * k + MARKS + e)
      mark_same e l = let g = h.ready.symmetries in same (16 * k + MARKS + e) (omega (arith, few)) ∙ n.walked.marks (16 * k + MARKS + e) (omega arith) (omega arith)

      size : length (prefix_of work k) ≡ k
      size = length_prefix work k

      sub_is : subtree p (prefix_of work k) ≡ ts
      sub_is = ap (λ (i : ℕ). nodes_below p (p.variables - i) (prefix_of work k)) size

      kept : Kept p (own_problem_in p numbers) order work₂ list' s
      kept = record {
        prefix = prefix_of work k;
        marks = λ e. at work₁ (16 * k + MARKS + e);
        live = h.live;
        inner = subst (λ (i : ℕ). i < p.variables) (sym size) h.inner;
        narrow = h.ready.well_formed.few;
        right = λ e l. subst (Mark (own_problem_in p numbers) (sets_at p (prefix_of work k)) (prefix_of work k) e) (sym (mark_same e l)) (h.marked e l);
        depth = put.depth ∙ sym size;
        read = subst (λ (i : ℕ). MarksRead (λ e. at work₁ (16 * k + MARKS + e)) (length (own_problem_in p numbers).symmetries) i (at work₂ (s + LOW)) (at work₂ (s + GOOD))) (sym size)
            (subst (λ (i : ℕ). MarksRead (λ e. at work₁ (16 * k + MARKS + e)) (length (own_problem_in p numbers).symmetries) k i (at work₂ (s + GOOD))) (sym put.low_is)
            (subst (MarksRead (λ e. at work₁ (16 * k + MARKS + e)) (length (own_problem_in p numbers).symmetries) k low) (sym put.good_is) r));
        sets = λ x l. put.sets x (omega (arith, h.ready.well_formed.few)) ∙ n.walked.sets (16 * k + x) (omega (arith, h.ready.well_formed.few)) ∙ h.held.sets x l;
        nodes = put.nodes ∙ (let q : tally'.nodes - tally.nodes ≡ length ts = omega (arith, made) in q) ∙ ap length (sym sub_is);
        some = subst (λ (i : ℕ). 0 < i) (sym put.nodes) (omega (arith, made, some));
        rows = rows_are ∙ ap (λ (us : List (List ℕ)). length (keep (is_plan p) us)) (sym sub_is);
        past = omega (arith, first_is, rows_are, plans₂);
        stand = λ o. subst (λ (i : ℕ). Stand p.variables i (map (write order) (plans_below p (prefix_of work k))) list') (sym first_is)
            (subst (λ (us : List (List ℕ)). Stand p.variables (at work PLANS) (map (write order) (keep (is_plan p) us)) list') (sym sub_is) (stands o));
        counts = λ x l. put.counts x l
            ∙ (let q : at tally'.counts x - at tally.counts x ≡ at (counts_by f ts) x = omega (arith, ap (λ (l : List ℕ). at l x) counted, plus_at tally.counts (counts_by f ts) x l) in q)
            ∙ ap (λ (us : List (List ℕ)). at (counts_by f us) x) (sym sub_is);
        last = λ path. ap (last_of path) sub_is ∙ last_any ts some path first.last ∙ sym last_is ∙ ends;
        deep = subst (λ (i : ℕ). length (prefix_of work k) ≤ i) (sym length_there) (subst (λ (i : ℕ). i ≤ at work' LAST) (sym size) deep);
        short = subst (λ (i : ℕ). i ≤ 12) (sym length_there) short;
      }
        where
          length_there : at work₂ (s + LENGTH) ≡ at work' LAST
          length_there = put.length_is ∙ same LAST (omega arith)

          ends : prefix_of work' (at work' LAST) ≡ tabulate (at work₂ (s + LENGTH)) (λ x. at work₂ (s + ENDS + x))
          ends =
              prefix_tabulate work' (at work' LAST) ∙ tabulate_ext (at work' LAST) (at work') (λ x. at work₂ (s + ENDS + x)) (λ x l. sym (put.ends x (omega arith) ∙ same x (omega arith)))
              ∙ ap (λ (i : ℕ). tabulate i (λ x. at work₂ (s + ENDS + x))) (sym length_there)

      memo : Remembers p (own_problem_in p numbers) order work₂ list'
      memo i l some = go (ℕ_discrete i z.index)
        where
          apart : (i ≡ z.index → ⊥) → (j : ℕ) → j < ENTRY → at work₂ (entry_at i + j) ≡ at work₁ (entry_at i + j)
          apart d j u = side (dec_lt i z.index)
            where
              side : Dec (i < z.index) → at work₂ (entry_at i + j) ≡ at work₁ (entry_at i + j)
              side (yes q) = put.before (entry_at i + j) (omega (arith, z.is))
              side (no q) = put.after (entry_at i + j) (omega (arith, z.is))

          go : Dec (i ≡ z.index) → Kept p (own_problem_in p numbers) order work₂ list' (entry_at i)
          go (yes q) = subst (Kept p (own_problem_in p numbers) order work₂ list') (z.is ∙ ap entry_at (sym q)) kept
          go (no d) = kept_on p (own_problem_in p numbers) order work₁ list' work₂ list' (entry_at i) (apart d)
              (record { plans = omega (arith, put.before PLANS (omega (arith, z.is))); long = refl; bytes = λ j m. refl }) (charged.memo i l (λ e. some (apart d DEPTH (omega arith) ∙ e)))

      pub noted : Noted p stack work numbers list tally k stack' work₂ list' tally' ALL
      noted =
          walked_on p ts stack work numbers list tally k stack' work₁ list' tally' ALL work₂ few charged (λ i l. put.before i (omega (arith, z.is))) (subst (λ (i : ℕ). i ≤ 12)
          (sym (same LAST (omega arith))) short) put.long
          memo

-- the same, of a stop that is ALL
module _ (p : Problem) (stack work supports tables numbers list : List ℕ) (tally : Tally) (k : ℕ) (stack' work' list' : List ℕ) (tally' : Tally) (turn place stop : ℕ) (all : stop ≡ ALL)
    (n : AtNote p stack work supports tables numbers list tally k stack' work' list' tally' turn place stop) (short : at work' LAST ≤ 12) where
  going : AtNote p stack work supports tables numbers list tally k stack' work' list' tally' turn place ALL
  going = subst (AtNote p stack work supports tables numbers list tally k stack' work' list' tally' turn place) all n

  pub nodes_grow_at : tally.nodes ≤ tally'.nodes
  nodes_grow_at = nodes_grow p stack work supports tables numbers list tally k stack' work' list' tally' turn place going short

  pub counts_grow_at : (x : ℕ) → x < 12 → at tally.counts x ≤ at tally'.counts x
  counts_grow_at = counts_grow p stack work supports tables numbers list tally k stack' work' list' tally' turn place going short

  pub plans_grow_at : turn - 1 ≤ at work' PLANS
  plans_grow_at = plans_grow p stack work supports tables numbers list tally k stack' work' list' tally' turn place going short

  module _ (work₁ : List ℕ) (c : Charged work' k work₁) where
    pub charged_at : Noted p stack work numbers list tally k stack' work₁ list' tally' stop
    charged_at = subst (Noted p stack work numbers list tally k stack' work₁ list' tally') (sym all)
        (charged p stack work supports tables numbers list tally k stack' work' list' tally' turn place going short work₁ c)

    pub noted_at : k ≤ at work' LAST → (tally'.nodes ≡ tally.nodes → ⊥) → (low good s : ℕ) → Placed s →
        MarksRead (λ e. at work₁ (16 * k + MARKS + e)) (length (own_problem_in p numbers).symmetries) k low good → (work₀ : List ℕ) → Put stack' work₁ tally tally' k low good s work₀ →
        (work₂ : List ℕ) → PlansPut work₀ (turn - 1) s work₂ → Noted p stack work numbers list tally k stack' work₂ list' tally' stop
    noted_at deep more low good s z r work₀ put work₂ rows =
        subst (Noted p stack work numbers list tally k stack' work₂ list' tally') (sym all)
        (noted p stack work supports tables numbers list tally k stack' work' list' tally' turn place going short work₁ c deep more low good s z r work₀ put work₂ rows)
