-- What a call of `run_part` holds (crate run_ranges). Assumes nothing.
use Rattle.model.specs.Kit.{◌≡◌, refl, sym, ap, ap₂, ◌∙◌, subst, Bool, true, false, ◌⊎◌, inl, inr, List, [], map, Memᴰ, ℕ, suc, ◌+◌, ◌-◌, ◌*◌, ◌/◌, ◌≤◌, ◌<◌, arith, eqb, length, take}
use Rattle.model.specs.Kit.{eqb-true, eqb-false}
use Rattle.model.specs.Run.{plans_in, nodes_in, Result, search, Answer, ended, written, Tally, settled_by, counts_by}
use Rattle.model.specs.{Lists.at, Lists.keep, Lists.flat, Problem.Problem, Search.nodes, Verdict.Verdict, Verdict.accepted, Verdict.reply, Sheet.problem_of}
use native.Mathlib.Nat.{sub-zero}
use Rattle.model.proofs.{Lists.keep_e, Lists.length_none, Accepted.is_accepted_lem}
use Rattle.order.specs.Reordered.{write}
use Rattle.run_cut.specs.{Between.nodes_between, Parts.last_of}
use Rattle.run_cut.proofs.{Resume.dead_below, Resume.last_in, Resume.taken, Resume.node_values, Counts.counts_none}
use Rattle.run_input.specs.Lent.{verdict_lent, order_lent, problem_lent}
use Rattle.run_input.proofs.Lent.{well_sheet, ordering_lent}
use Rattle.arrays.specs.Inner.Places.{ROOM, PLANS, LAST, ALL, DEEPER, WANTED}
use Rattle.run_state.specs.Inner.{Walk.no_nodes, Walk.State, Walk.walk, Walk.all_noted, Walk.stop_in, Walk.tally_by, Pair.prefix_of, Pair.order_in, Pair.state_of}
use Rattle.run_state.proofs.{Prefix.prefix_zero, Prefix.prefix_at, Prefix.length_prefix, Outcome.outcome_on, Outcome.noted_all_none, Outcome.noted_all_over, Outcome.nothing_noted}
use Rattle.run_task.specs.Inner.Task.{room_for}
use Rattle.run_search.specs.Inner.Prepared.{Prepared, Refuses}
use Rattle.run_search.proofs.Prepared.{room_fits, room_most}
use Rattle.run.specs.{Meaning.means, Inner.Whole.Answered}
use Rattle.run.proofs.Whole.{nothing_of, ended_same}
use Rattle.run_ranges.specs.{Ranges.result_part, Ranges.answer_part, Ranges.list_part, Ranges.nodes_said, Ranges.tally_part, Ranges.last_part, Claims.CallRange, Inner.Within.within}
use Rattle.run_ranges.proofs.Within.{within_whole}
use Rattle.run_between.specs.Inner.Steps.{AtBelow, Valued, Parted}
use Rattle.run_between.proofs.Ends.{Begun, put_last, put_short, put_asks, valued_last}
use Rattle.model.specs.Verdict as model
use Rattle.model.proofs.Runs as R
use Rattle.std.specs.Prelude as P
use Rattle.std.specs.Prelude.{Ok, Err}
use Rattle.model.specs.declared.refusals.Refusal.{Refusal}
use Rattle.run_state.specs.{Meaning.tally_in, Meaning.ending_of, declared.Tally.Tally as Counts}
use Rattle.run_state.specs.declared.Ending as S
use Rattle.run_part.specs.{Calls.CallPart, declared.PartRun.PartRun}

-- what a part says, from what it is made of
pub stood : (b pairs block from upto : List ℕ) (limit : ℕ) (list list' : List ℕ) (r : PartRun) (a : P.Result S.Ending Refusal) (t : Counts) (n : ℕ) → r.answer ≡ a → r.tally ≡ t → r.length ≡ n →
    CallRange b pairs block record { from = from; upto = upto; limit = limit; out = list; answer = means a; list = list'; tally = tally_in t; last = take n r.last } →
    CallPart b pairs block from upto limit list r list'
stood b pairs block from upto limit list list' r a t n p q s h =
    let Says : P.Result S.Ending Refusal → Counts → ℕ → Type 0 = λ x y z.
    CallRange b pairs block record { from = from; upto = upto; limit = limit; out = list; answer = means x; list = list'; tally = tally_in y; last = take z r.last } in
    subst (λ (x : P.Result S.Ending Refusal). Says x r.tally r.length) (sym p) (subst (λ (y : Counts). Says a y r.length) (sym q) (subst (λ (z : ℕ). Says a t z) (sym s) h))

abbrev zeroth : List ℕ → List ℕ → State
zeroth last list = record { tally = no_nodes; plans = 0; stop = ALL; list = list; last = last }

-- ---- a walk along some nodes, from nothing counted and nothing listed
module _ (p : Problem) (order : List ℕ) (sized : length order ≡ p.variables) (limit room bytes : ℕ) (out last : List ℕ) (fits : room * p.variables ≤ bytes)
    (most : bytes < suc room * p.variables) (same : (length out ≡ 0 → ⊥) → bytes ≡ length out) (ts : List (List ℕ)) where
  abbrev r : Result
  r = search p limit bytes ts 0 []

  pub outcome_of : walk p order limit room ts (zeroth last out)
      ≡ record {
        tally = tally_by order ts (nodes_in r.ending);
        plans = plans_in r.ending;
        stop = stop_in r.ending;
        list = all_noted (map (write order) r.rows) out;
        last = last_of last
            (take (nodes_in r.ending) ts);
      }
  unfolding flat
  outcome_of =
      outcome_on p order sized limit room bytes out fits most same ts last 0 [] (omega arith) (omega arith) (nothing_noted out)
      ∙ ap (λ (k : ℕ). done (search p k bytes ts 0 [])) (let e : limit + 0 ≡ limit = omega arith in e)
      ∙ ap (λ (k : ℕ). record { tally = tally_by order ts k; plans = plans_in r.ending; stop = stop_in r.ending; list = all_noted (map (write order) r.rows) out; last = last_of last (take k ts) })
      (sub-zero (nodes_in r.ending))
    where
      done : Result → State
      done x = record {
        tally = tally_by order ts (nodes_in x.ending - 0);
        plans = plans_in x.ending;
        stop = stop_in x.ending;
        list = all_noted
            (map (write order) x.rows) out;
        last = last_of last (take (nodes_in x.ending - 0) ts);
      }

-- a list of no byte has room for no row
kept_so : (p : Problem) (order : List ℕ) (limit : ℕ) (list : List ℕ) (ts : List (List ℕ)) → 0 < p.variables →
    all_noted (map (write order) (search p limit (length list) ts 0 []).rows) list ≡ written (map (write order) (search p limit (length list) ts 0 []).rows) list
unfolding written flat
kept_so p order limit list ts some = go (eqb (length list) 0) refl
  where
    go : (c : Bool) → eqb (length list) 0 ≡ c → all_noted (map (write order) (search p limit (length list) ts 0 []).rows) list ≡ written
        (map (write order) (search p limit (length list) ts 0 []).rows) list
    go true e =
        let z = eqb-true (length list) 0 e in
        let f : length (search p limit (length list) ts 0 []).rows * p.variables ≤ length list = (R.walk p limit (length list) ts 0 []).roomy (omega arith) in
        noted_all_none (map (write order) (search p limit (length list) ts 0 []).rows) list z
        ∙ sym (ap (λ (rows : List (List ℕ)). written (map (write order) rows) list) (length_none (search p limit (length list) ts 0 []).rows
        (nothing_of p.variables (length (search p limit (length list) ts 0 []).rows) some (omega arith))))
    go false e = noted_all_over (map (write order) (search p limit (length list) ts 0 []).rows) list (eqb-false (length list) 0 e)

module _ (task b pairs block from upto : List ℕ) (limit : ℕ) (list : List ℕ) (listing : at task WANTED ≡ 0)
    (stack work supports tables numbers : List ℕ) (step : ℕ) (h : Prepared task b pairs block limit (length list) stack work supports tables numbers step)
    (work₁ : List ℕ) (put : Begun from work work₁) where
  abbrev p : Problem
  p = problem_lent b pairs block

  abbrev order : List ℕ
  order = order_lent b pairs

  abbrev ts : List (List ℕ)
  ts = nodes_between p from upto

  abbrev x : Result
  x = search p limit (length list) ts 0 []

  abbrev n : ℕ
  n = (problem_of b).variables

  -- ---- the walk may begin
  pub part_asks : step ≡ DEEPER → AtBelow p from stack work₁ supports tables numbers list no_nodes 0
  part_asks e = put_asks from work work₁ put (h.live e list refl)

  module _ (stack₂ work₂ list₂ : List ℕ) (tally₂ : Tally) (stop : ℕ) (q : Parted from upto stack work₁ supports tables numbers list step stack₂ work₂ list₂ tally₂ stop) where
    good : verdict_lent b pairs block ≡ accepted
    good = h.accepted

    begun : at work₁ PLANS ≡ 0
    begun = put.others PLANS (omega arith) (omega arith) (λ e. omega arith) ∙ h.begun

    came : state_of tally₂ work₂ stop list₂ ≡ walk p order limit (length list / n) ts (zeroth (take 12 from) list)
    unfolding walk nodes_between nodes keep
    came = go (eqb step DEEPER) refl
      where
        go : (c : Bool) → eqb step DEEPER ≡ c → state_of tally₂ work₂ stop list₂ ≡ walk p order limit (length list / n) ts (zeroth (take 12 from) list)
        go true c =
            let e = eqb-true step DEEPER c in
            let w = q.some e p (part_asks e) in
            w.state
            ∙ ap₂ (λ (k : ℕ) (us : List (List ℕ)). walk p (order_in numbers n) k (at numbers ROOM) us (state_of no_nodes work₁ ALL list)) (h.bounded e)
            (ap₂ (λ (j : ℕ) (t : List ℕ). within p j t from upto) (sub-zero n) (prefix_zero work₁) ∙ within_whole p from upto)
            ∙ ap₂ (λ (o : List ℕ) (k : ℕ). walk p o limit k ts (state_of no_nodes work₁ ALL list)) (h.order e) (h.roomy e ∙ ap (λ (i : ℕ). room_for i n (length list)) listing)
            ∙ ap₂ (λ (k : ℕ) (t : List ℕ). walk p order limit (length list / n) ts (record { tally = no_nodes; plans = k; stop = ALL; list = list; last = t })) begun (put_last from work work₁ put)
        go false c =
            let d = eqb-false step DEEPER c in
            let a : step ≡ ALL = all_step d in
            let o = q.none d in
            let none : ts ≡ [] = ap (keep _) (dead_below p n [] (h.dead a)) in
            ap₂ (λ (t : Tally) (s : ℕ). state_of t work₂ s list₂) o.1 (o.0 ∙ a)
            ∙ ap₂ (λ (w l : List ℕ). state_of no_nodes w ALL l) o.2 o.3
            ∙ ap₂ (λ (k : ℕ) (t : List ℕ). record { tally = no_nodes; plans = k; stop = ALL; list = list; last = t }) begun (put_last from work work₁ put)
            ∙ sym (ap (λ (us : List (List ℕ)). walk p order limit (length list / n) us (zeroth (take 12 from) list)) none)
          where
            all_step : (step ≡ DEEPER → ⊥) → step ≡ ALL
            all_step d = go2 (eqb step ALL) refl
              where
                go2 : (c : Bool) → eqb step ALL ≡ c → step ≡ ALL
                go2 true c = eqb-true step ALL c
                go2 false c = absurd (d (h.known (eqb-false step ALL c)))

    sized : length order ≡ p.variables
    sized = (ordering_lent b pairs block (is_accepted_lem (verdict_lent b pairs block) good)).sized

    some : 0 < n
    some = (well_sheet b pairs block (is_accepted_lem (verdict_lent b pairs block) good)).some

    ended_so : state_of tally₂ work₂ stop list₂
        ≡ record {
          tally = tally_by order ts (nodes_in x.ending);
          plans = plans_in x.ending;
          stop = stop_in x.ending;
          list = all_noted (map (write order) x.rows) list;
          last = last_of
              (take 12 from) (take (nodes_in x.ending) ts);
        }
    ended_so = came ∙ outcome_of p order sized limit (length list / n) (length list) list (take 12 from) (room_fits 0 n (length list) some) (room_most 0 n (length list) some)
        (λ o. refl) ts

    -- ---- where it stands
    stands_so : prefix_of work₂ (at work₂ LAST) ≡ last_of (take 12 from) (take (nodes_said (answer_part b pairs block from upto limit list)) ts)
    unfolding answer_part result_part last_of
    stands_so =
        ap (λ (s : State). s.last) ended_so
        ∙ sym (ap (λ (v : Verdict). last_of (take 12 from) (take (nodes_said (reply v (result_part b pairs block from upto limit (length list)).ending)) ts)) good)

    -- ---- the last node's values are bytes, twelve at most
    abbrev Bytes : List ℕ → Type 0
    Bytes l = (length l ≤ 12) × ((i : ℕ) → i < length l → at l i < 256)

    from_bytes : Bytes (take 12 from)
    from_bytes =
        let e = put_last from work work₁ put in
        let m : length (take 12 from) ≡ at work₁ LAST = ap length (sym e) ∙ length_prefix work₁ (at work₁ LAST) in (
          subst (λ (k : ℕ). k ≤ 12) (sym m) (put_short from work work₁ put),
          λ i l. let k : i < at work₁ LAST = subst (λ (y : ℕ). i < y) m l in subst (λ (v : ℕ). v < 256) (sym (prefix_at work₁ (at work₁ LAST) i k) ∙ ap (λ (t : List ℕ). at t i) e) (put.bytes i k),
        )

    node_bytes : (t : List ℕ) → Memᴰ t (nodes p) → Bytes t
    node_bytes t m =
        let few = (well_sheet b pairs block (is_accepted_lem (verdict_lent b pairs block) good)).few in
        let s = node_values p t m in
        let l = s.1 in
        (omega arith, λ i k. let v = s.0 i k in omega arith)

    last_bytes : (k : ℕ) → Bytes (last_of (take 12 from) (take k ts))
    unfolding nodes_between
    last_bytes k = go (last_in p (take 12 from) (take k ts))
      where
        l : List ℕ
        l = last_of (take 12 from) (take k ts)

        go : (l ≡ take 12 from) ⊎ Memᴰ l (take k ts) → Bytes l
        go (inl e) = subst Bytes (sym e) from_bytes
        go (inr m) = node_bytes l (keep_e _ (nodes p) l (taken p k ts l m)).0

    stands_bytes : Bytes (prefix_of work₂ (at work₂ LAST))
    stands_bytes = subst Bytes (sym (ap (λ (s : State). s.last) ended_so)) (last_bytes (nodes_in x.ending))

    pub part_short : at work₂ LAST ≤ 12
    part_short = subst (λ (k : ℕ). k ≤ 12) (length_prefix work₂ (at work₂ LAST)) stands_bytes.0

    pub part_bytes : (i : ℕ) → i < at work₂ LAST → at work₂ i < 256
    part_bytes i l = subst (λ (v : ℕ). v < 256) (prefix_at work₂ (at work₂ LAST) i l) (stands_bytes.1 i (subst (λ (k : ℕ). i < k) (sym (length_prefix work₂ (at work₂ LAST))) l))

    -- ---- the call
    module _ (made : ℕ) (is : made ≡ tally₂.nodes) (e : S.Ending) (a : Answered work₂ made stop (ending_of e)) (last : List ℕ) (v : Valued work₂ last) where
      same_ending : means (Ok e) ≡ ended x.ending
      unfolding tally_by
      same_ending =
          let m : nodes_in (ending_of e) ≡ nodes_in x.ending = a.nodes ∙ is ∙ ap (λ (s : State). s.tally.nodes) ended_so in
          let g : plans_in (ending_of e) ≡ plans_in x.ending = a.plans ∙ ap (λ (s : State). s.plans) ended_so in
          ap ended (ended_same (ending_of e) x.ending g m (a.stopped ∙ ap (λ (s : State). s.stop) ended_so))

      answers_so : means (Ok e) ≡ answer_part b pairs block from upto limit list
      unfolding answer_part result_part
      answers_so = same_ending ∙ sym (ap (λ (u : Verdict). reply u (result_part b pairs block from upto limit (length list)).ending) good)

      leaves_so : list₂ ≡ list_part b pairs block from upto limit list
      unfolding list_part result_part
      leaves_so =
          ap (λ (s : State). s.list) ended_so ∙ kept_so p order limit list ts some ∙ sym
          (ap (λ (u : Verdict). model.kept u list (written (result_part b pairs block from upto limit (length list)).rows list)) good)

      counts_so : tally₂ ≡ tally_part b pairs block from upto limit list
      unfolding tally_part answer_part result_part tally_by
      counts_so = ap (λ (s : State). s.tally) ended_so ∙ sym (ap (λ (u : Verdict). told (reply u (result_part b pairs block from upto limit (length list)).ending)) good)
        where
          told : Answer → Tally
          told y = record { nodes = nodes_said y; counts = counts_by (λ t. at order (settled_by t)) (take (nodes_said y) ts) }

      pub part_call : CallRange b pairs block record { from = from; upto = upto; limit = limit; out = list; answer = means (Ok e); list = list₂; tally = tally₂; last = take (at work₂ LAST) last }
      unfolding last_part
      part_call = record { answers = answers_so; leaves = leaves_so; counts = counts_so; stands = valued_last work₂ last part_short v ∙ stands_so }

-- ---- what is lent is refused
module _ (b pairs block from upto : List ℕ) (limit : ℕ) (list : List ℕ) (by : Refusal) (h : Refuses b pairs block by) (work work₁ : List ℕ) (put : Begun from work work₁) where
  abbrev told : Answer → Tally
  told y = record { nodes = nodes_said y; counts = counts_by (λ t. at (order_lent b pairs) (settled_by t)) (take (nodes_said y) (nodes_between (problem_lent b pairs block) from upto)) }

  pub refused_call : (last : List ℕ) → Valued work₁ last →
      CallRange b pairs block record { from = from; upto = upto; limit = limit; out = list; answer = means (Err by); list = list; tally = no_nodes; last = take (at work₁ LAST) last }
  unfolding answer_part result_part list_part tally_part last_part last_of
  refused_call last v = record {
    answers = sym (ap (λ (u : Verdict). reply u (result_part b pairs block from upto limit (length list)).ending) h);
    leaves = sym (ap (λ (u : Verdict). model.kept u list (written (result_part b pairs block from upto limit (length list)).rows list)) h);
    counts = sym (ap (λ (cs : List ℕ). let t : Tally = record { nodes = 0; counts = cs } in t) (counts_none (λ (t : List ℕ). at (order_lent b pairs) (settled_by t))))
        ∙ sym (ap (λ (u : Verdict). told (reply u (result_part b pairs block from upto limit (length list)).ending)) h);
    stands = valued_last work₁ last (put_short from work work₁ put) v ∙ put_last from work work₁ put
        ∙ sym (ap (λ (u : Verdict). last_of (take 12 from) (take (nodes_said (reply u (result_part b pairs block from upto limit (length list)).ending))
        (nodes_between (problem_lent b pairs block) from upto))) h);
  }
