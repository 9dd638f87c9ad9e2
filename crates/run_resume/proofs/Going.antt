-- A run that has gone on from its last node is parts' `go_on`: how it stopped, its figures, its counts, its last node and its list; and what `go_on` asks
-- follows from what `prepare_again` leaves (specs/Resume). Assumes nothing.
use Rattle.model.specs.Kit.{◌≡◌, refl, sym, ap, ap₂, ◌∙◌, subst, subst₂, Bool, true, false, ◌⊎◌, inl, inr, List, [], ◌∷◌, map, Memᴰ, ℕ, suc, ◌+◌, ◌-◌, ◌*◌, ◌/◌, ◌≤◌, ◌<◌, mul-le-mul_right, arith}
use Rattle.model.specs.Kit.{eqb, eqb→eq, length, take, set, length-set, eqb-true, eqb-false}
use Rattle.model.specs.Run.{finished, plans_in, nodes_in, Result, search, written, Tally, settled_by, counts_by}
use Rattle.model.specs.{Lists.at, Lists.choose, Lists.keep, Lists.flat, Lists.below, Problem.Problem, Search.is_live, Search.is_plan, Search.nodes, Sheet.problem_of}
use mathlib.Core.List.Memᴰ
use mathlib.Core.List.{map-id}
use native.Mathlib.Nat.{div-add-mod', sub-zero}
use lib.Seq.{take-nil}
use Rattle.model.proofs.{Lists.of_T, Lists.both_l, Lists.keep_e, Lists.map_ext, Lists.at_set, Lists.at_set_other, Tally.counts_ext, Room.Wide, Room.length_flat, Runs.Walk, Runs.walk as run_walk}
use Rattle.order.specs.Reordered.{write}
use Rattle.order.proofs.LeadersBy.{ordering_below, write_below, below_at}
use Rattle.run_cut.specs.Parts.{after, nodes_after, last_of, Progress, go_on, made_in, last_after}
use Rattle.run_cut.proofs.{Resume.node_values, Resume.last_in, Resume.taken, Counts.counts_none, Anywhere.no_fewer}
use Rattle.arrays.specs.Inner.Places.{LIMIT, ROOM, PLANS, LAST, ALL, DEEPER, WORK}
use Rattle.sheet.specs.Meaning.{compilable}
use Rattle.run_state.specs.Inner.{Walk.State, Walk.no_nodes, Walk.all_noted, Walk.walk, Walk.stop_in, Walk.tally_by, Pair.prefix_of, Pair.order_in, Pair.own_problem_in, Pair.state_of, Pair.AtPrefix}
use Rattle.run_state.specs.Inner.{Pair.Walked}
use Rattle.run_state.proofs.{Outcome.noted_all_none, Outcome.noted_all_over, Outcome.outcome_on, Prefix.length_prefix, Prefix.prefix_at, Prefix.prefix_ext, Prefix.prefix_zero, Prefix.prefix_is}
use Rattle.run_search.proofs.Prepared.{room_fits, room_most}
use Rattle.run_ranges.specs.Inner.Within.{within}
use Rattle.run_ranges.proofs.{Within.within_whole, Between.rest_between}
use Rattle.run_between.specs.Inner.Steps.{AtBelow, PutPath, Valued, Parted}
use Rattle.run_between.proofs.Ends.{valued_last}
use Rattle.run_resume.specs.Inner.Resume.{tree_of, Put, Stands, PreparedAgain, GoesOn, GoneOn}

-- ---- `put_progress`
pub put_so : (k : ℕ) (path work work' : List ℕ) → length work ≡ WORK → length path ≤ 12 → PutPath path (set work PLANS k) work' → Put k path work work'
put_so k path work work' long short h =
    let n : at work' LAST ≡ length path = (let e = h.last in omega arith) in
    record {
      plans = h.others PLANS (omega arith) (λ e. omega arith) ∙ at_set work PLANS k (omega arith);
      last = ap (prefix_of work') n ∙ sym (prefix_is path work' (length path) refl (λ j m. sym (h.values j m (omega arith))));
      short = omega arith;
      bytes = h.bytes;
      others = λ i l e f. h.others i (omega arith) f ∙ at_set_other work PLANS k i e;
      work_length = h.work_length ∙ length-set work PLANS k ∙ long;
    }

-- ---- rows of n bytes, written by position
by_position : (p : Problem) (order : (a : List ℕ) → length a ≡ p.variables → write (below p.variables) a ≡ a) (rows : List (List ℕ)) → Wide p.variables rows → map
    (write (below p.variables)) rows ≡ rows
by_position p order rows w = map_ext (write (below p.variables)) (λ r. r) rows (λ r m. order r (w r m)) ∙ map-id rows

-- ---- the rest of a run: its walk, the widths of its rows, and that it has made no fewer nodes than before
module _ (p : Problem) (limit room : ℕ) (s : Progress) where
  pub rest_walk : Walk p limit room (nodes_after p s.last) s.made s.rows (go_on p limit room s)
  unfolding go_on
  rest_walk = run_walk p limit room (nodes_after p s.last) s.made s.rows

  pub rest_wide : Wide p.variables s.rows → Wide p.variables (go_on p limit room s).rows
  unfolding is_plan
  rest_wide w r m = cases (Memᴰ.append_cases s.rows (subst (Memᴰ r) rest_walk.listed m))
    where
      new : List (List ℕ)
      new = take rest_walk.passed (nodes_after p s.last)

      cases : Memᴰ r s.rows ⊎ Memᴰ r (keep (is_plan p) new) → length r ≡ p.variables
      cases (inl i) = w r i
      cases (inr i) = eqb→eq (length r) p.variables (both_l (eqb (length r) p.variables) (is_live p r) (keep_e (is_plan p) new r i).1)

-- ---- `go_on` where there are no nodes
module _ (p : Problem) (s : Progress) (limit room : ℕ) (stack work supports tables numbers list : List ℕ) (step : ℕ) (h : GoesOn p s limit room stack work supports tables numbers list step) where
  abbrev all : List (List ℕ)
  all = nodes_after p s.last

  abbrev result : Result
  result = go_on p limit room s

  module _ (n : step ≡ DEEPER → ⊥) where
    none : all ≡ []
    unfolding nodes_after keep
    none = ap (keep (after s.last)) (h.none n).1

    ends : result ≡ record { ending = finished (length s.rows) s.made; rows = s.rows }
    unfolding go_on search
    ends = ap (λ (ts : List (List ℕ)). search p limit room ts s.made s.rows) none

    made_none : made_in p s result ≡ []
    made_none = ap (take (nodes_in result.ending - s.made)) none ∙ take-nil (nodes_in result.ending - s.made)

    pub gone_none : (tally : Tally) → tally ≡ no_nodes → GoneOn p s limit room list work list step tally
    unfolding last_of
    gone_none tally t = record {
      stopped = (h.none n).0 ∙ sym (ap (λ (r : Result). stop_in r.ending) ends);
      made = ap (λ (y : Tally). s.made + y.nodes) t ∙ (let e : s.made + 0 ≡ s.made = omega arith in e) ∙ sym (ap (λ (r : Result). nodes_in r.ending) ends);
      counts = ap (λ (y : Tally). y.counts) t ∙ sym (ap (counts_by settled_by) made_none ∙ counts_none settled_by);
      plans = h.stands.plans ∙ sym (ap (λ (r : Result). plans_in r.ending) ends);
      counted = ap (λ (r : Result). plans_in r.ending) ends ∙ sym (ap (λ (r : Result). length r.rows) ends);
      last = h.stands.last ∙ sym (ap (last_of s.last) made_none);
      short = h.stands.short;
      bytes = h.stands.bytes;
      wrote = sym (ap (λ (r : Result). written r.rows list) ends ∙ h.stands.listed);
    }

  -- ---- and where there are
  module _ (e : step ≡ DEEPER) where
    abbrev at_start : AtPrefix p stack work supports tables numbers list no_nodes 0
    at_start = h.prefix e

    few : p.variables ≤ 12
    few = at_start.ready.well_formed.few

    size : at work LAST ≡ length s.last
    size = sym (length_prefix work (at work LAST)) ∙ ap length h.stands.last

    values : (i : ℕ) → i < length s.last → at work i ≡ at s.last i
    values i l = let z = size in sym (prefix_at work (at work LAST) i (omega arith)) ∙ ap (λ (t : List ℕ). at t i) h.stands.last

    -- the walk may begin
    pub walks : AtBelow p s.last stack work supports tables numbers list no_nodes 0
    walks = record { prefix = at_start; stands = λ i l m. ap (at work) (let z : 0 + i ≡ i = omega arith in z) ∙ values i l; short = λ z. h.stands.short }

    -- rows by position
    same_rows : (rows : List (List ℕ)) → Wide p.variables rows → map (write (below p.variables)) rows ≡ rows
    same_rows = by_position p (write_below (own_problem_in p numbers) at_start.ready.well_formed)

    some : 0 < p.variables
    some = at_start.room.some

    fits : length s.rows * p.variables ≤ room
    fits =
        let l : at work PLANS ≤ at numbers ROOM = at_start.room.listed in
        let r : at numbers ROOM ≡ room / p.variables = h.roomy e in
        let k : length s.rows ≤ room / p.variables = (let z = h.stands.plans in omega arith) in
        let m : length s.rows * p.variables ≤ room / p.variables * p.variables = mul-le-mul_right p.variables k in
        let d = div-add-mod' room p.variables in omega arith

    -- a list of no byte has room for no row
    written_so : (rows : List (List ℕ)) → length rows * p.variables ≤ room → all_noted rows list ≡ written rows list
    unfolding written flat
    written_so rows l = go (eqb (length list) 0) refl
      where
        empty : (rows : List (List ℕ)) → length rows * p.variables ≤ 0 → rows ≡ []
        empty [] z = refl
        empty (r ∷ rs) z = absurd (let o = some in let q : suc (length rs) * p.variables ≡ p.variables + length rs * p.variables = omega arith in omega arith)

        go : (c : Bool) → eqb (length list) 0 ≡ c → all_noted rows list ≡ written rows list
        go true c =
            let z = eqb-true (length list) 0 c in
            let r : length rows * p.variables ≤ 0 = (let q = h.lent e in omega arith) in
            noted_all_none rows list z ∙ sym (ap (λ (x : List (List ℕ)). written x list) (empty rows r))
        go false c = noted_all_over rows list (eqb-false (length list) 0 c)

    module _ (stack' work' list' : List ℕ) (tally : Tally) (stop : ℕ) (c : Walked p (within p (p.variables - 0) (prefix_of work 0) s.last (255 ∷ [])) stack work numbers list no_nodes 0 stack'
        work' list' tally stop) where
      abbrev done : ℕ
      done = nodes_in result.ending - s.made

      abbrev to : Result → State
      to r = record {
        tally = tally_by (below p.variables) all (nodes_in r.ending - s.made);
        plans = plans_in r.ending;
        stop = stop_in r.ending;
        list = all_noted
            (map (write (below p.variables)) r.rows) list;
        last = last_of s.last (take (nodes_in r.ending - s.made) all);
      }

      -- the walk goes along the nodes after the path
      nodes_so : within p (p.variables - 0) (prefix_of work 0) s.last (255 ∷ []) ≡ all
      nodes_so = ap₂ (λ (j : ℕ) (t : List ℕ). within p j t s.last (255 ∷ [])) (sub-zero p.variables) (prefix_zero work) ∙ within_whole p s.last (255 ∷ []) ∙ rest_between p s.last

      -- and is the run
      came : state_of tally work' stop list' ≡ to result
      unfolding go_on
      came =
          c.state
          ∙ ap₂ (λ (o : List ℕ) (k : ℕ). walk p o (at numbers LIMIT) k (within p (p.variables - 0) (prefix_of work 0) s.last (255 ∷ [])) (state_of no_nodes work ALL list)) (h.order e) (h.roomy e)
          ∙ ap (λ (ts : List (List ℕ)). walk p (below p.variables) (at numbers LIMIT) (room / p.variables) ts (state_of no_nodes work ALL list)) nodes_so
          ∙ ap₂ (λ (k : ℕ) (t : List ℕ). walk p (below p.variables) (at numbers LIMIT) (room / p.variables) all (record { tally = no_nodes; plans = k; stop = ALL; list = list; last = t }))
          h.stands.plans h.stands.last
          ∙ outcome_on p (below p.variables) (ordering_below p.variables).sized (at numbers LIMIT) (room / p.variables) room list (room_fits 0 p.variables room some)
          (room_most 0 p.variables room some) (λ o. sym (h.lent e)) all s.last s.made s.rows
          (ap (λ (l : List (List ℕ)). length (flat l)) (same_rows s.rows (h.widths e)) ∙ length_flat p.variables s.rows (h.widths e))
          fits
          (ap (λ (l : List (List ℕ)). all_noted l list) (same_rows s.rows (h.widths e)) ∙ written_so s.rows fits ∙ h.stands.listed)
          ∙ ap (λ (k : ℕ). to (search p k room all s.made s.rows)) (h.bounded e)

      -- a node that settles the variable of its depth is counted as that variable's
      by_depth : (t : List ℕ) → Memᴰ t (made_in p s result) → at (below p.variables) (settled_by t) ≡ settled_by t
      unfolding nodes_after
      by_depth t m =
          let i = (keep_e (after s.last) (nodes p) t (taken p done all t m)).0 in
          let l = (node_values p t i).1 in
          let o = at_start.inner in
          below_at p.variables (settled_by t) (omega arith)

      nodes_of : tally.nodes ≡ nodes_in result.ending - s.made
      unfolding tally_by
      nodes_of = ap (λ (x : State). x.tally.nodes) came

      tally_so : tally.counts ≡ counts_by settled_by (made_in p s result)
      unfolding tally_by
      tally_so = ap (λ (x : State). x.tally.counts) came ∙ counts_ext (λ t. at (below p.variables) (settled_by t)) settled_by (made_in p s result) by_depth

      is_last : prefix_of work' (at work' LAST) ≡ last_after p s result
      is_last = ap (λ (x : State). x.last) came

      -- the last node is the one before or one of the tree's
      small : ((i : ℕ) → i < length (last_after p s result) → at (last_after p s result) i < 256) × (length (last_after p s result) ≤ 12)
      unfolding nodes_after
      small = go (last_in p s.last (take done all))
        where
          go : (last_after p s result ≡ s.last) ⊎ Memᴰ (last_after p s result) (take done all) → ((i : ℕ) → i < length (last_after p s result) → at (last_after p s result) i < 256) ×
              (length (last_after p s result) ≤ 12)
          go (inl q) =
              let z = size in
              let f = h.stands.short in
              subst (λ (t : List ℕ). ((i : ℕ) → i < length t → at t i < 256) × (length t ≤ 12)) (sym q) (λ i l. subst (λ (v : ℕ). v < 256) (values i l) (h.stands.bytes i (omega arith)), omega arith)
          go (inr m) =
              let b = node_values p (last_after p s result) (keep_e (after s.last) (nodes p) _ (taken p done all _ m)).0 in
              (λ i l. (let v = b.0 i l in omega arith), (let l = b.1 in let f = few in omega arith))

      pub gone_on : GoneOn p s limit room list work' list' stop tally
      gone_on = record {
        stopped = ap (λ (x : State). x.stop) came;
        made = let q = nodes_of in let l = no_fewer p limit room s in omega arith;
        counts = tally_so;
        plans = ap (λ (x : State). x.plans) came;
        counted = (rest_walk p limit room s).counted;
        last = is_last;
        short = let q : at work' LAST ≡ length (last_after p s result) = sym (length_prefix work' (at work' LAST)) ∙ ap length is_last in let l = small.1 in omega arith;
        bytes = λ i l.
            let q : at work' LAST ≡ length (last_after p s result) = sym (length_prefix work' (at work' LAST)) ∙ ap length is_last in
            subst (λ (v : ℕ). v < 256) (sym (sym (prefix_at work' (at work' LAST) i l) ∙ ap (λ (t : List ℕ). at t i) is_last)) (small.0 i (omega arith));
        wrote = ap (λ (x : State). x.list) came ∙ ap (λ (l : List (List ℕ)). all_noted l list) (same_rows result.rows (rest_wide p limit room s (h.widths e))) ∙ written_so result.rows
            ((rest_walk p limit room s).roomy fits);
      }

-- ---- `go_on`: the last node's values, as they were read back from `work`, are the path that is gone on from
module _ (p : Problem) (s : Progress) (limit room : ℕ) (stack work supports tables numbers list : List ℕ) (step : ℕ) (h : GoesOn p s limit room stack work supports tables numbers list step)
    (last : List ℕ) (v : Valued work last) where
  abbrev from : List ℕ
  from = take (at work LAST) last

  from_is : from ≡ s.last
  from_is = valued_last work last h.stands.short v ∙ h.stands.last

  pub walks_from : step ≡ DEEPER → AtBelow p from stack work supports tables numbers list no_nodes 0
  walks_from e = subst (λ (t : List ℕ). AtBelow p t stack work supports tables numbers list no_nodes 0) (sym from_is) (walks p s limit room stack work supports tables numbers list step h e)

  pub gone_so : (stack' work' list' : List ℕ) (tally : Tally) (stop : ℕ) → Parted from (255 ∷ []) stack work supports tables numbers list step stack' work' list' tally stop
      → GoneOn p s limit room list work' list' stop tally
  gone_so stack' work' list' tally stop q = go (eqb step DEEPER) refl
    where
      go : (c : Bool) → eqb step DEEPER ≡ c → GoneOn p s limit room list work' list' stop tally
      go true c =
          let e = eqb-true step DEEPER c in
          let w = q.some e p (walks_from e) in
          gone_on p s limit room stack work supports tables numbers list step h e stack' work' list' tally stop
          (subst (λ (t : List ℕ). Walked p (within p (p.variables - 0) (prefix_of work 0) t (255 ∷ [])) stack work numbers list no_nodes 0 stack' work' list' tally stop) from_is w)
      go false c =
          let n = eqb-false step DEEPER c in
          let o = q.none n in
          subst (λ (k : ℕ). GoneOn p s limit room list work' list' k tally) (sym o.0)
          (subst₂ (λ (x y : List ℕ). GoneOn p s limit room list x y step tally) (sym o.2) (sym o.3) (gone_none p s limit room stack work supports tables numbers list step h n tally o.1))

-- ---- from `prepare_again` to `go_on`
pub goes_on_lem : (b : List ℕ) (more size : ℕ) (work stack' work' supports' tables' numbers' : List ℕ) (step : ℕ) → PreparedAgain b more size work stack' work' supports' tables' numbers' step →
    (s : Progress) (limit room : ℕ) (list : List ℕ) → s.made + more ≡ limit → Stands s work list →
    (step ≡ DEEPER → (length list ≡ size) × (room ≡ size) × (length s.rows * (problem_of b).variables ≤ size) × Wide (problem_of b).variables s.rows) →
    GoesOn (tree_of b) s limit room stack' work' supports' tables' numbers' list step
goes_on_lem b more size work stack' work' supports' tables' numbers' step h s limit room list sum stands fits = record {
  stands = record {
    plans = h.same PLANS (omega arith) ∙ stands.plans;
    last = ap (prefix_of work') same_last ∙ prefix_ext work' work (at work LAST) (λ i l. h.same i (let f = stands.short in omega arith)) ∙ stands.last;
    short = subst (λ (k : ℕ). k ≤ 12) (sym same_last) stands.short;
    bytes = λ i l. let q = same_last in let f = stands.short in subst (λ (v : ℕ). v < 256) (sym (h.same i (omega arith))) (stands.bytes i (omega arith));
    listed = stands.listed;
  };
  none = h.none;
  prefix = λ e. let f = fits e in subst (λ (p : Problem). AtPrefix p stack' work' supports' tables' numbers' list no_nodes 0) (is e)
      (h.live e list f.0 (subst (λ (k : ℕ). k * (problem_of b).variables ≤ size) (sym stands.plans) f.2));
  order = λ e. subst (λ (p : Problem). order_in numbers' p.variables ≡ below p.variables) (is e) (h.order e);
  bounded = λ e. let q = h.bounded e in omega arith;
  lent = λ e. let f = fits e in f.0 ∙ sym f.1;
  roomy = λ e. subst (λ (p : Problem). at numbers' ROOM ≡ room / p.variables) (is e) (h.roomy e ∙ ap (λ (k : ℕ). k / (problem_of b).variables) (sym (fits e).1));
  widths = λ e. subst (λ (p : Problem). Wide p.variables s.rows) (is e) (fits e).3;
}
  where
    same_last : at work' LAST ≡ at work LAST
    same_last = h.same LAST (omega arith)

    is : step ≡ DEEPER → problem_of b ≡ tree_of b
    is e = ap (λ (c : Bool). problem_of (choose c b [])) (sym (of_T (compilable b) (h.compiled e)))
