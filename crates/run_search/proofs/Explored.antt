-- The walk from the empty prefix comes to the run's end. Assumes nothing.
use Rattle.model.specs.Kit.{◌≡◌, refl, sym, ap, ap₂, ◌∙◌, subst, subst₂, Bool, true, false, List, [], ℕ, suc, ◌*◌, ◌^◌, ◌≤◌, ◌<◌, arith, eqb, eqb-true, eqb-false, length}
use Rattle.model.specs.Run.{finished, spent, full, ended, result_of, Tally}
use Rattle.model.specs.{Lists.at, Problem.Problem, Search.is_live, Search.nodes, Search.nodes_below, Sheet.problem_of}
use native.Mathlib.Nat.{sub-zero}
use Rattle.run_input.specs.Lent.{verdict_lent, order_lent, problem_lent}
use Rattle.run_input.proofs.Lent.{well_sheet, ordering_lent}
use Rattle.arrays.specs.Inner.Places.{LIMIT, ROOM, PLANS, LAST, ALL, DEEPER, WANTED, DIAGONAL}
use Rattle.run_state.specs.{Inner.Walk.no_nodes, Inner.Walk.State, Inner.Walk.walk, Inner.Walk.stop_in, Inner.Pair.prefix_of, Inner.Pair.order_in, Inner.Pair.Cleared, Inner.Pair.state_of}
use Rattle.run_state.specs.Inner.Pair.{ListRoom, AtPrefix, AtValues, Walked, tried}
use Rattle.run_task.specs.Inner.Task.{room_for}
use Rattle.run_search.specs.{Inner.Begun.Begun, Inner.Begun.Ended, Inner.Prepared.bytes_for, Inner.Prepared.Prepared, Inner.Explored.result_for, Inner.Explored.RunTo}
use Rattle.run_search.specs.Inner.Explored.{Explored}
use Rattle.run_tree.proofs.{Laws.dead_below, Turns.values_ask, Turns.tried_all}
use Rattle.run_state.proofs.{Outcome.outcome, Prefix.prefix_zero, Walk.none_summed}
use Rattle.run_search.proofs.Prepared.{room_fits, room_most, room_lent}
use Rattle.model.proofs.Accepted.{is_accepted_lem}
use Rattle.model.specs.Run as Run

abbrev zeroth : List ℕ → List ℕ → State
zeroth last list = record { tally = no_nodes; plans = 0; stop = ALL; list = list; last = last }

none_cleared : Cleared no_nodes
none_cleared = record { is = refl; summed = none_summed }

pub stop_in_lem : (e : Run.Ending) → stop_in e < DEEPER
stop_in_lem (finished k u) = omega arith
stop_in_lem (spent k u) = omega arith
stop_in_lem (full k u) = omega arith

-- ---- `walk_tree`
module _ (stack work supports tables numbers list : List ℕ) (step : ℕ) where
  pub ended_none : step ≡ ALL → (tally : Tally) → Cleared tally → Ended stack work supports tables numbers list step stack work list tally ALL
  ended_none a tally t = record { none = λ z. (sym a, t.is, refl, refl, refl); some = λ e. absurd (omega arith) }

  module _ (e : step ≡ DEEPER) (tally : Tally) (none : Cleared tally) (values : ℕ) (all : values ≡ at stack (DIAGONAL * 0)) where
    pub tree_asks : (p : Problem) → AtPrefix p stack work supports tables numbers list no_nodes 0 → AtValues p stack work supports tables numbers list tally 0 values
    tree_asks p g =
        subst (λ (t : Tally). AtValues p stack work supports tables numbers list t 0 values) (sym none.is)
        (subst (AtValues p stack work supports tables numbers list no_nodes 0) (sym all) (values_ask p stack work supports tables numbers list no_nodes 0 g))

    pub ended_some : (stack' work' list' : List ℕ) (tally' : Tally) (stop : ℕ) →
        ((p : Problem) → AtValues p stack work supports tables numbers list tally 0 values → Walked p (tried p work 0 values) stack work numbers list tally 0 stack' work' list' tally' stop) →
        Ended stack work supports tables numbers list step stack' work' list' tally' stop
    ended_some stack' work' list' tally' stop w = record {
      none = λ n. absurd (n e);
      some = λ z p g. subst (λ (t : Tally). Walked p (tried p work 0 (at stack (DIAGONAL * 0))) stack work numbers list t 0 stack' work' list' tally' stop) none.is
          (subst (λ (m : ℕ). Walked p (tried p work 0 m) stack work numbers list tally 0 stack' work' list' tally' stop) all (w p (tree_asks p g)));
    }

-- ---- a walk along all nodes of a problem, from nothing counted and nothing listed, is its run
module _ (p : Problem) (order : List ℕ) (sized : length order ≡ p.variables) (limit room bytes : ℕ) (list : List ℕ) (fits : room * p.variables ≤ bytes) (most : bytes < suc room * p.variables)
    (same : (length list ≡ 0 → ⊥) → bytes ≡ length list) (work : List ℕ) (begun : at work PLANS ≡ 0) where
  -- the last node made before, which no run has
  abbrev before : List ℕ
  before = prefix_of work (at work LAST)

  run_to : (work' list' : List ℕ) (tally' : Tally) (stop : ℕ) → state_of tally' work' stop list' ≡ walk p order limit room (nodes p) (zeroth before list) → RunTo p order
      (result_of p limit bytes) list work' list' tally' stop
  run_to work' list' tally' stop h =
      let s = h ∙ outcome p order sized limit room bytes list before fits most same in
      record {
        tally = ap (λ (x : State). x.tally) s;
        plans = ap (λ (x : State). x.plans) s;
        stopped = ap (λ (x : State). x.stop) s;
        wrote = ap (λ (x : State). x.list) s;
      }

  pub ran_dead : is_live p [] ≡ false → (tally' : Tally) (stop : ℕ) → tally' ≡ no_nodes → stop ≡ ALL → RunTo p order (result_of p limit bytes) list work list tally' stop
  unfolding nodes walk
  ran_dead d tally' stop t s = run_to work list tally' stop
      (ap₂ (λ (a : Tally) (k : ℕ). record { tally = a; plans = k; stop = stop; list = list; last = before }) t begun
      ∙ ap (λ (k : ℕ). record { tally = no_nodes; plans = 0; stop = k; list = list; last = before }) s
      ∙ sym (ap (λ (ts : List (List ℕ)). walk p order limit room ts (zeroth before list)) (dead_below p p.variables [] d)))

  module _ (stack supports tables numbers : List ℕ) (count : Tally) (none : count ≡ no_nodes) (given : AtPrefix p stack work supports tables numbers list count 0)
      (bounded : at numbers LIMIT ≡ limit) (roomy : at numbers ROOM ≡ room) (ordered : order_in numbers p.variables ≡ order) (values : ℕ) (all : values ≡ at stack (DIAGONAL * 0)) where
    pub ran_walked : (stack' work' list' : List ℕ) (tally' : Tally) (stop : ℕ) → Walked p (tried p work 0 values) stack work numbers list count 0 stack' work' list' tally' stop → RunTo p order
        (result_of p limit bytes) list work' list' tally' stop
    unfolding nodes
    ran_walked stack' work' list' tally' stop w = run_to work' list' tally' stop
        (w.state
        ∙ ap₂ (λ (k : ℕ) (ts : List (List ℕ)). walk p (order_in numbers p.variables) k (at numbers ROOM) ts (state_of count work ALL list)) bounded
        (ap (tried p work 0) all ∙ tried_all p stack work supports tables numbers list count 0 given ∙ ap₂ (nodes_below p) (sub-zero p.variables) (prefix_zero work))
        ∙ ap₂ (λ (a : Tally) (k : ℕ). walk p (order_in numbers p.variables) limit (at numbers ROOM) (nodes_below p p.variables [])
        (record { tally = a; plans = k; stop = ALL; list = list; last = before })) none begun
        ∙ ap₂ (λ (o : List ℕ) (k : ℕ). walk p o limit k (nodes_below p p.variables []) (zeroth before list)) ordered roomy)

  -- by `begin` and `walk_tree`: p was begun with this limit and room
  pub ran_tree : (numbers₀ stack supports tables numbers : List ℕ) (step : ℕ) (work₀ : List ℕ) → Begun p order numbers₀ work₀ stack work supports tables numbers step → at numbers₀ LIMIT ≡ limit
      → at numbers₀ ROOM ≡ room → limit < 2 ^ 32 → ListRoom p.variables room list 0 →
      at work₀ PLANS ≡ 0 → (stack' work' list' : List ℕ) (tally' : Tally) (stop : ℕ) → Ended stack work supports tables numbers list step stack' work' list' tally' stop → RunTo p order
      (result_of p limit bytes) list work' list' tally' stop
  ran_tree numbers₀ stack supports tables numbers step work₀ h l m small roomy none stack' work' list' tally' stop q = go (eqb step DEEPER) refl
    where
      Ran : List ℕ → List ℕ → Type 0
      Ran x y = RunTo p order (result_of p limit bytes) list x y tally' stop

      go : (c : Bool) → eqb step DEEPER ≡ c → RunTo p order (result_of p limit bytes) list work' list' tally' stop
      go true c =
          let e = eqb-true step DEEPER c in
          let g = h.live e (subst (λ (k : ℕ). k < 2 ^ 32) (sym l) small) list (subst₂ (λ (r k : ℕ). ListRoom p.variables r list k) (sym m) (sym none) roomy) in
          ran_walked stack supports tables numbers no_nodes refl g (h.first LIMIT (omega arith) ∙ l) (h.first ROOM (omega arith) ∙ m) h.order_is
          (at stack (DIAGONAL * 0)) refl stack' work' list' tally' stop (q.some e p g)
      go false c =
          let n = eqb-false step DEEPER c in
          let o = q.none n in
          let a = is_all (eqb step ALL) refl n in
          subst₂ Ran (sym o.3) (sym o.4) (ran_dead (h.dead a) tally' stop o.1 (o.0 ∙ a))
        where
          is_all : (c : Bool) → eqb step ALL ≡ c → (step ≡ DEEPER → ⊥) → step ≡ ALL
          is_all true c n = eqb-true step ALL c
          is_all false c n = absurd (n (h.known (eqb-false step ALL c)))

-- ---- the search of a lending
module _ (task b pairs block : List ℕ) (limit : ℕ) (list stack work supports tables numbers : List ℕ) (step : ℕ) (unlisted : (at task WANTED ≡ 0 → ⊥) → length list ≡ 0)
    (h : Prepared task b pairs block limit (length list) stack work supports tables numbers step) where
  abbrev tree : Problem
  tree = problem_lent b pairs block

  abbrev by : List ℕ
  by = order_lent b pairs

  abbrev n : ℕ
  n = (problem_of b).variables

  sized : length by ≡ tree.variables
  sized = (ordering_lent b pairs block (is_accepted_lem (verdict_lent b pairs block) h.accepted)).sized

  some : 0 < (problem_of b).variables
  some = (well_sheet b pairs block (is_accepted_lem (verdict_lent b pairs block) h.accepted)).some

  abbrev w : ℕ
  w = at task WANTED

  pub explored_dead : (tally' : Tally) (stop : ℕ) → step ≡ ALL → stop ≡ ALL → Cleared tally' → Explored task b pairs block limit list work list tally' stop
  explored_dead tally' stop e s t = record {
    accepted = h.accepted;
    ended = ran_dead tree by sized limit (room_for w n (length list)) (bytes_for w n (length list)) list (room_fits w n (length list) some) (room_most w n (length list) some)
        (room_lent w n (length list) unlisted) work h.begun (h.dead e) tally' stop t.is s;
    summed = t.summed;
  }

  module _ (e : step ≡ DEEPER) (count : Tally) (none : Cleared count) (values : ℕ) (all : values ≡ at stack (DIAGONAL * 0)) where
    abbrev given : AtPrefix tree stack work supports tables numbers list count 0
    given = subst (λ (t : Tally). AtPrefix tree stack work supports tables numbers list t 0) (sym none.is) (h.live e list refl)

    pub start_asks : AtValues tree stack work supports tables numbers list count 0 values
    start_asks = subst (AtValues tree stack work supports tables numbers list count 0) (sym all) (values_ask tree stack work supports tables numbers list count 0 given)

    pub explored : (stack' work' list' : List ℕ) (tally' : Tally) (stop : ℕ) → Walked tree (tried tree work 0 values) stack work numbers list count 0 stack' work' list' tally' stop
        → Explored task b pairs block limit list work' list' tally' stop
    explored stack' work' list' tally' stop q = record {
      accepted = h.accepted;
      ended = ran_walked tree by sized limit (room_for w n (length list)) (bytes_for w n (length list)) list (room_fits w n (length list) some) (room_most w n (length list) some)
          (room_lent w n (length list) unlisted) work h.begun stack supports tables numbers count none.is given (h.bounded e) (h.roomy e) (h.order e) values all stack' work' list' tally' stop q;
      summed = q.summed;
    }

  -- by `walk_tree`
  pub explored_tree : (stack' work' list' : List ℕ) (tally' : Tally) (stop : ℕ) → Ended stack work supports tables numbers list step stack' work' list' tally' stop
      → Explored task b pairs block limit list work' list' tally' stop
  explored_tree stack' work' list' tally' stop q = go (eqb step DEEPER) refl
    where
      Left : List ℕ → List ℕ → Tally → Type 0
      Left x y u = Explored task b pairs block limit list x y u stop

      go : (c : Bool) → eqb step DEEPER ≡ c → Explored task b pairs block limit list work' list' tally' stop
      go true c = let e = eqb-true step DEEPER c in explored e no_nodes none_cleared (at stack (DIAGONAL * 0)) refl stack' work' list' tally' stop (q.some e tree (h.live e list refl))
      go false c =
          let d = eqb-false step DEEPER c in
          let o = q.none d in
          let a = is_all (eqb step ALL) refl d in
          subst₂ (λ (x y : List ℕ). Left x y tally') (sym o.3) (sym o.4) (subst (Left work list) (sym o.1) (explored_dead no_nodes stop a (o.0 ∙ a) none_cleared))
        where
          is_all : (c : Bool) → eqb step ALL ≡ c → (step ≡ DEEPER → ⊥) → step ≡ ALL
          is_all true c d = eqb-true step ALL c
          is_all false c d = absurd (d (h.known (eqb-false step ALL c)))
