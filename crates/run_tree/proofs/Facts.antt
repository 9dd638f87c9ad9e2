-- The facts that `settle_variable` and `try_value` need at each call. Assumes nothing.
use Rattle.model.specs.Kit.{◌≡◌, sym, ap, ◌∙◌, subst, List, ℕ, ◌+◌, ◌-◌, ◌*◌, ◌^◌, ◌≤◌, ◌<◌, arith, length}
use Rattle.model.specs.{Lists.at, ValueSets.without_mask, ValueSets.lowest_of, Problem.Problem, Search.nodes_below, Run.Tally}
use Rattle.arrays.specs.Inner.Places.{PLANS, ALL, DEEPER, WORK, DIAGONAL, ASKS, VAIN}
use Rattle.run_state.specs.Inner.Walk.{with_node}
use Rattle.run_state.specs.Inner.Pair.{prefix_of, settling, Countable, Counted, AtValues, AtValue, Walked, Entered, tried, lowest_tried}
use Rattle.run_memo.specs.Inner.Steps.{AtLook, grown_by, Looked, AtNote, Noted}
use Rattle.run_state.proofs.Written.{settling_inside}
use Rattle.run_tree.proofs.Turns.{turn_asks, turn_goes, values_ask, tried_all, μ_settle, rest_falls}

-- ---- `settle_variable`: the values but the lowest are j
module _ (p : Problem) (stack work supports tables numbers list : List ℕ) (tally : Tally) (k m : ℕ) (h : AtValues p stack work supports tables numbers list tally k m) (some : 0 < m)
    (small : m < 2 ^ 16)
    (stack' work' list' : List ℕ) (tally' : Tally) (stop : ℕ) (d : Walked p (lowest_tried p work k m) stack work numbers list tally k stack' work' list' tally' stop) (j : ℕ)
    (is : j ≡ without_mask m (lowest_of m)) where
  pub rest_asks : AtValues p stack' work' supports tables numbers list' tally' k j
  rest_asks = subst (AtValues p stack' work' supports tables numbers list' tally' k) (sym is)
      (turn_asks p stack work supports tables numbers list tally k m h some small stack' work' list' tally' stop d)

  pub rest_goes : stop ≡ ALL → (stack'' work'' list'' : List ℕ) (tally'' : Tally) (stop'' : ℕ) → Walked p (tried p work' k j) stack' work' numbers list' tally' k stack'' work'' list'' tally'' stop'' →
      Walked p (tried p work k m) stack work numbers list tally k stack'' work'' list'' tally'' stop''
  rest_goes g stack'' work'' list'' tally'' stop'' w =
      turn_goes p stack work supports tables numbers list tally k m h some small stack' work' list' tally' stop d g stack'' work'' list'' tally'' stop''
      (subst (λ (i : ℕ). Walked p (tried p work' k i) stack' work' numbers list' tally' k stack'' work'' list'' tally'' stop'') is w)

pub others_fall : (k m j : ℕ) → 0 < m → m < 2 ^ 16 → j ≡ without_mask m (lowest_of m) → μ_settle k j < μ_settle k m
others_fall k m j some small is = subst (λ (i : ℕ). μ_settle k i < μ_settle k m) (sym is) (rest_falls k m some small)

-- nodes are below the lowest value's node: they are those of the next variable's values
pub record Inside (p : Problem) (stack work supports tables numbers list : List ℕ) (tally : Tally) (k m : ℕ) (stack' work' list' : List ℕ) (tally' : Tally) (values : ℕ) : Type 0 where
  pub asks : AtValues p stack' work' supports tables numbers list' tally' (k + 1) values
  pub all : values ≡ at stack' (DIAGONAL * (k + 1))
  pub goes : (stack'' work'' list'' : List ℕ) (tally'' : Tally) (stop : ℕ) → Walked p (tried p work' (k + 1) values) stack' work' numbers list' tally' (k + 1) stack'' work'' list'' tally'' stop →
      Walked p (lowest_tried p work k m) stack work numbers list tally k stack'' work'' list'' tally'' stop

-- ---- `try_value`: x is the variable of its depth, the tally has one node of it more, and `enter` has answered
module _ (p : Problem) (stack work supports tables numbers list : List ℕ) (tally : Tally) (k m : ℕ) (g : AtValue p stack work supports tables numbers list tally k m) where
  pub variable_few : k < 12
  variable_few = let i = g.values.prefix.inner in let f = g.values.prefix.ready.well_formed.few in omega arith

  module _ (x : ℕ) (at_x : x ≡ settling numbers k) where
    pub node_counts : Countable x tally
    node_counts = record {
      few = let f = g.values.prefix.ready.well_formed.few in let i = settling_inside numbers p.variables k g.values.prefix.order g.values.prefix.inner in omega arith;
      summed = g.values.prefix.summed;
      fits = let a = g.values.prefix.allowed in let d = g.due in let l = g.values.prefix.limited in omega arith;
    }

    module _ (stack' work' list' : List ℕ) (step : ℕ) (w : Entered p stack work supports tables numbers list tally k m stack' work' list' step) (tally' : Tally) (one : Counted x tally tally') where
      abbrev next : Tally
      next = with_node (settling numbers k) tally

      is_next : tally' ≡ next
      is_next = one.is ∙ ap (λ (y : ℕ). with_node y tally) at_x

      pub entered_stops : (step ≡ DEEPER → ⊥) → Walked p (lowest_tried p work k m) stack work numbers list tally k stack' work' list' tally' step
      entered_stops n = subst (λ (t : Tally). Walked p (lowest_tried p work k m) stack work numbers list tally k stack' work' list' t step) (sym is_next) (w.walked n)

      module _ (e : step ≡ DEEPER) where
        pub next_few : k + 1 < 12
        next_few = let i = (w.next e).inner in let f = g.values.prefix.ready.well_formed.few in omega arith

        pub inside : (values : ℕ) → values ≡ at stack' (DIAGONAL * (k + 1)) → Inside p stack work supports tables numbers list tally k m stack' work' list' tally' values
        inside values all = record {
          asks = subst (λ (t : Tally). AtValues p stack' work' supports tables numbers list' t (k + 1) values) (sym is_next)
              (subst (AtValues p stack' work' supports tables numbers list' next (k + 1)) (sym all) (values_ask p stack' work' supports tables numbers list' next (k + 1) (w.next e)));
          all = all;
          goes = λ stack'' work'' list'' tally'' stop v. w.then e stack'' work'' list'' tally'' stop
              (subst (λ (t : Tally). Walked p (tried p work' (k + 1) (at stack' (DIAGONAL * (k + 1)))) stack' work' numbers list' t (k + 1) stack'' work'' list'' tally'' stop) is_next
              (subst (λ (i : ℕ). Walked p (tried p work' (k + 1) i) stack' work' numbers list' tally' (k + 1) stack'' work'' list'' tally'' stop) all v));
        }

-- ---- the memo is asked for the nodes below the node
module _ {p : Problem} {stack work supports tables numbers list : List ℕ} {tally : Tally} {k m : ℕ} {stack' work' list' : List ℕ} {tally' : Tally} {values : ℕ}
    (i : Inside p stack work supports tables numbers list tally k m stack' work' list' tally' values) where
  pub inside_few : k + 1 < 12
  inside_few = let j = i.asks.prefix.inner in let f = i.asks.prefix.ready.well_formed.few in omega arith

  pub turn_asks_for : (k + 1 < 12) × (length work' ≡ WORK)
  turn_asks_for = (inside_few, i.asks.prefix.ready.work_length)

  below_is : tried p work' (k + 1) values ≡ nodes_below p (p.variables - (k + 1)) (prefix_of work' (k + 1))
  below_is = ap (tried p work' (k + 1)) i.all ∙ tried_all p stack' work' supports tables numbers list' tally' (k + 1) i.asks.prefix

  pub look_asks : (at numbers ASKS ≡ 0 → ⊥) → AtLook p stack' work' supports tables numbers list' tally' (k + 1)
  look_asks asks = record { prefix = i.asks.prefix; some = omega arith; asks = asks }

  module _ {work'' list'' : List ℕ} {place : ℕ} (l : Looked p stack' work' numbers list' tally' (k + 1) work'' list'' place) where
    pub found_goes : (tally'' : Tally) → place < VAIN → tally'' ≡ grown_by tally' work'' place → Walked p (lowest_tried p work k m) stack work numbers list tally k stack' work'' list'' tally'' ALL
    found_goes tally'' n q =
        i.goes stack' work'' list'' tally'' ALL
        (subst (λ (t : Tally). Walked p (tried p work' (k + 1) values) stack' work' numbers list' tally' (k + 1) stack' work'' list'' t ALL) (sym q)
        (subst (λ (ts : List (List ℕ)). Walked p ts stack' work' numbers list' tally' (k + 1) stack' work'' list'' (grown_by tally' work'' place) ALL) (sym below_is) (l.found n)))

    -- they are not kept, and then are walked along, and noted
    module _ (vain : VAIN ≤ place) where
      pub again_asks : AtValues p stack' work'' supports tables numbers list'' tally' (k + 1) values
      again_asks =
          subst (λ (u : List ℕ). AtValues p stack' u supports tables numbers list'' tally' (k + 1) values) (sym (l.missed vain).0)
          (subst (λ (u : List ℕ). AtValues p stack' work' supports tables numbers u tally' (k + 1) values) (sym (l.missed vain).1) i.asks)

      pub note_asks : (stack₃ work₃ list₃ : List ℕ) (tally₃ : Tally) (stop turn : ℕ) → turn ≡ at work' PLANS + 1 →
          Walked p (tried p work'' (k + 1) values) stack' work'' numbers list'' tally' (k + 1) stack₃ work₃ list₃ tally₃ stop →
          AtNote p stack' work' supports tables numbers list' tally' (k + 1) stack₃ work₃ list₃ tally₃ turn place stop
      note_asks stack₃ work₃ list₃ tally₃ stop turn is v = record {
        prefix = i.asks.prefix;
        walked = subst (λ (ts : List (List ℕ)). Walked p ts stack' work' numbers list' tally' (k + 1) stack₃ work₃ list₃ tally₃ stop) below_is
            (subst (λ (u : List ℕ). Walked p (tried p u (k + 1) values) stack' u numbers list' tally' (k + 1) stack₃ work₃ list₃ tally₃ stop) (l.missed vain).0
            (subst (λ (u : List ℕ). Walked p (tried p work'' (k + 1) values) stack' work'' numbers u tally' (k + 1) stack₃ work₃ list₃ tally₃ stop) (l.missed vain).1 v));
        some = omega arith;
        turn_is = is;
        vain = vain;
        placed = (l.missed vain).2;
      }

  pub note_goes : (stack₃ work₃ list₃ : List ℕ) (tally₃ : Tally) (stop : ℕ) → Noted p stack' work' numbers list' tally' (k + 1) stack₃ work₃ list₃ tally₃ stop → Walked p
      (lowest_tried p work k m) stack work numbers list tally k stack₃ work₃ list₃ tally₃ stop
  note_goes stack₃ work₃ list₃ tally₃ stop v =
      i.goes stack₃ work₃ list₃ tally₃ stop (subst (λ (ts : List (List ℕ)). Walked p ts stack' work' numbers list' tally' (k + 1) stack₃ work₃ list₃ tally₃ stop) (sym below_is) v)
