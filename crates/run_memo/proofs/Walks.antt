-- Walks that came to their end: what was counted and listed, and that the counts still add up. Assumes nothing.
use Rattle.model.specs.Kit.{◌≡◌, refl, sym, ap, ◌∙◌, Bool, true, false, List, [], ◌∷◌, map, ℕ, suc, ◌+◌, ◌*◌, ◌≤◌, ◌<◌, dec_lt, ℕ_discrete, arith, T, eqb, leb, length}
use Rattle.model.specs.{Lists.at, Lists.keep, Lists.choose, ValueSets.any_empty, Problem.Problem, Search.is_live, Search.is_plan, Run.settled_by, Inner.Pruning.closed}
use Rattle.model.proofs.{Lists.keep_yes, Lists.keep_no, Lists.mem_at, Lists.at_out, Lists.of_not, Sets.member, Sets.empty_i, Prune.Sized, Prune.live_closed, Prune.largest, Prune.narrowed_e}
use Rattle.order.specs.{Order.Ordering, Reordered.write}
use Rattle.arrays.specs.Inner.Places.{ALL, FULL}
use Rattle.run_cut.specs.Parts.{last_of}
use Rattle.run_state.specs.Inner.Walk.{Summed, State, with_node, noted, counted, exhausted, listed, visit, walk}
use Rattle.run_state.proofs.Walk.{visit_spent, visit_other, visit_plan, listed_kept, listed_full, walk_stopped, summed_more}
use Rattle.run_alike.specs.Inner.Alike.{moved}
use Rattle.run_passed.proofs.Passed.{last_moved}

-- an order's variables are few, whatever is asked of it
pub order_small : (n : ℕ) (order : List ℕ) (i : ℕ) → Ordering n order → n ≤ 12 → at order i < 12
order_small n order i o l = go (dec_lt i (length order))
  where
    go : Dec (i < length order) → at order i < 12
    go (yes h) = omega (arith, o.inside (at order i) (mem_at order i h))
    go (no h) = omega (arith, at_out order i (omega arith))

module _ (p : Problem) (order : List ℕ) (limit room : ℕ) where
  module _ (small : (i : ℕ) → at order i < 12) where
    visit_summed : (t : List ℕ) (s : State) → Summed s.tally → Summed (visit p order limit room t s).tally
    unfolding visit listed
    visit_summed t s h = go (eqb s.stop ALL) (eqb s.tally.nodes limit) (is_plan p t) (leb (suc s.plans) room)
      where
        s' : State
        s' = counted (at order (settled_by t)) t s

        more : Summed (with_node (at order (settled_by t)) s.tally)
        more = summed_more (at order (settled_by t)) s.tally (small (settled_by t)) h

        go : (a b c d : Bool) → Summed (choose a (choose b (exhausted s) (choose c
            (choose d (record { tally = s'.tally; plans = suc s'.plans; stop = ALL; list = noted (s'.plans * p.variables) (write order t) s'.list; last = s'.last })
            (record { tally = s'.tally; plans = s'.plans; stop = FULL; list = s'.list; last = s'.last })) s')) s).tally
        go false b c d = h
        go true true c d = h
        go true false false d = more
        go true false true true = more
        go true false true false = more

    pub walk_summed : (ts : List (List ℕ)) (s : State) → Summed s.tally → Summed (walk p order limit room ts s).tally
    unfolding walk
    walk_summed [] s h = h
    walk_summed (t ∷ ts) s h = walk_summed ts (visit p order limit room t s) (visit_summed t s h)

  -- a walk that goes on to its end makes all its nodes and lists all their plans
  pub walk_all : (ts : List (List ℕ)) (s : State) → s.stop ≡ ALL → s.tally.nodes ≤ limit → s.plans ≤ room → (walk p order limit room ts s).stop ≡ ALL →
      (s.tally.nodes + length ts ≤ limit) × (s.plans + length (keep (is_plan p) ts) ≤ room)
  unfolding walk keep
  walk_all [] s g a b e = (omega arith, omega arith)
  walk_all (t ∷ ts) s g a b e = spent (walk_all ts) (ℕ_discrete s.tally.nodes limit)
    where
      Goal : Type 0
      Goal = (s.tally.nodes + suc (length ts) ≤ limit) × (s.plans + length (keep (is_plan p) (t ∷ ts)) ≤ room)

      stops : (u : State) → visit p order limit room t s ≡ u → (u.stop ≡ ALL → ⊥) → ⊥
      stops u q n = n (sym (ap (λ (v : State). v.stop) (ap (walk p order limit room ts) q ∙ walk_stopped p order limit room ts u n)) ∙ e)

      x : ℕ
      x = at order (settled_by t)

      Rest : Type 0
      Rest =
          (u : State) → u.stop ≡ ALL → u.tally.nodes ≤ limit → u.plans ≤ room → (walk p order limit room ts u).stop ≡ ALL →
          (u.tally.nodes + length ts ≤ limit) × (u.plans + length (keep (is_plan p) ts) ≤ room)

      plan : Rest → (s.tally.nodes ≡ limit → ⊥) → is_plan p t ≡ true → Dec (suc s.plans ≤ room) → Goal
      plan ih n q (yes l) =
          let v : State = record { tally = with_node x s.tally; plans = suc s.plans; stop = ALL; list = noted (s.plans * p.variables) (write order t) s.list; last = t } in
          let o = visit_plan p order limit room t s g n q ∙ listed_kept p.variables room (write order t) (counted x t s) l in
          let r = ih v refl (omega arith) l (ap (λ (u : State). (walk p order limit room ts u).stop) (sym o) ∙ e) in
          (omega arith, omega (arith, ap length (keep_yes (is_plan p) t ts q)))
      plan ih n q (no l) =
          absurd (stops (record { tally = with_node x s.tally; plans = s.plans; stop = FULL; list = s.list; last = t })
          (visit_plan p order limit room t s g n q ∙ listed_full p.variables room (write order t) (counted x t s) (omega arith)) (λ z. omega arith))

      which : Rest → (s.tally.nodes ≡ limit → ⊥) → (c : Bool) → is_plan p t ≡ c → Goal
      which ih n true q = plan ih n q (dec_lt s.plans room)
      which ih n false q =
          let o = visit_other p order limit room t s g n q in
          let r = ih (counted x t s) refl (omega arith) b (ap (λ (u : State). (walk p order limit room ts u).stop) (sym o) ∙ e) in
          (omega arith, omega (arith, ap length (keep_no (is_plan p) t ts q)))

      spent : Rest → Dec (s.tally.nodes ≡ limit) → (s.tally.nodes + suc (length ts) ≤ limit) × (s.plans + length (keep (is_plan p) (t ∷ ts)) ≤ room)
      spent ih (yes q) = absurd (stops (exhausted s) (visit_spent p order limit room t s g q) (λ z. omega arith))
      spent ih (no n) = which ih n (is_plan p t) refl

-- the last of some nodes, whatever path came before
pub last_any : (ts : List (List ℕ)) → 0 < length ts → (path q : List ℕ) → last_of path ts ≡ last_of q ts
unfolding last_of
last_any [] l path q = absurd (omega arith)
last_any (t ∷ ts) l path q = refl

pub last_there : (a : List ℕ) (ts : List (List ℕ)) → 0 < length ts → (path q : List ℕ) → last_of path (map (moved a) ts) ≡ moved a (last_of q ts)
unfolding last_of
last_there a [] l path q = absurd (omega arith)
last_there a (t ∷ ts) l path q = last_moved path a t ts

-- the values of a live prefix are below 16
pub live_values : (p : Problem) → Sized p → (t : List ℕ) → T (is_live p t) → (i : ℕ) → i < length t → i < p.variables → at t i < 16
live_values p z t l i h x =
    let k = largest p t z in
    let u = member (at (closed p t) i) (k.sets.1 i) (λ z. of_not (any_empty (closed p t)) (live_closed p t l) (empty_i (closed p t) i (let q = k.sets.0 in omega arith) z)) in
    let q = (narrowed_e t p.initial i u.0 (k.inside i u.0 u.2)).1 h in
    let v = u.1 in omega arith
