-- What one value does: the walk along the nodes of a set of values, by its lowest member. Assumes nothing.
use Rattle.model.specs.Kit.{◌≡◌, refl, ap, ap₂, ◌∙◌, Bool, true, false, List, [], ◌∷◌, ◌++◌, map, ℕ, suc, ◌^◌, ◌<◌, arith, eqb, length, eq-eqb, ne_eqb}
use Rattle.model.specs.{Lists.both, Lists.at, Lists.flat, ValueSets.without_mask, ValueSets.lowest_of, Problem.Problem, Search.sets_at, Search.is_live, Search.is_plan, Search.nodes_below}
use Rattle.model.specs.{Run.settled_by}
use Rattle.model.proofs.{Sets.members_of_none, Lowest.members_lowest, Lists.both_false}
use Rattle.order.specs.Reordered.{write}
use Rattle.arrays.specs.Inner.Places.{ALL}
use Rattle.run_state.specs.Inner.Walk.{State, listed, counted, exhausted, walk, nodes_for}
use Rattle.run_tree.proofs.Laws.{dead_below}
use Rattle.run_state.proofs.Walk.{visit_spent, visit_other, visit_plan, walk_append, walk_stopped}

is_plan_lem : (p : Problem) (t : List ℕ) → length t ≡ p.variables → is_live p t ≡ true → is_plan p t ≡ true
unfolding is_plan
is_plan_lem p t e l = ap₂ both (eq-eqb (length t) p.variables e) l

dead_no_plan : (p : Problem) (t : List ℕ) → is_live p t ≡ false → is_plan p t ≡ false
unfolding is_plan
dead_no_plan p t l = ap (both (eqb (length t) p.variables)) l ∙ both_false (eqb (length t) p.variables)

short_no_plan : (p : Problem) (t : List ℕ) → (length t ≡ p.variables → ⊥) → is_plan p t ≡ false
unfolding is_plan
short_no_plan p t e = ap (λ (b : Bool). both b (is_live p t)) (ne_eqb (length t) p.variables e)

pub below_is : (p : Problem) (k : ℕ) (prefix : List ℕ) → nodes_below p (suc k) prefix ≡ nodes_for p k prefix (at (sets_at p prefix) (length prefix))
unfolding nodes_below nodes_for
below_is p k prefix = refl

module _ (p : Problem) (order : List ℕ) (limit room k : ℕ) (prefix : List ℕ) where
  pub step_none : (s : State) → walk p order limit room (nodes_for p k prefix 0) s ≡ s
  unfolding walk nodes_for flat
  step_none s = ap (λ (l : List ℕ). walk p order limit room (flat (map (λ v. (prefix ++ (v ∷ [])) ∷ nodes_below p k (prefix ++ (v ∷ []))) l)) s) members_of_none

  module _ (m : ℕ) (some : 0 < m) (small : m < 2 ^ 16) (s : State) (going : s.stop ≡ ALL) where
    abbrev pub node : List ℕ
    node = prefix ++ (lowest_of m ∷ [])

    abbrev pub more : List (List ℕ)
    more = nodes_for p k prefix (without_mask m (lowest_of m))

    first : nodes_for p k prefix m ≡ node ∷ (nodes_below p k node ++ more)
    unfolding nodes_for flat
    first = ap (λ (l : List ℕ). flat (map (λ v. (prefix ++ (v ∷ [])) ∷ nodes_below p k (prefix ++ (v ∷ []))) l)) (members_lowest m small (λ e. omega arith))

    -- one value: its node, the nodes below, then the other values
    pub step : walk p order limit room (nodes_for p k prefix m) s ≡ walk p order limit room more (walk p order limit room (node ∷ nodes_below p k node) s)
    step = ap (λ (l : List (List ℕ)). walk p order limit room l s) first ∙ walk_append p order limit room (node ∷ nodes_below p k node) more s

    pub step_spent : s.tally.nodes ≡ limit → walk p order limit room (nodes_for p k prefix m) s ≡ exhausted s
    unfolding walk
    step_spent e =
        ap (λ (l : List (List ℕ)). walk p order limit room l s) first ∙ ap (walk p order limit room (nodes_below p k node ++ more)) (visit_spent p order limit room node s going e)
        ∙ walk_stopped p order limit room (nodes_below p k node ++ more) (exhausted s) (λ q. omega arith)

  -- ---- a node and those below it: dead, a plan, or neither
  module _ (t : List ℕ) (s : State) (going : s.stop ≡ ALL) (allowed : s.tally.nodes ≡ limit → ⊥) where
    pub node_dead : is_live p t ≡ false → walk p order limit room (t ∷ nodes_below p k t) s ≡ counted (at order (settled_by t)) t s
    unfolding walk
    node_dead d = ap₂ (walk p order limit room) (dead_below p k t d) (visit_other p order limit room t s going allowed (dead_no_plan p t d))

    pub node_plan : is_live p t ≡ true → length t ≡ p.variables → k ≡ 0 → walk p order limit room (t ∷ nodes_below p k t) s ≡ listed p.variables room (write order t)
        (counted (at order (settled_by t)) t s)
    unfolding walk nodes_below
    node_plan l n z = ap₂ (λ (j : ℕ) (u : State). walk p order limit room (nodes_below p j t) u) z (visit_plan p order limit room t s going allowed (is_plan_lem p t n l))

    pub node_inner : (length t ≡ p.variables → ⊥) → walk p order limit room (t ∷ nodes_below p k t) s ≡ walk p order limit room (nodes_below p k t) (counted (at order (settled_by t)) t s)
    unfolding walk
    node_inner n = ap (walk p order limit room (nodes_below p k t)) (visit_other p order limit room t s going allowed (short_no_plan p t n))

-- a node that is no plan, and any nodes behind it
pub node_then : (p : Problem) (order : List ℕ) (limit room : ℕ) (t : List ℕ) (ts : List (List ℕ)) (s : State) → s.stop ≡ ALL → (s.tally.nodes ≡ limit → ⊥) → (length t ≡ p.variables → ⊥) →
    walk p order limit room (t ∷ ts) s ≡ walk p order limit room ts (counted (at order (settled_by t)) t s)
unfolding walk
node_then p order limit room t ts s going allowed n = ap (walk p order limit room ts) (visit_other p order limit room t s going allowed (short_no_plan p t n))
