-- All three sets along the lanes by the first variable. Assumes nothing.
use Rattle.model.specs.Kit.{refl, subst, List, ℕ, ◌<◌, arith}
use Rattle.model.specs.Lists.{at}
use Rattle.arrays.specs.Inner.Tables.{Spreads, Words}
use Rattle.prune_constraints.specs.Inner.Lanes.{LaneUnion, InLanes}
use Rattle.prune_constraints.proofs.{Scopes.of_three, Unions.of_second, Unions.of_third, Unions.union_both, Stores.three_same}
use Rattle.prune_constraints.proofs.across.Goals as goal

pub in_lanes-by_second-requires : goal.in_lanes-by_second-requires
unfolding at
in_lanes-by_second-requires c =
    let spread : Spreads c.args.numbers.now = c.requires.by_index.1.spread _ c.requires.by_index.4.room c.requires.by_index.2 in
    record { base_bound = omega (arith, c.requires.by_index.4.room); bits_bound = (c.requires.x_bound.1, c.requires.x_bound.0, c.requires.x_bound.2); spreads = spread }

pub in_lanes-by_third-requires : goal.in_lanes-by_third-requires
unfolding at
in_lanes-by_third-requires c =
    let spread : Spreads c.args.numbers.now = c.requires.by_index.1.spread _ c.requires.by_index.4.room c.requires.by_index.2 in
    record { base_bound = omega (arith, c.requires.by_index.4.room); bits_bound = (c.requires.x_bound.2, c.requires.x_bound.0, c.requires.x_bound.1); spreads = spread }

pub fills-requires : goal.fills-requires
unfolding at
fills-requires c =
    let spread : Spreads c.args.numbers.now = c.requires.by_index.1.spread _ c.requires.by_index.4.room c.requires.by_index.2 in
    record { bits_bound = c.requires.x_bound.0; spreads = spread }

pub returns-then-last-e : goal.returns-then-last-e
unfolding at
returns-then-last-e c =
    let seconds : (su : List ℕ) → Words c.args.numbers.now su →
    InLanes (at c.args.sets.now c.args.y) (at c.args.sets.now c.args.x) (at c.args.sets.now c.args.z) (of_second su c.args.k) c.in_lanes-by_second.result =
    λ su w. c.in_lanes-by_second.ensures (of_second su c.args.k) (λ h m. w.by_second c.args.k h m c.requires.by_index.4.room c.requires.by_index.2) in
    let thirds : (su : List ℕ) → Words c.args.numbers.now su →
    InLanes (at c.args.sets.now c.args.z) (at c.args.sets.now c.args.x) (at c.args.sets.now c.args.y) (of_third su c.args.k) c.in_lanes-by_third.result =
    λ su w. c.in_lanes-by_third.ensures (of_third su c.args.k) (λ h m. w.by_third c.args.k h m c.requires.by_index.4.room c.requires.by_index.2) in
    λ e su w q.
    three_same q _ c.requires.sets _ _ _ (c.requires.sets.1 _) (c.requires.sets.1 _) (c.requires.sets.1 _)
    (union_both su _ _ _ _ c.requires.x_bound.1 c.requires.x_bound.0 c.requires.x_bound.2 (seconds su w) (thirds su w)
    (c.fills.ensures c.if-fills.true) (subst (LaneUnion _) c.if-second-b.true c.union_of-second.ensures)
    (subst (LaneUnion _) c.if-last-e.true c.union_of-last.ensures)) refl refl refl c.requires.fact

pub leave-requires : goal.leave-requires
unfolding at
leave-requires c =
    let inside : (c.args.x < 16) × (c.args.y < 16) × (c.args.z < 16) = of_three refl c.requires.by_index.4.inside in
    record { sets = c.requires.sets; x_bound = inside }

pub returns : goal.returns
unfolding at
returns c =
    let seconds : (su : List ℕ) → Words c.args.numbers.now su →
    InLanes (at c.args.sets.now c.args.y) (at c.args.sets.now c.args.x) (at c.args.sets.now c.args.z) (of_second su c.args.k) c.in_lanes-by_second.result =
    λ su w. c.in_lanes-by_second.ensures (of_second su c.args.k) (λ h m. w.by_second c.args.k h m c.requires.by_index.4.room c.requires.by_index.2) in
    let thirds : (su : List ℕ) → Words c.args.numbers.now su →
    InLanes (at c.args.sets.now c.args.z) (at c.args.sets.now c.args.x) (at c.args.sets.now c.args.y) (of_third su c.args.k) c.in_lanes-by_third.result =
    λ su w. c.in_lanes-by_third.ensures (of_third su c.args.k) (λ h m. w.by_third c.args.k h m c.requires.by_index.4.room c.requires.by_index.2) in
    λ e su w q.
    c.leave.ensures _ _ _ q (union_both su _ _ _ _ c.requires.x_bound.1 c.requires.x_bound.0 c.requires.x_bound.2 (seconds su w) (thirds su w) c.full_lanes.ensures
    c.union_of-second.ensures c.union_of-last.ensures)

pub offset_bounds-sets-x : goal.offset_bounds-sets-x
offset_bounds-sets-x c =
    let inside : (c.args.x < 16) × (c.args.y < 16) × (c.args.z < 16) = of_three refl c.requires.by_index.4.inside in
    omega (arith, inside)

pub bounds-sets-x : goal.bounds-sets-x
bounds-sets-x c =
    let inside : (c.args.x < 16) × (c.args.y < 16) × (c.args.z < 16) = of_three refl c.requires.by_index.4.inside in
    inside.0

pub offset_bounds-sets-y : goal.offset_bounds-sets-y
offset_bounds-sets-y c =
    let inside : (c.args.x < 16) × (c.args.y < 16) × (c.args.z < 16) = of_three refl c.requires.by_index.4.inside in
    omega (arith, inside)

pub bounds-sets-y : goal.bounds-sets-y
bounds-sets-y c =
    let inside : (c.args.x < 16) × (c.args.y < 16) × (c.args.z < 16) = of_three refl c.requires.by_index.4.inside in
    inside.1

pub offset_bounds-sets-z : goal.offset_bounds-sets-z
offset_bounds-sets-z c =
    let inside : (c.args.x < 16) × (c.args.y < 16) × (c.args.z < 16) = of_three refl c.requires.by_index.4.inside in
    omega (arith, inside)

pub bounds-sets-z : goal.bounds-sets-z
bounds-sets-z c =
    let inside : (c.args.x < 16) × (c.args.y < 16) × (c.args.z < 16) = of_three refl c.requires.by_index.4.inside in
    inside.2
