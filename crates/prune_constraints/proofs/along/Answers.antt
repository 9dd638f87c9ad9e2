-- The second set and the third along the lane of the first's value. Assumes nothing.
use Rattle.model.specs.Kit.{refl, sym, ◌∙◌, List, ℕ, ◌+◌, ◌*◌, ◌<◌, arith, rules, eqb-true, eqb-false}
use Rattle.model.specs.Lists.{at}
use Rattle.arrays.specs.{Inner.Places.UNIONS, Inner.Tables.Words}
use Rattle.prune_constraints.specs.Inner.Lanes.{Halves}
use Rattle.prune_constraints.proofs.OneWord.{one_below, along_dead, along_same, along_cut}
use Rattle.prune_constraints.proofs.{Scopes.of_three, Unions.of_second, Unions.of_third, Unions.lane_supported2}
use Rattle.prune_constraints.proofs.along.Goals as goal

pub in_lane-last-requires : goal.in_lane-last-requires
unfolding at
in_lane-last-requires c =
    record { base_bound = omega (arith, c.requires.by_index.4.room); bits_bound = (c.requires.x_bound.1, one_below c.requires.x_bound.0 c.requires.one_value c.lowest-u.ensures, c.requires.x_bound.2) }

pub returns-then-is_empty : goal.returns-then-is_empty
unfolding at
returns-then-is_empty c =
    let seconds : (su : List ℕ) → Words c.args.numbers.now su → Halves c.args.numbers.now (UNIONS + 64 * c.args.k) (of_second su c.args.k) =
    λ su w h m. w.by_second c.args.k h m c.requires.by_index.4.room c.requires.by_index.2 in
    λ e su w q.
    along_dead q c.args.sets.now c.requires.sets c.requires.one_value c.lowest-u.ensures
    (λ v u o. (c.in_lane-last.ensures (of_second su c.args.k) (seconds su w)).lane_i v u o.0 o.1 o.2)
    (eqb-true _ _ (sym c.is_empty.ensures ∙ c.if-is_empty.true))

pub in_lane-second-requires : goal.in_lane-second-requires
unfolding at
in_lane-second-requires c =
    record { base_bound = omega (arith, c.requires.by_index.4.room); bits_bound = (c.requires.x_bound.2, one_below c.requires.x_bound.0 c.requires.one_value c.lowest-u.ensures, c.requires.x_bound.1) }

pub returns-then-second-b : goal.returns-then-second-b
unfolding at
returns-then-second-b c =
    let seconds : (su : List ℕ) → Words c.args.numbers.now su → Halves c.args.numbers.now (UNIONS + 64 * c.args.k) (of_second su c.args.k) =
    λ su w h m. w.by_second c.args.k h m c.requires.by_index.4.room c.requires.by_index.2 in
    let thirds : (su : List ℕ) → Words c.args.numbers.now su → Halves c.args.numbers.now (UNIONS + 64 * c.args.k + 32) (of_third su c.args.k) =
    λ su w h m. w.by_third c.args.k h m c.requires.by_index.4.room c.requires.by_index.2 in
    λ e su w q.
    along_same q c.args.sets.now c.requires.sets c.requires.one_value c.lowest-u.ensures
    (lane_supported2 su _ (at c.args.sets.now c.args.x) _ _ c.requires.x_bound.1 _ (c.in_lane-last.ensures _ (seconds su w)) (c.in_lane-second.ensures _ (thirds su w)))
    (eqb-false _ _ (sym c.is_empty.ensures ∙ c.if-is_empty.false)) (search rules) (search rules)
    c.if-last-e.true c.if-second-b.true

pub returns : goal.returns
unfolding at
returns c =
    let seconds : (su : List ℕ) → Words c.args.numbers.now su → Halves c.args.numbers.now (UNIONS + 64 * c.args.k) (of_second su c.args.k) =
    λ su w h m. w.by_second c.args.k h m c.requires.by_index.4.room c.requires.by_index.2 in
    let thirds : (su : List ℕ) → Words c.args.numbers.now su → Halves c.args.numbers.now (UNIONS + 64 * c.args.k + 32) (of_third su c.args.k) =
    λ su w h m. w.by_third c.args.k h m c.requires.by_index.4.room c.requires.by_index.2 in
    λ e su w q.
    along_cut q c.args.sets.now c.requires.sets c.requires.one_value c.lowest-u.ensures
    (lane_supported2 su _ (at c.args.sets.now c.args.x) _ _ c.requires.x_bound.1 _ (c.in_lane-last.ensures _ (seconds su w)) (c.in_lane-second.ensures _ (thirds su w)))
    (eqb-false _ _ (sym c.is_empty.ensures ∙ c.if-is_empty.false)) (search rules) (search rules) _ _
    c.moved.ensures c.moved-2.ensures

pub offset_bounds-sets-x : goal.offset_bounds-sets-x
offset_bounds-sets-x c =
    let inside : (c.args.x < 16) × (c.args.y < 16) × (c.args.z < 16) = of_three refl c.requires.by_index.4.inside in
    omega (arith, inside)

pub bounds-sets-x : goal.bounds-sets-x
bounds-sets-x c =
    let inside : (c.args.x < 16) × (c.args.y < 16) × (c.args.z < 16) = of_three refl c.requires.by_index.4.inside in
    inside.0

pub offset_bounds-sets-y : goal.offset_bounds-sets-y
offset_bounds-sets-y c =
    let inside : (c.args.x < 16) × (c.args.y < 16) × (c.args.z < 16) = of_three refl c.requires.by_index.4.inside in
    omega (arith, inside)

pub bounds-sets-y : goal.bounds-sets-y
bounds-sets-y c =
    let inside : (c.args.x < 16) × (c.args.y < 16) × (c.args.z < 16) = of_three refl c.requires.by_index.4.inside in
    inside.1

pub offset_bounds-sets-z : goal.offset_bounds-sets-z
offset_bounds-sets-z c =
    let inside : (c.args.x < 16) × (c.args.y < 16) × (c.args.z < 16) = of_three refl c.requires.by_index.4.inside in
    omega (arith, inside)

pub bounds-sets-z : goal.bounds-sets-z
bounds-sets-z c =
    let inside : (c.args.x < 16) × (c.args.y < 16) × (c.args.z < 16) = of_three refl c.requires.by_index.4.inside in
    inside.2

pub offset_bounds-sets-y-2 : goal.offset_bounds-sets-y-2
offset_bounds-sets-y-2 c =
    let inside : (c.args.x < 16) × (c.args.y < 16) × (c.args.z < 16) = of_three refl c.requires.by_index.4.inside in
    omega (arith, inside)

pub bounds-sets-y-2 : goal.bounds-sets-y-2
bounds-sets-y-2 c =
    let inside : (c.args.x < 16) × (c.args.y < 16) × (c.args.z < 16) = of_three refl c.requires.by_index.4.inside in
    inside.1

pub offset_bounds-sets-z-2 : goal.offset_bounds-sets-z-2
offset_bounds-sets-z-2 c =
    let inside : (c.args.x < 16) × (c.args.y < 16) × (c.args.z < 16) = of_three refl c.requires.by_index.4.inside in
    omega (arith, inside)

pub bounds-sets-z-2 : goal.bounds-sets-z-2
bounds-sets-z-2 c =
    let inside : (c.args.x < 16) × (c.args.y < 16) × (c.args.z < 16) = of_three refl c.requires.by_index.4.inside in
    inside.2

pub moved-requires : goal.moved-requires
moved-requires c =
    let inside : (c.args.x < 16) × (c.args.y < 16) × (c.args.z < 16) = of_three refl c.requires.by_index.4.inside in
    inside.1

pub moved-requires-2 : goal.moved-requires-2
moved-requires-2 c =
    let inside : (c.args.x < 16) × (c.args.y < 16) × (c.args.z < 16) = of_three refl c.requires.by_index.4.inside in
    inside.2
