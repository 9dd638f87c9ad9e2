-- The second set and the third by the sixteen sets for the first's value. Assumes nothing.
use Rattle.model.specs.Kit.{refl, sym, ◌∙◌, ◌^◌, ◌<◌, arith, rules, eqb-true, eqb-false}
use Rattle.model.specs.Lists.{at}
use Rattle.model.proofs.Members.{lowest_left, rest_begin}
use Rattle.prune_constraints.proofs.{Scopes.of_three, OneWord.along_dead, OneWord.along_same, OneWord.along_cut}
use Rattle.prune_constraints.proofs.revise_rest.Goals as goal

pub quiet16-requires : goal.quiet16-requires
unfolding at
quiet16-requires c =
    let low : c.lowest.result < 16 = (lowest_left _ _ _ (rest_begin 16 _ (c.requires.sets.1 _)) c.requires.one_value.0.some c.lowest.ensures).1 in
    omega (arith, low, c.requires.scoped.1.room)

-- nothing is lost
pub returns-then-quiet16 : goal.returns-then-quiet16
unfolding at
returns-then-quiet16 c =
    λ e q.
    along_same q c.args.sets.now c.requires.sets c.requires.one_value.0 c.lowest.ensures (c.quiet16.ensures c.if-quiet16.true) c.requires.one_value.1 (c.requires.sets.1 _) (c.requires.sets.1 _) refl
    refl

pub supported2-r-requires : goal.supported2-r-requires
unfolding at
supported2-r-requires c =
    let low : c.lowest.result < 16 = (lowest_left _ _ _ (rest_begin 16 _ (c.requires.sets.1 _)) c.requires.one_value.0.some c.lowest.ensures).1 in
    omega (arith, low, c.requires.scoped.1.room)

pub returns-then-is_empty : goal.returns-then-is_empty
unfolding at
returns-then-is_empty c =
    λ e q.
    along_dead q c.args.sets.now c.requires.sets c.requires.one_value.0 c.lowest.ensures c.supported2-r.ensures.last_i (eqb-true _ 0 (sym c.is_empty.ensures ∙ c.if-is_empty.true))

pub returns : goal.returns
unfolding at
returns c =
    let narrow : (c.supported2-r.result.first.bits < 2 ^ 16) × (c.supported2-r.result.last.bits < 2 ^ 16) = (search rules, search rules) in
    λ e q.
    along_cut q c.args.sets.now c.requires.sets c.requires.one_value.0 c.lowest.ensures c.supported2-r.ensures (eqb-false _ 0 (sym c.is_empty.ensures ∙ c.if-is_empty.false))
    narrow.1 narrow.0 _ _ c.moved.ensures c.moved-2.ensures

pub offset_bounds-sets-x : goal.offset_bounds-sets-x
offset_bounds-sets-x c =
    let inside : (c.args.x < 16) × (c.args.y < 16) × (c.args.z < 16) = of_three refl c.requires.scoped.1.inside in
    omega (arith, inside)

pub bounds-sets-x : goal.bounds-sets-x
bounds-sets-x c =
    let inside : (c.args.x < 16) × (c.args.y < 16) × (c.args.z < 16) = of_three refl c.requires.scoped.1.inside in
    inside.0

pub offset_bounds-sets-y : goal.offset_bounds-sets-y
offset_bounds-sets-y c =
    let inside : (c.args.x < 16) × (c.args.y < 16) × (c.args.z < 16) = of_three refl c.requires.scoped.1.inside in
    omega (arith, inside)

pub bounds-sets-y : goal.bounds-sets-y
bounds-sets-y c =
    let inside : (c.args.x < 16) × (c.args.y < 16) × (c.args.z < 16) = of_three refl c.requires.scoped.1.inside in
    inside.1

pub offset_bounds-sets-z : goal.offset_bounds-sets-z
offset_bounds-sets-z c =
    let inside : (c.args.x < 16) × (c.args.y < 16) × (c.args.z < 16) = of_three refl c.requires.scoped.1.inside in
    omega (arith, inside)

pub bounds-sets-z : goal.bounds-sets-z
bounds-sets-z c =
    let inside : (c.args.x < 16) × (c.args.y < 16) × (c.args.z < 16) = of_three refl c.requires.scoped.1.inside in
    inside.2

pub offset_bounds-sets-y-2 : goal.offset_bounds-sets-y-2
offset_bounds-sets-y-2 c =
    let inside : (c.args.x < 16) × (c.args.y < 16) × (c.args.z < 16) = of_three refl c.requires.scoped.1.inside in
    omega (arith, inside)

pub bounds-sets-y-2 : goal.bounds-sets-y-2
bounds-sets-y-2 c =
    let inside : (c.args.x < 16) × (c.args.y < 16) × (c.args.z < 16) = of_three refl c.requires.scoped.1.inside in
    inside.1

pub offset_bounds-sets-z-2 : goal.offset_bounds-sets-z-2
offset_bounds-sets-z-2 c =
    let inside : (c.args.x < 16) × (c.args.y < 16) × (c.args.z < 16) = of_three refl c.requires.scoped.1.inside in
    omega (arith, inside)

pub bounds-sets-z-2 : goal.bounds-sets-z-2
bounds-sets-z-2 c =
    let inside : (c.args.x < 16) × (c.args.y < 16) × (c.args.z < 16) = of_three refl c.requires.scoped.1.inside in
    inside.2

pub moved-requires : goal.moved-requires
moved-requires c =
    let inside : (c.args.x < 16) × (c.args.y < 16) × (c.args.z < 16) = of_three refl c.requires.scoped.1.inside in
    inside.1

pub moved-requires-2 : goal.moved-requires-2
moved-requires-2 c =
    let inside : (c.args.x < 16) × (c.args.y < 16) × (c.args.z < 16) = of_three refl c.requires.scoped.1.inside in
    inside.2
