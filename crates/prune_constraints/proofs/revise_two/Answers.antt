-- Both sets are cut to the values that go together, if there are any. Assumes nothing.
use Rattle.model.specs.Kit.{refl, sym, ◌∙◌, Memᴰ-head, Memᴰ-tail, ◌^◌, ◌<◌, arith, rules, eqb-true, eqb-false}
use Rattle.model.specs.Lists.{at}
use Rattle.prune_constraints.proofs.{Stores.two, Stores.two_dead}
use Rattle.prune_constraints.proofs.revise_two.Goals as goal

pub returns-then-is_empty : goal.returns-then-is_empty
unfolding at
returns-then-is_empty c =
    let narrow : (c.supported2-r.result.first.bits < 2 ^ 16) × (c.supported2-r.result.last.bits < 2 ^ 16) = (search rules, search rules) in
    λ d q.
    two_dead q _ c.requires.sets _ _ narrow.0 narrow.1 c.supported2-r.ensures (eqb-true _ 0 (sym c.is_empty.ensures ∙ c.if-is_empty.true))

pub returns : goal.returns
unfolding at
returns c =
    let narrow : (c.supported2-r.result.first.bits < 2 ^ 16) × (c.supported2-r.result.last.bits < 2 ^ 16) = (search rules, search rules) in
    λ d q.
    two q _ c.requires.sets _ _ narrow.0 narrow.1 c.supported2-r.ensures _ _ c.moved.ensures c.moved-2.ensures
    (eqb-false _ 0 (sym c.is_empty.ensures ∙ c.if-is_empty.false))

pub offset_bounds-sets-x : goal.offset_bounds-sets-x
offset_bounds-sets-x c =
    let x_lt : c.args.x < 16 = c.requires.scoped.1.inside _ (Memᴰ-head refl) in
    omega (arith, x_lt)

pub bounds-sets-x : goal.bounds-sets-x
bounds-sets-x c =
    let x_lt : c.args.x < 16 = c.requires.scoped.1.inside _ (Memᴰ-head refl) in
    x_lt

pub offset_bounds-sets-y : goal.offset_bounds-sets-y
offset_bounds-sets-y c =
    let y_lt : c.args.y < 16 = c.requires.scoped.1.inside _ (Memᴰ-tail (Memᴰ-head refl)) in
    omega (arith, y_lt)

pub bounds-sets-y : goal.bounds-sets-y
bounds-sets-y c =
    let y_lt : c.args.y < 16 = c.requires.scoped.1.inside _ (Memᴰ-tail (Memᴰ-head refl)) in
    y_lt

pub offset_bounds-sets-x-2 : goal.offset_bounds-sets-x-2
offset_bounds-sets-x-2 c =
    let x_lt : c.args.x < 16 = c.requires.scoped.1.inside _ (Memᴰ-head refl) in
    omega (arith, x_lt)

pub bounds-sets-x-2 : goal.bounds-sets-x-2
bounds-sets-x-2 c =
    let x_lt : c.args.x < 16 = c.requires.scoped.1.inside _ (Memᴰ-head refl) in
    x_lt

pub offset_bounds-sets-y-2 : goal.offset_bounds-sets-y-2
offset_bounds-sets-y-2 c =
    let y_lt : c.args.y < 16 = c.requires.scoped.1.inside _ (Memᴰ-tail (Memᴰ-head refl)) in
    omega (arith, y_lt)

pub bounds-sets-y-2 : goal.bounds-sets-y-2
bounds-sets-y-2 c =
    let y_lt : c.args.y < 16 = c.requires.scoped.1.inside _ (Memᴰ-tail (Memᴰ-head refl)) in
    y_lt

pub moved-requires : goal.moved-requires
moved-requires c =
    let x_lt : c.args.x < 16 = c.requires.scoped.1.inside _ (Memᴰ-head refl) in
    x_lt

pub moved-requires-2 : goal.moved-requires-2
moved-requires-2 c =
    let y_lt : c.args.y < 16 = c.requires.scoped.1.inside _ (Memᴰ-tail (Memᴰ-head refl)) in
    y_lt
