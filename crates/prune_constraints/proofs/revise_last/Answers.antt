-- Two sets of one value leave a cut of the third. Assumes nothing.
use Rattle.model.specs.Kit.{refl, ap₂, Memᴰ-head, Memᴰ-tail, ℕ, ◌+◌, ◌*◌, ◌<◌, arith}
use Rattle.model.specs.Lists.{at}
use Rattle.prune_constraints.proofs.{Stores.three_last, Stores.u_has, Stores.v_has}
use Rattle.prune_constraints.proofs.revise_last.Goals as goal

pub revise_one-requires : goal.revise_one-requires
unfolding at
revise_one-requires c =
    let z_lt : c.args.z < 16 = c.requires.scoped.1.inside _ (Memᴰ-tail (Memᴰ-tail (Memᴰ-head refl))) in
    let u_lt : c.lowest-u.result < 16 = omega (arith, c.lowest-u.ensures, (u_has c.requires.scoped.1 c.args.sets.now c.requires.sets c.requires.one_value.0 c.requires.one_value.1).1) in
    let v_lt : c.lowest-v.result < 16 = omega (arith, c.lowest-v.ensures, (v_has c.requires.scoped.1 c.args.sets.now c.requires.sets c.requires.one_value.0 c.requires.one_value.1).1) in
    record { sets = c.requires.sets; x_bound = z_lt; offset_bound = omega (arith, u_lt, v_lt, c.requires.scoped.1.room) }

pub returns : goal.returns
unfolding at
returns c =
    λ e q.
    three_last q _ c.requires.sets c.requires.one_value.0 c.requires.one_value.1 _ (ap₂ (λ (u v : ℕ). 256 * c.args.k + 16 * u + v) c.lowest-u.ensures c.lowest-v.ensures) _
    c.revise_one.result c.revise_one.ensures

pub offset_bounds-sets-x : goal.offset_bounds-sets-x
offset_bounds-sets-x c =
    let x_lt : c.args.x < 16 = c.requires.scoped.1.inside _ (Memᴰ-head refl) in
    omega (arith, x_lt)

pub bounds-sets-x : goal.bounds-sets-x
bounds-sets-x c =
    let x_lt : c.args.x < 16 = c.requires.scoped.1.inside _ (Memᴰ-head refl) in
    x_lt

pub offset_bounds-sets-y : goal.offset_bounds-sets-y
offset_bounds-sets-y c =
    let y_lt : c.args.y < 16 = c.requires.scoped.1.inside _ (Memᴰ-tail (Memᴰ-head refl)) in
    omega (arith, y_lt)

pub bounds-sets-y : goal.bounds-sets-y
bounds-sets-y c =
    let y_lt : c.args.y < 16 = c.requires.scoped.1.inside _ (Memᴰ-tail (Memᴰ-head refl)) in
    y_lt
