-- The scope as the array holds it; one set of the table cuts the third. Assumes nothing.
use Rattle.model.specs.Kit.{◌+◌, ◌*◌, ◌<◌, arith}
use Rattle.model.specs.Lists.{at}
use Rattle.arrays.specs.Inner.Places.{SUPPORTS}
use Rattle.prune_constraints.proofs.{LookUpLoop.look_place, LookUpLoop.look_made}
use Rattle.prune_constraints.proofs.look_up.Goals as goal

pub overflow_mul-first : goal.overflow_mul-first
unfolding at
overflow_mul-first c =
    let place : (c.scope_at-x.result < 16) × (c.scope_at-z.result < 16) × (256 * c.args.k + 16 * at c.args.work.now c.scope_at-x.result + c.args.v < SUPPORTS) =
    look_place c.requires.constraints_held.1 c.requires.constraints_held.2 c.requires.sets c.scope_at-x.ensures c.scope_at-z.ensures in
    omega (arith, place.2)

pub overflow_add-k : goal.overflow_add-k
unfolding at
overflow_add-k c =
    let place : (c.scope_at-x.result < 16) × (c.scope_at-z.result < 16) × (256 * c.args.k + 16 * at c.args.work.now c.scope_at-x.result + c.args.v < SUPPORTS) =
    look_place c.requires.constraints_held.1 c.requires.constraints_held.2 c.requires.sets c.scope_at-x.ensures c.scope_at-z.ensures in
    omega (arith, place.2)

pub overflow_add-k-2 : goal.overflow_add-k-2
unfolding at
overflow_add-k-2 c =
    let place : (c.scope_at-x.result < 16) × (c.scope_at-z.result < 16) × (256 * c.args.k + 16 * at c.args.work.now c.scope_at-x.result + c.args.v < SUPPORTS) =
    look_place c.requires.constraints_held.1 c.requires.constraints_held.2 c.requires.sets c.scope_at-x.ensures c.scope_at-z.ensures in
    omega (arith, place.2)

pub revise_one-requires : goal.revise_one-requires
unfolding at
revise_one-requires c =
    let place : (c.scope_at-x.result < 16) × (c.scope_at-z.result < 16) × (256 * c.args.k + 16 * at c.args.work.now c.scope_at-x.result + c.args.v < SUPPORTS) =
    look_place c.requires.constraints_held.1 c.requires.constraints_held.2 c.requires.sets c.scope_at-x.ensures c.scope_at-z.ensures in
    let l = place in record { sets = c.requires.sets; x_bound = l.1; offset_bound = l.2 }

pub returns : goal.returns
unfolding at
returns c =
    λ p g l. look_made g l c.requires.sets c.scope_at-x.ensures c.scope_at-z.ensures _ c.revise_one.result c.revise_one.ensures
