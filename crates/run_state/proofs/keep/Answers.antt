-- `run_state::keep` meets its contract: after i turns the first i values in the order are put, each at its variable's number. Assumes nothing.
use Rattle.model.specs.Kit.{◌≡◌, subst, ℕ, ◌+◌, ◌<◌, arith, set}
use Rattle.model.specs.Lists.{at}
use Rattle.run_state.specs.Inner.Pair.{order_in}
use Rattle.run_state.proofs.{Prefix.small, Written.order_at, Written.settling_inside, Written.Put, Written.put_none, Written.put_turn, Written.put_all}
use Rattle.run_state.proofs.keep.Goals as goal

pub loop-i-init : goal.loop-i-init
loop-i-init c = put_none _ _ _ _

pub overflow_cast-list : goal.overflow_cast-list
overflow_cast-list c =
    record { fits = small c.args.work.now c.loop-i.i (c.requires.by_index.0 c.loop-i.i (omega arith)) }

pub overflow_add-list : goal.overflow_add-list
unfolding at
overflow_add-list c =
    omega (arith, c.well_formed.0.0, settling_inside c.args.numbers.now c.args.n c.loop-i.i c.requires.by_index.1 (omega arith))

pub bounds-list-start : goal.bounds-list-start
unfolding at
bounds-list-start c =
    omega (arith, c.loop-i.invariant.sized, settling_inside c.args.numbers.now c.args.n c.loop-i.i c.requires.by_index.1 (omega arith))

pub loop-i-preserved : goal.loop-i-preserved
unfolding at
loop-i-preserved c =
    let i : c.loop-i.i < c.args.n = omega arith in
    subst (λ (x : ℕ). Put c.args.start (order_in c.args.numbers.now c.args.n) c.args.work.now c.args.list.now (c.loop-i.i + 1)
    (set c.loop-i.list (c.args.start + x) (at c.args.work.now c.loop-i.i))) (order_at c.args.numbers.now c.args.n c.loop-i.i i)
    (put_turn c.args.start c.args.n (order_in c.args.numbers.now c.args.n) c.args.work.now c.args.list.now c.requires.by_index.1 c.requires.n_bound.2 c.loop-i.i c.loop-i.list c.loop-i.invariant i)

pub returns : goal.returns
returns c =
    let e : c.loop-i.i ≡ c.args.n = omega arith in
    put_all c.args.start c.args.n (order_in c.args.numbers.now c.args.n) c.args.work.now c.args.list.now c.requires.by_index.1 c.requires.n_bound.2 c.loop-i.list
    (subst (λ (k : ℕ). Put c.args.start (order_in c.args.numbers.now c.args.n) c.args.work.now c.args.list.now k c.loop-i.list) e c.loop-i.invariant)

pub shape_of-list : goal.shape_of-list
shape_of-list c = c.loop-i.invariant.sized
