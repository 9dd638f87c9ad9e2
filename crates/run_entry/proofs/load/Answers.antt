-- The values of a row. Assumes nothing.
use Rattle.model.specs.Kit.{refl, subst, ℕ, ◌+◌, ◌*◌, ◌≡◌, arith}
use Rattle.model.specs.Lists.{at}
use Rattle.run_state.specs.Inner.Pair.{settling}
use Rattle.run_state.proofs.Written.{settling_inside}
use Rattle.run_entry.specs.Inner.Entry.{Loaded}
use Rattle.run_entry.proofs.{Copies.loaded_none, Copies.loaded_turn}
use Rattle.run_entry.proofs.load.Goals as goal

pub loop-i-init : goal.loop-i-init
loop-i-init c = (omega arith, c.requires.0, refl, loaded_none _ _ _ _ _)

pub overflow_add-work : goal.overflow_add-work
unfolding at
overflow_add-work c =
    omega (arith, c.well_formed.1.1.0.0, c.requires.3, settling_inside c.args.numbers.now c.args.n c.loop-i.i c.requires.4 (omega arith))

pub bounds-list-from : goal.bounds-list-from
unfolding at
bounds-list-from c =
    omega (arith, c.requires.3, settling_inside c.args.numbers.now c.args.n c.loop-i.i c.requires.4 (omega arith))

pub overflow_cast-work : goal.overflow_cast-work
unfolding at
overflow_cast-work c =
    record { fits = omega (arith, (c.slice_known-1.given (c.args.row * c.args.n + settling c.args.numbers.now c.loop-i.i)).fits) }

pub loop-i-preserved : goal.loop-i-preserved
unfolding at
loop-i-preserved c = (
  omega arith,
  omega arith,
  c.loop-i.invariant.2,
  loaded_turn c.args.numbers.now c.args.list.now c.args.k c.loop-i.i (c.args.row * c.args.n) c.args.work.now c.loop-i.work c.loop-i.invariant.0 (omega arith) c.requires.2
      (c.slice_known-1.given (c.args.row * c.args.n + settling c.args.numbers.now c.loop-i.i)).fits c.loop-i.invariant.3,
)

pub returns : goal.returns
returns c = let e : c.loop-i.i ≡ c.args.n = omega arith in
    record { loaded = subst (λ (n : ℕ). Loaded c.args.numbers.now c.args.list.now c.args.k n (c.args.row * c.args.n) c.args.work.now c.loop-i.work) e c.loop-i.invariant.3; list_unchanged = refl }

pub overflow_mul-from : goal.overflow_mul-from
overflow_mul-from c = omega (arith, c.well_formed.1.1.0.0, c.requires.3)
