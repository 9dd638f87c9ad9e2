-- `copy`: after i turns the first i cells are copied. Assumes nothing.
use Rattle.model.specs.Kit.{refl, subst, ℕ, ◌+◌, ◌*◌, ◌<◌, arith, length, length-set}
use Rattle.model.specs.Lists.{at}
use native.Mathlib.Nat.{le_antisymm}
use Rattle.list_columns.specs.Inner.Steps.{Copied}
use Rattle.list_columns.proofs.{Copying.copied_none, Copying.copied_turn}
use Rattle.list_columns.proofs.copy.Goals as goal

pub loop-i-init : goal.loop-i-init
loop-i-init c =
    (refl, copied_none c.args.out.now c.args.at c.args.step c.args.cells.now c.args.from c.args.stride)

pub loop-i-preserved : goal.loop-i-preserved
unfolding at
loop-i-preserved c =
    let inside : (c.args.at + c.loop-i.i * c.args.step < length c.args.out.now) × (c.args.from + c.loop-i.i * c.args.stride < length c.args.cells.now) =
    (c.requires.1 c.loop-i.i (omega arith), c.requires.2 c.loop-i.i (omega arith)) in
    (simp length-set c.loop-i.invariant.0, copied_turn c.requires.0 (omega (arith, inside.0)) c.loop-i.invariant.1)

pub returns : goal.returns
returns c =
    subst (λ (k : ℕ). Copied c.args.out.now c.args.at c.args.step c.args.cells.now c.args.from c.args.stride k c.loop-i.out) (le_antisymm (omega arith) (omega arith)) c.loop-i.invariant.1

pub overflow_mul-out : goal.overflow_mul-out
overflow_mul-out c =
    let inside : (c.args.at + c.loop-i.i * c.args.step < length c.args.out.now) × (c.args.from + c.loop-i.i * c.args.stride < length c.args.cells.now) =
    (c.requires.1 c.loop-i.i (omega arith), c.requires.2 c.loop-i.i (omega arith)) in
    omega (arith, inside.1)

pub overflow_add-out : goal.overflow_add-out
overflow_add-out c =
    let inside : (c.args.at + c.loop-i.i * c.args.step < length c.args.out.now) × (c.args.from + c.loop-i.i * c.args.stride < length c.args.cells.now) =
    (c.requires.1 c.loop-i.i (omega arith), c.requires.2 c.loop-i.i (omega arith)) in
    omega (arith, inside.1)

pub bounds-cells-from : goal.bounds-cells-from
bounds-cells-from c =
    let inside : (c.args.at + c.loop-i.i * c.args.step < length c.args.out.now) × (c.args.from + c.loop-i.i * c.args.stride < length c.args.cells.now) =
    (c.requires.1 c.loop-i.i (omega arith), c.requires.2 c.loop-i.i (omega arith)) in
    inside.1

pub overflow_mul-out-in-loop-i : goal.overflow_mul-out-in-loop-i
overflow_mul-out-in-loop-i c =
    let inside : (c.args.at + c.loop-i.i * c.args.step < length c.args.out.now) × (c.args.from + c.loop-i.i * c.args.stride < length c.args.cells.now) =
    (c.requires.1 c.loop-i.i (omega arith), c.requires.2 c.loop-i.i (omega arith)) in
    omega (arith, inside.0)

pub overflow_add-out-in-loop-i : goal.overflow_add-out-in-loop-i
overflow_add-out-in-loop-i c =
    let inside : (c.args.at + c.loop-i.i * c.args.step < length c.args.out.now) × (c.args.from + c.loop-i.i * c.args.stride < length c.args.cells.now) =
    (c.requires.1 c.loop-i.i (omega arith), c.requires.2 c.loop-i.i (omega arith)) in
    omega (arith, inside.0)

pub bounds-out-at : goal.bounds-out-at
bounds-out-at c =
    let inside : (c.args.at + c.loop-i.i * c.args.step < length c.args.out.now) × (c.args.from + c.loop-i.i * c.args.stride < length c.args.cells.now) =
    (c.requires.1 c.loop-i.i (omega arith), c.requires.2 c.loop-i.i (omega arith)) in
    omega (arith, inside.0)

pub shape_of-out : goal.shape_of-out
shape_of-out c = c.loop-i.invariant.0
