-- `put_columns`: after x turns the values of the first x variables are put. Assumes nothing.
use Rattle.model.specs.Kit.{suc-mul, mul-le-mul_right, arith, rules}
use native.Mathlib.Nat.{le_antisymm}
use Rattle.list_columns.proofs.{Copying.put_none, Copying.column_fits, Copying.column_inside, Copying.column_turn, Copying.columns_whole}
use Rattle.list_columns.proofs.put_columns.Goals as goal

pub loop-x-init : goal.loop-x-init
loop-x-init c = put_none _ _ _ _ _ _ _

pub overflow_mul-x : goal.overflow_mul-x
overflow_mul-x c =
    omega (arith, suc-mul c.loop-x.x c.args.plans, mul-le-mul_right c.args.plans c.loop-x-test.true, c.requires)

pub overflow_add-at : goal.overflow_add-at
overflow_add-at c =
    omega (arith, suc-mul c.loop-x.x c.args.plans, mul-le-mul_right c.args.plans c.loop-x-test.true, c.requires)

pub copy-requires : goal.copy-requires
copy-requires c = (
  search rules,
  column_fits c.args.at c.args.rows.now c.args.variables c.args.plans c.args.out.now c.requires.0 c.requires.1 c.loop-x.x _ (omega arith) c.loop-x.invariant.same,
  column_inside c.args.at c.args.rows.now
      c.args.variables c.args.plans c.args.out.now c.requires.0 c.requires.1 c.loop-x.x (omega arith),
)

pub loop-x-preserved : goal.loop-x-preserved
loop-x-preserved c = column_turn c.args.at c.args.rows.now c.args.variables c.args.plans c.args.out.now c.requires.0 c.requires.1 c.loop-x.x (omega arith) c.copy.auto.out
    c.copy.ensures c.loop-x.invariant

pub returns : goal.returns
returns c =
    columns_whole c.args.at c.args.rows.now c.args.variables c.args.plans c.args.out.now c.requires.0 c.requires.1 c.loop-x.x (le_antisymm (omega arith) (omega arith))
    c.loop-x.invariant

pub shape_of-out : goal.shape_of-out
shape_of-out c = c.loop-x.invariant.same
