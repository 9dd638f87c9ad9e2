-- Eight sets go into one number, the last first. Assumes nothing.
use Rattle.model.specs.Kit.{◌+◌, ◌-◌, ◌*◌, arith, get_or, rules}
use Rattle.model.specs.Lists.{at}
use Rattle.model.proofs.Masks.{byte_lt}
use Rattle.arrays_tables.proofs.{Lanes.lanes_begin, Lanes.lanes_fit, Lanes.lanes_turn, Lanes.lanes_end}
use Rattle.arrays_tables.proofs.words.lanes.Goals as goal

pub loop-t-init : goal.loop-t-init
loop-t-init c = lanes_begin _

pub overflow_cast-all : goal.overflow_cast-all
overflow_cast-all c = record {
  fits = omega (
    arith,
    byte_lt (get_or c.args.supports.now
        (c.args.base + 16 * (7 - c.loop-t.t)) 0),
  );
}

pub overflow_add-all-in-loop-t : goal.overflow_add-all-in-loop-t
overflow_add-all-in-loop-t c = record {
  fits = lanes_fit _ _ _ (get_or c.args.supports.now
      (c.args.base + 16 * (7 - c.loop-t.t)) 0) c.loop-t.invariant c.loop-t-test.true;
}

pub loop-t-preserved : goal.loop-t-preserved
unfolding at
loop-t-preserved c = lanes_turn _ _ _ c.loop-t.invariant c.loop-t-test.true

pub returns : goal.returns
returns c = lanes_end _ _ _ (search rules) c.loop-t.invariant

pub overflow_mul-all : goal.overflow_mul-all
overflow_mul-all c = record { fits = omega (arith, lanes_fit _ _ _ 0 c.loop-t.invariant c.loop-t-test.true) }
