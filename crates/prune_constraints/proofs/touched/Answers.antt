-- The loop: the union of what the variables passed have. Assumes nothing.
use Rattle.model.specs.Kit.{◌<◌, count_trailing_zeros, arith, rules}
use Rattle.model.specs.Lists.{at}
use Rattle.model.proofs.Members.{rest_begin, rest_low, rest_turn, rest_less, union_begin, union_turn}
use Rattle.prune_constraints.proofs.{Unions.touched_all}
use Rattle.prune_constraints.proofs.touched.Goals as goal

pub loop-m-init : goal.loop-m-init
loop-m-init c = (rest_begin 64 _ (search rules), union_begin _ _)

pub loop-m-preserved : goal.loop-m-preserved
unfolding at
loop-m-preserved c = (
  rest_turn 64 _ _ c.loop-m.invariant.0 c.loop-m-test.true,
  union_turn _ 64 _ _ _ _ c.loop-m.invariant.0 c.loop-m-test.true
      c.loop-m.invariant.1 (λ w q. q) (λ w q. q),
)

pub returns : goal.returns
returns c = touched_all _ _ _ _ c.loop-m-test.false c.loop-m.invariant.1

pub overflow_cast-all : goal.overflow_cast-all
overflow_cast-all c =
    let low : count_trailing_zeros 64 c.loop-m.m < 64 = (rest_low 64 _ _ c.loop-m.invariant.0 c.loop-m-test.true).1 in
    omega (arith, low)

pub overflow_add-all : goal.overflow_add-all
overflow_add-all c =
    let low : count_trailing_zeros 64 c.loop-m.m < 64 = (rest_low 64 _ _ c.loop-m.invariant.0 c.loop-m-test.true).1 in
    omega (arith, low)

pub offset_bounds-numbers-m : goal.offset_bounds-numbers-m
offset_bounds-numbers-m c =
    let low : count_trailing_zeros 64 c.loop-m.m < 64 = (rest_low 64 _ _ c.loop-m.invariant.0 c.loop-m-test.true).1 in
    omega (arith, low)

pub bounds-numbers-m : goal.bounds-numbers-m
bounds-numbers-m c =
    let low : count_trailing_zeros 64 c.loop-m.m < 64 = (rest_low 64 _ _ c.loop-m.invariant.0 c.loop-m-test.true).1 in
    omega (arith, low)

pub loop-m-smaller : goal.loop-m-smaller
loop-m-smaller c = rest_less _ c.loop-m-test.true
