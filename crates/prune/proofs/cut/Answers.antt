-- The loop: the sets of the variables passed have lost the values below v. Assumes nothing.
use Rattle.model.specs.Kit.{sym, ◌∙◌, ◌<◌, arith, count_trailing_zeros, rules, eqb-true, eqb-false}
use Rattle.model.specs.Lists.{at}
use Rattle.model.proofs.Members.{rest_less}
use Rattle.prune.proofs.{BlockCut.cutting_begin, BlockCut.low_16, BlockCut.cutting_dead, BlockCut.cutting_turn, BlockCut.cutting_end}
use Rattle.prune.proofs.cut.Goals as goal

pub loop-left-init : goal.loop-left-init
loop-left-init c = cutting_begin _ _ _ c.requires.0 c.requires.2 (search rules)

pub returns-then-is_empty : goal.returns-then-is_empty
unfolding at
returns-then-is_empty c =
    cutting_dead _ _ _ c.requires.0 c.requires.2 c.loop-left.invariant c.loop-left-test.true _ c.not_below-kept.ensures
    (eqb-true _ 0 (sym c.is_empty.ensures ∙ c.if-is_empty.true))

pub loop-left-preserved : goal.loop-left-preserved
unfolding at
loop-left-preserved c =
    cutting_turn _ _ _ c.requires.0 c.requires.2 c.loop-left.invariant c.loop-left-test.true _ c.not_below-kept.ensures
    (eqb-false _ 0 (sym c.is_empty.ensures ∙ c.if-is_empty.false)) _ c.moved-changed.ensures

pub returns : goal.returns
returns c = cutting_end _ _ _ c.requires.0 c.requires.2 c.loop-left.invariant c.loop-left-test.false

pub overflow_cast-y : goal.overflow_cast-y
overflow_cast-y c =
    let low : count_trailing_zeros 64 c.loop-left.left < 16 = low_16 _ _ _ c.requires.0 c.requires.2 c.loop-left.invariant c.loop-left-test.true in
    omega (arith, low)

pub offset_bounds-sets-y : goal.offset_bounds-sets-y
offset_bounds-sets-y c =
    let low : count_trailing_zeros 64 c.loop-left.left < 16 = low_16 _ _ _ c.requires.0 c.requires.2 c.loop-left.invariant c.loop-left-test.true in
    omega (arith, low)

pub bounds-sets-y : goal.bounds-sets-y
bounds-sets-y c =
    let low : count_trailing_zeros 64 c.loop-left.left < 16 = low_16 _ _ _ c.requires.0 c.requires.2 c.loop-left.invariant c.loop-left-test.true in
    omega (arith, low)

pub offset_bounds-sets-y-in-loop-left : goal.offset_bounds-sets-y-in-loop-left
offset_bounds-sets-y-in-loop-left c =
    let low : count_trailing_zeros 64 c.loop-left.left < 16 = low_16 _ _ _ c.requires.0 c.requires.2 c.loop-left.invariant c.loop-left-test.true in
    omega (arith, low)

pub bounds-sets-y-in-loop-left : goal.bounds-sets-y-in-loop-left
bounds-sets-y-in-loop-left c =
    let low : count_trailing_zeros 64 c.loop-left.left < 16 = low_16 _ _ _ c.requires.0 c.requires.2 c.loop-left.invariant c.loop-left-test.true in
    omega (arith, low)

pub moved-changed-requires : goal.moved-changed-requires
moved-changed-requires c =
    let low : count_trailing_zeros 64 c.loop-left.left < 16 = low_16 _ _ _ c.requires.0 c.requires.2 c.loop-left.invariant c.loop-left-test.true in
    low

pub loop-left-smaller : goal.loop-left-smaller
loop-left-smaller c = rest_less _ c.loop-left-test.true
