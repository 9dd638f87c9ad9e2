-- One place after another. Assumes nothing.
use Rattle.model.specs.Kit.{arith, rules}
use Rattle.model.proofs.{Lists.at_replicate, Members.one_has}
use Rattle.order.proofs.{Placing.placing_begin, Placing.placing_turn, Placing.placing_stuck, Placing.placing_end}
use Rattle.order.proofs.settle.Goals as goal

pub loop-k-init : goal.loop-k-init
loop-k-init c = (c.forerunners.ensures, placing_begin _ _ _)

pub returns-in_default : goal.returns-in_default
returns-in_default c = placing_stuck _ _ _ _ _ _ c.loop-k.invariant.1 (omega arith) (c.in_default.ensures.lowest _ _ c.loop-k.invariant.0 c.loop-k.invariant.1.holds)

pub loop-k-preserved : goal.loop-k-preserved
loop-k-preserved c = (
  c.loop-k.invariant.0,
  placing_turn _ _ _ _ _ _ _ _ c.loop-k.invariant.1 (omega arith)
      (c.in-Some.ensures.lowest _ _ c.loop-k.invariant.0 c.loop-k.invariant.1.holds) c.in-Some.ensures.below
      (λ y. one_has 64 _ y (omega (arith, c.in-Some.ensures.below))),
)

pub returns : goal.returns
returns c = placing_end _ _ _ _ _ _ c.loop-k.invariant.1 (search rules) (search rules)

pub forerunners-requires : goal.forerunners-requires
forerunners-requires c = (c.requires.1, λ y. at_replicate 16 y)
