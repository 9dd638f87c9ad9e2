-- The loop's invariant: the levels from the start to j are passed. Assumes nothing.
use Rattle.model.specs.Kit.{refl, ◌∙◌, arith}
use Rattle.model.specs.{Lists.at}
use Rattle.prune_symmetries.proofs.Turns.{passing_none, ends, turn_asks, turn_next, turn_failed, turn_obeyed, turn_split}
use Rattle.prune_symmetries.proofs.{Splits.short}
use Rattle.prune_symmetries.proofs.pass.Goals as goal

pub loop-j-init : goal.loop-j-init
loop-j-init c = (refl, λ p w. passing_none w)

pub level-requires : goal.level-requires
unfolding at
level-requires c = (c.requires.0, turn_asks c.requires.1 (c.loop-j.invariant.1 c.requires.0 c.requires.1) c.loop-j-test.true)

pub returns-in-Failed : goal.returns-in-Failed
unfolding at
returns-in-Failed c = record {
  sixteen = c.level.ensures.sixteen ∙ c.loop-j.invariant.0;
  entries = λ p w. turn_failed w
      (c.loop-j.invariant.1 p w) c.loop-j-test.true c.level.new.sets
      c.level.result (c.level.ensures.entries p (turn_asks w (c.loop-j.invariant.1 p w)
      c.loop-j-test.true)) c.in-Failed.is;
}

pub returns-in-Obeyed : goal.returns-in-Obeyed
unfolding at
returns-in-Obeyed c = record {
  sixteen = c.level.ensures.sixteen ∙ c.loop-j.invariant.0;
  entries = λ p w. turn_obeyed w
      (c.loop-j.invariant.1 p w) c.loop-j-test.true c.level.new.sets
      c.level.result (c.level.ensures.entries p (turn_asks w (c.loop-j.invariant.1 p w)
      c.loop-j-test.true)) c.in-Obeyed.is;
}

pub returns-in-Split : goal.returns-in-Split
unfolding at
returns-in-Split c = record {
  sixteen = c.level.ensures.sixteen ∙ c.loop-j.invariant.0;
  entries = λ p w. turn_split w
      (c.loop-j.invariant.1 p w) c.loop-j-test.true c.level.new.sets
      c.level.result (c.level.ensures.entries p (turn_asks w (c.loop-j.invariant.1 p w)
      c.loop-j-test.true)) c.in-Split.is;
}

pub loop-j-preserved : goal.loop-j-preserved
unfolding at
loop-j-preserved c = (
  c.level.ensures.sixteen ∙ c.loop-j.invariant.0,
  λ p w. turn_next w
      (c.loop-j.invariant.1 p w) c.loop-j-test.true c.level.new.sets
      c.level.result (c.level.ensures.entries p (turn_asks w (c.loop-j.invariant.1 p w)
      c.loop-j-test.true)) c.in-Next.is,
)

pub returns : goal.returns
returns c = record { sixteen = c.loop-j.invariant.0; entries = λ p w. ends w (c.loop-j.invariant.1 p w) c.loop-j-test.false }

pub overflow_mul-result : goal.overflow_mul-result
overflow_mul-result c = omega (arith, short c.requires.1)

pub overflow_add-result : goal.overflow_add-result
overflow_add-result c = omega (arith, short c.requires.1)
