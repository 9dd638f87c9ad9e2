use Rattle.model.specs.Kit.{◌∙◌, arith}
use Rattle.model.proofs.Filling.{filled_begin}
use Rattle.sheet.proofs.SetsTurn.{passed_none, passed_more, passed_not, passed_all, set_test, set_stored, sets_refused, sets_accepted, sets_whole}
use Rattle.sheet.proofs.sets.ask.Goals as goal

pub loop-x-init : goal.loop-x-init
loop-x-init c = (omega arith, c.full-full.ensures, c.fill.ensures.sized ∙ c.told-numbers, passed_none _ _ _, filled_begin _ _ _)

pub read_word-s-requires : goal.read_word-s-requires
read_word-s-requires c = omega (
  arith,
  c.requires,
  c.requires.0.second,
  c.requires.0.ordered,
  c.requires.0.third,
)

pub returns-then-not-is_set : goal.returns-then-not-is_set
returns-then-not-is_set c =
    sets_refused _ _ _ _ _ c.requires.1
    (passed_not _ _ _ _ (omega arith) c.loop-x.invariant.3
    (set_test _ _ _ _ _ _ _ _ c.is_set.ensures c.read_word-s.ensures c.loop-x.invariant.1
    c.requires.2
    (omega (
      arith,
      c.requires.0.sixteen,
      c.requires.2,
    )) c.if-not-is_set.true))

pub loop-x-preserved : goal.loop-x-preserved
loop-x-preserved c = (
  omega (arith),
  c.loop-x.invariant.1,
  c.loop-x.invariant.2,
  passed_more _ _ _ _ (omega arith) c.loop-x.invariant.3
      (set_test _ _ _ _ _ _ _ _ c.is_set.ensures c.read_word-s.ensures c.loop-x.invariant.1
      c.requires.2
      (omega (
        arith,
        c.requires.0.sixteen,
        c.requires.2,
      )) c.if-not-is_set.false),
  set_stored _ _ _ _ _
      (omega (arith, c.requires.0.few, c.requires.1)) c.loop-x.invariant.2 c.read_word-s.ensures c.loop-x.invariant.4,
)

pub returns : goal.returns
returns c =
    sets_accepted _ _ _ _ c.requires.1 (passed_all _ _ _ _ (omega arith) c.loop-x.invariant.3)
    (sets_whole _ _ _ _ _ _ (omega (arith, c.requires.0.few, c.requires.1)) (omega arith) c.loop-x.invariant.0
    c.fill.ensures c.loop-x.invariant.4)
