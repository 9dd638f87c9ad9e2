use Rattle.model.specs.Kit.{arith}
use Rattle.sheet_carried.proofs.{Across.across_second, Across.across_third, Across.across_few, Across.across_first, Across.across_between}
use Rattle.sheet_carried.proofs.carried.rows_from.Goals as goal

pub sets_from-requires : goal.sets_from-requires
sets_from-requires c = (
  (c.requires.0.0, c.requires.0.1.ready.framed, across_second c.requires.0.0 _ _ _ _ _ _ c.requires.0.1, across_third c.requires.0.0 _ _ _ _ _ _ c.requires.0.1),
  c.requires.1,
  omega (arith, (across_few c.requires.0.0 _ _ _ _ _ _ c.requires.0.1).2),
  c.requires.2,
)

pub returns-then-a-y : goal.returns-then-a-y
returns-then-a-y c = λ q p x v t. across_first p _ _ _ _ _ _ x v t _ _ (omega (arith, c.if-z-y.false)) (omega (arith, c.if-z-a.false)) c.if-a-y.true
    (c.sets_from.ensures q p x.ready.framed (across_second p _ _ _ _ _ _ x) (across_third p _ _ _ _ _ _ x) v t)

pub sets_from-requires-then-y-a : goal.sets_from-requires-then-y-a
sets_from-requires-then-y-a c = (
  (c.requires.0.0, c.requires.0.1.ready.framed, across_second c.requires.0.0 _ _ _ _ _ _ c.requires.0.1, across_third c.requires.0.0 _ _ _ _ _ _ c.requires.0.1),
  c.requires.1,
  omega (arith, (across_few c.requires.0.0 _ _ _ _ _ _ c.requires.0.1).2),
  c.requires.2,
)

pub returns-then-y-a : goal.returns-then-y-a
returns-then-y-a c = λ q p x v t. across_between p _ _ _ _ _ _ x v t _ _ (omega (arith, c.if-z-y.false)) (omega (arith, c.if-z-a.false))
    c.if-y-a.true (c.sets_from-then-y-a.ensures q p x.ready.framed (across_second p _ _ _ _ _ _ x) (across_third p _ _ _ _ _ _ x) v t)
