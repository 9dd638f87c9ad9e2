-- The sets of depth k, with one value kept of variable k's set and the block's later variables cut, are on the way to those of the longer prefix.
-- Assumes nothing.
use Rattle.model.specs.Kit.{ap, ◌∙◌, not, arith}
use Rattle.model.specs.Lists.{at}
use Rattle.prune.proofs.{Descent.descent_sixteen, Descent.descent_dead, Descent.descent_unpruned, Descent.descent_reached}
use Rattle.prune.proofs.descend.Goals as goal

pub cut_later-requires : goal.cut_later-requires
unfolding at
cut_later-requires c = (
  descent_sixteen c.requires.2 c.load.new.sets c.load.ensures c.only-one.ensures,
  omega (arith, c.requires.2.room, c.requires.2.ready.well_formed.few),
  omega arith,
  λ y t. omega (arith, c.requires.2.ready.block_few y t, c.requires.2.ready.well_formed.few),
)

pub returns-then-is_none : goal.returns-then-is_none
unfolding at
returns-then-is_none c = λ p gs a.
    descent_dead a c.load.new.sets c.load.ensures c.only-one.ensures _ c.cut_later.result c.cut_later.ensures (c.is_none.ensures ∙ ap not c.if-is_none.true)

pub prune_all-requires : goal.prune_all-requires
unfolding at
prune_all-requires c =
    let n = descent_unpruned c.requires.2 c.load.new.sets c.load.ensures c.only-one.ensures _ c.cut_later.result c.cut_later.ensures (c.is_none.ensures ∙ ap not c.if-is_none.false) in
    (c.requires.0, c.requires.1, c.requires.2.ready, n)

pub returns : goal.returns
unfolding at
returns c = λ p gs a.
    let n = descent_unpruned a c.load.new.sets c.load.ensures c.only-one.ensures _ c.cut_later.result c.cut_later.ensures (c.is_none.ensures ∙ ap not c.if-is_none.false) in
    descent_reached a (c.prune_all.ensures p gs a.ready n)
