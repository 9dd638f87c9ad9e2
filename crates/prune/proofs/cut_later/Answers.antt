-- The block's variables after k, where k is one of them. Assumes nothing.
use Rattle.model.specs.Kit.{refl}
use Rattle.prune_pairs.proofs.OneCut.{bit_in}
use Rattle.prune.proofs.{BlockCut.bit_out, BlockCut.two_some, BlockCut.later_small, BlockCut.after_none, BlockCut.after_some}
use Rattle.prune.proofs.cut_later.Goals as goal

pub cut-requires : goal.cut-requires
cut-requires c = (
  c.requires.0,
  c.requires.2,
  later_small c.args.block c.args.k c.args.v c.args.sets.now c.requires.0 c.requires.1
      (bit_in _ _ c.if-block-k-eq1.true) c.requires.3 _ refl,
)

pub returns-then-block-k-eq1 : goal.returns-then-block-k-eq1
returns-then-block-k-eq1 c = after_some _ _ _ _ c.requires.0 c.requires.1 (bit_in _ _ c.if-block-k-eq1.true) c.requires.3 _ refl _ c.cut.result c.cut.ensures

pub returns : goal.returns
returns c = after_none _ _ _ _ c.requires.0 (bit_out _ _ c.if-block-k-eq1.false)

pub overflow_sub-k : goal.overflow_sub-k
overflow_sub-k c = two_some _ c.requires.1
