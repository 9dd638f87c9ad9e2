-- `numbers`: after i turns the first i counts are written. Assumes nothing.
use Rattle.model.specs.Kit.{refl, ◌∙◌, arith}
use Rattle.model.specs.{Bytes.four_bytes}
use Rattle.export_counts.proofs.{Tallied.numbers_start, Tallied.numbers_turn, Tallied.numbers_all}
use Rattle.export_counts.proofs.numbers.Goals as goal

pub loop-i-init : goal.loop-i-init
loop-i-init c =
    (refl, omega arith, numbers_start c.args.out.now c.args.start)

pub loop-i-preserved : goal.loop-i-preserved
unfolding four_bytes
loop-i-preserved c = (
  c.four-at.auto.out ∙ c.loop-i.invariant.0,
  omega (arith, c.four-at.ensures.ends, c.loop-i.invariant.1),
  numbers_turn c.args.start c.loop-i.i c.args.counts (omega (arith, c.requires.1.long)) (omega (arith, c.loop-i.invariant.1, c.requires.0)) c.loop-i.invariant.2
      c.four-at.ensures,
)

pub returns : goal.returns
returns c =
    numbers_all c.args.start c.loop-i.i c.args.counts c.requires.1.long (omega arith) (omega arith) c.loop-i.invariant.1 c.loop-i.invariant.2

pub four-at-requires : goal.four-at-requires
four-at-requires c = (omega arith, c.requires.1.small c.loop-i.i)

pub shape_of-out : goal.shape_of-out
shape_of-out c = c.loop-i.invariant.0
