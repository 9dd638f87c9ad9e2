-- `put_counts`: after i turns the first i counts are written. Assumes nothing.
use Rattle.model.specs.Kit.{refl, ◌∙◌, arith}
use Rattle.model.specs.{Lists.at}
use Rattle.export_join.proofs.{Wides.wides_start, Wides.wides_turn, Wides.wides_all, Wides.eight_ends}
use Rattle.export_join.proofs.pieces.put_counts.Goals as goal

pub loop-i-init : goal.loop-i-init
loop-i-init c = (refl, omega arith, wides_start c.args.out.now (at c.args.counts))

pub loop-i-preserved : goal.loop-i-preserved
unfolding at
loop-i-preserved c = (
  c.eight-place.auto.out ∙ c.loop-i.invariant.0,
  omega (arith, eight_ends _ c.eight-place.ensures, c.loop-i.invariant.1),
  wides_turn c.loop-i.i (at c.args.counts) (omega (arith, c.loop-i.invariant.1, c.requires)) c.loop-i.invariant.2 c.eight-place.ensures,
)

pub returns : goal.returns
returns c = wides_all c.loop-i.i _ (omega arith) c.loop-i.invariant.1 c.loop-i.invariant.2

pub offset_bounds-counts-i : goal.offset_bounds-counts-i
offset_bounds-counts-i c = omega arith

pub shape_of-out : goal.shape_of-out
shape_of-out c = c.loop-i.invariant.0
