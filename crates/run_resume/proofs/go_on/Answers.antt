-- `run_resume::go_on` meets its contract: proofs/Going. Assumes nothing.
use Rattle.model.specs.Kit.{sym, arith, length-take-le}
use Rattle.model.specs.Lists.{at}
use Rattle.run_resume.proofs.{Going.walks_from, Going.gone_so}
use Rattle.run_resume.proofs.go_on.Goals as goal

pub last_values-last-requires : goal.last_values-last-requires
unfolding at
last_values-last-requires c = (c.requires.4.stands.short, c.requires.4.stands.bytes)

pub slice_bounds-last-end : goal.slice_bounds-last-end
unfolding at
slice_bounds-last-end c = omega (arith, c.last_values-last.ensures.twelve, c.requires.4.stands.short)

pub slice_bounds-walk_part-end : goal.slice_bounds-walk_part-end
unfolding at
slice_bounds-walk_part-end c =
    sym (length-take-le _ _ (omega (
      arith,
      c.last_values-last.ensures.twelve,
      c.requires.4.stands.short,
    )))

pub walk_part-requires : goal.walk_part-requires
unfolding at
walk_part-requires c = λ e.
    (_, walks_from c.requires.0 c.requires.1 c.requires.2 c.requires.3 _ _ _ _ _ _ _ c.requires.4 _ c.last_values-last.ensures e)

pub returns : goal.returns
unfolding at
returns c = λ p s limit room h. gone_so p s limit room _ _ _ _ _ _ _ h _ c.last_values-last.ensures _ _ _ _ _
    c.walk_part.ensures
