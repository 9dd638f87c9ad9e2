-- Each count is at most their sum, so that it may be raised where the sum may.
use Rattle.std.proofs.Common.{arith, refl}
use Rattle.model.specs.Lists.{at}
use Rattle.model.proofs.Tally.{at_total}
use Rattle.run_state.proofs.Walk.{summed_more}
use Rattle.run_state.proofs.Tally.add_node.Goals as goal

pub overflow_add-self : goal.overflow_add-self
unfolding at
overflow_add-self c =
    let a = at_total c.args.self.now.counts c.args.x in
    let s = c.requires.summed.sum in
    let f = c.requires.fits in
    record { fits = omega (arith, a, s, f) }

pub returns : goal.returns
unfolding at
returns c = record { is = refl; summed = summed_more c.args.x _ c.requires.few c.requires.summed }
