-- An entry is put. Assumes nothing.
use Rattle.model.specs.Kit.{arith}
use Rattle.model.specs.Lists.{at}
use Rattle.run_state.specs.Meaning.{tally_in}
use Rattle.run_entry.proofs.{Loops.put_whole}
use Rattle.run_entry.proofs.put.Goals as goal

pub returns : goal.returns
unfolding at
returns c =
    put_whole c.args.stack.now c.args.work.now (tally_in c.args.before) (tally_in c.args.after) c.args.k c.args.marks.low c.args.marks.good c.args.s c.requires.3 (omega (arith, c.requires.3.is))
    c.put_figures.new.work c.put_figures.ensures
