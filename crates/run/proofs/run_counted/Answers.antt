-- `run::run_counted` meets its contract: its tally begins at nothing. Assumes nothing.
use Rattle.model.specs.Kit.{ap, ◌∙◌}
use Rattle.run_input.specs.Lent.{tally_lent}
use Rattle.run.proofs.run_counted.Goals as goal

pub returns : goal.returns
returns c =
    let s = c.run_lent-answer.ensures in
    (s.answers, s.leaves, s.counts ∙ ap (tally_lent c.args.sheet.now c.args.pairs.now c.args.block.now c.args.limit c.args.list.now) c.new-tally.ensures.is)
