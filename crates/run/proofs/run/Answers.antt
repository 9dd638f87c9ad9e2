-- `run::run` meets its contract: an empty lending changes nothing (crate run_input). Assumes nothing.
use Rattle.model.specs.Kit.{◌∙◌}
use Rattle.run_input.proofs.Lent.{nothing_lent}
use Rattle.run.proofs.run.Goals as goal

pub returns : goal.returns
returns c =
    let h = nothing_lent c.args.sheet.now in
    record { answers = c.run_counted.ensures.0 ∙ h.answer c.args.limit c.args.list.now; leaves = c.run_counted.ensures.1 ∙ h.list c.args.limit c.args.list.now }
