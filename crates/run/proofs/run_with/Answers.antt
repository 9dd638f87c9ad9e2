-- `run::run_with` meets its contract: an empty lending changes nothing (crate run_input). Assumes nothing.
use Rattle.model.specs.Kit.{◌∙◌}
use Rattle.run_input.proofs.Lent.{nothing_lent}
use Rattle.run_state.specs.Meaning.{tally_in}
use Rattle.run.proofs.run_with.Goals as goal

pub returns : goal.returns
returns c =
    let h = nothing_lent c.args.sheet.now in
    let s = c.run_lent.ensures in
    record {
      call = record { answers = s.answers ∙ h.answer c.args.limit c.args.list.now; leaves = s.leaves ∙ h.list c.args.limit c.args.list.now };
      counts = s.counts ∙ h.tally c.args.limit c.args.list.now (tally_in c.args.tally.now);
    }
