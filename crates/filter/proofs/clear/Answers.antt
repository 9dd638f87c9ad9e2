-- `filter::clear` meets its contract. Assumes nothing.
use Rattle.model.specs.Kit.{sym, ◌∙◌}
use Rattle.model.proofs.Sets.{zeros_replicate}
use Rattle.filter.proofs.clear.Goals as goal

pub returns : goal.returns
returns c = c.fill.ensures.after (λ y e. e) ∙ sym (zeros_replicate c.args.sets.now)
