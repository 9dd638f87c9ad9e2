-- The members that are not below v, by the mask of those that are. Assumes nothing.
use Rattle.model.specs.Kit.{ap, ◌∙◌, ℕ, ◌-◌, ◌^◌, bit_and, rules}
use Rattle.prune.proofs.{BlockCut.not_below}
use Rattle.prune.proofs.not_below.Goals as goal

pub returns : goal.returns
returns c = ap (λ (n : ℕ). bit_and c.args.set.bits ((2 ^ 16 - 1) - n)) c.full.ensures ∙ not_below _ _ (search rules)
