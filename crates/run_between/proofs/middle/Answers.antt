-- `run_between::middle` meets its contract. Assumes nothing.
use Rattle.model.specs.Kit.{ap₂, ◌∙◌, ℕ, ◌-◌, ◌^◌, bit_and, rules}
use Rattle.run_between.proofs.{Steps.range_is}
use Rattle.run_between.proofs.middle.Goals as goal

pub returns : goal.returns
returns c =
    ap₂ (λ (x y : ℕ). bit_and (bit_and c.args.set.bits ((2 ^ 16 - 1) - x)) y) c.full.ensures c.full-2.ensures
    ∙ range_is _ _ _ (search rules)
