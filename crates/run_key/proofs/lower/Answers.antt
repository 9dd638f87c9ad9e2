-- The lower of two levels. Assumes nothing.
use Rattle.model.specs.Kit.{◌∙◌, arith}
use Rattle.run_key.proofs.{Loops.lowered_obeyed, Loops.lowered_passing}
use Rattle.run_key.specs.Inner.Key.{lowered}
use Rattle.run_key.proofs.lower.Goals as goal

pub returns-then-mark-eq-OBEYED : goal.returns-then-mark-eq-OBEYED
unfolding lowered
returns-then-mark-eq-OBEYED c = lowered_obeyed c.args.low c.args.mark (omega arith)

pub returns : goal.returns
unfolding lowered
returns c = c.min.ensures ∙ lowered_passing c.args.low c.args.mark (λ e. omega arith)
