-- `small`: no value before is above `most`, which is below 16 where they all are. Assumes nothing.
use Rattle.model.specs.Kit.{arith, rules}
use Rattle.list_columns.proofs.{Asking.most_turn, Asking.small_is}
use Rattle.list_columns.proofs.small.Goals as goal

pub loop-byte-init : goal.loop-byte-init
loop-byte-init c = ((λ k l. absurd (omega arith)), λ f. omega arith)

pub loop-byte-preserved : goal.loop-byte-preserved
loop-byte-preserved c = most_turn c.args.bytes.now c.loop-byte.byte-index c.loop-byte.most c.max-most.result (search rules) (search rules) (λ a b. search rules) c.loop-byte.invariant

pub returns : goal.returns
returns c = small_is c.args.bytes.now c.loop-byte.most c.loop-byte.byte-index (omega arith) c.loop-byte.invariant
