-- Whether the memo is asked. Assumes nothing.
use Rattle.model.specs.Kit.{refl, arith}
use Rattle.model.specs.Lists.{at}
use Rattle.run_memo.proofs.turn.Goals as goal

pub returns : goal.returns
unfolding at
returns c = λ n. record { plans = refl; asks = λ z. omega arith }
