use Rattle.model.specs.Kit.{◌∙◌, lt-leb, arith}
use Rattle.arrays_block.proofs.{Asking.block_low, Asking.block_high, Asking.block_fits}
use Rattle.arrays_block.proofs.is_block.Goals as goal
use Rattle.arrays_block.proofs.is_block.Goals.{then-m-ge2, else-m-ge2}

pub returns-then-m-le5 : goal.returns-then-m-le5
returns-then-m-le5 c = λ p e. block_fits p _ _ (λ l. omega arith) (λ l. omega arith) _ e

pub returns-else-m-le5 : goal.returns-else-m-le5
returns-else-m-le5 c = λ p e. elim c.if-m-ge2.branch [
  | then-m-ge2 w ↦ w.t-5-is ∙ lt-leb _ _ (omega (arith, c.if-m-le5.either, w.if-m-ge2.true))
      ∙ block_high p _ _ (λ l. omega (arith, w.if-m-ge2.true)) (omega (arith, c.if-m-le5.either, w.if-m-ge2.true))
  | else-m-ge2 w ↦ w.t-5-is ∙ lt-leb _ _ w.if-m-ge2.false ∙ block_low p _ _ w.if-m-ge2.false
]
