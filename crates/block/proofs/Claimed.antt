-- The claims of specs/BlockClaims and specs/Inner/Claims, from the laws. Assumes nothing.
use Rattle.block.specs.{BlockClaims.RowsAll, BlockClaims.FirstRows, Inner.Claims.TradesEnough, Inner.Claims.SetsAscend, Inner.Claims.PlansAscend, Inner.Claims.AloneClosed}
use Rattle.block.proofs.Orderings.{count, orderings_ascend, row_ordering, ordering_row}
use Rattle.block.proofs.Orderings as O
use Rattle.block.proofs.Block as K
use Rattle.block.proofs.BlockReordered as R

pub rows_all : RowsAll
rows_all = (count, orderings_ascend, λ e. (row_ordering e, ordering_row e))

pub first_rows : FirstRows
first_rows m row l h = O.first_rows m row (l, h)

pub trades_enough : TradesEnough
trades_enough p first m w = K.block_i p w first m

pub sets_ascend : SetsAscend
sets_ascend p order first m prefix ds w o e = R.reordered_consistent p w order o first m e prefix ds

pub plans_ascend : PlansAscend
plans_ascend p order first m a w o e = R.reordered_plans p w order o first m e a

pub alone_closed : AloneClosed
alone_closed p first m w = K.alone_closed p w first m
