-- `block::rows` meets its contract: one test over the whole table. Assumes nothing.
use Rattle.model.specs.Kit.{refl}
use Rattle.model.specs.{Lists.all, Lists.any, Lists.earlier, Lists.rows_ascend, Sheet.distinct}
use Rattle.block.specs.BlockClaims.{fives, is_ordering, is_table}
use Rattle.block.proofs.{Table.table_rows}
use Rattle.block.proofs.rows.Goals as goal

pub returns : goal.returns
unfolding fives is_ordering is_table all any distinct earlier rows_ascend
returns c = (table_rows _ tt).numbers refl
