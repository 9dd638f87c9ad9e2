-- The examples of runs that are lent pairs and a block hold of the definitions. Assumes nothing.
use Rattle.model.specs.Kit.{refl}
use Rattle.model.specs.{Run.counts_by, Run.tally_at, Examples.Each}
use Rattle.model.proofs.Examples.{opened}
use Rattle.order.specs.Order.{pairs_in, forerunners, can_follow, settled_first, settling_order, settles_all, order_verdict}
use Rattle.order.specs.Reordered.{position, read, write, value_of, scope_in, row_in, renamed, symmetry_in}
use Rattle.order.specs.RunBy.{result_by, place_counts, answer_by, list_by, tallied_by}
use Rattle.block.specs.Block.{orderings, ordering, factorial, variable_table, in_block, image_of, ordering_table, block_tables, is_block_at, block_verdict, tables_lent, block_lent}
use Rattle.run_input.specs.{Lent.verdict_lent, LentExamples.tests_lent}

pub examples_lent : Each tests_lent
unfolding opened counts_by tally_at pairs_in forerunners can_follow settled_first settling_order settles_all order_verdict position read write value_of scope_in row_in renamed symmetry_in result_by
    place_counts
    answer_by list_by tallied_by orderings ordering factorial variable_table in_block image_of ordering_table block_tables is_block_at block_verdict tables_lent block_lent verdict_lent
examples_lent = (
  refl,
  (
    refl,
    (
      refl,
      (
        refl,
        (
          refl,
          (
            refl,
            (
              refl,
              (
                refl,
                (
                  refl,
                  (
                    refl,
                    (
                      refl,
                      (refl, (refl, (refl, (refl, (refl, (refl, (refl, (refl, (refl, (refl, (refl, (refl, (refl, (refl, (refl, tt))))))))))))))),
                    ),
                  ),
                ),
              ),
            ),
          ),
        ),
      ),
    ),
  ),
)
