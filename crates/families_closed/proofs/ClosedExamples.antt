-- The examples of specs/ClosedExamples, by computation. Assumes nothing.
use Rattle.model.specs.Kit.{◌≡◌, refl, [], ◌∷◌}
use Rattle.model.specs.{Sheet.problem_of, Examples.Each, Examples.sheet_a, Examples.sheet_a0}
use Rattle.model.proofs.Examples.{opened}
use Rattle.order.specs.Order.{pairs_in, forerunners, can_follow, settled_first, settling_order, settles_all, order_verdict}
use Rattle.block.specs.Block.{orderings, ordering, factorial, variable_table, in_block, image_of, ordering_table, block_tables, is_block_at, block_verdict, tables_lent, block_lent}
use Rattle.run_input.specs.Lent.{verdict_lent, problem_with}
use Rattle.families.specs.Families.{makes, moves_nothing}
use Rattle.families_closed.specs.{Open.none, Open.made, Open.first_missing, Open.first_open, Lent.closed_lent, Inner.ClosedExamples.tests_closed}
use Rattle.families_closed.proofs.Open.{open_none}

none_a : first_open (problem_of sheet_a) ≡ none
unfolding opened makes moves_nothing made first_missing first_open
none_a = refl

none_block : first_open (problem_with sheet_a0 (0 ∷ 2 ∷ [])) ≡ none
unfolding opened makes moves_nothing made first_missing first_open orderings ordering factorial variable_table in_block image_of ordering_table block_tables tables_lent
none_block = refl

pub examples_closed : Each tests_closed
unfolding opened makes moves_nothing made first_missing first_open closed_lent verdict_lent pairs_in forerunners can_follow settled_first settling_order settles_all order_verdict orderings ordering
    factorial
    variable_table in_block image_of ordering_table block_tables is_block_at block_verdict tables_lent block_lent
examples_closed = ((open_none (problem_of sheet_a)).0 none_a, (refl, (refl, (refl, ((open_none (problem_with sheet_a0 (0 ∷ 2 ∷ []))).0 none_block, (refl, (refl, tt)))))))
