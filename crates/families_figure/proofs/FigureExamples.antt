-- The figures of the examples hold, by computation. Assumes nothing.
use Rattle.model.specs.Kit.{refl}
use Rattle.model.specs.Examples.{Each}
use Rattle.model.proofs.Examples.{opened}
use Rattle.order.specs.Reordered.{position, read, write, value_of, scope_in, row_in, renamed, symmetry_in}
use Rattle.order.specs.{Order.pairs_in, Order.forerunners, Order.can_follow, Order.settled_first, Order.settling_order, RunBy.result_by}
use Rattle.block.specs.Block.{tables_lent}
use Rattle.families.specs.Families.{solutions_of, widened, reached_in, family_of, is_earliest, earliest_of, families_of}
use Rattle.families_figure.specs.{Figure.bare_sheet, Figure.families_lent, FigureExamples.tests_figure}

pub examples_figure : Each tests_figure
unfolding opened pairs_in forerunners can_follow settled_first settling_order position read write value_of scope_in row_in renamed symmetry_in result_by tables_lent solutions_of widened reached_in
    family_of
    is_earliest earliest_of families_of bare_sheet families_lent
examples_figure = (refl, (refl, (refl, (refl, (refl, (refl, (refl, (refl, (refl, tt)))))))))
