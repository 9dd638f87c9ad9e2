-- Small blocks: the sets at a prefix, computed from the definitions, are those of the cut. Assumes nothing.
use Rattle.model.specs.Kit.{◌≡◌, refl, [], ◌∷◌, ℕ}
use Rattle.model.specs.{Lists.all, Lists.any, Lists.keep, Lists.flat, Lists.up_from, Lists.below, Lists.at, Lists.same, Lists.tabulate, ValueSets.has, ValueSets.mask_below, ValueSets.least}
use Rattle.model.specs.{ValueSets.members, ValueSets.any_empty, Problem.Problem, Problem.assignments, Problem.pair, Problem.is_pair, Sheet.distinct, Nogood.obeys_from, Nogood.obeying, Nogood.used}
use Rattle.model.specs.{Nogood.filtered, Search.entries_at, Search.nogoods_of, Search.row_with, Search.supported, Search.pruned, Search.narrowed, Search.rounds, Search.sets_at}
use Rattle.block.specs.Block.{orderings, ordering, factorial, variable_table, in_block, image_of, ordering_table, block_tables, with_block}
use Rattle.block.specs.Inner.BlockSets.{cut_after}
use Rattle.order.specs.Reordered.{position, read, value_of, scope_in, row_in, renamed, symmetry_in, reordered}

opened : ℕ
unfolding all any keep flat up_from below at same tabulate has mask_below least members any_empty assignments pair is_pair distinct obeys_from obeying used filtered entries_at nogoods_of row_with
    supported pruned narrowed rounds sets_at orderings ordering factorial variable_table in_block image_of ordering_table block_tables cut_after position read value_of scope_in row_in renamed
    symmetry_in
opened = 0

-- four variables of three values, a constraint on the first and the last
abbrev four : Problem
four = record { variables = 4; values = 3; initial = 7 ∷ 7 ∷ 7 ∷ 7 ∷ []; constraints = record { scope = 0 ∷ 3 ∷ []; rows = (0 ∷ 1 ∷ []) ∷ (1 ∷ 2 ∷ []) ∷ (2 ∷ 0 ∷ []) ∷ [] } ∷ []; symmetries = [] }

-- a block of variables 1 and 2: with variable 1 at value 1, variable 2 keeps 1 and 2
pub later_cut : sets_at (with_block 1 2 four) (0 ∷ 1 ∷ []) ≡ 1 ∷ 2 ∷ 6 ∷ 2 ∷ []
unfolding opened
later_cut = refl

-- the cut says the same of the parent's sets
pub cut_is : cut_after (in_block 1 2) 1 1 (1 ∷ 2 ∷ 7 ∷ 2 ∷ []) ≡ 1 ∷ 2 ∷ 6 ∷ 2 ∷ []
unfolding opened
cut_is = refl

-- variables outside the block lose nothing by a value of the block
pub others_stay : sets_at (with_block 1 2 four) (1 ∷ 2 ∷ []) ≡ 2 ∷ 4 ∷ 4 ∷ 4 ∷ []
unfolding opened
others_stay = refl

-- settled in the order 2, 3, 0, 1: the block's positions are 0 and 3
pub positions_cut : sets_at (reordered (2 ∷ 3 ∷ 0 ∷ 1 ∷ []) (with_block 1 2 four)) (1 ∷ []) ≡ 2 ∷ 7 ∷ 7 ∷ 6 ∷ []
unfolding opened
positions_cut = refl

-- where the later of two places is settled first, the earlier loses the smaller values
pub order_of_settling : sets_at (reordered (2 ∷ 1 ∷ 0 ∷ 3 ∷ []) (with_block 1 2 four)) (2 ∷ []) ≡ 4 ∷ 4 ∷ 7 ∷ 7 ∷ []
unfolding opened
order_of_settling = refl
