-- Small blocks, computed from the definitions. Assumes nothing.
use Rattle.model.specs.Kit.{◌≡◌, refl, List, [], ◌∷◌, ℕ}
use Rattle.model.specs.Lists.{all, any, keep, flat, up_from, below, at, same, earlier}
use Rattle.model.specs.Problem.{Problem, Constraint, values_at, satisfies, is_solution, assignments, pair, is_pair, pairs_of, within, takes, doubled, pairs_at, excluded, forbidden, respects}
use Rattle.model.specs.{ValueSets.has, ValueSets.mask_below, ValueSets.members, Verdict.accepted, Verdict.refused, Sheet.distinct, Sheet.permutes_pairs, Sheet.symmetries_verdict, Claims.leaders}
use Rattle.block.specs.Block.{orderings, ordering, factorial, variable_table, in_block, image_of, ordering_table, block_tables, with_block, is_block_at, block_verdict}

opened : ℕ
unfolding all any keep flat up_from below at same earlier has mask_below members values_at satisfies is_solution assignments pair is_pair pairs_of within takes doubled pairs_at excluded forbidden
    respects distinct permutes_pairs symmetries_verdict orderings ordering factorial variable_table in_block image_of ordering_table block_tables is_block_at block_verdict
opened = 0

-- x and y differ, both below 3
abbrev differ : ℕ → ℕ → Constraint
differ x y = record { scope = x ∷ y ∷ []; rows = (0 ∷ 1 ∷ []) ∷ (0 ∷ 2 ∷ []) ∷ (1 ∷ 0 ∷ []) ∷ (1 ∷ 2 ∷ []) ∷ (2 ∷ 0 ∷ []) ∷ (2 ∷ 1 ∷ []) ∷ [] }

-- two variables with the given sets, and constraints
abbrev two : ℕ → ℕ → List Constraint → List (List ℕ) → Problem
two s t cs gs = record { variables = 2; values = 3; initial = s ∷ t ∷ []; constraints = cs; symmetries = gs }

-- sheet A's exchange is the second row of a block of both variables
pub trade_of_two : ordering_table (two 7 7 (differ 0 1 ∷ []) []) 0 2 1 ≡ 3 ∷ 4 ∷ 5 ∷ 0 ∷ 1 ∷ 2 ∷ []
unfolding opened
trade_of_two = refl

pub taken : block_verdict (two 7 7 (differ 0 1 ∷ []) []) 0 2 ≡ accepted
unfolding opened
taken = refl

-- a block past the last variable
pub past : block_verdict (two 7 7 (differ 0 1 ∷ []) []) 1 2 ≡ refused 36 0
unfolding opened
past = refl

-- unequal initial sets; the problem has one symmetry of its own
pub unequal : block_verdict (two 7 3 [] ((0 ∷ 1 ∷ 2 ∷ 3 ∷ 4 ∷ 5 ∷ []) ∷ [])) 0 2 ≡ refused 15 2
unfolding opened
unequal = refl

-- a constraint that tells the two variables apart
pub told_apart : block_verdict (two 7 7 (record { scope = 0 ∷ 1 ∷ []; rows = (0 ∷ 1 ∷ []) ∷ [] } ∷ []) []) 0 2 ≡ refused 16 1
unfolding opened
told_apart = refl

-- three variables, every two different, all in one block: one plan is left
pub one-of-six :
    leaders (with_block 0 3 record { variables = 3; values = 3; initial = 7 ∷ 7 ∷ 7 ∷ []; constraints = differ 0 1 ∷ differ 0 2 ∷ differ 1 2 ∷ []; symmetries = [] })
    ≡ (0 ∷ 1 ∷ 2 ∷ []) ∷ []
unfolding opened
one-of-six = refl
