-- Small stores by computation. Assumes nothing.
use Rattle.model.specs.Kit.{◌≡◌, refl, List, [], ◌∷◌, ℕ}
use Rattle.model.specs.{Lists.all, Lists.flat, Lists.below, Lists.up_from, Lists.at, Run.listed_plans, Sheet.«word», Verdict.accepted, Verdict.refused, Room.rows_in}
use Rattle.list_columns.specs.Columns.{column, transposed, heading, columns_of, columns_in, rows_of, whole_rows, small_values, bytes_verdict, columns_verdict, is_store, rows_verdict}

-- sheet A's plans 0 1, 0 2, 1 2
plans_a : List ℕ
plans_a = 0 ∷ 1 ∷ 0 ∷ 2 ∷ 1 ∷ 2 ∷ []

store_a : List ℕ
store_a = 2 ∷ 0 ∷ 3 ∷ 0 ∷ 8 ∷ 0 ∷ 14 ∷ 0 ∷ 0 ∷ 0 ∷ 1 ∷ 1 ∷ 2 ∷ 2 ∷ []

stored : columns_of 2 plans_a ≡ store_a
unfolding columns_of heading transposed column rows_in listed_plans flat below up_from at plans_a store_a
stored = refl

back : rows_of store_a ≡ plans_a
unfolding rows_of columns_in transposed column listed_plans flat below up_from at «word» plans_a store_a
back = refl

-- no plans is legal
none : columns_of 12 [] ≡ 12 ∷ 0 ∷ 0 ∷ 0 ∷ 8 ∷ 0 ∷ 8 ∷ 0 ∷ []
unfolding columns_of heading transposed column rows_in listed_plans flat below up_from at
none = refl

none_fits : columns_verdict 12 [] 8 ≡ accepted
unfolding columns_verdict bytes_verdict whole_rows small_values all
none_fits = refl

-- 23 before 20, 20 before 21, 21 before 22
no_places : rows_verdict (0 ∷ 0 ∷ 9 ∷ 9 ∷ 8 ∷ 0 ∷ 8 ∷ 0 ∷ []) 0 ≡ refused 20 0
unfolding rows_verdict is_store «word» at bytes_verdict whole_rows
no_places = refl

wrong_total : rows_verdict (0 ∷ 0 ∷ 9 ∷ 9 ∷ 8 ∷ 0 ∷ 9 ∷ 0 ∷ []) 0 ≡ refused 23 0
unfolding rows_verdict is_store «word» at bytes_verdict whole_rows
wrong_total = refl

half_row : columns_verdict 2 (16 ∷ []) 0 ≡ refused 20 0
unfolding columns_verdict bytes_verdict whole_rows
half_row = refl

large_value : columns_verdict 2 (16 ∷ 0 ∷ []) 0 ≡ refused 21 0
unfolding columns_verdict bytes_verdict whole_rows small_values all
large_value = refl

short_room : columns_verdict 2 (15 ∷ 0 ∷ []) 9 ≡ refused 22 0
unfolding columns_verdict bytes_verdict whole_rows small_values all
short_room = refl
