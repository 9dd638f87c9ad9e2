-- Settling orders and answers to 28 to 30, as one list of statements. One theorem says that each holds (proofs/Order).
use Rattle.std.specs.Prelude.{◌≡◌, List, [], ◌∷◌}
use Rattle.model.specs.Verdict.{accepted, refused}
use Rattle.order.specs.Order.{settling_order, order_verdict}

abbrev pub tests_order : List (Type 0)
tests_order =
    -- 2 before 0 and 3 before 1, of four places
    (settling_order 4 (2 ∷ 0 ∷ 3 ∷ 1 ∷ []) ≡ 2 ∷ 0 ∷ 3 ∷ 1 ∷ [])
    -- a pair twice
    ∷ (settling_order 3 (1 ∷ 0 ∷ 1 ∷ 0 ∷ []) ≡ 1 ∷ 0 ∷ 2 ∷ [])
    -- 28 for half a pair, 29 for a place not below n, 30 for a circle and for a place before itself
    ∷ (order_verdict 3 (0 ∷ []) accepted ≡ refused 28 0)
    ∷ (order_verdict 3 (0 ∷ 3 ∷ []) accepted ≡ refused 29 0)
    ∷ (order_verdict 3 (0 ∷ 1 ∷ 1 ∷ 2 ∷ 2 ∷ 0 ∷ []) accepted ≡ refused 30 0)
    ∷ (order_verdict 3 (1 ∷ 1 ∷ []) accepted ≡ refused 30 0)
    ∷ (order_verdict 3 (0 ∷ 1 ∷ 1 ∷ 2 ∷ 0 ∷ 2 ∷ []) accepted ≡ accepted)
    ∷ []
