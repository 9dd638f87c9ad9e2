-- Calls of two owners on one store, as one list of statements about the definitions (Claims, `Isolated` and `FetchesLast`). One theorem says that
-- each holds (proofs/Examples).
use Rattle.std.specs.Prelude.{◌≡◌, true, List, [], ◌∷◌, ◌++◌}
use Rattle.model.specs.{Verdict.accepted, Room.wrote, Room.refusal}
use Rattle.store.specs.Store.{empty_store, put, fetch, remove, StoreCall, call, call_verdict, store_after, calls_of}
use Rattle.store.specs.Inner.Claims.{store_end, replies_to, all_spare}

-- owner 0 puts two bytes and fetches them twice; between these owner 1 does this, or that
abbrev this : List StoreCall
this = call 0 7 (put (3 ∷ 4 ∷ [])) ∷ call 1 7 (put (9 ∷ [])) ∷ call 0 7 (fetch (0 ∷ 0 ∷ 5 ∷ [])) ∷ call 1 7 remove ∷ call 0 7 (fetch (0 ∷ [])) ∷ []

abbrev that : List StoreCall
that = call 1 7 (put (8 ∷ [])) ∷ call 0 7 (put (3 ∷ 4 ∷ [])) ∷ call 0 7 (fetch (0 ∷ 0 ∷ 5 ∷ [])) ∷ call 1 7 (put []) ∷ call 4 7 remove ∷ call 0 7 (fetch (0 ∷ [])) ∷ []

abbrev pub tests_store : List (Type 0)
tests_store =
    -- the same calls of owner 0, other calls of others
    (calls_of 0 this ≡ calls_of 0 that)
    -- what it gets back: done, two bytes copied, 35 for the short room
    ∷ (replies_to 0 empty_store this
    ≡ record { outcome = wrote 0; room = [] } ∷ record { outcome = wrote 2; room = 3 ∷ 4 ∷ 5 ∷ [] } ∷ record { outcome = refusal 35 0; room = 0 ∷ [] } ∷ [])
    ∷ (replies_to 0 empty_store that ≡ replies_to 0 empty_store this)
    -- and owner 1: its table, and 34 once it is dropped
    ∷ (replies_to 1 empty_store (this ++ (call 1 7 (fetch []) ∷ [])) ≡ record { outcome = wrote 0; room = [] } ∷ record { outcome = wrote 0; room = [] } ∷ record
    { outcome = refusal 34 0; room = [] } ∷ [])
    -- a put that is accepted, and calls of others that leave its table
    ∷ (call_verdict (store_end empty_store (call 1 7 (put (9 ∷ [])) ∷ [])) (call 0 7 (put (3 ∷ 4 ∷ []))) ≡ accepted)
    ∷ (all_spare 0 7 (store_after empty_store (call 0 7 (put (3 ∷ 4 ∷ [])))) (call 1 7 remove ∷ call 0 7 (fetch []) ∷ []) ≡ true)
    ∷ []
