-- Calls about the store: what each was lent, the code that comes back, and every lent buffer at the end. Each is the function's contract, that of `planner_..` too.
use Rattle.std.specs.Prelude.{◌≡◌, List, ℕ}
use Rattle.store.specs.Store.{call, put, fetch, remove}
use Rattle.export_store.specs.Stored.{stored_code, stored_answer, stored_bytes, stored_room}

abbrev pub CallPutBytes : List ℕ → ℕ → ℕ → List ℕ → List ℕ → ℕ → List ℕ → List ℕ → Type 0
CallPutBytes b owner key t answer code b' answer' =
    (code ≡ stored_code b (call owner key (put t)) answer) × ((b' ≡ stored_bytes b (call owner key (put t)) answer) × (answer' ≡ stored_answer b (call owner key (put t)) answer))

abbrev pub CallFetchBytes : List ℕ → ℕ → ℕ → List ℕ → List ℕ → ℕ → List ℕ → List ℕ → Type 0
CallFetchBytes b owner key room answer code room' answer' =
    (code ≡ stored_code b (call owner key (fetch room)) answer) × ((room' ≡ stored_room b owner key room answer) × (answer' ≡ stored_answer b (call owner key (fetch room)) answer))

abbrev pub CallDropBytes : List ℕ → ℕ → ℕ → List ℕ → ℕ → List ℕ → List ℕ → Type 0
CallDropBytes b owner key answer code b' answer' =
    (code ≡ stored_code b (call owner key remove) answer) × ((b' ≡ stored_bytes b (call owner key remove) answer) × (answer' ≡ stored_answer b (call owner key remove) answer))
