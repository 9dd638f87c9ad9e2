-- planner_store_put, planner_store_fetch and planner_store_drop (paper 02, #110): what a call on the bytes b returns, and the bytes of every lent
-- buffer afterwards. Where the answer has not 12 bytes nothing is changed.
use Rattle.std.specs.Prelude.{List, ℕ, eqb, length}
use Rattle.model.specs.Lists.{choose}
use Rattle.store.specs.{Store.StoreCall, Store.call, Store.fetch, Inner.Layout.reply_on, Inner.Layout.bytes_after}
use Rattle.wire.specs.{Wire.wrong_length, Outcomes.outcome_code, Outcomes.outcome_answer}

unfoldable pub stored_code : List ℕ → StoreCall → List ℕ → ℕ
stored_code b x answer = choose (eqb (length answer) 12) (outcome_code (reply_on b x).outcome) wrong_length

unfoldable pub stored_answer : List ℕ → StoreCall → List ℕ → List ℕ
stored_answer b x answer = choose (eqb (length answer) 12) (outcome_answer (reply_on b x).outcome answer) answer

unfoldable pub stored_bytes : List ℕ → StoreCall → List ℕ → List ℕ
stored_bytes b x answer = choose (eqb (length answer) 12) (bytes_after b x) b

unfoldable pub stored_room : List ℕ → ℕ → ℕ → List ℕ → List ℕ → List ℕ
stored_room b owner key room answer = choose (eqb (length answer) 12) (reply_on b (call owner key (fetch room))).room room
