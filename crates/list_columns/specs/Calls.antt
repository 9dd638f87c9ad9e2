-- Calls of `to_columns` and `to_rows`: what each was lent, what it answered, and the room at the end. Each is the function's contract. And paper 02,
-- #103, of what a caller of both holds. proofs/Calls has the theorems.
use Rattle.std.specs.Prelude.{◌≡◌, Result, Ok, List, ℕ, ◌≤◌, length, take, drop, T, ltb}
use Rattle.model.specs.{Lists.all, Room.outcome_of, Room.room_after}
use Rattle.list_columns.specs.Columns.{columns_of, rows_of, variables, columns_verdict, rows_verdict}
use Rattle.list_columns.specs.Meaning.{means}
use Rattle.model.specs.declared.{refusals.Question.Question}

abbrev pub CallColumns : ℕ → List ℕ → List ℕ → Result ℕ Question → List ℕ → Type 0
CallColumns n rows room r after =
    (means r ≡ outcome_of (columns_verdict n rows (length room)) (columns_of n rows)) × (after ≡ room_after (columns_verdict n rows (length room)) (columns_of n rows) room)

abbrev pub CallRows : List ℕ → List ℕ → Result ℕ Question → List ℕ → Type 0
CallRows store room r after = (means r ≡ outcome_of (rows_verdict store (length room)) (rows_of store)) × (after ≡ room_after (rows_verdict store (length room)) (rows_of store) room)

-- a call that answers so wrote the text to the front of its room, whose other bytes are as they came
pub record Wrote (text room : List ℕ) (r : Result ℕ Question) (after : List ℕ) : Type 0 where
  pub answer : r ≡ Ok (length text)
  pub front : take (length text) after ≡ text
  pub rest : drop (length text) after ≡ drop (length text) room

-- rows to columns, and the bytes written back to rows: the rows
abbrev pub RowsBackCalls : Type 0
RowsBackCalls =
    (n : ℕ) (b room : List ℕ) (k : ℕ) (after : List ℕ) → CallColumns n b room (Ok k) after →
    (back : List ℕ) (r : Result ℕ Question) (after₂ : List ℕ) → CallRows (take k after) back r after₂ → length b ≤ length back → Wrote b back r after₂

-- a store to rows, and the bytes written back to columns: the store
abbrev pub StoreBackCalls : Type 0
StoreBackCalls =
    (s room : List ℕ) (k : ℕ) (after : List ℕ) → T (all (λ v. ltb v 256) s) → CallRows s room (Ok k) after →
    (back : List ℕ) (r : Result ℕ Question) (after₂ : List ℕ) → CallColumns (variables s) (take k after) back r after₂ → length s ≤ length back → Wrote s back r after₂
