-- The claims of paper 02, #103, about the definitions: rows to columns to rows gives the rows; an accepted store to rows and back gives the store; 23 is
-- given exactly to what is no store. Of callers they are in specs/Calls.
use Rattle.std.specs.Prelude.{◌≡◌, true, List, ℕ, ◌+◌, ◌*◌, ◌≤◌, length, T, ltb}
use Rattle.model.specs.{Lists.all, Sheet.«word», Verdict.accepted, Verdict.refused}
use Rattle.list_columns.specs.Columns.{columns_of, rows_of, variables, plans, columns_verdict, is_store, rows_verdict}

-- room and back are the lengths of the room lent to the first call and to the second
abbrev pub RowsBack : Type 0
RowsBack = (n : ℕ) (b : List ℕ) (room back : ℕ) → columns_verdict n b room ≡ accepted → length b ≤ back →
    (rows_verdict (columns_of n b) back ≡ accepted) × (rows_of (columns_of n b) ≡ b)

-- the store is made of bytes, as every lent one is
abbrev pub StoreBack : Type 0
StoreBack = (s : List ℕ) (room back : ℕ) → T (all (λ v. ltb v 256) s) → rows_verdict s room ≡ accepted → length s ≤ back →
    (columns_verdict (variables s) (rows_of s) back ≡ accepted) × (columns_of (variables s) (rows_of s) ≡ s)

-- a store, in the paper's words
pub record Store (s : List ℕ) : Type 0 where
  pub long : 8 ≤ length s
  pub offset : «word» s 4 ≡ 8
  pub total : length s ≡ «word» s 6
  pub size : length s ≡ 8 + variables s * plans s

abbrev pub StoresOnly : Type 0
StoresOnly = (s : List ℕ) (room : ℕ) →
    (rows_verdict s room ≡ refused 23 0 → Store s → ⊥) × ((Store s → ⊥) → rows_verdict s room ≡ refused 23 0)

-- `is_store` computes it
abbrev pub StoreTest : Type 0
StoreTest = (s : List ℕ) → (is_store s ≡ true → Store s) × (Store s → is_store s ≡ true)
