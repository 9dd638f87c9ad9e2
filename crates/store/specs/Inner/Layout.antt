-- The store's bytes: sixteen slots of 2,052 bytes, four an owner. A slot has a flag (0 is free), the key, the table's length in two bytes, low
-- byte first, and 2,048 bytes for the table. Any bytes of the store's size are a store; zeros are the empty one.
use Rattle.std.specs.Prelude.{Bool, not, Option, Some, None, Result, Ok, Err, List, ◌∷◌, ◌++◌, ℕ, zero, suc, ◌+◌, ◌*◌, min, length, take, drop, set, ltb, eqb}
use Rattle.model.specs.{ValueSets.least, Lists.both, Lists.either, Lists.choose, Lists.at, Verdict.Verdict, Verdict.ask, Verdict.is_accepted, Sheet.«word», Bytes.two_bytes, Written.placed}
use Rattle.model.specs.declared.{refusals.Question.Question}
use Rattle.model.specs.declared.refusals.Question.TheVariants as question
use Rattle.store.specs.Store.{none, table, Store, put, fetch, remove, StoreCall, call, call_verdict, StoreReply, reply_of, size}

-- ---- what the bytes mean
-- where slot i of an owner starts
abbrev pub slot_at : ℕ → ℕ → ℕ
slot_at owner i = 8208 * owner + 2052 * i

-- the slot that starts at p holds the key
unfoldable pub holds : List ℕ → ℕ → ℕ → Bool
holds b key p = both (not (eqb (at b p) 0)) (eqb (at b (p + 1)) key)

-- its table: a length above 2,048 counts as 2,048
unfoldable pub table_at : List ℕ → ℕ → List ℕ
table_at b p = take (min 2048 («word» b (p + 2))) (drop (p + 4) b)

-- an owner's slot for a key: of two slots with one key the first counts; 4 where none has it
unfoldable pub slot_with : List ℕ → ℕ → ℕ → ℕ
slot_with b owner key = least 4 (λ i. holds b key (slot_at owner i))

-- a slot of four, none where there is no such
abbrev pub slot_in : ℕ → Option ℕ
slot_in k = choose (ltb k 4) (Some k) None

unfoldable pub store_of : List ℕ → Store
store_of b owner key = choose (both (ltb owner 4) (ltb (slot_with b owner key) 4)) (table (table_at b (slot_at owner (slot_with b owner key)))) none

-- ---- the bytes that an accepted call leaves
-- a slot is free where it holds nothing, or the key of an earlier slot
unfoldable pub is_free : List ℕ → ℕ → ℕ → Bool
is_free b owner i = either (eqb (at b (slot_at owner i)) 0) (ltb (slot_with b owner (at b (slot_at owner i + 1))) i)

-- a table goes to the slot of its key, else to the first free one
unfoldable pub slot_for : List ℕ → ℕ → ℕ → ℕ
slot_for b owner key = choose (ltb (slot_with b owner key) 4) (slot_with b owner key) (least 4 (is_free b owner))

unfoldable pub slot_bytes : ℕ → List ℕ → List ℕ
slot_bytes key t = (1 ∷ key ∷ two_bytes (length t)) ++ t

-- the flags of an owner's first n slots set to 0 where they hold the key
unfoldable pub freed : List ℕ → ℕ → ℕ → ℕ → List ℕ
freed b owner key zero = b
freed b owner key (suc i) =
    let c = freed b owner key i in
    choose (holds c key (slot_at owner i)) (set c (slot_at owner i) 0) c

abbrev pub changed : List ℕ → StoreCall → List ℕ
changed b (call owner key (put t)) = placed b (slot_at owner (slot_for b owner key)) (slot_bytes key t)
changed b (call owner key (fetch room)) = b
changed b (call owner key remove) = freed b owner key 4

-- the questions that are put to every call first: 255 of the bytes' length, then 31 of the owner
abbrev pub asked_first : ℕ → ℕ → Result Unit Question
asked_first long owner = choose (eqb long size) (choose (ltb owner 4) (Ok tt) (Err question.Owner)) (Err question.BufferLength)

-- ---- a call on lent bytes of any length: asked first, refusal 255 where they have not the store's size
unfoldable pub verdict_on : List ℕ → StoreCall → Verdict
verdict_on b x = ask (eqb (length b) size) 255 0 (call_verdict (store_of b) x)

unfoldable pub reply_on : List ℕ → StoreCall → StoreReply
reply_on b (call owner key a) = reply_of (verdict_on b (call owner key a)) a (store_of b owner key)

unfoldable pub bytes_after : List ℕ → StoreCall → List ℕ
bytes_after b x = choose (is_accepted (verdict_on b x)) (changed b x) b
