-- Calls of `put`, `fetch` and `remove`: the store's bytes, owner and key, the table or the room as it came, the answer, and the bytes at the end. Each is
-- the function's contract. And paper 02, #110, of what the owners hold who make calls one after another; proofs/Isolated has the theorem.
use Rattle.std.specs.Prelude.{◌≡◌, Result, List, [], ◌∷◌, ℕ, ◌<◌, length, replicate, eqb}
use Rattle.model.specs.Kit.{Memᴰ}
use Rattle.model.specs.{Lists.at, Lists.choose, Room.refusal}
use Rattle.store.specs.Store.{empty_store, Action, StoreCall, call, put, fetch, remove, store_after, room_in, reply_to, calls_of, size}
use Rattle.store.specs.{Inner.Layout.store_of, Inner.Layout.reply_on, Inner.Layout.bytes_after, Meaning.means, Meaning.means_bytes, Meaning.with_none}
use Rattle.model.specs.declared.{refusals.Question.Question}

abbrev pub CallPut : List ℕ → ℕ → ℕ → List ℕ → Result Unit Question → List ℕ → Type 0
CallPut b owner key t r b' =
    (means r ≡ (reply_on b (call owner key (put t))).outcome)
    × ((b' ≡ bytes_after b (call owner key (put t))) × (length b ≡ size → store_of b' ≡ store_after (store_of b) (call owner key (put t))))

abbrev pub CallFetch : List ℕ → ℕ → ℕ → List ℕ → Result ℕ Question → List ℕ → Type 0
CallFetch b owner key room r room' = (means_bytes r ≡ (reply_on b (call owner key (fetch room))).outcome) × (room' ≡ (reply_on b (call owner key (fetch room))).room)

abbrev pub CallRemove : List ℕ → ℕ → ℕ → Result Unit Question → List ℕ → Type 0
CallRemove b owner key r b' =
    (means r ≡ (reply_on b (call owner key remove)).outcome)
    × ((b' ≡ bytes_after b (call owner key remove)) × (length b ≡ size → store_of b' ≡ store_after (store_of b) (call owner key remove)))

-- bytes of the store's size, and calls whose key and table are bytes
abbrev pub StoreBytes : List ℕ → Type 0
StoreBytes b = (length b ≡ size) × ((i : ℕ) → at b i < 256)

abbrev pub ByteCall : StoreCall → Type 0
ByteCall (call owner key (put t)) = (key < 256) × ((i : ℕ) → at t i < 256)
ByteCall (call owner key (fetch room)) = key < 256
ByteCall (call owner key remove) = key < 256

abbrev pub ByteCalls : List StoreCall → Type 0
ByteCalls xs = (x : StoreCall) → Memᴰ x xs → ByteCall x

-- zeros are the empty store
abbrev pub ZerosEmpty : Type 0
ZerosEmpty = StoreBytes (replicate size 0) × (store_of (replicate size 0) ≡ empty_store)

-- each call on bytes is the call on the store that they mean
abbrev pub EachCall : Type 0
EachCall =
    (b : List ℕ) (x : StoreCall) → StoreBytes b → ByteCall x →
    (reply_on b x ≡ reply_to (store_of b) x) × (store_of (bytes_after b x) ≡ store_after (store_of b) x) × StoreBytes (bytes_after b x)

-- bytes of another length get 255, and every buffer stays as it came
abbrev pub OtherSize : Type 0
OtherSize =
    (b : List ℕ) (owner key : ℕ) (a : Action) → (length b ≡ size → ⊥) →
    (reply_on b (call owner key a) ≡ record { outcome = refusal 255 0; room = room_in a }) × (bytes_after b (call owner key a) ≡ b)

-- ---- calls one after another, of any owners
-- what a call handed back: its answer, and the room at the end; put and remove write no bytes, and no room is lent to them
pub record Got : Type 0 where
  pub answer : Result ℕ Question
  pub room : List ℕ

-- one more that owner o got, if the call was its own
abbrev pub own : ℕ → ℕ → Got → List Got → List Got
own o owner g gs = choose (eqb owner o) (g ∷ gs) gs

-- from the bytes b on these calls were made, and o got this back
pub data Called (o : ℕ) : List ℕ → List StoreCall → List Got → Type 0 where
  none : (b : List ℕ) → Called o b [] []
  puts : (b b' : List ℕ) (owner key : ℕ) (t : List ℕ) (r : Result Unit Question) (xs : List StoreCall) (gs : List Got) → CallPut b owner key t r b' → Called o b' xs gs →
      Called o b (call owner key (put t) ∷ xs) (own o owner (record { answer = with_none r; room = [] }) gs)
  fetches : (b : List ℕ) (owner key : ℕ) (room : List ℕ) (r : Result ℕ Question) (room' : List ℕ) (xs : List StoreCall) (gs : List Got) → CallFetch b owner key room r room' → Called o b xs gs →
      Called o b (call owner key (fetch room) ∷ xs) (own o owner (record { answer = r; room = room' }) gs)
  removes : (b b' : List ℕ) (owner key : ℕ) (r : Result Unit Question) (xs : List StoreCall) (gs : List Got) → CallRemove b owner key r b' → Called o b' xs gs →
      Called o b (call owner key remove ∷ xs) (own o owner (record { answer = with_none r; room = [] }) gs)

-- what an owner gets back depends only on its own calls: two sequences with the same calls of one owner, all else changed at will, on the bytes of any two
-- stores in which it has the same entries
abbrev pub IsolatedCalls : Type 0
IsolatedCalls =
    (o : ℕ) (b b' : List ℕ) (xs ys : List StoreCall) (gs hs : List Got) → StoreBytes b → StoreBytes b' → ByteCalls xs → ByteCalls ys →
    Called o b xs gs → Called o b' ys hs → store_of b o ≡ store_of b' o → calls_of o xs ≡ calls_of o ys → gs ≡ hs
