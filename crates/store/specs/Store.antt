-- The symmetry store (paper 02, #110: the store of exchange tables): tables under an owner (the paper's course) and a key (its hall), the three
-- calls, what each gives back and the store that it leaves.
use Rattle.std.specs.Prelude.{Bool, true, false, List, [], ℕ, length, leb, ltb, eqb}
use Rattle.model.specs.Lists.{keep, below, both, either, choose}
use Rattle.model.specs.{Verdict.Verdict, Verdict.accepted, Verdict.ask, Verdict.is_accepted, Room.Outcome, Room.outcome_of, Room.room_after}

-- ---- the store
-- what stands under an owner and a key
pub data StoreEntry : Type 0 where
  none : StoreEntry
  table : List ℕ → StoreEntry

abbrev pub is_table : StoreEntry → Bool
is_table none = false
is_table (table t) = true

abbrev pub table_in : StoreEntry → List ℕ
table_in none = []
table_in (table t) = t

-- an owner's entries by key, and a store: the entries by owner
abbrev pub Entries : Type 0
Entries = ℕ → StoreEntry

abbrev pub Store : Type 0
Store = ℕ → Entries

abbrev pub empty_store : Store
empty_store owner key = none

-- the keys under which an owner has a table; a key is one byte
unfoldable pub keys_of : Entries → List ℕ
keys_of es = keep (λ key. is_table (es key)) (below 256)

-- ---- a call
-- put a table; fetch a copy into lent room; remove (the paper's drop)
pub data Action : Type 0 where
  put : List ℕ → Action
  fetch : List ℕ → Action
  remove : Action

-- at an owner and a key
pub data StoreCall : Type 0 where
  call : ℕ → ℕ → Action → StoreCall

-- the questions after 31, given the owner's entries
unfoldable pub action_verdict : Entries → ℕ → Action → Verdict
action_verdict es key (put t) =
    ask (leb (length t) 2048) 33 0
    (ask (either (is_table (es key)) (ltb (length (keys_of es)) 4)) 32 0
    accepted)
action_verdict es key (fetch room) =
    ask (is_table (es key)) 34 0
    (ask (leb (length (table_in (es key))) (length room)) 35 0
    accepted)
action_verdict es key remove = ask (is_table (es key)) 34 0 accepted

unfoldable pub call_verdict : Store → StoreCall → Verdict
call_verdict s (call owner key a) = ask (ltb owner 4) 31 0 (action_verdict (s owner) key a)

-- the entry that an accepted call leaves in place of another
abbrev pub entry_after : Action → StoreEntry → StoreEntry
entry_after (put t) e = table t
entry_after (fetch room) e = e
entry_after remove e = none

-- the store after a call: only an accepted one changes it, and only under its owner and key
unfoldable pub store_after : Store → StoreCall → Store
store_after s (call owner key a) o k =
    choose (both (both (eqb owner o) (eqb key k)) (is_accepted (call_verdict s (call owner key a)))) (entry_after a (s o k)) (s o k)

-- what a call gives back: the number of bytes written to the lent room, or a refusal; and the room afterwards. None is lent to put and remove
pub record StoreReply : Type 0 where
  pub outcome : Outcome
  pub room : List ℕ

abbrev pub copied_out : Action → StoreEntry → List ℕ
copied_out (put t) e = []
copied_out (fetch room) e = table_in e
copied_out remove e = []

abbrev pub room_in : Action → List ℕ
room_in (put t) = []
room_in (fetch room) = room
room_in remove = []

abbrev pub reply_of : Verdict → Action → StoreEntry → StoreReply
reply_of v a e = record { outcome = outcome_of v (copied_out a e); room = room_after v (copied_out a e) (room_in a) }

-- the reply of a store
unfoldable pub reply_to : Store → StoreCall → StoreReply
reply_to s (call owner key a) = reply_of (call_verdict s (call owner key a)) a (s owner key)

-- ---- calls one after another
abbrev pub owner_of : StoreCall → ℕ
owner_of (call owner key a) = owner

-- one owner's calls among those of all
unfoldable pub calls_of : ℕ → List StoreCall → List StoreCall
calls_of o xs = keep (λ x. eqb (owner_of x) o) xs

-- ---- its bytes: how many there are (Calls says what they mean)
abbrev pub size : ℕ
size = 32832
