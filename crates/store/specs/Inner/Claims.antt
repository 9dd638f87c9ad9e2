-- What else holds of the store: paper 02, #110, in words about the definitions. Calls of any owners (the paper's courses) are made one after another on one
-- store. What callers may rely on is in specs/Calls.
use Rattle.std.specs.Prelude.{List, [], ◌∷◌, ℕ, eqb, ◌≡◌, ◌⊎◌, Bool, true, false, not, ◌++◌, map, ◌+◌, ◌*◌, ◌≤◌, ◌<◌, length, drop, T, leb}
use Rattle.model.specs.{Lists.choose, Lists.both, Lists.below, Verdict.Verdict, Verdict.accepted, Verdict.refused, Verdict.ask, Verdict.is_accepted, Sheet.words, Sheet.header_of, Sheet.problem_of}
use Rattle.model.specs.{Sheet.symmetries_verdict, Sheet.verdict_of}
use Rattle.store.specs.Store.{Store, StoreCall, call_verdict, store_after, StoreReply, reply_of, owner_of, call, none, table, is_table, empty_store, keys_of, Action, put, fetch, remove, calls_of}
use Rattle.store.specs.Store.{reply_to, size}
use Rattle.store.specs.{Inner.Layout.store_of, Inner.Layout.reply_on, Inner.Layout.bytes_after, Calls.StoreBytes, Calls.ByteCalls}

-- ---- calls one after another
unfoldable pub store_end : Store → List StoreCall → Store
store_end s [] = s
store_end s (x ∷ xs) = store_end (store_after s x) xs

unfoldable pub replies_to : ℕ → Store → List StoreCall → List StoreReply
replies_to o s [] = []
replies_to o s (x ∷ xs) =
    let later = replies_to o (store_after s x) xs in
    choose (eqb (owner_of x) o) (reply_to s x ∷ later) later

-- ---- the store
-- what an owner gets back depends only on its own calls: two sequences of calls with the same calls of one owner, all else changed at will,
-- give it the same replies, on any two stores in which it has the same entries
abbrev pub Isolated : Type 0
Isolated = (o : ℕ) (s s' : Store) (xs ys : List StoreCall) → s o ≡ s' o → calls_of o xs ≡ calls_of o ys → replies_to o s xs ≡ replies_to o s' ys

-- a call that can change an entry
abbrev pub writes : Action → Bool
writes (put t) = true
writes (fetch room) = false
writes remove = true

-- the call leaves the entry under an owner and a key: it is made elsewhere, or refused, or a fetch
abbrev pub spares : ℕ → ℕ → Store → StoreCall → Bool
spares o k s (call owner key a) = not (both (both (eqb owner o) (eqb key k)) (both (is_accepted (call_verdict s (call owner key a))) (writes a)))

unfoldable pub all_spare : ℕ → ℕ → Store → List StoreCall → Bool
all_spare o k s [] = true
all_spare o k s (x ∷ xs) = both (spares o k s x) (all_spare o k (store_after s x) xs)

-- a fetch gives what the owner last put there and did not drop; 35 where the room is short
abbrev pub FetchesLast : Type 0
FetchesLast =
    (o k : ℕ) (xs ys : List StoreCall) (t room : List ℕ) →
    call_verdict (store_end empty_store xs) (call o k (put t)) ≡ accepted →
    T (all_spare o k (store_after (store_end empty_store xs) (call o k (put t))) ys) →
    reply_to (store_end empty_store (xs ++ (call o k (put t) ∷ ys))) (call o k (fetch room)) ≡ reply_of (ask (leb (length t) (length room)) 35 0 accepted) (fetch room) (table t)

-- and 34 where it put nothing there, or dropped it since
abbrev pub FetchesNone : Type 0
FetchesNone =
    (o k : ℕ) (room : List ℕ) → o < 4 →
    ((ys : List StoreCall) → T (all_spare o k empty_store ys) → reply_to (store_end empty_store ys) (call o k (fetch room)) ≡ reply_of (refused 34 0) (fetch room) none)
    × ((xs ys : List StoreCall) → call_verdict (store_end empty_store xs) (call o k remove) ≡ accepted →
    T (all_spare o k (store_after (store_end empty_store xs) (call o k remove)) ys) →
    reply_to (store_end empty_store (xs ++ (call o k remove ∷ ys))) (call o k (fetch room)) ≡ reply_of (refused 34 0) (fetch room) none)

-- an owner never has more than four keys, and can always have four: with fewer, and for a key that it has, a table of at most 2,048 bytes is taken
abbrev pub FourKeys : Type 0
FourKeys =
    (xs : List StoreCall) (o : ℕ) →
    (length (keys_of (store_end empty_store xs o)) ≤ 4)
    × ((k : ℕ) (t : List ℕ) → o < 4 → length t ≤ 2048 → (length (keys_of (store_end empty_store xs o)) < 4) ⊎ T (is_table (store_end empty_store xs o k)) →
    call_verdict (store_end empty_store xs) (call o k (put t)) ≡ accepted)

-- a refused call leaves the store
abbrev pub RefusedSame : Type 0
RefusedSame = (s : Store) (x : StoreCall) (number item : ℕ) → call_verdict s x ≡ refused number item → store_after s x ≡ s

-- calls one after another on bytes, and what those of one owner give back
unfoldable pub bytes_end : List ℕ → List StoreCall → List ℕ
bytes_end b [] = b
bytes_end b (x ∷ xs) = bytes_end (bytes_after b x) xs

unfoldable pub replies_on : ℕ → List ℕ → List StoreCall → List StoreReply
replies_on o b [] = []
replies_on o b (x ∷ xs) =
    let later = replies_on o (bytes_after b x) xs in
    choose (eqb (owner_of x) o) (reply_on b x ∷ later) later

-- so all that is said of the store above holds of its bytes
abbrev pub AllCalls : Type 0
AllCalls =
    (b : List ℕ) (xs : List StoreCall) → StoreBytes b → ByteCalls xs →
    (store_of (bytes_end b xs) ≡ store_end (store_of b) xs) × ((o : ℕ) → replies_on o b xs ≡ replies_to o (store_of b) xs) × StoreBytes (bytes_end b xs)

abbrev pub IsolatedBytes : Type 0
IsolatedBytes =
    (o : ℕ) (b b' : List ℕ) (xs ys : List StoreCall) → StoreBytes b → StoreBytes b' → ByteCalls xs → ByteCalls ys →
    store_of b o ≡ store_of b' o → calls_of o xs ≡ calls_of o ys → replies_on o b xs ≡ replies_on o b' ys

-- ---- fetched tables in a sheet
-- an answer given before question 14
abbrev pub Early : Verdict → Type 0
Early accepted = ⊥
Early (refused number item) = number ≤ 13

-- g tables of m numbers, one after another
abbrev pub tables_in : List ℕ → ℕ → ℕ → List (List ℕ)
tables_in t m g = map (λ i. words t (2 * (i * m)) m) (below g)

-- A sheet's bytes are a front, up to the third offset, and room behind it. A table that is fetched into this room stands at the third offset, and the
-- sheet's verdict is that of an earlier question, or that of 14, 15 and 16 put to what stands there
abbrev pub AskedAsAny : Type 0
AskedAsAny =
    (b : List ℕ) (owner key : ℕ) (front room t : List ℕ) →
    length b ≡ size → owner < 4 → store_of b owner key ≡ table t → length t ≤ length room → 16 ≤ length front → (header_of (front ++ room)).third ≡ length front →
    let sheet = front ++ (reply_on b (call owner key (fetch room))).room in
    let behind = t ++ drop (length t) room in
    let h = header_of sheet in
    let m = h.variables * h.values in
    (sheet ≡ front ++ behind)
    × (Early (verdict_of sheet)
    ⊎ (verdict_of sheet ≡ ask (eqb h.size (h.third + 2 * (h.symmetries * m))) 14 0 (symmetries_verdict (problem_of sheet) 0 (tables_in behind m h.symmetries))))
