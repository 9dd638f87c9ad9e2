-- Rounds of a queue of eight slots as the code goes them: each slot gets its turns at once. The proofs are in proofs/Rounds.
use Rattle.std.specs.Prelude.{◌≡◌, List, [], ◌∷◌, map, ℕ, ◌+◌, ◌%◌, length, leb, ltb}
use Rattle.model.specs.Lists.{both, choose}
use Rattle.desk.specs.{Queue.Slot, Queue.free, Queue.taken, Queue.Queue, Queue.slot_at, Queue.round_from, Rounds.due_at, Rounds.given, Rounds.rounds_queue}

abbrev pub slot_given : ℕ → Slot → Slot
slot_given r free = free
slot_given r (taken h) = taken (given r h)

-- where the turn after them begins to look. The turns go round and round, so the slot served last is, of those that take the most turns, the last
-- of the round: going round, each slot that takes a turn, and no fewer than those before it, is the last one served so far
unfoldable pub behind_last : (ℕ → ℕ) → List ℕ → ℕ → ℕ → ℕ
behind_last turns [] best next = next
behind_last turns (k ∷ ks) best next =
    choose (both (ltb 0 (turns k)) (leb best (turns k))) (behind_last turns ks (turns k) ((k + 1) % 8)) (behind_last turns ks best next)

abbrev pub rounds_at_once : Queue → ℕ → Queue
rounds_at_once d r = record { slots = map (slot_given r) d.slots; next = behind_last (λ k. due_at r (slot_at d k)) (round_from d.next) 0 d.next }

-- that is the queue after so many turns one by one; any queue that calls have made of the empty one has eight slots
abbrev pub AtOnce : Type 0
AtOnce = (d : Queue) (r : ℕ) → length d.slots ≡ 8 → rounds_at_once d r ≡ rounds_queue d r
