-- What is answered about a position: past the last, short of room, and else. Assumes nothing.
use Rattle.model.specs.Kit.{◌≡◌, sym, ap, ◌∙◌, Bool, List, ℕ, ◌≤◌, ◌<◌, leb, length, lt-ltb, le-ltb, lt-leb, le-leb}
use Rattle.model.specs.{Verdict.Verdict, Verdict.accepted, Verdict.refused, Verdict.ask, Room.wrote, Room.refusal, Room.outcome_of, Room.room_after, Written.Fronted}
use Rattle.model.proofs.Room.{wrote_out}
use Rattle.sheet_small.specs.{Small.small_sheets, Answers.sheet_at, Answers.position_verdict, Answers.small_outcome, Answers.small_room}

module _ (k : ℕ) (room : List ℕ) where
  refused_so : (number : ℕ) → position_verdict k room ≡ refused number 0 → (refusal number 0 ≡ small_outcome k room) × (room ≡ small_room k room)
  unfolding small_outcome small_room
  refused_so number e = (sym (ap (λ (v : Verdict). outcome_of v (sheet_at k)) e), sym (ap (λ (v : Verdict). room_after v (sheet_at k) room) e))

  pub past_last : length small_sheets ≤ k → (refusal 39 0 ≡ small_outcome k room) × (room ≡ small_room k room)
  unfolding position_verdict
  past_last h = refused_so 39 (ap (λ (b : Bool). ask b 39 0 (ask (leb 52 (length room)) 40 0 accepted)) (le-ltb k (length small_sheets) h))

  module _ (h : k < length small_sheets) where
    room_asked : position_verdict k room ≡ ask (leb 52 (length room)) 40 0 accepted
    unfolding position_verdict
    room_asked = ap (λ (b : Bool). ask b 39 0 (ask (leb 52 (length room)) 40 0 accepted)) (lt-ltb k (length small_sheets) h)

    pub short_room : length room < 52 → (refusal 40 0 ≡ small_outcome k room) × (room ≡ small_room k room)
    short_room l = refused_so 40 (room_asked ∙ ap (λ (b : Bool). ask b 40 0 accepted) (lt-leb 52 (length room) l))

    pub sheet_written : (after : List ℕ) (n : ℕ) → 52 ≤ length room → Fronted room (sheet_at k) after n → (wrote n ≡ small_outcome k room) × (after ≡ small_room k room)
    unfolding small_outcome small_room
    sheet_written after n l w =
        wrote_out (position_verdict k room) (sheet_at k) room after n (room_asked ∙ ap (λ (b : Bool). ask b 40 0 accepted) (le-leb 52 (length room) l)) w.bytes w.count
