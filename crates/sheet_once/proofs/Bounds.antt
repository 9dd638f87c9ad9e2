-- What callers need of an outcome: a refusal's item is 0, and no more than 52 bytes are written. Assumes nothing.
use Rattle.model.specs.Kit.{◌≡◌, refl, Bool, true, false, List, ℕ, ◌≤◌, arith, ltb, leb, length, ltb-true}
use Rattle.model.specs.{Verdict.accepted, Verdict.ask, Room.wrote, Room.refusal, Room.outcome_of}
use Rattle.model.proofs.Lists.{never}
use Rattle.sheet_small.specs.{Small.small_sheets, Answers.sheet_at, Answers.position_verdict, Answers.small_outcome}
use Rattle.sheet_once.proofs.Claims.{room_enough}

pub refusal_item : (k : ℕ) (room : List ℕ) (number item : ℕ) → refusal number item ≡ small_outcome k room → item ≡ 0
unfolding small_outcome position_verdict
refusal_item k room number item = go (ltb k (length small_sheets)) (leb 52 (length room))
  where
    go : (a b : Bool) → refusal number item ≡ outcome_of (ask a 39 0 (ask b 40 0 accepted)) (sheet_at k) → item ≡ 0
    go true true e = never (cc)
    go true false e = cc
    go false b e = cc

pub wrote_few : (k : ℕ) (room : List ℕ) (n : ℕ) → wrote n ≡ small_outcome k room → n ≤ 52
unfolding small_outcome position_verdict sheet_at
wrote_few k room n = go (ltb k (length small_sheets)) refl (leb 52 (length room))
  where
    go : (a : Bool) → ltb k (length small_sheets) ≡ a → (b : Bool) → wrote n ≡ outcome_of (ask a 39 0 (ask b 40 0 accepted)) (sheet_at k) → n ≤ 52
    go true h true e =
        let l : n ≡ length (sheet_at k) = cc in
        omega (arith, room_enough (sheet_at k) k (ltb-true k (length small_sheets) h, refl))
    go true h false e = never (cc)
    go false h b e = never (cc)
