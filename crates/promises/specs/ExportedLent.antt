-- What callers of planner_run_lent, planner_at_least and planner_closed hold: the code that comes back, the list and the bytes of the answer, as they came
-- and at the end. proofs/ExportedLent has the theorems.
use Rattle.std.specs.Prelude.{◌≡◌, List, ℕ, ◌+◌, ◌*◌, ◌<◌, length, Result, Ok, Err, Option, None, Some}
use Rattle.model.specs.{Lists.at, Verdict.accepted, Verdict.refused}
use Rattle.run_input.specs.Lent.{verdict_lent}
use Rattle.run_state.specs.{declared.Tally.Tally, declared.Ending.Ending}
use Rattle.run.specs.{Calls.CallLent, Calls.no_tally, Calls.CallEnough, declared.Enough.Enough}
use Rattle.promises.specs.{Demands.AtEnd, Demands.AtFinish, Demands.Tallied, DemandsLent.of_lent, EnoughCalls.EnoughHeld, Exported.Tells}
use Rattle.families_closed.specs.Calls.{CallClosed, ClosedHeld}
use Rattle.wire.specs.Wire.{wrong_length, four_at}
use Rattle.export_lent.specs.Calls.{CallRunBytes}
use Rattle.export_enough.specs.Calls.{CallEnoughBytes}
use Rattle.export_closed.specs.Calls.{CallClosedBytes}
use Rattle.run.specs.declared.Enough.TheVariants as N
use Rattle.families_closed.specs.declared.Missing.{Missing}
use Rattle.model.specs.{Refusals.number_of, declared.refusals.Refusal.Refusal}

-- the bytes from 12 on tell twelve counts, four bytes each
abbrev pub TellsCounts : List ℕ → Tally → Type 0
TellsCounts l t = (x : ℕ) → x < 12 → four_at l (12 + 4 * x) ≡ at t.counts x

pub record RunBytesHeld (b pairs block : List ℕ) (limit : ℕ) (list answer : List ℕ) (code : ℕ) (list' answer' : List ℕ) : Type 0 where
  -- an answer that has not sixty bytes, and a refusal: the code, and every byte as it came
  pub unfit : (length answer ≡ 60 → ⊥) → (code ≡ wrong_length) × (list' ≡ list) × (answer' ≡ answer)
  pub refuses : length answer ≡ 60 → (number item : ℕ) → verdict_lent b pairs block ≡ refused number item → (code ≡ number * 256 + item) × (list' ≡ list) × (answer' ≡ answer)
  -- the code is 0 only where neither is so
  pub zero : code ≡ 0 → (length answer ≡ 60) × (verdict_lent b pairs block ≡ accepted)
  -- then the bytes tell the ending and the counts of a call of `run_lent` with this list and a tally of nothing, so that all of
  -- `Demands` holds of it: demand 2 and the counts of every ending, demands 2 and 3 of a finished one
  pub ends : length answer ≡ 60 → verdict_lent b pairs block ≡ accepted →
      (code ≡ 0) × ((e : Ending) × (tally : Tally) × Tells answer' e × TellsCounts answer' tally × CallLent b pairs block limit list no_tally (Ok e) list' tally
      × AtEnd (of_lent b pairs block) limit list e list' × Tallied (of_lent b pairs block) e tally)
  -- the first number 1: demands 2 and 3; the second number of plans stands at the front of the list
  pub at_finish : length answer ≡ 60 → verdict_lent b pairs block ≡ accepted → four_at answer' 0 ≡ 1 → AtFinish (of_lent b pairs block) (four_at answer' 4) list'

abbrev pub RunBytes : Type 0
RunBytes =
    (b pairs block : List ℕ) (limit : ℕ) (list answer : List ℕ) (code : ℕ) (list' answer' : List ℕ) →
    CallRunBytes b pairs block limit list answer code list' answer' → RunBytesHeld b pairs block limit list answer code list' answer'

-- ---- planner_at_least: what was said, as a code and three numbers
abbrev pub SaidTold : Result Enough Refusal → List ℕ → ℕ → List ℕ → Type 0
SaidTold (Err by) answer code answer' = (code ≡ number_of by.question * 256 + by.item) × (answer' ≡ answer)
SaidTold (Ok (N.Yes plans made)) answer code answer' = (code ≡ 0) × (four_at answer' 0 ≡ 1) × (four_at answer' 4 ≡ plans) × (four_at answer' 8 ≡ made)
SaidTold (Ok (N.No plans made)) answer code answer' = (code ≡ 0) × (four_at answer' 0 ≡ 2) × (four_at answer' 4 ≡ plans) × (four_at answer' 8 ≡ made)
SaidTold (Ok (N.Spent plans made)) answer code answer' = (code ≡ 0) × (four_at answer' 0 ≡ 3) × (four_at answer' 4 ≡ plans) × (four_at answer' 8 ≡ made)

pub record EnoughBytesHeld (b pairs block : List ℕ) (m limit : ℕ) (answer : List ℕ) (code : ℕ) (answer' : List ℕ) : Type 0 where
  -- an answer that has not twelve bytes: the code, and every byte as it came
  pub unfit : (length answer ≡ 12 → ⊥) → (code ≡ wrong_length) × (answer' ≡ answer)
  -- else code and bytes tell what a call of `at_least` says, so that all of `EnoughHeld` holds of it
  pub called : length answer ≡ 12 → (r : Result Enough Refusal) × SaidTold r answer code answer' × CallEnough b pairs block limit m r × EnoughHeld b pairs block limit m r

abbrev pub EnoughBytes : Type 0
EnoughBytes =
    (b pairs block : List ℕ) (m limit : ℕ) (answer : List ℕ) (code : ℕ) (answer' : List ℕ) → CallEnoughBytes b pairs block m limit answer code answer' →
    EnoughBytesHeld b pairs block m limit answer code answer'

-- ---- planner_closed
abbrev pub ClosedTold : Result (Option Missing) Refusal → List ℕ → ℕ → List ℕ → Type 0
ClosedTold (Err by) answer code answer' = (code ≡ number_of by.question * 256 + by.item) × (answer' ≡ answer)
ClosedTold (Ok None) answer code answer' = (code ≡ 0) × (four_at answer' 0 ≡ 1)
ClosedTold (Ok (Some m)) answer code answer' = (code ≡ 0) × (four_at answer' 0 ≡ 2) × (four_at answer' 4 ≡ m.first) × (four_at answer' 8 ≡ m.second)

pub record ClosedBytesHeld (b pairs block answer : List ℕ) (code : ℕ) (answer' : List ℕ) : Type 0 where
  pub unfit : (length answer ≡ 12 → ⊥) → (code ≡ wrong_length) × (answer' ≡ answer)
  pub called : length answer ≡ 12 → (r : Result (Option Missing) Refusal) × ClosedTold r answer code answer' × CallClosed b pairs block r × ClosedHeld b pairs block r

abbrev pub ClosedBytes : Type 0
ClosedBytes = (b pairs block answer : List ℕ) (code : ℕ) (answer' : List ℕ) → CallClosedBytes b pairs block answer code answer' → ClosedBytesHeld b pairs block answer code answer'
