-- What callers of planner_question and planner_run hold: the code that comes back, the list and the twelve bytes of the answer, as they came and at the
-- end. proofs/Exported has the theorems.
use Rattle.std.specs.Prelude.{◌≡◌, ◌↔◌, List, ℕ, ◌+◌, ◌*◌, length, Ok}
use Rattle.model.specs.{Verdict.accepted, Verdict.refused, Sheet.verdict_of}
use Rattle.export_run.specs.Calls.{CallCode, CallExported}
use Rattle.run.specs.{Calls.CallRun}
use Rattle.promises.specs.Demands.{of_sheet, AtEnd, AtFinish}
use Rattle.run_state.specs.{declared.Ending.Ending, declared.Ending.TheVariants.Finished, declared.Ending.TheVariants.Spent, declared.Ending.TheVariants.Full}
use Rattle.wire.specs.Wire.{wrong_length, four_at}

-- 0 exactly for an accepted sheet, else the number and item of the first "no"
pub record CodeHeld (b : List ℕ) (code : ℕ) : Type 0 where
  pub accepts : (code ≡ 0) ↔ (verdict_of b ≡ accepted)
  pub refuses : (number item : ℕ) → verdict_of b ≡ refused number item → code ≡ number * 256 + item

abbrev pub QuestionCode : Type 0
QuestionCode = (b : List ℕ) (code : ℕ) → CallCode b code → CodeHeld b code

-- twelve bytes tell an ending: 1, 2 or 3, the plans, the nodes
abbrev pub Tells : List ℕ → Ending → Type 0
Tells l (Finished plans nodes) = (four_at l 0 ≡ 1) × (four_at l 4 ≡ plans) × (four_at l 8 ≡ nodes)
Tells l (Spent plans nodes) = (four_at l 0 ≡ 2) × (four_at l 4 ≡ plans) × (four_at l 8 ≡ nodes)
Tells l (Full plans nodes) = (four_at l 0 ≡ 3) × (four_at l 4 ≡ plans) × (four_at l 8 ≡ nodes)

pub record ExportedHeld (b : List ℕ) (limit : ℕ) (list answer : List ℕ) (code : ℕ) (list' answer' : List ℕ) : Type 0 where
  -- an answer that has not twelve bytes, and a refused sheet: the code, and every byte as it came
  pub unfit : (length answer ≡ 12 → ⊥) → (code ≡ wrong_length) × (list' ≡ list) × (answer' ≡ answer)
  pub refuses : length answer ≡ 12 → (number item : ℕ) → verdict_of b ≡ refused number item → (code ≡ number * 256 + item) × (list' ≡ list) × (answer' ≡ answer)
  -- else the code is 0, and only then
  pub ends : (length answer ≡ 12) × (verdict_of b ≡ accepted) → code ≡ 0
  pub zero : code ≡ 0 → (length answer ≡ 12) × (verdict_of b ≡ accepted)
  -- code 0: the bytes tell an ending of a call of `run` with this list, so that all of `Demands` holds of it ..
  pub called : code ≡ 0 → (e : Ending) × Tells answer' e × CallRun b limit list (Ok e) list'
  -- .. demand 2 for every ending, and demands 2 and 3 where the first number is 1: the second number of plans stands at the front of the list
  pub at_end : code ≡ 0 → (e : Ending) × Tells answer' e × AtEnd (of_sheet b) limit list e list'
  pub at_finish : code ≡ 0 → four_at answer' 0 ≡ 1 → AtFinish (of_sheet b) (four_at answer' 4) list'

abbrev pub Exported : Type 0
Exported = (b : List ℕ) (limit : ℕ) (list answer : List ℕ) (code : ℕ) (list' answer' : List ℕ) → CallExported b limit list answer code list' answer'
    → ExportedHeld b limit list answer code list' answer'
