-- One list from two runs (paper 02, #106 with #108 and #111), of what two callers of `run_lent` and one of `merge` hold: two sheets for the same number
-- of places, both lent the same pairs and block, whatever the endings. proofs/EitherCalls has the theorem.
use Rattle.std.specs.Prelude.{◌≡◌, ◌⊎◌, ◌↔◌, List, ℕ, ◌+◌, ◌*◌, ◌≤◌, T, length, take, drop, Result, Ok, Err}
use Rattle.model.specs.Kit.{Memᴰ}
use Rattle.model.specs.{Sheet.problem_of, Room.rows_in, Run.plans_in, Claims.Leader}
use Rattle.order.specs.Reordered.{earlier_by}
use Rattle.run_input.specs.Lent.{problem_with, order_lent}
use Rattle.list_merge.specs.{Merge.ascends, Calls.CallMerge}
use Rattle.run_state.specs.{declared.Tally.Tally, Meaning.ending_of, declared.Ending.Ending, declared.Ending.TheVariants.Finished}
use Rattle.run.specs.{Calls.CallLent}
use Rattle.model.specs.{Refusals.number_of, declared.refusals.Question.Question}
use Rattle.promises.specs.DemandsLent.{plans_from}

-- how many plans an ending counts
abbrev pub plans_of : Ending → ℕ
plans_of e = plans_in (ending_of e)

-- the bytes of the plans in a caller's list
abbrev pub plans_bytes : List ℕ → Ending → List ℕ → List ℕ
plans_bytes b e after = take (plans_of e * (problem_of b).variables) after

-- a row stands in the merged list: among the first k bytes of the room
abbrev pub InMerged : List ℕ → ℕ → List ℕ → List ℕ → Type 0
InMerged b k room s = Memᴰ s (rows_in (problem_of b).variables (take k room))

-- sheets b and c, endings e and e₂, lists after and after₂; the room as it came and at the end, the answer r
pub record EitherHeld (b c pairs block : List ℕ) (e e₂ : Ending) (after after₂ room : List ℕ) (r : Result ℕ Question) (room' : List ℕ) : Type 0 where
  -- the lists of two runs are never refused by 24, 28 to 30, 25 or 26: a refusal is 27, and the room is as it came ..
  pub only_27 : (q : Question) → r ≡ Err q → (number_of q ≡ 27) × (room' ≡ room)
  -- .. and there is none where the room has as many bytes as both lists
  pub roomy : plans_of e * (problem_of b).variables + plans_of e₂ * (problem_of b).variables ≤ length room → (k : ℕ) × (r ≡ Ok k)
  -- what is written: the plans in either list, exactly, ascending in the order of the runs, so each once; the bytes behind as they came
  pub holds : (k : ℕ) → r ≡ Ok k → (s : List ℕ) → InMerged b k room' s ↔ (Memᴰ s (plans_from b (plans_of e) after) ⊎ Memᴰ s (plans_from c (plans_of e₂) after₂))
  pub ascend : (k : ℕ) → r ≡ Ok k → T (ascends (order_lent b pairs) (rows_in (problem_of b).variables (take k room')))
  pub rest : (k : ℕ) → r ≡ Ok k → drop k room' ≡ drop k room
  -- where both runs finished: the plans good under at least one of the two sheets, exactly
  pub either : (plans nodes plans₂ nodes₂ : ℕ) → e ≡ Finished plans nodes → e₂ ≡ Finished plans₂ nodes₂ → (k : ℕ) → r ≡ Ok k →
      (s : List ℕ) → InMerged b k room' s ↔ (Leader (earlier_by (order_lent b pairs)) (problem_with b block) s ⊎ Leader (earlier_by (order_lent c pairs)) (problem_with c block) s)

abbrev pub EitherCalls : Type 0
EitherCalls =
    (b c pairs block : List ℕ) → (problem_of c).variables ≡ (problem_of b).variables →
    (limit : ℕ) (out : List ℕ) (tally : Tally) (e : Ending) (after : List ℕ) (tally' : Tally) → CallLent b pairs block limit out tally (Ok e) after tally' →
    (limit₂ : ℕ) (out₂ : List ℕ) (tally₂ : Tally) (e₂ : Ending) (after₂ : List ℕ) (tally₂' : Tally) → CallLent c pairs block limit₂ out₂ tally₂ (Ok e₂) after₂ tally₂' →
    (room : List ℕ) (r : Result ℕ Question) (room' : List ℕ) → CallMerge (problem_of b).variables pairs (plans_bytes b e after) (plans_bytes c e₂ after₂) room r room' →
    EitherHeld b c pairs block e e₂ after after₂ room r room'
