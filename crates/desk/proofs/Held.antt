-- The contracts of `submit`, `status` and `release` (specs/Calls, specs/StatusCalls) from what is shown of the replies and the bytes. Assumes nothing.
use Rattle.model.specs.Kit.{◌≡◌, sym, subst, List, ℕ}
use Rattle.std.proofs.Common.{Result, Err}
use Rattle.model.specs.{Refusals.number_of, declared.refusals.Question.Question, declared.refusals.Refusal.Refusal}
use Rattle.desk.specs.{Queue.refusal, Meaning.means_queued, Meaning.means_released, Meaning.means_status, Meaning.counts_of, Calls.SubmitDone, Calls.ReleaseDone, StatusCalls.StatusDone}
use Rattle.desk.specs.declared.SlotStatus.{SlotStatus}
use Rattle.desk.proofs.Slots.{Submits, Seen, Releasing}

pub submit_done : {b sheet : List ℕ} {limit : ℕ} {c : List ℕ} {r : Result ℕ Refusal} → Submits b sheet limit (means_queued r) c → SubmitDone b sheet limit c r
submit_done h = record { answers = h.0; leaves = h.1 }

-- refused by a question that is asked once
pub submit_stopped : {b sheet : List ℕ} {limit : ℕ} {c : List ℕ} {q : Question} {by : Refusal} → by ≡ record { question = q; item = 0 } → Submits b sheet limit (refusal (number_of q) 0) c →
    SubmitDone b sheet limit c (Err by)
submit_stopped {b} {sheet} {limit} {c} e h = submit_done (subst (λ (r : Refusal). Submits b sheet limit (means_queued (Err r)) c) (sym e) h)

pub status_done : {b : List ℕ} {slot : ℕ} {r : Result SlotStatus Question} → Seen b slot (means_status r) (counts_of r) → StatusDone b slot r
status_done h = record { answers = h.0; counts = h.1 }

pub release_done : {b : List ℕ} {slot : ℕ} {room c after : List ℕ} {r : Result ℕ Question} → Releasing b slot room (means_released r after) after c → ReleaseDone b slot room c after r
release_done h = record { answers = h.0; leaves = h.1.1; writes = h.1.0 }
