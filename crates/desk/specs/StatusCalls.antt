-- What callers of `status` hold: the contract, and what it says of the bytes. b are the queue's bytes, r came back.
use Rattle.std.specs.Prelude.{◌≡◌, List, ℕ, Result, length}
use Rattle.model.specs.declared.{refusals.Question.Question}
use Rattle.desk.specs.{Queue.refusal, Queue.size, Status.status_reply, Status.no_counts, Status.status_counts, Inner.Layout.queue_of, Inner.Layout.status_on, Inner.Layout.counts_on}
use Rattle.desk.specs.{Meaning.means_status, Meaning.counts_of, declared.SlotStatus.SlotStatus}

pub record StatusDone (b : List ℕ) (slot : ℕ) (r : Result SlotStatus Question) : Type 0 where
  pub answers : means_status r ≡ status_on b slot
  pub counts : counts_of r ≡ counts_on b slot

-- the status on bytes is that of the queue that they mean
abbrev pub StatusCall : Type 0
StatusCall = (b : List ℕ) (k : ℕ) → length b ≡ size → (status_on b k ≡ status_reply (queue_of b) k) × (counts_on b k ≡ status_counts (queue_of b) k)

-- bytes of another length get 255
abbrev pub StatusOtherSize : Type 0
StatusOtherSize = (b : List ℕ) (k : ℕ) → (length b ≡ size → ⊥) → (status_on b k ≡ refusal 255 0) × (counts_on b k ≡ no_counts)
