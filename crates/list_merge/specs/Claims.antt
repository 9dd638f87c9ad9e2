-- The claims of paper 02, #106, as statements about the definitions; proofs/Claimed has the proofs. That the merge of two runs' lists has the plans of
-- either, promises says of what callers hold.
use Rattle.std.specs.Prelude.{◌≡◌, ◌⊎◌, ◌↔◌, List, [], ℕ, T}
use Rattle.model.specs.Kit.{Memᴰ}
use Rattle.model.specs.{Lists.below, Lists.rows_ascend, Verdict.accepted, Room.rows_in}
use Rattle.order.specs.Order.{settling_order}
use Rattle.list_merge.specs.Merge.{ascends, merged_by, merged, merge_verdict}

-- the merged list holds exactly the rows of either
abbrev pub MergedExactly : Type 0
MergedExactly =
    (n : ℕ) (pairs a b : List ℕ) (room : ℕ) → merge_verdict n pairs a b room ≡ accepted → (r : List ℕ) →
    Memᴰ r (rows_in n (merged n pairs a b)) ↔ (Memᴰ r (rows_in n a) ⊎ Memᴰ r (rows_in n b))

-- it ascends strictly in the order, so each row stands in it once
abbrev pub Ascends : Type 0
Ascends =
    (n : ℕ) (pairs a b : List ℕ) (room : ℕ) → merge_verdict n pairs a b room ≡ accepted → T (ascends (settling_order n pairs) (rows_in n (merged n pairs a b)))

-- without pairs rows are compared by variable, and to ascend is what paper 01 asks of rows
pub record NothingLent (n : ℕ) (a b : List ℕ) : Type 0 where
  pub bytes : merged n [] a b ≡ merged_by n (below n) a b
  pub order : settling_order n [] ≡ below n
  pub ascend : ascends (below n) (rows_in n a) ≡ rows_ascend (rows_in n a)

abbrev pub NothingLentClaim : Type 0
NothingLentClaim = (n : ℕ) (a b : List ℕ) → NothingLent n a b
