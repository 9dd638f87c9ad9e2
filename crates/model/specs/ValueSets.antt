-- A set of values is a number of sixteen bits: value v is a member of s where bit v of s is 1 (paper 01, "Words").
use Rattle.std.specs.Prelude.{Bool, true, false, not, List, ℕ, zero, suc, ◌+◌, ◌*◌, ◌/◌, ◌%◌, ◌^◌, T, eqb, ltb}
use Rattle.model.specs.Lists.{both, either, keep, below, any, at}

abbrev pub bit : Bool → ℕ
bit true = 1
bit false = 0

-- the member test
unfoldable pub has : ℕ → ℕ → Bool
has s v = eqb (s / 2 ^ v % 2) 1

-- the set of the values below k that f takes to true
unfoldable pub mask_below : ℕ → (ℕ → Bool) → ℕ
mask_below zero f = 0
mask_below (suc k) f = bit (f 0) + 2 * mask_below k (λ v. f (suc v))

abbrev pub mask_of : (ℕ → Bool) → ℕ
mask_of f = mask_below 16 f

-- the full set of a width; a width above 16 counts as 16
abbrev pub full_mask : ℕ → ℕ
full_mask width = mask_of (λ v. ltb v width)

abbrev pub without_mask : ℕ → ℕ → ℕ
without_mask s u = mask_of (λ v. both (has s v) (not (eqb v u)))

abbrev pub only_mask : ℕ → ℕ → ℕ
only_mask s u = mask_of (λ v. both (has s v) (eqb v u))

abbrev pub union_mask : ℕ → ℕ → ℕ
union_mask s t = mask_of (λ v. either (has s v) (has t v))

abbrev pub common_mask : ℕ → ℕ → ℕ
common_mask s t = mask_of (λ v. both (has s v) (has t v))

-- the set of v where the test holds, else the empty set
abbrev pub one_if : Bool → ℕ → ℕ
one_if true v = 2 ^ v
one_if false v = 0

-- the first number below k that f takes to true, and k where there is none
abbrev pub least_step : Bool → ℕ → ℕ
least_step true m = 0
least_step false m = suc m

unfoldable pub least : ℕ → (ℕ → Bool) → ℕ
least zero f = 0
least (suc k) f = least_step (f 0) (least k (λ v. f (suc v)))

-- the lowest member, 16 of the empty set
abbrev pub lowest_of : ℕ → ℕ
lowest_of s = least 16 (has s)

-- the members, ascending
unfoldable pub members : ℕ → List ℕ
members s = keep (has s) (below 16)

-- one of the sets is empty
unfoldable pub any_empty : List ℕ → Bool
any_empty ds = any (λ s. eqb s 0) ds

-- each set inside the other list's
abbrev pub Inside : List ℕ → List ℕ → Type 0
Inside ds es = (x v : ℕ) → T (has (at ds x) v) → T (has (at es x) v)
