-- What the functions that read the three lists say to each other.
use Rattle.std.specs.Prelude.{◌≡◌, Bool, true, false, List, [], map, ℕ, ◌≤◌, ◌<◌, Option, length, set, take, drop}
use Rattle.model.specs.Nogood.{Entry, equality, filtered, filter_ending, Kind, is_equality, is_disequality, both_absent, both_present, entry_of, entries, first_wrong}
use Rattle.model.specs.{Lists.at, ValueSets.only_mask}
use Rattle.filter.specs.{Meaning.ending_of, declared.Ending.Ending, declared.Kind.TheVariants.Equality, declared.Kind.TheVariants.Disequality}
use Rattle.filter.specs.{declared.Kind.TheVariants.BothAbsent, declared.Kind.TheVariants.BothPresent, declared.Reached.Reached, declared.Reached.TheVariants.Failed}
use Rattle.filter.specs.{declared.Reached.TheVariants.End, declared.Reached.TheVariants.Split, Inner.Scan.Right, Inner.Scan.step_of, Inner.Scan.None, Inner.Scan.Live}
use Rattle.filter.specs.Inner.Scan.{Passed, Resolved}
use Rattle.std.specs.Prelude as prelude
use Rattle.filter.specs.declared.Ending.TheVariants as ending
use Rattle.filter.specs.declared.Kind as kind
use Rattle.filter.specs.declared.entry.Step.TheVariants as step

-- an entry's kind as the code has it: with the value that is there
abbrev pub kind_as : Kind → ℕ → ℕ → kind.Kind
kind_as is_equality equal unequal = Equality equal
kind_as is_disequality equal unequal = Disequality unequal
kind_as both_absent equal unequal = BothAbsent
kind_as both_present equal unequal = BothPresent

-- lists that passed the questions, for n sets
pub record Listed (n : ℕ) (xs es us : List ℕ) : Type 0 where
  pub equals : length es ≡ length xs
  pub others : length us ≡ length xs
  pub right : (j : ℕ) → j < length xs → Right n (entry_of (at xs j) (at es j) (at us j))

-- the first entry that is not right, if there is one
abbrev pub WrongFound : ℕ → List ℕ → List ℕ → List ℕ → Option ℕ → Type 0
WrongFound n xs es us prelude.None = length xs ≡ first_wrong n xs es us
WrongFound n xs es us (prelude.Some i) = (i < length xs) × (i ≡ first_wrong n xs es us)

-- a pass from an entry may begin
pub record Ready (n : ℕ) (ss xs es us : List ℕ) (start : ℕ) : Type 0 where
  pub listed : Listed n xs es us
  pub live : Live n ss
  pub bound : start ≤ length xs

-- entry k is an equality that some assignments keep and some break
pub record AtSplit (n : ℕ) (ss xs es us : List ℕ) (k : ℕ) : Type 0 where
  pub listed : Listed n xs es us
  pub live : Live n ss
  pub bound : k < length xs
  pub equality_is : entry_of (at xs k) (at es k) (at us k) ≡ equality (at xs k) (at es k)
  pub split : step_of ss (equality (at xs k) (at es k)) ≡ step.Split

pub record SplitReached (n : ℕ) (ss xs es us : List ℕ) (start : ℕ) (rs : List ℕ) (k : ℕ) : Type 0 where
  pub at_split : AtSplit n rs xs es us k
  pub begun : start ≤ k
  pub passed : Passed n ss (drop start (entries xs es us)) rs (drop k (entries xs es us))

abbrev pub PassResult : ℕ → List ℕ → List ℕ → List ℕ → List ℕ → ℕ → List ℕ → Reached → Type 0
PassResult n ss xs es us start rs Failed = None n ss (drop start (entries xs es us))
PassResult n ss xs es us start rs End = Passed n ss (drop start (entries xs es us)) rs []
PassResult n ss xs es us start rs (Split k) = SplitReached n ss xs es us start rs k

-- the sets with the pair of x and v forced
abbrev pub forced : List ℕ → ℕ → ℕ → List ℕ
forced ss x v = set ss x (only_mask (at ss x) v)

-- the result of a whole scan
abbrev pub ScanResult : Ending → ℕ → List ℕ → List Entry → List ℕ → Type 0
ScanResult ending.Failed n ss es rs = None n ss es
ScanResult ending.Entailed n ss es rs = Resolved true n ss es rs
ScanResult ending.Consistent n ss es rs = Resolved false n ss es rs

-- ---- the lent sets
abbrev pub zeros : List ℕ → List ℕ
zeros ss = map (λ s. 0) ss

-- a lent set is empty, or all are copied to the front of the sixteen
abbrev pub Loaded : Bool → List ℕ → List ℕ → Type 0
Loaded true ss rs = (x : ℕ) × (x < length ss) × (at ss x ≡ 0)
Loaded false ss rs = (take (length ss) rs ≡ ss) × Live (length ss) rs

-- they are what the filter leaves, and so it ended
pub record Applied (ss : List ℕ) (es : List Entry) (rs : List ℕ) (r : Ending) : Type 0 where
  pub left : rs ≡ filtered ss es
  pub ended : ending_of r ≡ filter_ending ss es
