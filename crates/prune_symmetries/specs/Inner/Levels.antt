-- The filter of one symmetry at a prefix: what the crate's function asks and answers, and what its parts say to each other.
-- A level is what one variable of the prefix adds to the symmetry's list. No list is built: the entries are read from the tables.
use Rattle.std.specs.Prelude.{◌≡◌, Bool, true, false, List, [], ◌∷◌, ◌++◌, map, ◌⊎◌, ℕ, ◌+◌, ◌-◌, ◌*◌, ◌/◌, ◌%◌, ◌^◌, ◌≤◌, ◌<◌, T, eqb, ltb, leb, length, take, Option, MatchOption}
use Rattle.model.specs.Kit.{bit_and}
use Rattle.model.specs.Nogood.{Entry, equality, disequality, filtered, FilterEnding, failed, entailed, consistent, filter_ending}
use Rattle.model.specs.{Lists.at, Lists.choose, Lists.keep, Lists.flat, Lists.up_from, ValueSets.has, ValueSets.members, ValueSets.any_empty, ValueSets.Inside, Problem.Problem, Problem.symmetry_at}
use Rattle.model.specs.{NogoodClaims.Entails, Search.nogoods_of, Inner.WellFormed.WellFormed}
use Rattle.arrays.specs.{Inner.Places.SMALLER, Inner.Places.OWN, Inner.Places.ENTAILED, Inner.Places.OBEYED, Inner.Places.WORK, Inner.Tables.ImageTables}
use Rattle.arrays.specs.Inner.Tables.{image_of}
use Rattle.filter.specs.Inner.Scan.{step_of, None, Live, Passed, Remainder}
use Rattle.filter.specs.{declared.entry.Step.Step, Inner.Lists.forced, Marks.Vacuous, Marks.NamesGone, Marks.Skippable}
use Rattle.filter.specs.declared.entry.Step.TheVariants as step

-- ---- the contract of the filter
-- what is known of symmetry e at a prefix, for sets ds, by its mark m: the levels of the first m % ENTAILED variables say nothing more; and where m
-- is at least ENTAILED times the length of the prefix, every assignment obeys its nogoods
pub record Resumes (p : Problem) (ds prefix : List ℕ) (e m : ℕ) : Type 0 where
  pub begun : m % ENTAILED ≤ length prefix
  pub vacuous : Vacuous ds (nogoods_of p (symmetry_at p e) (take (m % ENTAILED) prefix))
  pub below : m < ENTAILED * (length prefix + 1)
  pub entailed : ENTAILED * length prefix ≤ m → Entails ds (nogoods_of p (symmetry_at p e) prefix)

-- by the mark OBEYED, every assignment obeys its nogoods and an equality of them names a value that is gone
abbrev pub MarkBy : Bool → Problem → List ℕ → List ℕ → ℕ → ℕ → Type 0
MarkBy true p ds prefix e m = Skippable ds (nogoods_of p (symmetry_at p e) prefix)
MarkBy false p ds prefix e m = Resumes p ds prefix e m

abbrev pub Mark : Problem → List ℕ → List ℕ → ℕ → ℕ → Type 0
Mark p ds prefix e m = MarkBy (eqb m OBEYED) p ds prefix e m

-- how the filter ended at a prefix of k values, by its mark
abbrev pub ending_at : ℕ → ℕ → FilterEnding
ending_at k m = choose (leb (ENTAILED * k) m) entailed consistent

-- the tables hold p's symmetries; the first k numbers of `work` are values of the initial sets of variables 0 to k - 1;
-- of sixteen sets the first n are p's variables', none of them empty, and the others are {0}; the levels before `start` say nothing more
pub record FilterRequires (p : Problem) (sets work tables : List ℕ) (e k start : ℕ) : Type 0 where
  pub image_tables : ImageTables p tables
  pub well_formed : WellFormed p
  pub few : length p.symmetries ≤ 16
  pub symmetry : e < length p.symmetries
  pub bound : k ≤ p.variables
  pub drawn : (j : ℕ) → j < k → T (has (at p.initial j) (at work j))
  pub work_length : length work ≡ WORK
  pub live : Live p.variables sets
  pub unused : (x : ℕ) → p.variables ≤ x → x < 16 → at sets x ≡ 1
  pub begun : start ≤ k
  pub vacuous : Vacuous (take p.variables sets) (nogoods_of p (symmetry_at p e) (take start work))

-- what the exact filter leaves of p's sets, for the nogoods of symmetry e at the prefix of k values
abbrev pub leaves : Problem → List ℕ → List ℕ → ℕ → ℕ → List ℕ
leaves p sets work e k = filtered (take p.variables sets) (nogoods_of p (symmetry_at p e) (take k work))

-- no assignment obeys: what the filter leaves has an empty set
pub record FilterFailed (p : Problem) (sets work : List ℕ) (e k : ℕ) (sets' : List ℕ) : Type 0 where
  pub ending : failed ≡ filter_ending (take p.variables sets) (nogoods_of p (symmetry_at p e) (take k work))
  pub empty : any_empty (leaves p sets work e k) ≡ true
  pub sixteen : length sets' ≡ 16

-- the sets are what the filter leaves, none of them empty; m is a mark for them, and says how it ended
pub record FilterMade (p : Problem) (sets work : List ℕ) (e k : ℕ) (sets' : List ℕ) (m : ℕ) : Type 0 where
  pub ending : ending_at k m ≡ filter_ending (take p.variables sets) (nogoods_of p (symmetry_at p e) (take k work))
  pub full : any_empty (leaves p sets work e k) ≡ false
  pub left : take p.variables sets' ≡ leaves p sets work e k
  pub live : Live p.variables sets'
  pub unused : (x : ℕ) → p.variables ≤ x → x < 16 → at sets' x ≡ 1
  pub mark : Mark p (take p.variables sets') (take k work) e m
  pub sixteen : length sets' ≡ 16

-- the answer is None where the filter leaves an empty set, else a mark for what it leaves
abbrev pub FilterEnsures : Problem → List ℕ → List ℕ → ℕ → ℕ → List ℕ → Option ℕ → Type 0
FilterEnsures p sets work e k sets' r = MatchOption r (FilterFailed p sets work e k sets') (FilterMade p sets work e k sets')

-- ---- between the functions of the crate: the entries, as the tables hold them
-- where the tables have the sets of the smaller values of x, sixteen, and the image of (x, v)
abbrev pub cuts_at : ℕ → ℕ → ℕ → ℕ
cuts_at e x v = SMALLER + 3072 * e + 256 * x + 16 * v

abbrev pub image_at : ℕ → ℕ → ℕ → ℕ
image_at e x v = OWN + 192 * e + 16 * x + v

-- "not this pair", and "this pair", of 16 times a variable plus a value
abbrev pub cut_of : ℕ → Entry
cut_of y = disequality (y / 16) (y % 16)

abbrev pub keep_of : ℕ → Entry
keep_of y = equality (y / 16) (y % 16)

-- the values of x's initial set below v
abbrev pub lower : Problem → ℕ → ℕ → List ℕ
lower p x v = keep (λ w. ltb w v) (members (at p.initial x))

-- the level of a variable x with the value v in the prefix: the images of the smaller values go, then the image of its own pair is an equality
abbrev pub cuts : Problem → ℕ → ℕ → ℕ → List Entry
cuts p e x v = map (λ w. cut_of (image_of p e x w)) (lower p x v)

abbrev pub level_of : Problem → ℕ → ℕ → ℕ → List Entry
level_of p e x v = cuts p e x v ++ (keep_of (image_of p e x v) ∷ [])

-- the levels from j up to k
unfoldable pub levels : Problem → List ℕ → ℕ → ℕ → ℕ → List Entry
levels p work e j k = flat (map (λ i. level_of p e i (at work i)) (up_from j (k - j)))

-- the image of the prefix's own pair of variable j
abbrev pub own_at : Problem → List ℕ → ℕ → ℕ → ℕ
own_at p work e j = image_of p e j (at work j)

-- ---- a first part of a list is passed, whatever comes after it
-- its cuts are made, and it says nothing more
pub record CutsMade (n : ℕ) (ss : List ℕ) (es : List Entry) (rs : List ℕ) : Type 0 where
  pub passed : (fs : List Entry) → Passed n ss (es ++ fs) rs fs
  pub vacuous : Vacuous (take n rs) es

-- its cuts are made, and it is obeyed, whatever comes after: an equality of it names a value that is gone
pub record CutsObeyed (n : ℕ) (ss : List ℕ) (es : List Entry) (rs : List ℕ) : Type 0 where
  pub passed : (fs : List Entry) → Passed n ss (es ++ fs) rs []
  pub gone : NamesGone (take n rs) es

-- no assignment obeys it
abbrev pub NoneObeys : ℕ → List ℕ → List Entry → Type 0
NoneObeys n ss es = (fs : List Entry) → None n ss (es ++ fs)

-- ---- one level
-- the tables hold p's symmetries, and e is one of them
pub record Tabled (p : Problem) (tables : List ℕ) (e : ℕ) : Type 0 where
  pub image_tables : ImageTables p tables
  pub well_formed : WellFormed p
  pub few : length p.symmetries ≤ 16
  pub symmetry : e < length p.symmetries

-- sixteen sets, none empty: p's, and {0} for the others
pub record Held (p : Problem) (ss : List ℕ) : Type 0 where
  pub live : Live p.variables ss
  pub unused : (x : ℕ) → p.variables ≤ x → x < 16 → at ss x ≡ 1

pub record Level (p : Problem) (ss tables : List ℕ) (e x v : ℕ) : Type 0 where
  pub tabled : Tabled p tables e
  pub held : Held p ss
  pub variable : x < p.variables
  pub value : T (has (at p.initial x) v)

-- no set has a value of the table's
abbrev pub Missed : Bool → List ℕ → List ℕ → ℕ → Type 0
Missed r ss tables first = r ≡ false → (y : ℕ) → y < 16 → bit_and (at ss y) (at tables (first + y)) ≡ 0

-- each set loses the table's, and the answer says whether one is empty
pub record Taken (ss tables : List ℕ) (first : ℕ) (rs : List ℕ) (r : Bool) : Type 0 where
  pub sixteen : length rs ≡ length ss
  pub each : (y : ℕ) → y < 16 → at rs y ≡ bit_and (at ss y) ((2 ^ 16 - 1) - at tables (first + y))
  pub empty : r ≡ true → (y : ℕ) × (y < 16) × (at rs y ≡ 0)
  pub full : r ≡ false → (y : ℕ) → y < 16 → at rs y ≡ 0 → ⊥

abbrev pub CutResult : Bool → ℕ → List ℕ → List Entry → List ℕ → Type 0
CutResult true n ss es rs = NoneObeys n ss es
CutResult false n ss es rs = CutsMade n ss es rs

-- the cuts of a level are made, and some assignments have its own pair, and some have not
pub record LevelSplit (p : Problem) (ss : List ℕ) (e x v : ℕ) (rs : List ℕ) : Type 0 where
  pub made : CutsMade p.variables ss (cuts p e x v) rs
  pub split : step_of rs (keep_of (image_of p e x v)) ≡ step.Split

abbrev pub LevelResult : Step → Problem → List ℕ → ℕ → ℕ → ℕ → List ℕ → Type 0
LevelResult step.Next p ss e x v rs = CutsMade p.variables ss (level_of p e x v) rs
LevelResult step.Failed p ss e x v rs = NoneObeys p.variables ss (level_of p e x v)
LevelResult step.Obeyed p ss e x v rs = CutsObeyed p.variables ss (level_of p e x v) rs
LevelResult step.Split p ss e x v rs = LevelSplit p ss e x v rs

-- ---- the levels of a prefix
-- the first k numbers of `work` are values of the initial sets
pub record Prefix (p : Problem) (work : List ℕ) (k : ℕ) : Type 0 where
  pub bound : k ≤ p.variables
  pub drawn : (j : ℕ) → j < k → T (has (at p.initial j) (at work j))

-- a pass from a level may begin
pub record Ready (p : Problem) (ss work tables : List ℕ) (e k start : ℕ) : Type 0 where
  pub tabled : Tabled p tables e
  pub held : Held p ss
  pub prefix : Prefix p work k
  pub begun : start ≤ k

-- the own pair of level j is one that some assignments have and some have not
pub record AtSplit (p : Problem) (ss work tables : List ℕ) (e k j : ℕ) : Type 0 where
  pub tabled : Tabled p tables e
  pub held : Held p ss
  pub prefix : Prefix p work k
  pub inside : j < k
  pub split : step_of ss (keep_of (own_at p work e j)) ≡ step.Split

-- what is left there
abbrev pub split_entries : Problem → List ℕ → ℕ → ℕ → ℕ → List Entry
split_entries p work e k j = keep_of (own_at p work e j) ∷ levels p work e (j + 1) k

pub record SplitReached (p : Problem) (ss work tables : List ℕ) (e k start : ℕ) (rs : List ℕ) (j : ℕ) : Type 0 where
  pub at_split : AtSplit p rs work tables e k j
  pub begun : start ≤ j
  pub before : Vacuous (take p.variables rs) (levels p work e start j)
  pub made : CutsMade p.variables ss (levels p work e start j ++ cuts p e j (at work j)) rs

-- how far a pass from a level came, where some assignment may obey
pub data PassCame (p : Problem) (ss work tables : List ℕ) (e k start : ℕ) (rs : List ℕ) (r : ℕ) : Type 0 where
  pass_obeyed : r ≡ OBEYED → CutsObeyed p.variables ss (levels p work e start k) rs → PassCame p ss work tables e k start rs r
  pass_ended : r ≡ ENTAILED * k + k → CutsMade p.variables ss (levels p work e start k) rs → PassCame p ss work tables e k start rs r
  pass_split : r < k → SplitReached p ss work tables e k start rs r → PassCame p ss work tables e k start rs r

-- the answer of a pass: None where no assignment obeys
abbrev pub PassResult : Problem → List ℕ → List ℕ → List ℕ → ℕ → ℕ → ℕ → List ℕ → Option ℕ → Type 0
PassResult p ss work tables e k start rs r = MatchOption r (NoneObeys p.variables ss (levels p work e start k)) (PassCame p ss work tables e k start rs)

-- the sets with the pair y forced
abbrev pub forced_by : List ℕ → ℕ → List ℕ
forced_by ss y = forced ss (y / 16) (y % 16)

-- what a split comes to: its own pair goes, and then no assignment has it; or nothing goes
pub record SplitResult (p : Problem) (ss work : List ℕ) (e k j : ℕ) (rs : List ℕ) (r : ℕ) : Type 0 where
  pub left : Remainder p.variables ss (split_entries p work e k j) rs
  pub less : Inside (take p.variables rs) (take p.variables ss)
  pub ending : ending_at k r ≡ filter_ending (take p.variables ss) (split_entries p work e k j)
  pub answer : ((r ≡ OBEYED) × NamesGone (take p.variables rs) (split_entries p work e k j)) ⊎ ((r ≡ j) ⊎ (r ≡ ENTAILED * k + j))
