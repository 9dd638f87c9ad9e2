-- The second and the third demand of paper 01, and the counts of paper 02, #107: statements about what a caller holds after a run, the answer, the list and the
-- tally. Paper 01's run is lent a sheet and settles the variables as they are numbered (`sheet_input`): a leader is then a solution onto which no exchange takes one that
-- reads earlier. They are stated once, of any order of the variables (#108): crate run_input has the run that is lent pairs and a block besides.
-- The proofs are in proofs/Demanded.antt.
use Rattle.std.specs.Prelude.{◌≡◌, ◌↔◌, List, map, ℕ, ◌*◌, ◌≤◌, length, take, drop, T}
use Rattle.model.specs.Kit.{Memᴰ}
use Rattle.model.specs.Run.{Ending, finished, plans_in, nodes_in, refusal, ended, answer_of, list_of, Tally, tally_of}
use Rattle.model.specs.Claims.{Leader, leaders, Chain, CountsAt, Largest, OneMore}
use Rattle.model.specs.{Lists.at, Lists.below, Lists.earlier, Lists.rows_ascend, Lists.total, Problem.is_solution, Verdict.accepted, Verdict.refused, Sheet.problem_of, Sheet.verdict_of, Search.nodes}
use mathlib.Core.List.{Sublistᴰ}
use Rattle.order.specs.Reordered.{read, earlier_by, reordered}
use Rattle.order.specs.RunBy.{Input, sheet_input, place_counts, leaders_by, sets_by, is_live_by, answer_by, list_by, plans_by, tallied_by}

-- ---- the tally of a run that ended: the nodes that the ending carries, and of these, the first of the tree, those that settle each of twelve variables; they add up
-- to the nodes, and a variable that the problem has not has none
pub record Tallied (i : Input) (e : Ending) (tally : Tally) : Type 0 where
  pub made : tally.nodes ≡ nodes_in e
  pub counts : tally.counts ≡ place_counts i.order i.problem (nodes_in e)
  pub twelve : length tally.counts ≡ 12
  pub sum : total tally.counts ≡ nodes_in e
  pub unused : (x : ℕ) → i.problem.variables ≤ x → at tally.counts x ≡ 0

pub record Demanded (i : Input) : Type 0 where
  -- a refusal makes no node and writes nothing
  pub refuses : (number item : ℕ) → i.verdict ≡ refused number item → (limit : ℕ) (out : List ℕ) (tally : Tally) →
      (answer_by i limit out ≡ refusal number item) × (list_by i limit out ≡ out) × (tallied_by i limit out tally ≡ tally)
  -- the sets at a prefix are the largest such sets
  pub sets_largest : i.verdict ≡ accepted → (prefix : List ℕ) → length prefix ≤ i.problem.variables →
      Largest (at i.order) i.problem prefix (is_live_by i.order i.problem prefix) (sets_by i.order i.problem prefix)
  -- ---- demand 2
  -- `leaders_by` says what it should: it ascends strictly as it reads, and holds exactly the leaders
  pub leaders_ascend : i.verdict ≡ accepted →
      T (rows_ascend (map (read i.order) (leaders_by i.order i.problem)))
      × ((s : List ℕ) → Memᴰ s (leaders_by i.order i.problem) ↔ Leader (earlier_by i.order) i.problem s)
  -- a finished run lists exactly the leaders
  pub lists_leaders : (limit : ℕ) (out : List ℕ) (plans made : ℕ) → answer_by i limit out ≡ ended (finished plans made) →
      plans_by i limit out (finished plans made) ≡ leaders_by i.order i.problem
  -- any run holds a first part of that list
  pub first_part : (limit : ℕ) (out : List ℕ) (e : Ending) → answer_by i limit out ≡ ended e → plans_by i limit out e ≡ take (plans_in e) (leaders_by i.order i.problem)
  -- the bytes after the listed plans are unchanged
  pub rest : (limit : ℕ) (out : List ℕ) (e : Ending) → answer_by i limit out ≡ ended e → drop (plans_in e * i.problem.variables) (list_by i limit out) ≡ drop (plans_in e * i.problem.variables) out
  -- the counts are those of the tree up to where the run ended
  pub counts : (limit : ℕ) (out : List ℕ) (e : Ending) → answer_by i limit out ≡ ended e → (nodes_in e ≤ limit) × CountsAt (reordered i.order i.problem) limit (length out) e
  pub tallied : (limit : ℕ) (out : List ℕ) (tally : Tally) (e : Ending) → answer_by i limit out ≡ ended e → Tallied i e (tallied_by i limit out tally)
  -- at every moment: the counts of each first part of the tree add up to its nodes
  pub tally_sums : i.verdict ≡ accepted → (k : ℕ) → k ≤ length (nodes (reordered i.order i.problem)) → total (place_counts i.order i.problem k) ≡ k
  -- ---- demand 3
  -- where nothing is refused every run ends, whatever limit and list it is given
  pub ends : i.verdict ≡ accepted → (limit : ℕ) (out : List ℕ) → (e : Ending) × (answer_by i limit out ≡ ended e)
  -- after a finished run, s is a solution exactly when some listed plan becomes s by symmetries, one after another, each step giving one that reads later
  pub chains : (limit : ℕ) (out : List ℕ) (plans made : ℕ) → answer_by i limit out ≡ ended (finished plans made) → (s : List ℕ) → length s ≡ i.problem.variables →
      T (is_solution i.problem s) ↔ ∥ ((l : List ℕ) × Memᴰ l (plans_by i limit out (finished plans made)) × Chain (earlier_by i.order) i.problem l s) ∥₁
  -- so a finished run lists nothing exactly when there is no solution
  pub nothing_listed : (limit : ℕ) (out : List ℕ) (plans made : ℕ) → answer_by i limit out ≡ ended (finished plans made) →
      (plans ≡ 0) ↔ ((s : List ℕ) → T (is_solution i.problem s) → ⊥)

-- ---- one exchange more: j is given one more than i
pub record Fewer (i j : Input) : Type 0 where
  -- where i's run finished, a finished run of j lists no other plan and makes no more nodes
  pub lists : (limit : ℕ) (out : List ℕ) (plans made : ℕ) → answer_by i limit out ≡ ended (finished plans made) →
      (limit' : ℕ) (out' : List ℕ) (plans' made' : ℕ) → answer_by j limit' out' ≡ ended (finished plans' made') →
      Sublistᴰ (plans_by j limit' out' (finished plans' made')) (plans_by i limit out (finished plans made)) × (made' ≤ made)
  -- and under i's limit and room the run of j, if nothing is refused, always is finished
  pub finishes : (limit : ℕ) (out : List ℕ) (plans made : ℕ) → answer_by i limit out ≡ ended (finished plans made) →
      (out' : List ℕ) → length out' ≡ length out → (e : Ending) → answer_by j limit out' ≡ ended e → (plans' : ℕ) × (made' : ℕ) × (e ≡ finished plans' made')

-- ---- paper 01's run
-- all of this of a sheet, and of one with an exchange more
abbrev pub DemandedSheet : Type 0
DemandedSheet = (b : List ℕ) → Demanded (sheet_input b)

abbrev pub FewerSheet : Type 0
FewerSheet = (b c t : List ℕ) (k : ℕ) → OneMore b c k t → Fewer (sheet_input b) (sheet_input c)

-- what is defined of a sheet's run (model's specs/Run) is what is said here, and so are its tree and paper 01's leaders (model's specs/Claims); rows of n values read in
-- the order 0, 1, .. n - 1 as they stand
pub record SheetRun (b : List ℕ) : Type 0 where
  pub answer : (limit : ℕ) (out : List ℕ) → answer_by (sheet_input b) limit out ≡ answer_of b limit out
  pub list : (limit : ℕ) (out : List ℕ) → list_by (sheet_input b) limit out ≡ list_of b limit out
  pub tally : (limit : ℕ) (out : List ℕ) (tally : Tally) → tallied_by (sheet_input b) limit out tally ≡ tally_of b limit out tally
  pub tree : verdict_of b ≡ accepted → reordered (below (problem_of b).variables) (problem_of b) ≡ problem_of b
  pub leading : verdict_of b ≡ accepted → leaders_by (below (problem_of b).variables) (problem_of b) ≡ leaders (problem_of b)
  pub reads : (s t : List ℕ) → length s ≡ (problem_of b).variables → length t ≡ (problem_of b).variables → earlier_by (below (problem_of b).variables) s t ≡ earlier s t

abbrev pub SheetRunClaim : Type 0
SheetRunClaim = (b : List ℕ) → SheetRun b
