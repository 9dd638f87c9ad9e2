-- A run that goes on from its last node (paper 02, #113), on arrays that are lent: `put_progress`, `prepare_again` and `go_on`, one after the other.
-- What is carried from one part to the next stands in `work` and in the list.
use Rattle.std.specs.Prelude.{◌≡◌, List, [], ℕ, ◌+◌, ◌*◌, ◌/◌, ◌≤◌, ◌<◌, T, length}
use Rattle.model.specs.Kit.{Memᴰ}
use Rattle.model.specs.{Lists.at, Lists.choose, Lists.below, Problem.Problem, Search.nodes, Sheet.problem_of, Run.plans_in, Run.nodes_in, Run.written, Run.Tally, Run.settled_by, Run.counts_by}
use Rattle.run_cut.specs.Parts.{Progress, go_on, made_in, last_after}
use Rattle.arrays.specs.Inner.Places.{LIMIT, ROOM, PLANS, LAST, ALL, DEEPER, NUMBERS, STACK, SUPPORTS, TABLES, WORK}
use Rattle.sheet.specs.{Inner.Form.Zeros, Meaning.compilable}
use Rattle.run_state.specs.{Inner.Walk.no_nodes, Inner.Walk.stop_in, Inner.Pair.prefix_of, Inner.Pair.order_in, Inner.Pair.AtPrefix}

-- the problem of some bytes: those that questions 1 to 15 refuse count as the sheet of no bytes, which has no nodes
abbrev pub tree_of : List ℕ → Problem
tree_of b = problem_of (choose (compilable b) b [])

-- the plans and the path are put in `work`, which has its other numbers as they were
pub record Put (k : ℕ) (path work work' : List ℕ) : Type 0 where
  pub plans : at work' PLANS ≡ k
  pub last : prefix_of work' (at work' LAST) ≡ path
  pub short : at work' LAST ≤ 12
  pub bytes : (i : ℕ) → i < at work' LAST → at work' i < 256
  pub others : (i : ℕ) → length path ≤ i → (i ≡ PLANS → ⊥) → (i ≡ LAST → ⊥) → at work' i ≡ at work i
  pub work_length : length work' ≡ WORK

-- new arrays, but for the first numbers of `work`
pub record Fresh (stack work supports tables numbers : List ℕ) : Type 0 where
  pub stack_length : length stack ≡ STACK
  pub work_length : length work ≡ WORK
  pub supports_blank : Zeros SUPPORTS supports
  pub tables_length : length tables ≡ TABLES
  pub numbers_blank : Zeros NUMBERS numbers

-- a run that stands so: its plans are counted in `work` and stand at the front of the list, its last node stands in `work`
pub record Stands (s : Progress) (work list : List ℕ) : Type 0 where
  pub plans : at work PLANS ≡ length s.rows
  pub last : prefix_of work (at work LAST) ≡ s.last
  pub short : at work LAST ≤ 12
  pub bytes : (i : ℕ) → i < at work LAST → at work i < 256
  pub listed : written s.rows list ≡ list

-- what is made of a sheet's bytes again, for so many nodes more and a list of a size: there are no nodes, or the search may go on
pub record PreparedAgain (b : List ℕ) (more size : ℕ) (work stack' work' supports' tables' numbers' : List ℕ) (step : ℕ) : Type 0 where
  pub none : (step ≡ DEEPER → ⊥) → (step ≡ ALL) × (nodes (tree_of b) ≡ [])
  pub compiled : step ≡ DEEPER → T (compilable b)
  pub bounded : step ≡ DEEPER → at numbers' LIMIT ≡ more
  pub roomy : step ≡ DEEPER → at numbers' ROOM ≡ size / (problem_of b).variables
  pub order : step ≡ DEEPER → order_in numbers' (problem_of b).variables ≡ below (problem_of b).variables
  pub live : step ≡ DEEPER → (list : List ℕ) → length list ≡ size → at work PLANS * (problem_of b).variables ≤ size → AtPrefix (problem_of b) stack' work' supports' tables' numbers' list no_nodes 0
  pub same : (i : ℕ) → i < 16 → at work' i ≡ at work i

-- p's run stands at s and may make nodes up to the limit, with room for so many bytes of plans; the step says whether p has nodes
pub record GoesOn (p : Problem) (s : Progress) (limit room : ℕ) (stack work supports tables numbers list : List ℕ) (step : ℕ) : Type 0 where
  pub stands : Stands s work list
  pub none : (step ≡ DEEPER → ⊥) → (step ≡ ALL) × (nodes p ≡ [])
  pub prefix : step ≡ DEEPER → AtPrefix p stack work supports tables numbers list no_nodes 0
  pub order : step ≡ DEEPER → order_in numbers p.variables ≡ below p.variables
  pub bounded : step ≡ DEEPER → at numbers LIMIT + s.made ≡ limit
  pub lent : step ≡ DEEPER → length list ≡ room
  pub roomy : step ≡ DEEPER → at numbers ROOM ≡ room / p.variables
  pub widths : step ≡ DEEPER → (r : List ℕ) → Memᴰ r s.rows → length r ≡ p.variables

-- the run has gone on: how it stopped, the nodes made in this part and the counts of them, the plans, the last node made, and the list to the byte
pub record GoneOn (p : Problem) (s : Progress) (limit room : ℕ) (list work' list' : List ℕ) (stop : ℕ) (tally : Tally) : Type 0 where
  pub stopped : stop ≡ stop_in (go_on p limit room s).ending
  pub made : s.made + tally.nodes ≡ nodes_in (go_on p limit room s).ending
  pub counts : tally.counts ≡ counts_by settled_by (made_in p s (go_on p limit room s))
  pub plans : at work' PLANS ≡ plans_in (go_on p limit room s).ending
  pub counted : plans_in (go_on p limit room s).ending ≡ length (go_on p limit room s).rows
  pub last : prefix_of work' (at work' LAST) ≡ last_after p s (go_on p limit room s)
  pub short : at work' LAST ≤ 12
  pub bytes : (i : ℕ) → i < at work' LAST → at work' i < 256
  pub wrote : list' ≡ written (go_on p limit room s).rows list
