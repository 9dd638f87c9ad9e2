-- What is made of a lending before the search.
use Rattle.std.specs.Prelude.{◌≡◌, false, List, [], ℕ, ◌-◌, ◌*◌, eqb, length}
use Rattle.model.specs.{Lists.at, Lists.choose, Search.is_live, Verdict.accepted, Verdict.refused, Sheet.problem_of, Refusals.number_of, declared.refusals.Refusal.Refusal}
use Rattle.run_input.specs.Lent.{verdict_lent, order_lent, problem_lent}
use Rattle.arrays.specs.Inner.Places.{LIMIT, ROOM, PLANS, ALL, DEEPER, NUMBERS, STACK, SUPPORTS, TABLES, WORK, WANTED}
use Rattle.sheet.specs.Inner.Form.{Zeros}
use Rattle.run_state.specs.{Inner.Walk.no_nodes, Inner.Pair.order_in, Inner.Pair.AtPrefix}
use Rattle.run_task.specs.Inner.Task.{room_for}

-- the room for plans of n bytes: the list's, else that for one plan less than are asked for
abbrev pub bytes_for : ℕ → ℕ → ℕ → ℕ
bytes_for wanted n size = choose (eqb wanted 0) size ((wanted - 1) * n)

-- new arrays but for the task; where plans are asked for, no byte is lent to list them
pub record Blank (stack work supports tables numbers : List ℕ) (size : ℕ) : Type 0 where
  pub stack_length : length stack ≡ STACK
  pub work_length : length work ≡ WORK
  pub none_listed : at work PLANS ≡ 0
  pub supports_blank : Zeros SUPPORTS supports
  pub tables_length : length tables ≡ TABLES
  pub numbers_blank : Zeros NUMBERS numbers
  pub unlisted : (at work WANTED ≡ 0 → ⊥) → size ≡ 0

-- the first question whose answer is no refuses a sheet with these pairs and block
abbrev pub Refuses : List ℕ → List ℕ → List ℕ → Refusal → Type 0
Refuses b pairs block by = verdict_lent b pairs block ≡ refused (number_of by.question) by.item

-- all that the search reads of the sheet b with these pairs and block is made, for this task and a list of this size: the empty prefix of the problem
-- whose tree the run walks is dead, or the search may begin
pub record Prepared (task b pairs block : List ℕ) (limit size : ℕ) (stack work supports tables numbers : List ℕ) (step : ℕ) : Type 0 where
  pub accepted : verdict_lent b pairs block ≡ accepted
  pub begun : at work PLANS ≡ 0
  pub dead : step ≡ ALL → is_live (problem_lent b pairs block) [] ≡ false
  pub known : (step ≡ ALL → ⊥) → step ≡ DEEPER
  pub bounded : step ≡ DEEPER → at numbers LIMIT ≡ limit
  pub roomy : step ≡ DEEPER → at numbers ROOM ≡ room_for (at task WANTED) (problem_of b).variables size
  pub order : step ≡ DEEPER → order_in numbers (problem_of b).variables ≡ order_lent b pairs
  pub live : step ≡ DEEPER → (list : List ℕ) → length list ≡ size → AtPrefix (problem_lent b pairs block) stack work supports tables numbers list no_nodes 0
