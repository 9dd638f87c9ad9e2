-- What is made of a compiled problem before the search, and the search from there.
use Rattle.std.specs.Prelude.{◌≡◌, false, List, [], ℕ, ◌*◌, ◌^◌, ◌<◌, T, length, take}
use Rattle.model.specs.{Lists.at, ValueSets.has, Problem.Problem, Problem.with_symmetries, Search.is_live, Run.Tally, Inner.WellFormed.WellFormed, Inner.WellFormed.Respected}
use Rattle.order.specs.Order.{Ordering}
use Rattle.block.specs.Inner.BlockSets.{BlockIn}
use Rattle.run_input.specs.Inner.Compile.{WithinLimits}
use Rattle.arrays.specs.Inner.Places.{LIMIT, ROOM, ORDER, PLANS, ALL, DEEPER, NUMBERS, STACK, TABLES, WORK, DIAGONAL}
use Rattle.arrays.specs.Inner.Layout.{Compiled}
use Rattle.run_state.specs.{Inner.Walk.no_nodes, Inner.Pair.order_in, Inner.Pair.ListRoom, Inner.Pair.AtPrefix, Inner.Pair.Walked, Inner.Pair.tried}

-- what stands in the arrays before the search's tables are made: own, which is p with the first of its symmetries; the bytes begin with the order by which
-- p's variables are a sheet's; the memo is asked where its symmetries are known to respect p
pub record Laid (p own : Problem) (order numbers supports images bytes : List ℕ) (positions asks : ℕ) : Type 0 where
  pub compiled : Compiled own numbers supports images
  pub limits : WithinLimits own
  pub long : length numbers ≡ NUMBERS
  pub bytes_length : length bytes ≡ 16
  pub order_is : take p.variables bytes ≡ order
  pub ordering : Ordering p.variables order
  pub own_is : with_symmetries p (take (length own.symmetries) p.symmetries) ≡ own
  pub block : BlockIn own (has positions) p.symmetries
  pub block_few : (x : ℕ) → T (has positions x) → x < own.variables
  pub well : WellFormed p
  pub respected : (asks ≡ 0 → ⊥) → Respected p

-- and what is lent to write on
pub record Writable (stack work tables : List ℕ) : Type 0 where
  pub stack_length : length stack ≡ STACK
  pub work_length : length work ≡ WORK
  pub tables_length : length tables ≡ TABLES

-- all that the search of p reads is made: the empty prefix is dead, or the search may begin, with the plans that `work` counts
pub record Begun (p : Problem) (order numbers work stack' work' supports tables' numbers' : List ℕ) (step : ℕ) : Type 0 where
  pub dead : step ≡ ALL → is_live p [] ≡ false
  pub known : (step ≡ ALL → ⊥) → step ≡ DEEPER
  pub order_is : order_in numbers' p.variables ≡ order
  pub first : (i : ℕ) → i < ORDER → at numbers' i ≡ at numbers i
  pub same : (i : ℕ) → i < 16 → at work' i ≡ at work i
  pub live : step ≡ DEEPER → at numbers LIMIT < 2 ^ 32 → (list : List ℕ) → ListRoom p.variables (at numbers ROOM) list (at work PLANS) →
      AtPrefix p stack' work' supports tables' numbers' list no_nodes 0
  pub writable : Writable stack' work' tables'
  pub long : length numbers' ≡ NUMBERS

-- the tree is walked along, where the step says that there is one
pub record Ended (stack work supports tables numbers list : List ℕ) (step : ℕ) (stack' work' list' : List ℕ) (tally' : Tally) (stop : ℕ) : Type 0 where
  pub none : (step ≡ DEEPER → ⊥) → (stop ≡ step) × (tally' ≡ no_nodes) × (stack' ≡ stack) × (work' ≡ work) × (list' ≡ list)
  pub some : step ≡ DEEPER → (p : Problem) → AtPrefix p stack work supports tables numbers list no_nodes 0 →
      Walked p (tried p work 0 (at stack (DIAGONAL * 0))) stack work numbers list no_nodes 0 stack' work' list' tally' stop
