-- What `compile` leaves.
use Rattle.std.specs.Prelude.{◌≡◌, List, ℕ, ◌≤◌, Result, Ok, length, take}
use Rattle.model.specs.{Problem.Problem, Sheet.problem_of, Inner.WellFormed.WellFormed, Refusals.verdict_from, declared.refusals.Refusal.Refusal}
use Rattle.order.specs.{Order.settling_order, Order.order_verdict, Order.Ordering, Reordered.reordered}
use Rattle.arrays.specs.Inner.Layout.{Compiled}
use Rattle.sheet.specs.Inner.Form.{Sized}
use Rattle.block.specs.Block.{block_lent}
use Rattle.run_input.specs.Lent.{verdict_lent, order_lent}

-- a problem that the arrays have room for
pub record WithinLimits (p : Problem) : Type 0 where
  pub well_formed : WellFormed p
  pub symmetries : length p.symmetries ≤ 16

-- the answer to all questions; for an accepted lending the arrays hold the sheet's problem with its variables in the settling order, which stands in the first bytes
pub record CompiledLent (b pairs block numbers supports images order : List ℕ) (r : Result Unit Refusal) : Type 0 where
  pub answers : verdict_from r ≡ verdict_lent b pairs block
  pub compiled : r ≡ Ok tt → Compiled (reordered (order_lent b pairs) (problem_of b)) numbers supports images
  pub limits : r ≡ Ok tt → WithinLimits (reordered (order_lent b pairs) (problem_of b))
  pub sizes : r ≡ Ok tt → Sized numbers supports images
  pub order_is : r ≡ Ok tt → take (problem_of b).variables order ≡ order_lent b pairs
  pub ordering : r ≡ Ok tt → Ordering (problem_of b).variables (order_lent b pairs)
  pub order_length : length order ≡ 16

-- ---- inside
-- questions 28 to 30 and those to the block; where there is no "no", the order of the variables stands in the first bytes
pub record Lendings (p : Problem) (pairs block order : List ℕ) (r : Result Unit Refusal) : Type 0 where
  pub answers : verdict_from r ≡ order_verdict p.variables pairs (block_lent p block)
  pub order_is : r ≡ Ok tt → take p.variables order ≡ settling_order p.variables pairs
  pub order_length : length order ≡ 16

-- all questions; where there is no "no", the arrays hold the sheet's problem
pub record AskedLent (b pairs block numbers supports images order : List ℕ) (r : Result Unit Refusal) : Type 0 where
  pub answers : verdict_from r ≡ verdict_lent b pairs block
  pub compiled : r ≡ Ok tt → Compiled (problem_of b) numbers supports images
  pub sizes : r ≡ Ok tt → Sized numbers supports images
  pub order_is : r ≡ Ok tt → take (problem_of b).variables order ≡ order_lent b pairs
  pub order_length : length order ≡ 16
