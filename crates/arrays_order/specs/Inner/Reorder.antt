-- Reordering the compiled problem: what the crate's function asks and leaves.
use Rattle.std.specs.Prelude.{◌≡◌, List, ℕ, ◌*◌, ◌≤◌, length, take}
use Rattle.model.specs.{Lists.at, Problem.Problem, Inner.WellFormed.WellFormed}
use Rattle.order.specs.{Order.Ordering, Reordered.reordered}
use Rattle.arrays.specs.{Inner.Layout.Compiled, Inner.Places.NUMBERS, Inner.Places.SUPPORTS}

-- the order of p's variables stands in the first bytes
abbrev pub order_of : Problem → List ℕ → List ℕ
order_of p order = take p.variables order

-- the arrays hold p, which has no more symmetries than they have room for, and have their lengths
pub record Movable (p : Problem) (order numbers supports images : List ℕ) : Type 0 where
  pub compiled : Compiled p numbers supports images
  pub well_formed : WellFormed p
  pub ordering : Ordering p.variables (order_of p order)
  pub numbers_length : length numbers ≡ NUMBERS
  pub supports_length : length supports ≡ SUPPORTS
  pub images_length : 192 * length p.symmetries ≤ length images

-- they hold the reordered problem; the numbers from 64 on are as they were
pub record Moved (p : Problem) (order numbers supports images numbers' supports' images' : List ℕ) : Type 0 where
  pub compiled : Compiled (reordered (order_of p order) p) numbers' supports' images'
  pub kept : (i : ℕ) → 64 ≤ i → at numbers' i ≡ at numbers i
  pub numbers_length : length numbers' ≡ length numbers
  pub supports_length : length supports' ≡ length supports
  pub images_length : length images' ≡ length images
