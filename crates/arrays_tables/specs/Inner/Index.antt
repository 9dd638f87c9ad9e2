-- Making the search's tables from the compiled problem: what the crate's function asks and leaves.
use Rattle.std.specs.Prelude.{◌≡◌, List, ℕ, ◌≤◌, ◌<◌, length}
use Rattle.model.specs.{Lists.at, Problem.Problem, Inner.WellFormed.WellFormed}
use Rattle.arrays.specs.{Inner.Places.LINKED, Inner.Places.NUMBERS, Inner.Places.TABLES, Inner.Layout.Compiled, Inner.Tables.Indexed}

-- the arrays hold p, which has no more symmetries than they have room for; what is lent to write on has its length
pub record Compact (p : Problem) (numbers supports images tables : List ℕ) : Type 0 where
  pub compiled : Compiled p numbers supports images
  pub well_formed : WellFormed p
  pub symmetries : length p.symmetries ≤ 16
  pub numbers_length : length numbers ≡ NUMBERS
  pub tables_length : length tables ≡ TABLES

-- the tables are made, and the numbers before LINKED are as they were
pub record Made (p : Problem) (numbers supports tables numbers' tables' : List ℕ) : Type 0 where
  pub indexed : Indexed p numbers' supports tables'
  pub kept : (i : ℕ) → i < LINKED → at numbers' i ≡ at numbers i
  pub numbers_length : length numbers' ≡ length numbers
  pub tables_length : length tables' ≡ length tables
