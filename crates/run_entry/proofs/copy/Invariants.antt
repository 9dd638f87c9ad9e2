use Rattle.model.specs.Kit.{◌≡◌, ◌+◌, ◌≤◌, length}
use Rattle.model.specs.Lists.{at}
use Rattle.arrays.specs.Inner.Places.{VARIABLES, ROWS, FIRST}
use Rattle.loans.specs.Inner.Slices.{SameSlice}
use Rattle.run_entry.specs.Inner.Entry.{CopiedTo}
use Rattle.run_entry.proofs.copy.Given as goal

abbrev pub invariant-loop-r : goal.invariant-loop-r
invariant-loop-r l =
    (l.r ≤ l.rows) × (l.rows ≡ at l.initial.work (l.s + ROWS)) × (l.n ≡ at l.numbers VARIABLES) × (l.first ≡ at l.initial.work (l.s + FIRST)) × (length l.initial.list.now ≡ 0 → ⊥)
    × SameSlice l.initial.list l.list × CopiedTo l.numbers l.initial.work l.initial.list.now l.k l.s l.r l.work l.list.now
