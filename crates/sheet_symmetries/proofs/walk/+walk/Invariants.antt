-- The measure is how many variables are ahead; the loop goes through the choices for the next one.
use Rattle.std.proofs.Common.{◌≡◌, List, ℕ}
use Rattle.model.specs.Problem.{Problem}
use Rattle.sheet_table.specs.Inner.Forbidden.{Walking, Choices}
use Rattle.sheet_symmetries.proofs.walk.+walk.Given as goal

abbrev pub decreases-walk : goal.decreases-walk
decreases-walk l = l.ahead

abbrev pub invariant-loop-v : goal.invariant-loop-v
invariant-loop-v l =
    (p : Problem) (vs : List ℕ) (z : ℕ) → Walking p vs l.numbers l.supports l.codes l.moves l.k l.ahead l.key z l.a l.b → (l.ahead ≡ 0 → ⊥) → Choices p vs l.codes l.k l.ahead l.v-iterator.left.bits
