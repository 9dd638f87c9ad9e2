use Rattle.model.specs.Kit.{◌≡◌}
use Rattle.model.specs.{ValueSets.members, Problem.Problem}
use Rattle.sheet_table.specs.Inner.Forbidden.{Beside, all_blocked}
use Rattle.sheet_carried.proofs.two.pairs_blocked.Given as goal

abbrev pub invariant-loop-v : goal.invariant-loop-v
invariant-loop-v l =
    (p : Problem) → Beside p l.numbers l.supports l.codes l.x l.fn.set.bits 255 l.b →
    Beside p l.numbers l.supports l.codes l.x l.v-iterator.left.bits 255 l.b
    × (all_blocked p l.codes l.x 255 l.b (members l.v-iterator.left.bits) ≡ all_blocked p l.codes l.x 255 l.b (members l.fn.set.bits))
