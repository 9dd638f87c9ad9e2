use Rattle.model.specs.Kit.{◌≤◌}
use Rattle.model.specs.Problem.{Problem}
use Rattle.sheet_table.specs.{Inner.Table.Framed, Inner.Forbidden.Coded, Inner.Forbidden.Back, Inner.Forbidden.Blank}
use Rattle.sheet_table.proofs.{Targets.Moving}
use Rattle.sheet_table.proofs.moves.targets.Given as goal

abbrev pub invariant-loop-x : goal.invariant-loop-x
invariant-loop-x l =
    Blank l.codes l.moves × ((p : Problem) → Framed p l.numbers → Coded p l.codes → Back p l.codes l.initial.moves → (l.x ≤ p.variables) × Moving p l.codes l.moves l.x)
