use Rattle.model.specs.Kit.{◌≡◌, ◌*◌, ◌≤◌, length}
use Rattle.model.specs.{Problem.Problem}
use Rattle.sheet_table.specs.{Inner.Table.TableAt, Inner.Table.table_of, Inner.Forbidden.Blank, Inner.Scan.Seen, Inner.Scan.DrawnTo}
use Rattle.sheet_table.proofs.table.decode.Given as goal

abbrev pub invariant-loop-q : goal.invariant-loop-q
invariant-loop-q l =
    Blank l.codes l.moves × (length l.seen ≡ 192)
    × ((p : Problem) → TableAt p l.sheet l.offset l.numbers → (l.q ≤ p.variables * p.values) × Seen p (table_of p l.sheet l.offset) l.seen l.q
    × DrawnTo p (table_of p l.sheet l.offset) l.codes l.moves l.q)
