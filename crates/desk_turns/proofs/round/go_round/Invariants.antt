use Rattle.desk_turns.proofs.{Rounding.RoundTo}
use Rattle.desk_turns.proofs.round.go_round.Given as goal

abbrev pub invariant-loop-i : goal.invariant-loop-i
invariant-loop-i l = RoundTo l.initial.queue l.turns l.i l.queue l.best l.next
