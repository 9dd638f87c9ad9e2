use Rattle.list_columns.proofs.{Asking.Most}
use Rattle.list_columns.proofs.small.Given as goal

abbrev pub invariant-loop-byte : goal.invariant-loop-byte
invariant-loop-byte l = Most l.bytes l.byte-index l.most
