-- `short`: the sum is asked for by a difference. Assumes nothing.
use Rattle.model.specs.Kit.{sym, ◌∙◌, ◌+◌, arith, lt-ltb}
use Rattle.list_merge.proofs.{Stepping.less_by}
use Rattle.list_merge.proofs.short.Goals as goal

pub returns-then-room-first : goal.returns-then-room-first
returns-then-room-first c = lt-ltb c.args.room c.args.first c.if-room-first.true ∙ sym (lt-ltb c.args.room (c.args.first + c.args.second) (omega (arith, c.if-room-first.true)))

pub returns-else-room-first : goal.returns-else-room-first
returns-else-room-first c = less_by _ _ _ c.if-room-first.false
