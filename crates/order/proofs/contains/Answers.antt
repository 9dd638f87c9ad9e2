-- The member test. Assumes nothing.
use Rattle.model.specs.Kit.{sym, ◌∙◌, le-ltb, rules}
use Rattle.model.proofs.{Masks.contains_op, Sets.has_out}
use Rattle.order.proofs.contains.Goals as goal

pub returns-then-x-lt64 : goal.returns-then-x-lt64
returns-then-x-lt64 c = contains_op _ _

pub returns-else-x-lt64 : goal.returns-else-x-lt64
returns-else-x-lt64 c = le-ltb c.args.x 64 c.if-x-lt64.false ∙ sym (has_out 64 _ _ (search rules) (search rules))
