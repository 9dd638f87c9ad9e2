-- A set, or the empty one. Assumes nothing.
use Rattle.model.specs.Kit.{sym, ap, ◌∙◌, Bool}
use Rattle.model.specs.Lists.{choose}
use Rattle.prune_constraints.proofs.mask.Goals as goal

pub returns-then-contains : goal.returns-then-contains
returns-then-contains c = ap (λ (b : Bool). choose b c.args.e.bits 0) (sym c.if-contains.true ∙ c.contains.ensures)

pub returns-else-contains : goal.returns-else-contains
returns-else-contains c = ap (λ (b : Bool). choose b c.args.e.bits 0) (sym c.if-contains.false ∙ c.contains.ensures)
