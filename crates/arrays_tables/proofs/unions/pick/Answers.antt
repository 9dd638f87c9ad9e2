-- A number, or 0. Assumes nothing.
use Rattle.model.specs.Kit.{sym, ap, ◌∙◌, Bool}
use Rattle.model.specs.Lists.{choose}
use Rattle.arrays_tables.proofs.unions.pick.Goals as goal

pub returns-then-contains : goal.returns-then-contains
returns-then-contains c = ap (λ (b : Bool). choose b c.args.w 0) (sym c.if-contains.true ∙ c.contains.ensures)

pub returns-else-contains : goal.returns-else-contains
returns-else-contains c = ap (λ (b : Bool). choose b c.args.w 0) (sym c.if-contains.false ∙ c.contains.ensures)
