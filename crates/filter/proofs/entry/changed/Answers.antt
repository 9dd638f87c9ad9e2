-- `filter::entry::changed` meets its contract. Assumes nothing.
use Rattle.model.specs.Kit.{Bool, sym, subst}
use Rattle.filter.specs.Inner.Scan.{Changed}
use Rattle.filter.proofs.{Steps.compared}
use Rattle.filter.proofs.entry.changed.Goals as goal

pub returns : goal.returns
returns c =
    subst (λ (b : Bool). Changed b c.args.old.now c.args.new.now) (sym c.ne.ensures)
    (compared c.args.old.now c.args.new.now c.told-old c.told-new)
