-- A look in vain. Assumes nothing.
use Rattle.model.specs.Kit.{refl, ◌+◌, length-set}
use Rattle.model.specs.Lists.{at}
use Rattle.arrays.specs.Inner.Places.{IDLE}
use Rattle.model.proofs.Lists.{at_set_other}
use Rattle.run_entry.proofs.charge.Goals as goal

pub returns-then-vain-lt4294967296 : goal.returns-then-vain-lt4294967296
unfolding at
returns-then-vain-lt4294967296 c =
    record { others = λ i n. at_set_other c.args.work.now (IDLE + c.args.k) _ i n; long = length-set c.args.work.now (IDLE + c.args.k) (at c.args.work.now (IDLE + c.args.k) + 1) }

pub returns-else-vain-lt4294967296 : goal.returns-else-vain-lt4294967296
returns-else-vain-lt4294967296 c = record { others = λ i n. refl; long = refl }
