-- The entry for a key. Assumes nothing.
use Rattle.model.specs.Kit.{refl, ◌/◌, ◌%◌, arith, rules}
use Rattle.model.specs.Lists.{at}
use Rattle.run_key.proofs.entry_for.Goals as goal

pub loop-x-init : goal.loop-x-init
unfolding at
loop-x-init c = search rules

pub returns : goal.returns
returns c = record { index = c.loop-x.mixed / 67108864 % 64; inside = omega arith; is = refl }
