-- The examples of paper 02 hold of the definitions. Assumes nothing.
use Rattle.model.specs.Kit.{refl}
use Rattle.model.specs.{Nogood.filter_ending, Run.counts_by, Run.tally_at, Examples.Each, Examples02.tests02}
use Rattle.model.proofs.Examples.{opened}

pub examples02 : Each tests02
unfolding opened filter_ending counts_by tally_at
examples02 = (refl, (refl, (refl, (refl, (refl, tt)))))
