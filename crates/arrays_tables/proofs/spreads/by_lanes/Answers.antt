-- The unions, and the lanes of each set where there is one. Assumes nothing.
use Rattle.model.specs.Kit.{refl, arith}
use Rattle.model.specs.Lists.{at}
use Rattle.arrays_tables.proofs.{UnionTables.worded_none, UnionTables.worded}
use Rattle.arrays_tables.proofs.spreads.by_lanes.Goals as goal

pub returns-then-numbers-gt8 : goal.returns-then-numbers-gt8
unfolding at
returns-then-numbers-gt8 c = worded_none _ _ (λ h. omega arith)

pub returns-then-unions-gt0 : goal.returns-then-unions-gt0
unfolding at
returns-then-unions-gt0 c = worded _ _ _ _ _ c.unions.ensures c.spreads.ensures.size c.spreads.ensures.other (λ h b j w l g. (c.spreads.ensures.here b l).lanes j w)

pub returns-else-unions-gt0 : goal.returns-else-unions-gt0
unfolding at
returns-else-unions-gt0 c = worded _ _ _ _ _ c.unions.ensures refl (λ j n. refl) (λ h. absurd (omega arith))
