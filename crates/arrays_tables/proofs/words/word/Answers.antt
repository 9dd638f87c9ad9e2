-- Eight sets of a value of the second variable, or what they have of a value of the third. Assumes nothing.
use Rattle.model.specs.Kit.{arith}
use Rattle.arrays_tables.proofs.{Lanes.turned_lanes}
use Rattle.arrays_tables.proofs.words.word.Goals as goal

pub returns-then-n-eq0 : goal.returns-then-n-eq0
returns-then-n-eq0 c = record { second = λ z. c.lanes.ensures; third = λ z. absurd (omega arith) }

pub returns-else-n-eq0 : goal.returns-else-n-eq0
returns-else-n-eq0 c = record { second = λ z. absurd (omega arith); third = λ z. turned_lanes _ _ _ _ _ (omega arith) (c.requires.word (omega arith)) c.turned.ensures }
