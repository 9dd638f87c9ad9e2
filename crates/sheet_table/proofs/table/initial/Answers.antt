use Rattle.sheet_table.proofs.{Frames.initial_is}
use Rattle.sheet_table.proofs.table.initial.Goals as goal

pub returns : goal.returns
returns c = λ p f h. (initial_is p _ f _ _ h c.number.ensures).0

pub overflow_cast-result : goal.overflow_cast-result
overflow_cast-result c = record { fits = ((initial_is c.requires.0 _ c.requires.1 _ _ c.requires.2 c.number.ensures).1) }
