use Rattle.sheet_table.proofs.{Targets.blank_new}
use Rattle.sheet_table.proofs.permutes.Goals as goal

pub returns : goal.returns
returns c = λ p l. (c.decode.ensures.drawn p l).answers

pub decode-requires : goal.decode-requires
decode-requires c = (c.requires, blank_new)
