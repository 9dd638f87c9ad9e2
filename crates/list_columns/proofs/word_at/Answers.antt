-- `word_at`: two reads. Assumes nothing.
use Rattle.model.specs.Kit.{rules}
use Rattle.model.specs.{Sheet.«word», Lists.at}
use Rattle.list_columns.proofs.word_at.Goals as goal

pub returns : goal.returns
unfolding «word» at
returns c = search rules
