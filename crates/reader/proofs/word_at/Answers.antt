use Rattle.model.specs.Kit.{rules}
use Rattle.model.specs.{Sheet.«word», Lists.at}
use Rattle.reader.proofs.word_at.Goals as goal

pub returns : goal.returns
unfolding «word» at
returns c = search rules
