-- `put_byte`: one store. Assumes nothing.
use Rattle.model.proofs.Written.{written_byte}
use Rattle.report.proofs.put_byte.Goals as goal

pub returns : goal.returns
returns c = written_byte _ _ _ c.requires
