-- `put_number`: a space, then the digits. Assumes nothing.
use Rattle.model.specs.Kit.{arith}
use Rattle.model.proofs.Written.{written_then}
use Rattle.report.proofs.put_number.Goals as goal

pub returns : goal.returns
returns c =
    written_then (omega (arith, c.put_byte-next.ensures.ends, c.requires)) c.put_byte-next.ensures c.put_digits.ensures
