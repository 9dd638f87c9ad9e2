use Rattle.model.specs.Kit.{◌≤◌}
use Rattle.sheet.proofs.DecodeTurn.{ImagesTo}
use Rattle.sheet.proofs.tables.decode_all.Given as goal

abbrev pub invariant-loop-e : goal.invariant-loop-e
invariant-loop-e l = (l.e ≤ l.g) × ImagesTo l.sheet l.e l.from l.images
