use Rattle.model.specs.Kit.{◌≤◌}
use Rattle.sheet.proofs.{DecodeTurn.DecodedTo}
use Rattle.sheet.proofs.tables.decode.Given as goal

abbrev pub invariant-loop-q : goal.invariant-loop-q
invariant-loop-q l = (l.q ≤ l.count) × DecodedTo l.sheet l.from l.d l.base l.q l.initial.images l.images
