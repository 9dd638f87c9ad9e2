use Rattle.model.specs.Kit.{sym}
use Rattle.model.specs.Sheet.{problem_of}
use Rattle.sheet.proofs.tables.permuted.Goals as goal

pub returns-then-asked : goal.returns-then-asked
returns-then-asked c = sym (c.requires.1 c.if-asked.true)

pub returns : goal.returns
returns c = c.permutes.ensures _ c.requires.0

pub permutes-requires : goal.permutes-requires
permutes-requires c = (problem_of c.args.sheet.now, c.requires.0)
