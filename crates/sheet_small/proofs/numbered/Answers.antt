-- `numbered`: the candidate without a table, or with one. Assumes nothing.
use Rattle.sheet_small.proofs.{Drafts.plain_draft, Drafts.table_draft}
use Rattle.sheet_small.proofs.numbered.Goals as goal

pub returns-then-n-lt144 : goal.returns-then-n-lt144
returns-then-n-lt144 c = plain_draft c.args.n _ _ _ _ c.make.result c.if-n-lt144.true c.make.ensures.0 c.make.ensures.1

pub returns : goal.returns
returns c = table_draft c.args.n c.make-2.result c.if-n-lt144.false c.requires c.make-2.ensures.0 c.make-2.ensures.1
