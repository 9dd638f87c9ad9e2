-- `whole`: question 24. Assumes nothing.
use Rattle.list_merge.proofs.{Asking.few, Asking.many, Asking.half_first, Asking.by_second}
use Rattle.list_merge.proofs.whole.Goals as goal
use Rattle.list_merge.proofs.whole.Goals.{then-n-lt1-via-then-n-lt1, then-n-lt1-via-else-n-lt1+then-n-gt12, then-n-lt1-via-else-n-lt1+else-n-gt12+then-first-n-ne0}

pub returns-then-n-lt1 : goal.returns-then-n-lt1
returns-then-n-lt1 c = (elim c.then-n-lt1.branch [
  | then-n-lt1-via-then-n-lt1 w ↦ few _ _ _ w.if-n-lt1.true
  | then-n-lt1-via-else-n-lt1+then-n-gt12 w ↦ many _ _ _ w.if-n-gt12.true
  | then-n-lt1-via-else-n-lt1+else-n-gt12+then-first-n-ne0 w ↦ half_first _ _ _ w.if-first-n-ne0.true
])

pub returns : goal.returns
returns c = by_second _ _ _ c.if-n-lt1.false c.if-n-gt12.false c.if-first-n-ne0.false
