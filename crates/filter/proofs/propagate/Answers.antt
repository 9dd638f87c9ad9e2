-- `filter::propagate` meets its contract. Assumes nothing.
use Rattle.filter.proofs.{Splits.by_answer, Splits.propagate_failed, Splits.propagate_end, Splits.propagate_at_split, Splits.propagate_split}
use Rattle.filter.proofs.propagate.Goals as goal

pub resolve-requires : goal.resolve-requires
resolve-requires c = (c.requires.0, propagate_at_split c.requires.1 c.pass.new.sets c.pass.result (c.pass.ensures c.requires.0 c.requires.1) c.in-Split.k c.in-Split.is)

pub returns-then-resolve : goal.returns-then-resolve
returns-then-resolve c = λ n w.
    let h = c.pass.ensures n w in
    by_answer c.resolve.result c.if-resolve.true
    (propagate_split w c.pass.new.sets c.pass.result h c.in-Split.k c.in-Split.is c.resolve.new.sets c.resolve.result
    (c.resolve.ensures n (propagate_at_split w c.pass.new.sets c.pass.result h c.in-Split.k c.in-Split.is)))

pub returns-in-Failed : goal.returns-in-Failed
returns-in-Failed c = λ n w. propagate_failed w c.pass.new.sets c.pass.result (c.pass.ensures n w) c.in-Failed.is

pub returns-in-End : goal.returns-in-End
returns-in-End c = λ n w. propagate_end w c.pass.new.sets c.pass.result (c.pass.ensures n w) c.in-End.is

pub returns-else-resolve : goal.returns-else-resolve
returns-else-resolve c = λ n w.
    let h = c.pass.ensures n w in
    by_answer c.resolve.result c.if-resolve.false
    (propagate_split w c.pass.new.sets c.pass.result h c.in-Split.k c.in-Split.is c.resolve.new.sets c.resolve.result
    (c.resolve.ensures n (propagate_at_split w c.pass.new.sets c.pass.result h c.in-Split.k c.in-Split.is)))
