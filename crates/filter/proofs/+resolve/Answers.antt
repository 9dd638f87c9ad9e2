-- `filter::resolve` meets its contract: by recursion, where what is left of the entries falls. Assumes nothing.
use Rattle.std.proofs.Common.{◌<◌, arith, ap, not, false, sym}
use Rattle.model.specs.Lists.{at}
use Rattle.filter.proofs.Splits.{by_answer, split_asks, split_ready, resolved_gone, resolved_end, next_split, next_later, resolved_changed, resolved_consistent, resolved_again}
use Rattle.filter.proofs.+resolve.Goals as goal

pub force-requires : goal.force-requires
unfolding at
force-requires t c = split_asks c.requires.1

pub pass-requires : goal.pass-requires
unfolding at
pass-requires t c = (c.requires.0, split_ready c.requires.1 c.force.ensures)

pub disequality-requires : goal.disequality-requires
unfolding at
disequality-requires t c = split_asks c.requires.1

pub returns-then-changed : goal.returns-then-changed
unfolding at
returns-then-changed t c = λ n w.
    resolved_changed w c.force.ensures c.pass.new.sets c.pass.result c.in-Split.j
    (c.pass.ensures n (split_ready w c.force.ensures)) c.in-Split.is
    c.changed-in-Split.result c.changed-in-Split.ensures c.if-changed.true

pub resolve-requires : goal.resolve-requires
unfolding at
resolve-requires t c =
    let w = c.requires.1 in
    let h = c.pass.ensures c.requires.0 (split_ready w c.force.ensures) in
    let later : c.args.k < c.in-Split.j = next_later w c.force.ensures c.pass.new.sets c.pass.result c.in-Split.j h c.in-Split.is in (
      omega (arith, c.decreases, w.bound),
      (c.requires.0, next_split w c.force.ensures c.pass.new.sets c.pass.result c.in-Split.j h c.in-Split.is),
    )

pub returns-else-resolve : goal.returns-else-resolve
unfolding at
returns-else-resolve t c = λ n w.
    let f = c.force.ensures in
    let h = c.pass.ensures n (split_ready w f) in
    by_answer false (sym c.if-resolve.false)
    (resolved_consistent w f c.pass.new.sets c.pass.result c.in-Split.j h c.in-Split.is
    c.changed-in-Split.result c.changed-in-Split.ensures c.if-changed.false
    c.resolve.result (c.resolve.ensures n (next_split w f c.pass.new.sets c.pass.result c.in-Split.j h c.in-Split.is))
    (ap not c.if-resolve.false))

pub returns-in-Failed : goal.returns-in-Failed
unfolding at
returns-in-Failed t c = λ n w.
    resolved_gone w c.force.ensures c.pass.new.sets c.pass.result
    (c.pass.ensures n (split_ready w c.force.ensures)) c.in-Failed.is c.disequality.ensures

pub returns-in-End : goal.returns-in-End
unfolding at
returns-in-End t c = λ n w.
    resolved_end w c.force.ensures c.pass.new.sets c.pass.result
    (c.pass.ensures n (split_ready w c.force.ensures)) c.in-End.is c.changed.result c.changed.ensures

pub returns-then-resolve : goal.returns-then-resolve
unfolding at
returns-then-resolve t c = λ n w.
    let f = c.force.ensures in
    let h = c.pass.ensures n (split_ready w f) in
    resolved_again w f c.pass.new.sets c.pass.result c.in-Split.j h c.in-Split.is
    c.changed-in-Split.result c.changed-in-Split.ensures c.if-changed.false
    c.resolve.result (c.resolve.ensures n (next_split w f c.pass.new.sets c.pass.result c.in-Split.j h c.in-Split.is))
    (ap not c.if-resolve.true) c.changed-then-resolve.result c.changed-then-resolve.ensures
