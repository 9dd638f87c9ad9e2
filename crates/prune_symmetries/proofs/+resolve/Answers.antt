-- `prune_symmetries::resolve` meets its contract: by recursion, where what is left of the levels falls. Assumes nothing.
use Rattle.std.proofs.Common.{◌<◌, arith}
use Rattle.std.proofs.lemmas.Option.{MatchOption-at_none, MatchOption-at_some}
use Rattle.model.specs.Lists.{at}
use Rattle.prune_symmetries.proofs.Splits.{split_image, split_asks, forced_ready, resolve_gone, resolve_changed, resolve_end, next_split, next_later, resolve_consistent, resolve_taken, resolve_again}
use Rattle.prune_symmetries.proofs.+resolve.Goals as goal
use Rattle.prune_symmetries.proofs.+resolve.Goals.{then-reached-k+else-resolve-lt-ENTAILED+else-changed-2, else-reached-k}

pub image-y-requires : goal.image-y-requires
unfolding at
image-y-requires t c = split_image c.requires.1

pub force-requires : goal.force-requires
unfolding at
force-requires t c = split_asks c.requires.1 c.image-y.result c.image-y.ensures

pub pass-requires : goal.pass-requires
unfolding at
pass-requires t c = (c.requires.0, forced_ready c.requires.1 c.image-y.result c.image-y.ensures c.force.new.sets c.force.ensures)

pub disequality-requires : goal.disequality-requires
unfolding at
disequality-requires t c = split_asks c.requires.1 c.image-y.result c.image-y.ensures

pub returns-in_default : goal.returns-in_default
unfolding at
returns-in_default t c = λ p w.
    resolve_gone w c.image-y.result c.image-y.ensures c.force.new.sets c.force.ensures
    (MatchOption-at_none _ _ c.in_default.is (c.pass.ensures.entries p (forced_ready w c.image-y.result c.image-y.ensures c.force.new.sets c.force.ensures)))
    c.disequality.ensures

pub returns-then-changed : goal.returns-then-changed
unfolding at
returns-then-changed t c = λ p w.
    resolve_changed w c.image-y.result c.image-y.ensures c.force.new.sets c.force.ensures
    (MatchOption-at_some _ _ _ c.in-Some.is (c.pass.ensures.entries p (forced_ready w c.image-y.result c.image-y.ensures c.force.new.sets c.force.ensures)))
    c.changed.result c.changed.ensures c.if-changed.true

pub resolve-requires : goal.resolve-requires
unfolding at
resolve-requires t c =
    let p = c.requires.0 in
    let w = c.requires.1 in
    let h = MatchOption-at_some _ _ _ c.in-Some.is (c.pass.ensures.entries p (forced_ready w c.image-y.result c.image-y.ensures c.force.new.sets c.force.ensures)) in
    let later : c.args.split < c.in-Some.reached = next_later w c.image-y.result c.image-y.ensures c.force.new.sets c.force.ensures h
    c.changed.result c.changed.ensures c.if-changed.false c.if-reached-k.true in (
      omega (arith, c.decreases, c.if-reached-k.true),
      (
        p,
        next_split w c.image-y.result c.image-y.ensures c.force.new.sets c.force.ensures h
            c.changed.result c.changed.ensures c.if-changed.false c.if-reached-k.true,
      ),
    )

pub returns-then-resolve-lt-ENTAILED : goal.returns-then-resolve-lt-ENTAILED
unfolding at
returns-then-resolve-lt-ENTAILED t c = λ p w.
    let h = MatchOption-at_some _ _ _ c.in-Some.is (c.pass.ensures.entries p (forced_ready w c.image-y.result c.image-y.ensures c.force.new.sets c.force.ensures)) in
    resolve_consistent w c.image-y.result c.image-y.ensures c.force.new.sets c.force.ensures h
    c.changed.result c.changed.ensures c.if-changed.false c.if-reached-k.true
    (c.resolve.ensures p (next_split w c.image-y.result c.image-y.ensures c.force.new.sets c.force.ensures h
    c.changed.result c.changed.ensures c.if-changed.false c.if-reached-k.true))
    c.if-resolve-lt-ENTAILED.true

pub returns-then-changed-2 : goal.returns-then-changed-2
unfolding at
returns-then-changed-2 t c = λ p w.
    let h = MatchOption-at_some _ _ _ c.in-Some.is (c.pass.ensures.entries p (forced_ready w c.image-y.result c.image-y.ensures c.force.new.sets c.force.ensures)) in
    resolve_taken w c.image-y.result c.image-y.ensures c.force.new.sets c.force.ensures h
    c.changed.result c.changed.ensures c.if-changed.false c.if-reached-k.true
    (c.resolve.ensures p (next_split w c.image-y.result c.image-y.ensures c.force.new.sets c.force.ensures h
    c.changed.result c.changed.ensures c.if-changed.false c.if-reached-k.true))
    c.if-resolve-lt-ENTAILED.false c.changed-then-reached-k.result c.changed-then-reached-k.ensures c.if-changed-2.true

pub returns : goal.returns
unfolding at
returns t c = λ p w.
    let h = MatchOption-at_some _ _ _ c.in-Some.is (c.pass.ensures.entries p (forced_ready w c.image-y.result c.image-y.ensures c.force.new.sets c.force.ensures)) in
    elim c.if-reached-k.branch [
      | then-reached-k+else-resolve-lt-ENTAILED+else-changed-2 m ↦
          resolve_again w c.image-y.result c.image-y.ensures c.force.new.sets c.force.ensures h
          c.changed.result c.changed.ensures c.if-changed.false m.if-reached-k.true
          (m.resolve.ensures p (next_split w c.image-y.result c.image-y.ensures c.force.new.sets c.force.ensures h
          c.changed.result c.changed.ensures c.if-changed.false m.if-reached-k.true))
          m.if-resolve-lt-ENTAILED.false m.changed-then-reached-k.result m.changed-then-reached-k.ensures m.if-changed-2.false
      | else-reached-k m ↦
          resolve_end w c.image-y.result c.image-y.ensures c.force.new.sets c.force.ensures h
          c.changed.result c.changed.ensures c.if-changed.false m.if-reached-k.false
    ]
