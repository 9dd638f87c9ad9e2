-- `ascend`: what is left ascends exactly if the whole does. Assumes nothing.
use Rattle.model.specs.Kit.{◌≡◌, refl, sym, ap₂, ◌∙◌, subst, ℕ, ◌-◌, ◌<◌, length, take, drop}
use Rattle.order.specs.Reordered.{earlier_by}
use Rattle.list_merge.specs.{Inner.Inner.way_of}
use Rattle.list_merge.proofs.Turning.{part_is, front_a, front_after, whole_after, shorter, goes_on_lem, equal_rows, falls, last_row}
use Rattle.list_merge.proofs.{Reading.plain_way}
use Rattle.list_merge.proofs.ascend.Goals as goal
use Rattle.list_merge.proofs.ascend.Goals.{else-plain, then-plain}

pub loop-rest-init : goal.loop-rest-init
loop-rest-init c = (c.requires.2, refl)

pub slice_bounds-by_words-end : goal.slice_bounds-by_words-end
slice_bounds-by_words-end c =
    let after = take (length c.loop-rest.rest.now - c.args.n) (drop c.args.n c.loop-rest.rest.now) in
    front_a c.args.n c.args.order.now c.loop-rest.rest.now after c.requires.0 c.loop-rest.invariant.0 c.loop-rest-test.true (part_is c.loop-rest.rest.now c.args.n)

pub slice_bounds-by_words-end-then-plain : goal.slice_bounds-by_words-end-then-plain
slice_bounds-by_words-end-then-plain c =
    let after = take (length c.loop-rest.rest.now - c.args.n) (drop c.args.n c.loop-rest.rest.now) in
    front_after c.args.n c.args.order.now c.loop-rest.rest.now after c.requires.0 c.loop-rest.invariant.0 c.loop-rest-test.true (part_is c.loop-rest.rest.now c.args.n)

pub by_words-way-requires : goal.by_words-way-requires
by_words-way-requires c =
    let after = take (length c.loop-rest.rest.now - c.args.n) (drop c.args.n c.loop-rest.rest.now) in
    record {
      some = (c.requires.3.words c.if-plain.true).some;
      most = c.requires.3.most;
      first = sym
          (front_a c.args.n c.args.order.now c.loop-rest.rest.now after c.requires.0 c.loop-rest.invariant.0 c.loop-rest-test.true (part_is c.loop-rest.rest.now c.args.n));
      second = sym (front_after c.args.n c.args.order.now c.loop-rest.rest.now after c.requires.0 c.loop-rest.invariant.0 c.loop-rest-test.true (part_is c.loop-rest.rest.now c.args.n));
    }

pub slice_bounds-by_places-end : goal.slice_bounds-by_places-end
slice_bounds-by_places-end c =
    let after = take (length c.loop-rest.rest.now - c.args.n) (drop c.args.n c.loop-rest.rest.now) in
    front_a c.args.n c.args.order.now c.loop-rest.rest.now after c.requires.0 c.loop-rest.invariant.0 c.loop-rest-test.true (part_is c.loop-rest.rest.now c.args.n)

pub slice_bounds-by_places-end-else-plain : goal.slice_bounds-by_places-end-else-plain
slice_bounds-by_places-end-else-plain c =
    let after = take (length c.loop-rest.rest.now - c.args.n) (drop c.args.n c.loop-rest.rest.now) in
    front_after c.args.n c.args.order.now c.loop-rest.rest.now after c.requires.0 c.loop-rest.invariant.0 c.loop-rest-test.true (part_is c.loop-rest.rest.now c.args.n)

pub by_places-way-requires : goal.by_places-way-requires
by_places-way-requires c =
    let after = take (length c.loop-rest.rest.now - c.args.n) (drop c.args.n c.loop-rest.rest.now) in
    λ x m. (
      subst (λ (k : ℕ). x < k) (front_a c.args.n c.args.order.now c.loop-rest.rest.now after c.requires.0 c.loop-rest.invariant.0 c.loop-rest-test.true (part_is c.loop-rest.rest.now c.args.n))
          (c.requires.1.inside x m),
      subst (λ (k : ℕ). x < k)
          (front_after c.args.n c.args.order.now c.loop-rest.rest.now after c.requires.0 c.loop-rest.invariant.0 c.loop-rest-test.true (part_is c.loop-rest.rest.now c.args.n))
          (c.requires.1.inside x m),
    )

pub returns-in-Equal : goal.returns-in-Equal
returns-in-Equal c =
    let stood : c.if-plain.way' ≡ way_of
    (earlier_by c.args.order.now (take c.args.n c.loop-rest.rest.now) (take c.args.n (take (length c.loop-rest.rest.now - c.args.n) (drop c.args.n c.loop-rest.rest.now))))
    (earlier_by c.args.order.now (take c.args.n (take (length c.loop-rest.rest.now - c.args.n) (drop c.args.n c.loop-rest.rest.now))) (take c.args.n c.loop-rest.rest.now)) = let after =
    take (length c.loop-rest.rest.now - c.args.n) (drop c.args.n c.loop-rest.rest.now) in
    let ea = front_a c.args.n c.args.order.now c.loop-rest.rest.now after c.requires.0 c.loop-rest.invariant.0 c.loop-rest-test.true (part_is c.loop-rest.rest.now c.args.n) in
    let eb = front_after c.args.n c.args.order.now c.loop-rest.rest.now after c.requires.0 c.loop-rest.invariant.0 c.loop-rest-test.true (part_is c.loop-rest.rest.now c.args.n) in
    (elim c.if-plain.branch [
      | then-plain w ↦ let p = c.requires.3.words w.if-plain.true in
          w.way'-is ∙ w.by_words-way.ensures ∙ ap₂ way_of (plain_way c.args.n c.args.order.now p (take c.args.n c.loop-rest.rest.now) (take c.args.n after) ea eb)
          (plain_way c.args.n c.args.order.now p (take c.args.n after) (take c.args.n c.loop-rest.rest.now) eb ea)
      | else-plain w ↦ w.way'-is ∙ w.by_places-way.ensures
    ]) in
    let after = take (length c.loop-rest.rest.now - c.args.n) (drop c.args.n c.loop-rest.rest.now) in
    sym (c.loop-rest.invariant.1 ∙ equal_rows c.args.n c.args.order.now c.loop-rest.rest.now after c.requires.0 c.loop-rest.invariant.0 c.loop-rest-test.true (part_is c.loop-rest.rest.now c.args.n)
    c.if-plain.way' stood c.in-Equal.is)

pub returns-in-Greater : goal.returns-in-Greater
returns-in-Greater c =
    let stood : c.if-plain.way' ≡ way_of
    (earlier_by c.args.order.now (take c.args.n c.loop-rest.rest.now) (take c.args.n (take (length c.loop-rest.rest.now - c.args.n) (drop c.args.n c.loop-rest.rest.now))))
    (earlier_by c.args.order.now (take c.args.n (take (length c.loop-rest.rest.now - c.args.n) (drop c.args.n c.loop-rest.rest.now))) (take c.args.n c.loop-rest.rest.now)) = let after =
    take (length c.loop-rest.rest.now - c.args.n) (drop c.args.n c.loop-rest.rest.now) in
    let ea = front_a c.args.n c.args.order.now c.loop-rest.rest.now after c.requires.0 c.loop-rest.invariant.0 c.loop-rest-test.true (part_is c.loop-rest.rest.now c.args.n) in
    let eb = front_after c.args.n c.args.order.now c.loop-rest.rest.now after c.requires.0 c.loop-rest.invariant.0 c.loop-rest-test.true (part_is c.loop-rest.rest.now c.args.n) in
    (elim c.if-plain.branch [
      | then-plain w ↦ let p = c.requires.3.words w.if-plain.true in
          w.way'-is ∙ w.by_words-way.ensures ∙ ap₂ way_of (plain_way c.args.n c.args.order.now p (take c.args.n c.loop-rest.rest.now) (take c.args.n after) ea eb)
          (plain_way c.args.n c.args.order.now p (take c.args.n after) (take c.args.n c.loop-rest.rest.now) eb ea)
      | else-plain w ↦ w.way'-is ∙ w.by_places-way.ensures
    ]) in
    let after = take (length c.loop-rest.rest.now - c.args.n) (drop c.args.n c.loop-rest.rest.now) in
    sym (c.loop-rest.invariant.1 ∙ falls c.args.n c.args.order.now c.loop-rest.rest.now after c.requires.0 c.loop-rest.invariant.0 c.loop-rest-test.true (part_is c.loop-rest.rest.now c.args.n)
    c.if-plain.way' stood c.in-Greater.is)

pub loop-rest-smaller : goal.loop-rest-smaller
loop-rest-smaller c =
    let after = take (length c.loop-rest.rest.now - c.args.n) (drop c.args.n c.loop-rest.rest.now) in
    shorter c.args.n c.args.order.now c.loop-rest.rest.now after c.requires.0 c.loop-rest.invariant.0 c.loop-rest-test.true (part_is c.loop-rest.rest.now c.args.n)

pub loop-rest-preserved : goal.loop-rest-preserved
loop-rest-preserved c =
    let stood : c.if-plain.way' ≡ way_of
    (earlier_by c.args.order.now (take c.args.n c.loop-rest.rest.now) (take c.args.n (take (length c.loop-rest.rest.now - c.args.n) (drop c.args.n c.loop-rest.rest.now))))
    (earlier_by c.args.order.now (take c.args.n (take (length c.loop-rest.rest.now - c.args.n) (drop c.args.n c.loop-rest.rest.now))) (take c.args.n c.loop-rest.rest.now)) = let after =
    take (length c.loop-rest.rest.now - c.args.n) (drop c.args.n c.loop-rest.rest.now) in
    let ea = front_a c.args.n c.args.order.now c.loop-rest.rest.now after c.requires.0 c.loop-rest.invariant.0 c.loop-rest-test.true (part_is c.loop-rest.rest.now c.args.n) in
    let eb = front_after c.args.n c.args.order.now c.loop-rest.rest.now after c.requires.0 c.loop-rest.invariant.0 c.loop-rest-test.true (part_is c.loop-rest.rest.now c.args.n) in
    (elim c.if-plain.branch [
      | then-plain w ↦ let p = c.requires.3.words w.if-plain.true in
          w.way'-is ∙ w.by_words-way.ensures ∙ ap₂ way_of (plain_way c.args.n c.args.order.now p (take c.args.n c.loop-rest.rest.now) (take c.args.n after) ea eb)
          (plain_way c.args.n c.args.order.now p (take c.args.n after) (take c.args.n c.loop-rest.rest.now) eb ea)
      | else-plain w ↦ w.way'-is ∙ w.by_places-way.ensures
    ]) in
    let after = take (length c.loop-rest.rest.now - c.args.n) (drop c.args.n c.loop-rest.rest.now) in (
      whole_after c.args.n c.args.order.now c.loop-rest.rest.now after c.requires.0 c.loop-rest.invariant.0 c.loop-rest-test.true (part_is c.loop-rest.rest.now c.args.n),
      c.loop-rest.invariant.1 ∙ goes_on_lem c.args.n c.args.order.now c.loop-rest.rest.now after c.requires.0 c.loop-rest.invariant.0 c.loop-rest-test.true (part_is c.loop-rest.rest.now c.args.n)
          c.if-plain.way' stood c.in-Less.is,
    )

pub returns : goal.returns
returns c =
    sym (c.loop-rest.invariant.1 ∙ last_row c.args.n c.args.order.now c.loop-rest.rest.now c.requires.0 c.loop-rest.invariant.0 c.loop-rest-test.false)
