-- The loop: the solutions below i were asked, and the queue is empty.
use Rattle.model.specs.Kit.{refl, arith}
use Rattle.model.specs.{Lists.at}
use Rattle.families.specs.Inner.Walk.{met}
use Rattle.families.proofs.Turns.{finder_made, counting_begin, counting_bounds, counting_room, counting_start, counting_flooded, counting_known, counting_end}
use Rattle.families.proofs.{Rows.listed_twelve, Chains.unlinked_begin}
use Rattle.families.proofs.families.Goals as goal
use Rattle.families.proofs.families.Goals.{else-not-seen-i, then-not-seen-i}

pub loop-i-init : goal.loop-i-init
loop-i-init c = λ p n. counting_begin n (finder_made n (c.fill.ensures p n.lent.listed n.every unlinked_begin) c.weigh.ensures)

pub bounds-queue-tail : goal.bounds-queue-tail
unfolding at met
bounds-queue-tail c =
    counting_room (c.loop-i.invariant c.requires.0 c.requires.1) (omega arith) c.if-not-seen-i.true

pub flood-tail-requires : goal.flood-tail-requires
unfolding at met
flood-tail-requires c =
    (_, _, _, counting_start (c.loop-i.invariant c.requires.0 c.requires.1) (omega arith) c.if-not-seen-i.true)

pub loop-i-preserved : goal.loop-i-preserved
unfolding at met
loop-i-preserved c =
    λ p n.
    let t = c.loop-i.invariant p n in
    (elim c.if-not-seen-i.branch [
      | then-not-seen-i w ↦
          counting_flooded t (omega arith) (w.flood-tail.ensures p _ _ (counting_start t (omega arith) w.if-not-seen-i.true)) w.seen-is w.queue-is w.count-is w.tail-is
      | else-not-seen-i w ↦
          counting_known t (omega arith) w.if-not-seen-i.false w.seen-is w.queue-is w.count-is w.tail-is
    ])

pub returns : goal.returns
returns c = λ p n. counting_end (c.loop-i.invariant p n) (omega arith)

pub fill-requires : goal.fill-requires
fill-requires c = (c.requires.0, c.requires.1.lent.listed, c.requires.1.every, refl, unlinked_begin)

pub weigh-requires : goal.weigh-requires
weigh-requires c = (listed_twelve c.requires.1.lent.listed, refl)

pub bounds-seen-i : goal.bounds-seen-i
bounds-seen-i c =
    omega (arith, counting_bounds (c.loop-i.invariant c.requires.0 c.requires.1))

pub bounds-seen-i-then-not-seen-i : goal.bounds-seen-i-then-not-seen-i
bounds-seen-i-then-not-seen-i c =
    omega (arith, counting_bounds (c.loop-i.invariant c.requires.0 c.requires.1))

pub overflow_cast-queue : goal.overflow_cast-queue
overflow_cast-queue c =
    omega (arith, counting_bounds (c.loop-i.invariant c.requires.0 c.requires.1))

pub offset_bounds-queue-tail : goal.offset_bounds-queue-tail
offset_bounds-queue-tail c =
    omega (arith, counting_bounds (c.loop-i.invariant c.requires.0 c.requires.1))

pub overflow_add-count : goal.overflow_add-count
overflow_add-count c =
    omega (arith, counting_bounds (c.loop-i.invariant c.requires.0 c.requires.1))

pub overflow_add-tail : goal.overflow_add-tail
overflow_add-tail c =
    omega (arith, counting_bounds (c.loop-i.invariant c.requires.0 c.requires.1))
