-- The loop: the images by the first k symmetries were looked at.
use Rattle.model.specs.Kit.{◌<◌, arith}
use Rattle.model.specs.{Lists.at}
use Rattle.families.specs.Inner.Walk.{met}
use Rattle.families.proofs.Turns.{spread_head, turning_begin, turning_tail, turning_end, turning_numbering, turning_small, turning_room, turning_pushed, turning_stayed}
use Rattle.families.proofs.Solutions.spread.Goals as goal
use Rattle.families.proofs.Solutions.spread.Goals.{else-not-seen-j, then-not-seen-j}

pub offset_bounds-queue-head : goal.offset_bounds-queue-head
unfolding at met
offset_bounds-queue-head c = omega (arith, spread_head c.requires.3)

pub bounds-queue-head : goal.bounds-queue-head
unfolding at met
bounds-queue-head c = (spread_head c.requires.3).1

pub overflow_cast-i : goal.overflow_cast-i
unfolding at met
overflow_cast-i c = omega (arith, spread_head c.requires.3)

pub loop-k-init : goal.loop-k-init
unfolding at met
loop-k-init c = (omega arith, λ p starts count s. turning_begin s)

pub image-j-requires : goal.image-j-requires
unfolding at met
image-j-requires c =
    (_, turning_numbering (c.loop-k.invariant.1 c.requires.0 c.requires.1 c.requires.2 c.requires.3) (omega arith))

pub bounds-queue-end : goal.bounds-queue-end
unfolding at met
bounds-queue-end c =
    let t = (c.loop-k.invariant.1 c.requires.0 c.requires.1 c.requires.2 c.requires.3) in
    turning_room t (omega arith) (c.image-j.ensures _ (turning_numbering t (omega arith))) c.if-not-seen-j.true

pub loop-k-preserved : goal.loop-k-preserved
unfolding at met
loop-k-preserved c = (
  omega arith,
  λ p starts count s.
      let t = c.loop-k.invariant.1 p starts count s in
      let e = c.image-j.ensures p (turning_numbering t (omega arith)) in
      (elim c.if-not-seen-j.branch [
        | then-not-seen-j w ↦ turning_pushed t (omega arith) e w.if-not-seen-j.true w.seen-is w.queue-is w.end-is
        | else-not-seen-j w ↦
            turning_stayed t (omega arith) e w.if-not-seen-j.false w.seen-is w.queue-is w.end-is
      ]),
)

pub returns : goal.returns
returns c = λ p starts count s. turning_end (c.loop-k.invariant.1 p starts count s) (omega arith)

pub bounds-seen-j : goal.bounds-seen-j
bounds-seen-j c =
    let small : c.image-j.result < 4096 =
    let t = c.loop-k.invariant.1 c.requires.0 c.requires.1 c.requires.2 c.requires.3 in (turning_small t (omega arith) (c.image-j.ensures _ (turning_numbering t (omega arith)))).1 in
    small

pub bounds-seen-j-then-not-seen-j : goal.bounds-seen-j-then-not-seen-j
bounds-seen-j-then-not-seen-j c =
    let small : c.image-j.result < 4096 =
    let t = c.loop-k.invariant.1 c.requires.0 c.requires.1 c.requires.2 c.requires.3 in (turning_small t (omega arith) (c.image-j.ensures _ (turning_numbering t (omega arith)))).1 in
    small

pub overflow_cast-queue : goal.overflow_cast-queue
overflow_cast-queue c =
    let small : c.image-j.result < 4096 =
    let t = c.loop-k.invariant.1 c.requires.0 c.requires.1 c.requires.2 c.requires.3 in (turning_small t (omega arith) (c.image-j.ensures _ (turning_numbering t (omega arith)))).1 in
    omega (arith, small)

pub offset_bounds-queue-end : goal.offset_bounds-queue-end
offset_bounds-queue-end c =
    omega (arith, turning_tail (c.loop-k.invariant.1 c.requires.0 c.requires.1 c.requires.2 c.requires.3))

pub overflow_add-end : goal.overflow_add-end
overflow_add-end c =
    omega (arith, turning_tail (c.loop-k.invariant.1 c.requires.0 c.requires.1 c.requires.2 c.requires.3))
