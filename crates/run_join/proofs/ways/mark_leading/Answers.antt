-- `mark_leading`: what is marked leads, and what is done is done. Assumes nothing.
use Rattle.model.specs.Kit.{refl, subst, arith, List, ℕ}
use Rattle.model.specs.Lists.{all, at, below, tabulate, up_from}
use Rattle.run_join.specs.Join.{path_at, path_shaped}
use Rattle.run_join.specs.Inner.Inner.{MarkedBack}
use Rattle.run_join.proofs.Leads.{marking_begin, marking_inside, marking_turn, marking_end, fewer_left}
use Rattle.run_join.proofs.{Turns.head_at, Turns.from_path, Bits.marked_none}
use Rattle.run_join.proofs.ways.mark_leading.Goals as goal

pub mark_back-requires : goal.mark_back-requires
unfolding path_shaped all at below up_from
mark_back-requires c = (record { fits = omega arith; shaped = refl }, c.requires.0, c.requires.2.long)

pub loop-next-init : goal.loop-next-init
unfolding path_at tabulate at
loop-next-init c = marking_begin c.args.l.now c.args.n c.requires.1 _ c.args.marks.now _ _ refl c.requires.2 c.mark_back.ensures marked_none

pub overflow_mul-next : goal.overflow_mul-next
overflow_mul-next c =
    let i = marking_inside c.args.l.now c.args.n c.requires.1 c.loop-next.marks c.loop-next.done c.loop-next.invariant c.in-Some.next c.in-Some.ensures in
    omega (arith, c.requires.0.few)

pub overflow_add-next : goal.overflow_add-next
overflow_add-next c =
    let i = marking_inside c.args.l.now c.args.n c.requires.1 c.loop-next.marks c.loop-next.done c.loop-next.invariant c.in-Some.next c.in-Some.ensures in
    omega (arith, c.requires.0.few)

pub mark-requires : goal.mark-requires
mark-requires c =
    let i = marking_inside c.args.l.now c.args.n c.requires.1 c.loop-next.marks c.loop-next.done c.loop-next.invariant c.in-Some.next c.in-Some.ensures in
    (c.loop-next.invariant.wide, omega (arith, c.requires.0.few))

pub padded-requires : goal.padded-requires
padded-requires c =
    from_path c.args.l.now c.in-Some.next (head_at c.args.l.now c.args.n c.requires.0 c.in-Some.next
    (marking_inside c.args.l.now c.args.n c.requires.1 c.loop-next.marks c.loop-next.done c.loop-next.invariant c.in-Some.next c.in-Some.ensures))

pub mark_back-requires-in-Some : goal.mark_back-requires-in-Some
mark_back-requires-in-Some c = (c.padded.ensures.0, c.requires.0, c.loop-next.invariant.long)

pub loop-next-smaller : goal.loop-next-smaller
loop-next-smaller c =
    fewer_left c.args.l.now c.args.n c.requires.1 c.loop-next.marks c.loop-next.done c.loop-next.invariant c.in-Some.next c.in-Some.ensures _ c.mark.ensures

pub loop-next-preserved : goal.loop-next-preserved
loop-next-preserved c =
    marking_turn c.args.l.now c.args.n c.requires.1 c.loop-next.marks c.loop-next.done c.loop-next.invariant c.in-Some.next c.in-Some.ensures _ _ c.mark.ensures
    (subst (λ (s : List ℕ). MarkedBack s c.args.l.now c.args.n c.loop-next.marks c.mark_back-in-Some.new.marks) c.padded.ensures.1 c.mark_back-in-Some.ensures)

pub returns : goal.returns
returns c = marking_end c.args.l.now c.args.n c.requires.1 c.loop-next.marks c.loop-next.done c.loop-next.invariant c.in_default.ensures
