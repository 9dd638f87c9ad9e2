-- `go_round`: after i turns of the loop the first i slots of the round were given the turns due to them. Assumes nothing.
use Rattle.model.specs.Kit.{sym, ◌∙◌, inl, inr, arith}
use Rattle.model.specs.Lists.{at}
use Rattle.desk_turns.proofs.{Rounding.round_begin, Rounding.round_more, Rounding.round_end}
use Rattle.desk.specs.Inner.Places.{NEXT}
use Rattle.desk_turns.proofs.round.go_round.Goals as goal
use Rattle.desk_turns.proofs.round.go_round.Goals.{else-best-took, then-best-took}

pub loop-i-init : goal.loop-i-init
unfolding at
loop-i-init c = round_begin _ _ (c.requires, λ i. (c.slice_known-1.given i).fits)

pub loop-i-preserved : goal.loop-i-preserved
unfolding at
loop-i-preserved c =
    round_more _ _ c.loop-i.i (omega arith) _ _ _ c.loop-i.invariant _ _ c.give-took.ensures _ _
    ((elim c.if-best-took.branch [ then-best-took q ↦ inl (q.if-best-took.true, q.next-is, q.best-is) | else-best-took q ↦ inr (q.if-best-took.false, q.next-is, q.best-is) ]))

pub returns : goal.returns
unfolding at
returns c = round_end _ _ c.loop-i.i _ _ _ (omega arith) (omega arith) c.loop-i.invariant

pub overflow_cast-first : goal.overflow_cast-first
overflow_cast-first c = omega (arith, c.slice_known-2-1.given NEXT)

pub overflow_add-k : goal.overflow_add-k
overflow_add-k c = omega (arith, c.slice_known-2-1.given NEXT)

pub give-took-requires : goal.give-took-requires
give-took-requires c = (c.loop-i.invariant.bytes.0, omega arith)

pub shape_of-queue : goal.shape_of-queue
shape_of-queue c = c.loop-i.invariant.bytes.0 ∙ sym c.requires
