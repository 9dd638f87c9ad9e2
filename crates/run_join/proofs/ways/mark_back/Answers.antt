-- `mark_back`: after k turns it is done for the first k heads. Assumes nothing.
use Rattle.model.specs.Kit.{sym, ◌∙◌, subst, ◌+◌, arith}
use Rattle.run_join.specs.Join.{path_at}
use Rattle.run_join.proofs.{Turns.head_at, Leads.Back, Leads.back_none, Leads.back_all, Leads.back_yes, Leads.back_no}
use Rattle.run_join.proofs.ways.mark_back.Goals as goal
use Rattle.run_join.proofs.ways.mark_back.Goals.{else-comes_to, then-comes_to}

pub loop-k-init : goal.loop-k-init
loop-k-init c = back_none _ _ _ c.requires.2

pub loop-k-preserved : goal.loop-k-preserved
loop-k-preserved c =
    let here = path_at c.args.here.now 0 in
    elim c.if-comes_to.branch [
      | then-comes_to w ↦ subst (Back here c.args.l.now (c.loop-k.k + 1) c.args.marks.now) (sym w.marks-is)
          (back_yes here c.args.l.now c.loop-k.k c.args.marks.now c.loop-k.marks c.loop-k.invariant _ (sym c.comes_to.ensures ∙ w.if-comes_to.true) w.mark.ensures)
      | else-comes_to w ↦
          subst (Back here c.args.l.now (c.loop-k.k + 1) c.args.marks.now) (sym w.marks-is)
          (back_no here c.args.l.now c.loop-k.k c.args.marks.now c.loop-k.marks c.loop-k.invariant (sym c.comes_to.ensures ∙ w.if-comes_to.false))
    ]

pub returns : goal.returns
returns c = back_all _ _ _ c.loop-k.k _ _ (omega arith) c.loop-k.invariant

pub comes_to-requires : goal.comes_to-requires
comes_to-requires c = (c.requires.0, head_at c.args.l.now c.args.n c.requires.1 c.loop-k.k (omega arith))

pub mark-requires : goal.mark-requires
mark-requires c = (c.loop-k.invariant.0, omega (arith, c.requires.1.few))
