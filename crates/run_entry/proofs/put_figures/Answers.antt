-- The figures of an entry. Assumes nothing.
use Rattle.model.specs.Kit.{◌≡◌, sym, subst, set, ℕ, ◌+◌, ◌*◌, arith}
use Rattle.model.specs.Lists.{at}
use Rattle.arrays.specs.Inner.Places.{SETS, ENDS, COUNTS}
use Rattle.run_entry.specs.Inner.Entry.{FigureIn}
use Rattle.run_entry.proofs.{Loops.figures_none, Loops.figures_turn}
use Rattle.run_entry.proofs.put_figures.Goals as goal

pub loop-x-init : goal.loop-x-init
loop-x-init c = (omega arith, c.requires.4, figures_none _ _ _ _ _ c.requires.3 _ (omega (arith, c.requires.3.is)))

pub between-requires : goal.between-requires
unfolding at
between-requires c = c.loop-x.invariant.1 c.loop-x.x (omega arith)

pub loop-x-preserved : goal.loop-x-preserved
unfolding at
loop-x-preserved c =
    let F : ℕ → ℕ → Type 0 = λ v u.
    FigureIn c.args.stack.now c.args.before.counts c.args.after.counts c.args.k c.args.s (c.loop-x.x + 1) c.args.work.now
    (set (set (set c.loop-x.work (c.args.s + SETS + c.loop-x.x) v) (c.args.s + ENDS + c.loop-x.x) (at (set c.loop-x.work (c.args.s + SETS + c.loop-x.x) v) c.loop-x.x))
    (c.args.s + COUNTS + c.loop-x.x) u) in (
      omega arith,
      c.loop-x.invariant.1,
      subst (λ (v : ℕ). F v c.between.result) (sym c.set_at.ensures)
          (subst (F (at c.args.stack.now (16 * c.args.k + c.loop-x.x))) (sym c.between.ensures)
          (figures_turn c.args.stack.now c.args.before.counts c.args.after.counts c.args.k c.args.s c.requires.3 c.args.work.now (omega (arith, c.requires.3.is)) c.loop-x.x c.loop-x.work
          c.loop-x.invariant.2 (omega arith))),
    )

pub returns : goal.returns
returns c =
    let e : c.loop-x.x ≡ 12 = omega arith in
    subst (λ (n : ℕ). FigureIn c.args.stack.now c.args.before.counts c.args.after.counts c.args.k c.args.s n c.args.work.now c.loop-x.work) e c.loop-x.invariant.2
