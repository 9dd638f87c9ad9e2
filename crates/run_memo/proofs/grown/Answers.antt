-- A tally with the nodes of an entry. Assumes nothing.
use Rattle.model.specs.Kit.{◌≡◌, refl, sym, ap₂, subst, List, ℕ, ◌+◌, arith, set}
use Rattle.model.specs.Lists.{at}
use Rattle.run_memo.proofs.{Loops.GrownTo, Loops.grown_turn, Loops.grown_all}
use Rattle.run_memo.proofs.grown.Goals as goal

pub loop-x-init : goal.loop-x-init
loop-x-init c = (omega arith, c.requires.2.twelve, ((λ y l. absurd (omega arith)), (λ y l. refl), refl))

pub sum-requires : goal.sum-requires
unfolding at
sum-requires c = omega (arith, c.loop-x.invariant.2.1 c.loop-x.x (omega arith), c.requires.2.counts c.loop-x.x (omega arith))

pub loop-x-preserved : goal.loop-x-preserved
unfolding at
loop-x-preserved c = (
  omega arith,
  c.loop-x.invariant.1,
  subst (λ (v : ℕ). GrownTo c.args.t.counts c.args.work.now c.args.s (c.loop-x.x + 1) (set c.loop-x.counts c.loop-x.x v)) (sym c.sum.ensures)
      (grown_turn c.args.t.counts c.args.work.now c.args.s c.loop-x.x c.loop-x.counts (omega (arith, c.loop-x.invariant.1)) c.loop-x.invariant.2),
)

pub sum-nodes-requires : goal.sum-nodes-requires
unfolding at
sum-nodes-requires c = omega (arith, c.requires.2.nodes)

pub returns : goal.returns
unfolding at
returns c =
    let e : c.loop-x.x ≡ 12 = omega arith in
    ap₂ (λ (n : ℕ) (cs : List ℕ). record { nodes = n; counts = cs }) c.sum-nodes.ensures
    (grown_all c.args.t.counts c.args.work.now c.args.s c.loop-x.counts c.loop-x.invariant.1
    (subst (λ (n : ℕ). GrownTo c.args.t.counts c.args.work.now c.args.s n c.loop-x.counts) e c.loop-x.invariant.2))
