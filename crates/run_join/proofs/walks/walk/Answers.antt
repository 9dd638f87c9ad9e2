-- `walk`: what is summed up and what is left are the whole. Assumes nothing.
use Rattle.model.specs.Kit.{sym, ◌-◌, arith}
use Rattle.run_join.specs.Join.{head_number}
use Rattle.run_join.proofs.{Sums.underway, Sums.underway_turn, Sums.summed, Sums.taken_stop, Sums.none_left}
use Rattle.run_join.proofs.walks.walk.Goals as goal

pub loop-j-init : goal.loop-j-init
loop-j-init c = underway c.args.l.now c.args.n c.requires.1

pub step-requires : goal.step-requires
step-requires c = (c.requires.0, c.requires.1, c.loop-j.invariant.inside, c.requires.2)

pub returns-in_default : goal.returns-in_default
returns-in_default c =
    summed c.args.l.now c.args.n c.loop-j._j (head_number c.loop-j.w.stand) c.loop-j.w.plans c.loop-j.w.nodes c.loop-j.w.counts c.loop-j.invariant c.requires.1
    (taken_stop c.args.l.now (c.args.n - c.loop-j._j) (head_number c.loop-j.w.stand) (sym c.in_default.ensures.0))

pub with_head-w-requires : goal.with_head-w-requires
with_head-w-requires c = (
  omega (arith, c.requires.0.fits, c.in-Some.ensures.1),
  record {
    plans = omega (arith, c.loop-j.invariant.few_plans, c.requires.0.few);
    nodes = omega (arith, c.loop-j.invariant.few_nodes, c.requires.0.few);
    counts = λ x h. omega (arith, c.loop-j.invariant.few x h, c.requires.0.few);
  },
)

pub loop-j-preserved : goal.loop-j-preserved
loop-j-preserved c =
    underway_turn c.args.l.now c.args.n c.loop-j._j (head_number c.loop-j.w.stand) c.loop-j.w.plans c.loop-j.w.nodes c.loop-j.w.counts c.loop-j.invariant c.in-Some.next _ _ _ _ (omega arith)
    c.in-Some.ensures.0 c.in-Some.ensures.1 c.with_head-w.ensures

pub returns : goal.returns
returns c =
    summed c.args.l.now c.args.n c.loop-j._j (head_number c.loop-j.w.stand) c.loop-j.w.plans c.loop-j.w.nodes c.loop-j.w.counts c.loop-j.invariant c.requires.1
    (none_left c.args.l.now c.args.n c.loop-j._j (head_number c.loop-j.w.stand) (omega arith))
