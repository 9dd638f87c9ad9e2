-- `counts_at`: after x turns of the loop the first x counts are read. Assumes nothing.
use Rattle.model.specs.Kit.{refl, sym, ap₂, ◌∙◌, ◌+◌, min, arith, rules}
use Rattle.model.specs.{Lists.at}
use Rattle.model.proofs.Filling.{filled_begin, filled_turn, filled_end}
use Rattle.desk.specs.{Inner.Places.LIMIT}
use Rattle.desk.proofs.{Counts.counts_as, Slots.long_small}
use Rattle.desk.proofs.counts_at.Goals as goal

pub overflow_cast-nodes : goal.overflow_cast-nodes
unfolding at
overflow_cast-nodes c =
    let z = long_small c.args.queue.now (λ i. omega (arith, c.shared_slice_known-1.given i)) (c.args.p + LIMIT) in
    search (rules, z, c.nodes_at-nodes.ensures)

pub loop-x-init : goal.loop-x-init
loop-x-init c = filled_begin _ _ _

pub loop-x-preserved : goal.loop-x-preserved
unfolding at
loop-x-preserved c =
    filled_turn (λ i. i) _ _ _ c.loop-x.x _ _ c.loop-x.invariant refl (omega arith) (λ v k e. omega arith)
    (c.capped.ensures ∙ ap₂ min c.nodes_at-nodes.ensures c.read_long.ensures)

pub returns : goal.returns
returns c =
    let f = filled_end (λ i. i) _ _ _ 12 c.loop-x.x (omega arith) (omega arith) c.loop-x.invariant in
    sym (counts_as _ _ c.loop-x.counts f.size (λ x k. sym (f.here x k)))
