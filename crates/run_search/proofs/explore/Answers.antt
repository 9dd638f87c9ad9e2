-- `run_search::explore` meets its contract: proofs/Explored. Assumes nothing.
use Rattle.model.specs.Kit.{refl, sym, ap, subst, ℕ, List, rules}
use Rattle.model.specs.Lists.{at}
use Rattle.std.proofs.lemmas.Result.{err_from_is_err_and}
use Rattle.run_state.{specs.Meaning.tally_in, specs.Inner.Cut.stop_of, specs.Inner.Cut.node_in, proofs.Stops.is_inner}
use Rattle.run_search.specs.Inner.Explored.{Explored}
use Rattle.run_search.proofs.Explored.{explored_dead, explored, start_asks}
use Rattle.run_search.proofs.explore.Goals as goal

pub returns-in_err-node : goal.returns-in_err-node
returns-in_err-node c =
    let q = err_from_is_err_and c.from_residual.result c.from_residual.ensures.1 in
    rw (q.1, q.2) (c.in_err-node.ensures, refl, refl)

pub returns-in-Leaf : goal.returns-in-Leaf
unfolding at
returns-in-Leaf c = explored_dead _ _ _ _ _ _ _ _ _ _ _ _ c.requires.unlisted c.in_ok-node.ensures _ _ (ap node_in c.in-Leaf.is) refl c.reset.ensures

pub settle-stop-requires : goal.settle-stop-requires
unfolding at
settle-stop-requires c =
    (_, start_asks _ _ _ _ _ _ _ _ _ _ _ _ c.requires.unlisted c.in_ok-node.ensures (is_inner _ c.in_default.not-Leaf) _ c.reset.ensures _ c.candidates-m.ensures)

pub returns : goal.returns
unfolding at
returns c =
    let inner = is_inner _ c.in_default.not-Leaf in
    let Left : List ℕ → Type 0 = λ l.
    Explored c.args.work.now c.args.sheet.now c.args.pairs.now c.args.block.now c.args.limit c.args.list.now c.settle-stop.new.work l
    (tally_in c.settle-stop.new.tally) (stop_of c.settle-stop.result) in
    subst Left (search rules)
    (explored _ _ _ _ _ _ _ _ _ _ _ _ c.requires.unlisted c.in_ok-node.ensures inner _ c.reset.ensures _ c.candidates-m.ensures _ _ _ _ _
    (c.settle-stop.ensures.walked _ (start_asks _ _ _ _ _ _ _ _ _ _ _ _ c.requires.unlisted c.in_ok-node.ensures inner _ c.reset.ensures _ c.candidates-m.ensures)))
