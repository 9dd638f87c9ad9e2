-- `run::run_wanted` meets its contract: proofs/Whole. Assumes nothing.
use Rattle.model.specs.Kit.{refl, []}
use Rattle.std.proofs.lemmas.Result.{err_from_is_err_and}
use Rattle.run_state.specs.Inner.Walk.{no_nodes}
use Rattle.run_search.proofs.Explored.{explored_tree}
use Rattle.run.proofs.{Whole.ran_refused, Whole.ran_ended, Whole.wanted_blank, Whole.wanted_so}
use Rattle.run.proofs.run_wanted.Goals as goal

pub prepare-requires : goal.prepare-requires
prepare-requires c = wanted_blank _ c.requires

pub returns-in_err-node : goal.returns-in_err-node
returns-in_err-node c =
    let q = err_from_is_err_and c.from_residual.result c.from_residual.ensures.1 in
    rw (q.1, q.2) (wanted_so _ c.requires _ _ _ _ _ _ _ _ _ (ran_refused _ _ _ _ c.args.limit [] no_nodes _ c.in_err-node.ensures [] no_nodes refl refl))

pub walk_tree-part-requires : goal.walk_tree-part-requires
walk_tree-part-requires c = λ e. (_, c.in_ok-node.ensures.live e _ refl)

pub returns : goal.returns
returns c =
    let e = explored_tree _ _ _ _ _ _ _ _ _ _ _ _ (λ n. refl) c.in_ok-node.ensures _ _ _ _ _ c.walk_tree-part.ensures in
    wanted_so _ c.requires _ _ _ _ _ _ _ _ _ (ran_ended _ _ _ _ _ _ no_nodes _ _ _ _ e _ refl _ c.answered.ensures)
