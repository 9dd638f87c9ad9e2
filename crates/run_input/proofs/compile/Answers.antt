-- The questions, then the reordering where pairs are lent. Assumes nothing.
use Rattle.std.proofs.lemmas.Result.{err_from_is_err_and}
use Rattle.model.specs.Kit.{sym, ◌∙◌, eqb-true}
use Rattle.run_input.proofs.{Compiling.compiled_refused, Compiling.movable, Compiling.compiled_moved, Compiling.compiled_same}
use Rattle.run_input.proofs.compile.Goals as goal

pub returns-in_err-ask : goal.returns-in_err-ask
returns-in_err-ask c =
    let p = err_from_is_err_and c.from_residual.result c.from_residual.ensures.1 in
    rw (p.1, p.2) (compiled_refused _ _ _ _ _ _ _ _ _ c.in_err-ask.was c.ask.ensures)

pub returns-then-not-is_empty : goal.returns-then-not-is_empty
returns-then-not-is_empty c =
    compiled_moved _ _ _ _ _ _ _ _ c.in_ok-ask.was c.ask.ensures _ _ _ (c.reorder.ensures _ (movable _ _ _ _ _ _ _ _ c.in_ok-ask.was c.ask.ensures))

pub returns-else-not-is_empty : goal.returns-else-not-is_empty
returns-else-not-is_empty c = compiled_same _ _ _ _ _ _ _ _ c.in_ok-ask.was c.ask.ensures (eqb-true _ 0 (sym c.is_empty.ensures ∙ c.if-not-is_empty.false))

pub reorder-requires : goal.reorder-requires
reorder-requires c = (_, movable _ _ _ _ _ _ _ _ c.in_ok-ask.was c.ask.ensures)
