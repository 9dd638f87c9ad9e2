-- The sheet's questions, then the lendings'. Assumes nothing.
use Rattle.std.proofs.lemmas.Result.{err_from_is_err_and}
use Rattle.model.specs.Kit.{rules}
use Rattle.run_input.proofs.{Compiling.sheet_refused, Compiling.held, Compiling.sheet_accepted}
use Rattle.run_input.proofs.ask.Goals as goal

pub returns-in_err-compile : goal.returns-in_err-compile
returns-in_err-compile c =
    let p = err_from_is_err_and c.from_residual.result c.from_residual.ensures.1 in
    rw (p.1, p.2) (sheet_refused _ _ _ _ _ c.compile.ensures _ _ _ _ c.in_err-compile.was (search rules))

pub returns : goal.returns
returns c =
    sheet_accepted _ _ _ _ _ c.compile.ensures c.in_ok-compile.was _ _ _ _ (c.lendings.ensures _ (held _ _ _ _ _ c.compile.ensures c.in_ok-compile.was))

pub lendings-requires : goal.lendings-requires
lendings-requires c = (_, held _ _ _ _ _ c.compile.ensures c.in_ok-compile.was)
