-- `run_search::prepare` meets its contract: proofs/Prepared. Assumes nothing.
use Rattle.model.specs.Kit.{refl, sym}
use Rattle.model.specs.Lists.{at}
use Rattle.std.proofs.lemmas.Result.{err_from_is_err_and}
use Rattle.run_search.proofs.{Prepared.some_variables, Prepared.few_variables, Prepared.laid, Prepared.prepared}
use Rattle.run_search.proofs.prepare.Goals as goal

pub room_for-room-requires : goal.room_for-room-requires
unfolding at
room_for-room-requires c = some_variables _ _ _ _ _ _ _ _ c.in_ok-compile.ensures refl

pub positions-positions-requires : goal.positions-positions-requires
unfolding at
positions-positions-requires c = few_variables _ _ _ _ _ _ _ _ c.in_ok-compile.ensures refl

pub begin-node-requires : goal.begin-node-requires
unfolding at
begin-node-requires c = (
  (_, _, _, laid _ _ _ _ _ _ _ _ c.in_ok-compile.ensures refl c.args.limit _ _ c.put_bounds.ensures _ c.positions-positions.ensures),
  record
      { stack_length = c.requires.stack_length; work_length = c.requires.work_length; tables_length = c.requires.tables_length },
)

pub returns : goal.returns
unfolding at
returns c =
    let l = laid _ _ _ _ _ _ _ _ c.in_ok-compile.ensures refl c.args.limit _ _ c.put_bounds.ensures _ c.positions-positions.ensures in
    prepared _ _ _ _ _ _ _ _ c.in_ok-compile.ensures refl c.args.limit c.ranges.limit.fits c.args.work.now c.args.size _ c.room_for-room.ensures c.room_for-room.type_inv
    c.requires.unlisted _
    c.put_bounds.ensures c.requires.none_listed _ _ _ _ _ (c.begin-node.ensures _ _ _ l)

pub returns-in_err-compile : goal.returns-in_err-compile
returns-in_err-compile c =
    let q = err_from_is_err_and c.from_residual.result c.from_residual.ensures.1 in
    rw (q.1, q.2) (sym c.in_err-compile.ensures.answers)
