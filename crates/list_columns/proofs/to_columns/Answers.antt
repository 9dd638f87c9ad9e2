-- `to_columns`: the questions, the header, the columns. Assumes nothing.
use Rattle.model.specs.Kit.{◌≡◌, sym, ◌+◌, ◌/◌, ◌≤◌, arith, length}
use Rattle.model.specs.Verdict.{accepted}
use Rattle.std.proofs.lemmas.Result.{err_from_is_err_and}
use Rattle.model.proofs.Room.{wrote_out}
use Rattle.list_columns.specs.Columns.{columns_of, bytes_verdict, columns_verdict}
use Rattle.list_columns.proofs.Asking.{refused_by, Passed, passed, cells, few_bytes}
use Rattle.list_columns.proofs.{Cells.heading_length, Storing.heading_fits, Storing.columns_fit, Storing.store_fronted}
use Rattle.list_columns.proofs.to_columns.Goals as goal

pub returns-in_err-question : goal.returns-in_err-question
unfolding columns_verdict
returns-in_err-question c =
    let p = err_from_is_err_and c.from_residual.result c.from_residual.ensures.1 in
    refused_by c.from_residual.result _ _ _ (columns_of c.args.n c.args.rows.now) c.args.room.now p.1 p.2 c.in_err-question.ensures

pub put_columns-requires : goal.put_columns-requires
put_columns-requires c =
    let none : bytes_verdict c.args.n c.args.rows.now (8 + length c.args.rows.now) (length c.args.room.now) ≡ accepted =
    sym c.in_ok-question.ensures in
    let sound : Passed c.args.n c.args.rows.now (8 + length c.args.rows.now) (length c.args.room.now) = passed _ _ _ _ none in
    let f = columns_fit sound c.put_heading-at.result _ c.put_heading-at.ensures.ends in
    (f.0, omega (arith, f.1, c.put_heading-at.auto.out))

pub overflow_add-result : goal.overflow_add-result
overflow_add-result c =
    let none : bytes_verdict c.args.n c.args.rows.now (8 + length c.args.rows.now) (length c.args.room.now) ≡ accepted =
    sym c.in_ok-question.ensures in
    let sound : Passed c.args.n c.args.rows.now (8 + length c.args.rows.now) (length c.args.room.now) = passed _ _ _ _ none in
    omega (arith, c.put_heading-at.ensures.ends, heading_length c.args.n (length c.args.rows.now / c.args.n), few_bytes sound.rows)

pub returns : goal.returns
unfolding columns_verdict
returns c =
    let none : bytes_verdict c.args.n c.args.rows.now (8 + length c.args.rows.now) (length c.args.room.now) ≡ accepted =
    sym c.in_ok-question.ensures in
    let sound : Passed c.args.n c.args.rows.now (8 + length c.args.rows.now) (length c.args.room.now) = passed _ _ _ _ none in
    let fits : c.put_heading-at.result ≤ length c.args.room.now = omega (arith, sound.fits, heading_length c.args.n (length c.args.rows.now / c.args.n), c.put_heading-at.ensures.ends) in
    let f = store_fronted c.args.n c.args.rows.now (cells sound.rows) fits c.put_heading-at.ensures c.put_columns.ensures in
    wrote_out (columns_verdict c.args.n c.args.rows.now (length c.args.room.now)) (columns_of c.args.n c.args.rows.now) c.args.room.now _ _ none f.bytes f.count

pub nonzero_div-plans : goal.nonzero_div-plans
nonzero_div-plans c =
    let none : bytes_verdict c.args.n c.args.rows.now (8 + length c.args.rows.now) (length c.args.room.now) ≡ accepted =
    sym c.in_ok-question.ensures in
    let sound : Passed c.args.n c.args.rows.now (8 + length c.args.rows.now) (length c.args.room.now) = passed _ _ _ _ none in
    omega (arith, sound.rows.some)

pub put_heading-at-requires : goal.put_heading-at-requires
put_heading-at-requires c =
    let none : bytes_verdict c.args.n c.args.rows.now (8 + length c.args.rows.now) (length c.args.room.now) ≡ accepted =
    sym c.in_ok-question.ensures in
    let sound : Passed c.args.n c.args.rows.now (8 + length c.args.rows.now) (length c.args.room.now) = passed _ _ _ _ none in
    heading_fits sound
