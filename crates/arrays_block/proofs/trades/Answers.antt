use Rattle.std.proofs.lemmas.Result.{err_from_is_err_and}
use Rattle.model.specs.Kit.{◌≡◌, refl, ◌+◌, get_or, arith}
use Rattle.model.specs.declared.refusals.Question.{Question}
use Rattle.sheet.proofs.Mapped.{mapped_ok, mapped_err}
use Rattle.block.specs.{Block.factorial}
use Rattle.arrays_block.proofs.Asking.{few, symmetries_are, next_row, row_few, next_few, row_of, trade_no, trade_yes, trades_all}
use Rattle.arrays_block.proofs.trades.Goals as goal

pub loop-k-init : goal.loop-k-init
unfolding factorial
loop-k-init c = (omega arith, refl, λ p h is. (let f = few p _ _ h _ _ is in omega (arith, f.0), λ j l u. absurd (omega arith)))

pub row_question-requires : goal.row_question-requires
row_question-requires c =
    (c.requires.0, c.requires.1, row_of c.requires.0 _ _ c.requires.1 _ _ c.requires.2 _ _ c.loop-k.invariant.1 c.loop-k.invariant.0 (omega arith) _ c.rows-rows.ensures)

pub overflow_add-item : goal.overflow_add-item
overflow_add-item c = omega (
  arith,
  symmetries_are c.requires.0 _ _ c.requires.1 _ _ c.requires.2,
  c.requires.1.symmetries,
  row_few c.requires.0 _ _ c.requires.1 _ _ c.requires.2 _ _ c.loop-k.invariant.1 c.loop-k.invariant.0 (omega arith),
)

pub returns-in_err-map_err : goal.returns-in_err-map_err
returns-in_err-map_err c = λ p h is.
    let m = mapped_err c.map_err.result _ c.row_question.result c.in_err-map_err.field-0.0 c.map_err.ensures.cases c.in_err-map_err.was in
    let q : Question = m.0 in
    let g = m.2 in
    let e : c.in_err-map_err.field-0.0 ≡ record { question = q; item = get_or c.args.numbers.now 67 0 + c.loop-k.row } = grind arith in
    let r = err_from_is_err_and c.from_residual.result c.from_residual.ensures.1 in
    rw (r.1, r.2, e)
    (trade_no p _ _ h _ _ is _ _ c.loop-k.invariant.1 c.loop-k.invariant.0 (omega arith) (c.loop-k.invariant.2 p h is).1 _
    (c.row_question.ensures p h (row_of p _ _ h _ _ is _ _ c.loop-k.invariant.1 c.loop-k.invariant.0 (omega arith) _ c.rows-rows.ensures)) q m.1)

pub overflow_mul-row : goal.overflow_mul-row
overflow_mul-row c = omega
    (arith, next_few c.requires.0 _ _ c.requires.1 _ _ c.requires.2 _ _ c.loop-k.invariant.1 c.loop-k.invariant.0 (omega arith))

pub loop-k-preserved : goal.loop-k-preserved
loop-k-preserved c = (
  omega arith,
  next_row _ _ c.loop-k.invariant.1,
  λ p h is. (
    omega arith,
    trade_yes p _ _ h _ _ is _ _ c.loop-k.invariant.1 c.loop-k.invariant.0 (omega arith) (c.loop-k.invariant.2 p h is).1 _
        (c.row_question.ensures p h (row_of p _ _ h _ _ is _ _ c.loop-k.invariant.1 c.loop-k.invariant.0 (omega arith) _ c.rows-rows.ensures))
        (mapped_ok c.map_err.result _ c.row_question.result tt c.map_err.ensures.cases c.in_ok-map_err.was),
  ),
)

pub returns : goal.returns
returns c = λ p h is. let i = c.loop-k.invariant.2 p h is in trades_all p _ _ h _ _ is (λ j l u. i.1 j l (omega arith))
