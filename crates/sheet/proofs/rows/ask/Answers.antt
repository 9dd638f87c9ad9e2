use Rattle.std.specs.Prelude.{Some, None, Err}
use Rattle.std.proofs.lemmas.Result.{err_from_is_err_and}
use Rattle.model.specs.Kit.{◌≡◌, ◌∙◌, ltb, lt-ltb, le-ltb, arith}
use Rattle.model.specs.Lists.{choose}
use Rattle.model.specs.declared.refusals.Question.TheVariants.{RowValues, RowOrder}
use Rattle.sheet.proofs.{RowTurn.rows_none, RowTurn.rows_more, RowTurn.rows_end, RowTurn.row_bad, RowTurn.room}
use Rattle.sheet.proofs.rows.ask.Goals as goal
use Rattle.sheet.proofs.rows.ask.Goals.{then-key-least, else-key-least}

pub loop-i-init : goal.loop-i-init
loop-i-init c = (omega arith, rows_none _ _ _ _ _ _)

pub key-requires : goal.key-requires
key-requires c =
    (c.requires.0, c.requires.1, c.requires.3, omega (arith, room c.loop-i.i c.args.n c.args.a (omega arith), c.loop-i.invariant.1.here, c.requires.4))

pub returns-in_err-key : goal.returns-in_err-key
returns-in_err-key c =
    let none : c.key.result ≡ None = grind arith in
    let p = err_from_is_err_and c.from_residual.result c.from_residual.ensures.1 in
    let q : c.in_err-key.field-0.0 ≡ RowValues = grind arith in
    rw (p.1, p.2, q) (row_bad _ _ _ _ _ _ _ _ _ _ _ c.loop-i.invariant.1 _ _ none (omega arith) c.key.ensures)

pub overflow_add-at : goal.overflow_add-at
overflow_add-at c = omega (
  arith,
  room c.loop-i.i c.args.n
      c.args.a (omega arith),
  c.loop-i.invariant.1.here,
  c.requires.4,
  c.well_formed,
)

pub loop-i-preserved : goal.loop-i-preserved
loop-i-preserved c =
    let some : c.key.result ≡ Some c.in_ok-key.key = grind arith in
    let order : c.if-key-least.order ≡ choose (ltb c.in_ok-key.key c.loop-i.least) (Err RowOrder) c.loop-i.order =
    elim c.if-key-least.branch [
      | then-key-least w ↦ w.order-is ∙ simp (lt-ltb _ _ w.if-key-least.true)
      | else-key-least w ↦ w.order-is ∙ simp (le-ltb _ _ w.if-key-least.false)
    ] in
    (omega arith, rows_more _ _ _ _ _ _ _ _ _ _ _ c.loop-i.invariant.1 _ _ _ _ some c.key.ensures order c.add_row.ensures)

pub returns : goal.returns
returns c = rows_end _ _ _ _ _ _ _ _ _ _ _ c.loop-i.invariant.1 _ (omega arith) c.loop-i.invariant.0

pub overflow_add-least : goal.overflow_add-least
overflow_add-least c =
    let some : c.key.result ≡ Some c.in_ok-key.key = grind arith in
    omega (arith, (c.key.ensures.good _ some).0)

pub add_row-requires : goal.add_row-requires
add_row-requires c =
    let some : c.key.result ≡ Some c.in_ok-key.key = grind arith in
    ((c.key.ensures.good _ some).0, c.requires.5)
