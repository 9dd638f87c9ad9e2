-- `columns`: the answer's length is asked first; then the call, and its answer as three numbers. Assumes nothing.
use Rattle.model.specs.Kit.{refl, sym, ap, ◌∙◌, ◌+◌, ◌*◌, ◌≤◌, arith, length}
use Rattle.model.specs.{Room.wrote, Room.refusal, Refusals.number_of, declared.refusals.Refusal.Refusal}
use Rattle.list_columns.specs.{Columns.columns_of, Columns.columns_verdict, Meaning.means}
use Rattle.list_columns.proofs.Storing.{columns_size}
use Rattle.wire.proofs.Outcomes.{wrote_is, wrong_answer, right_answer}
use Rattle.export_columns.proofs.columns.Goals as goal

pub returns-then-answer-ne12 : goal.returns-then-answer-ne12
returns-then-answer-ne12 c =
    wrong_answer (columns_verdict c.args.variables c.args.rows.now (length c.args.out.now)) (columns_of c.args.variables c.args.rows.now) c.args.out.now c.args.answer.now c.if-answer-ne12.true

pub three-requires : goal.three-requires
three-requires c =
    let w = wrote_is (columns_verdict c.args.variables c.args.rows.now (length c.args.out.now)) (columns_of c.args.variables c.args.rows.now) c.in-Ok.count
    (sym (ap means c.in-Ok.is) ∙ c.to_columns.ensures.0) in
    let few : c.in-Ok.count ≤ 49160 = omega (arith, w.1, columns_size c.args.variables c.args.rows.now (length c.args.out.now) w.0) in
    (c.if-answer-ne12.false, omega arith, omega arith, omega arith)

pub returns-in-Err : goal.returns-in-Err
returns-in-Err c =
    right_answer (columns_verdict c.args.variables c.args.rows.now (length c.args.out.now)) (columns_of c.args.variables c.args.rows.now) c.args.out.now c.args.answer.now
    (refusal (number_of c.in-Err.question) 0) c.refusal_code.result c.to_columns.new.room c.args.answer.now c.if-answer-ne12.false
    (sym (ap means c.in-Err.is) ∙ c.to_columns.ensures.0)
    (c.refusal_code.ensures ∙ ap (λ (by : Refusal). number_of by.question * 256 + by.item) c.into.ensures) c.to_columns.ensures.1 refl

pub returns-in-Ok : goal.returns-in-Ok
returns-in-Ok c =
    right_answer (columns_verdict c.args.variables c.args.rows.now (length c.args.out.now)) (columns_of c.args.variables c.args.rows.now) c.args.out.now c.args.answer.now
    (wrote c.in-Ok.count) 0 c.to_columns.new.room c.three.new.out c.if-answer-ne12.false
    (sym (ap means c.in-Ok.is) ∙ c.to_columns.ensures.0) refl c.to_columns.ensures.1 c.three.ensures
