-- `join_heads`: the answer's length is asked first; then the join, and its answer in bytes. Assumes nothing.
use Rattle.std.specs.Prelude.{Ok, Err}
use Rattle.model.specs.Kit.{refl, ap, ◌∙◌, ◌+◌, ◌*◌, arith}
use Rattle.model.specs.{Verdict.answered, Refusals.number_of, declared.refusals.Refusal.Refusal}
use Rattle.run_join.specs.Calls.{told_by}
use Rattle.export_join.proofs.Wides.{wrong_size, right_size, said, among, pieces}
use Rattle.export_join.proofs.join_heads.Goals as goal

pub returns-then-answer-ne152 : goal.returns-then-answer-ne152
returns-then-answer-ne152 c = wrong_size c.args.heads.now c.args.answer.now c.if-answer-ne152.true

pub put_missing-requires : goal.put_missing-requires
put_missing-requires c =
    (c.put_sums.auto.out ∙ c.if-answer-ne152.false, among c.args.heads.now c.join.result c.join.ensures c.in-Ok.joining c.in-Ok.is)

pub returns-in-Err : goal.returns-in-Err
returns-in-Err c =
    right_size c.args.heads.now c.args.answer.now _ c.refusal_code.result c.args.answer.now c.if-answer-ne152.false
    (said c.args.heads.now c.join.result c.join.ensures (Err c.in-Err.question) c.in-Err.is)
    (c.refusal_code.ensures ∙ ap (λ (by : Refusal). number_of by.question * 256 + by.item) c.into.ensures ∙ omega arith) refl

pub returns-in-Ok : goal.returns-in-Ok
returns-in-Ok c =
    right_size c.args.heads.now c.args.answer.now (answered (told_by c.in-Ok.joining.missing)) 0 c.put_zeros.new.out c.if-answer-ne152.false
    (said c.args.heads.now c.join.result c.join.ensures (Ok c.in-Ok.joining) c.in-Ok.is) refl
    (pieces c.args.heads.now c.join.result c.join.ensures c.in-Ok.joining c.in-Ok.is c.kind-kind.result c.if-answer-ne152.false c.kind-kind.ensures
    c.put_sums.ensures c.put_missing.ensures c.put_zeros.ensures)
