-- `merge`: the answer's length is asked first; then the merge, and its answer as three numbers. Assumes nothing.
use Rattle.model.specs.Kit.{refl, sym, ap, ◌∙◌, ◌+◌, ◌*◌, arith}
use Rattle.model.specs.{Room.wrote, Room.refusal, Refusals.number_of, declared.refusals.Refusal.Refusal}
use Rattle.list_merge.specs.{Meaning.means}
use Rattle.export_merge.proofs.{Merged.wrong_answer, Merged.right_answer}
use Rattle.export_merge.proofs.merge.Goals as goal

pub returns-then-answer-ne12 : goal.returns-then-answer-ne12
returns-then-answer-ne12 c =
    wrong_answer c.args.variables c.args.pairs.now c.args.first.now c.args.second.now c.args.out.now c.args.answer.now c.if-answer-ne12.true

pub returns-in-Err : goal.returns-in-Err
returns-in-Err c =
    right_answer c.args.variables c.args.pairs.now c.args.first.now c.args.second.now c.args.out.now c.args.answer.now (refusal (number_of c.in-Err.question) 0) c.refusal_code.result
    c.merge.new.room c.args.answer.now c.if-answer-ne12.false (sym (ap means c.in-Err.is) ∙ c.merge.ensures.answers)
    (c.refusal_code.ensures ∙ ap (λ (by : Refusal). number_of by.question * 256 + by.item) c.into.ensures) c.merge.ensures.leaves refl

pub returns-in-Ok : goal.returns-in-Ok
returns-in-Ok c =
    right_answer c.args.variables c.args.pairs.now c.args.first.now c.args.second.now c.args.out.now c.args.answer.now (wrote c.in-Ok.count) 0 c.merge.new.room c.three.new.out
    c.if-answer-ne12.false (sym (ap means c.in-Ok.is) ∙ c.merge.ensures.answers) refl c.merge.ensures.leaves c.three.ensures

pub three-requires : goal.three-requires
three-requires c = (c.if-answer-ne12.false, omega arith, omega arith, omega arith)
