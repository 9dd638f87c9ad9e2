-- `rounds`: the answer's length is asked first; then the call. Assumes nothing.
use Rattle.model.specs.Kit.{refl, sym, ap, ◌∙◌, ◌+◌, ◌*◌}
use Rattle.model.specs.{Refusals.number_of, declared.refusals.Refusal.Refusal}
use Rattle.desk_turns.specs.Meaning.{means_rounds}
use Rattle.export_desk.proofs.Replies.{unrounded, rounded}
use Rattle.export_turns.proofs.rounds.Goals as goal

pub returns-then-answer-ne12 : goal.returns-then-answer-ne12
returns-then-answer-ne12 c = unrounded c.args.queue.now c.args.turns c.args.answer.now c.if-answer-ne12.true

pub returns-in-Ok : goal.returns-in-Ok
returns-in-Ok c =
    rounded c.args.queue.now c.args.turns c.args.answer.now c.if-answer-ne12.false _ (sym (ap means_rounds c.in-Ok.is) ∙ c.rounds.ensures.answers) 0 c.rounds.new.queue c.three.new.out refl
    c.rounds.ensures.leaves c.three.ensures

pub returns-in-Err : goal.returns-in-Err
returns-in-Err c =
    rounded c.args.queue.now c.args.turns c.args.answer.now c.if-answer-ne12.false _ (sym (ap means_rounds c.in-Err.is) ∙ c.rounds.ensures.answers) c.refusal_code.result
    c.rounds.new.queue c.args.answer.now (c.refusal_code.ensures ∙ ap (λ (by : Refusal). number_of by.question * 256 + by.item) c.into.ensures) c.rounds.ensures.leaves refl
