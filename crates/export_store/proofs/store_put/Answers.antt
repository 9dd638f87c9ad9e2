-- `store_put`: the answer's length is asked first; then the call. Assumes nothing.
use Rattle.model.specs.Kit.{◌∙◌, rules}
use Rattle.store.specs.{Store.call, Store.put, Meaning.means_bytes}
use Rattle.export_store.proofs.{Replies.told_none, Replies.unanswered, Replies.answered}
use Rattle.export_store.proofs.store_put.Goals as goal

pub returns-then-answer-ne12 : goal.returns-then-answer-ne12
returns-then-answer-ne12 c =
    unanswered c.args.store.now (call c.args.owner c.args.key (put c.args.table.now)) c.args.answer.now c.if-answer-ne12.true

pub returns : goal.returns
returns c =
    answered c.args.store.now (call c.args.owner c.args.key (put c.args.table.now)) c.args.answer.now c.if-answer-ne12.false (means_bytes c.map.result)
    (told_none _ c.put-done.result c.map.result c.map.ensures.cases (λ done bytes h. search rules) ∙ c.put-done.ensures.0) c.told.result c.told.new.answer c.told.ensures.value
    c.told.ensures.answer_after c.put-done.new.store c.put-done.ensures.1.0
