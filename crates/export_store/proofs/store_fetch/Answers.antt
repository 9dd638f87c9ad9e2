-- `store_fetch`: the answer's length is asked first; then the call. Assumes nothing.
use Rattle.model.specs.Kit.{sym, subst}
use Rattle.store.specs.{Store.call, Store.fetch, Meaning.means_bytes}
use Rattle.export_store.specs.Inner.Fits.{OutcomeFits}
use Rattle.export_store.proofs.{Replies.reply_holds, Replies.unfetched, Replies.fetched}
use Rattle.export_store.proofs.store_fetch.Goals as goal

pub returns-then-answer-ne12 : goal.returns-then-answer-ne12
returns-then-answer-ne12 c =
    unfetched c.args.store.now c.args.owner c.args.key c.args.room.now c.args.answer.now c.if-answer-ne12.true

pub told-requires : goal.told-requires
told-requires c = (
  c.if-answer-ne12.false,
  subst OutcomeFits (sym c.fetch-written.ensures.0)
      (reply_holds c.args.store.now (call c.args.owner c.args.key (fetch c.args.room.now))),
)

pub returns : goal.returns
returns c =
    fetched c.args.store.now c.args.owner c.args.key c.args.room.now c.args.answer.now c.if-answer-ne12.false (means_bytes c.fetch-written.result) c.fetch-written.ensures.0
    c.told.result c.told.new.answer c.told.ensures.value c.told.ensures.answer_after c.fetch-written.new.room c.fetch-written.ensures.1
