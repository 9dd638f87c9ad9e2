-- `fetch`: the questions in their order, and the copy. Assumes nothing.
use Rattle.model.specs.Kit.{sym, ap, ◌∙◌, arith}
use Rattle.std.proofs.lemmas.Result.{err_from_is_err_and}
use Rattle.store.specs.{Store.fetch, Inner.Layout.slot_at, Inner.Layout.slot_with}
use Rattle.store.proofs.{Slots.slot_is, Slots.slot_not, Answers.leaves_room, Answers.leaves_first, Answers.first_yes, Answers.fetch_34, Answers.fetch_35, Answers.fetch_yes}
use Rattle.store.proofs.fetch.Goals as goal

pub returns-in_err-asked : goal.returns-in_err-asked
returns-in_err-asked c =
    let p = err_from_is_err_and c.from_residual.result c.from_residual.ensures.1 in
    leaves_first c.args.store.now c.args.owner c.args.key (fetch c.args.room.now) c.from_residual.result _ _ p.1 p.2 c.in_err-asked.ensures

pub returns-in_default : goal.returns-in_default
returns-in_default c =
    let first = first_yes c.args.store.now c.args.owner c.args.key (fetch c.args.room.now) c.in_ok-asked.ensures in
    leaves_room c.args.store.now c.args.owner c.args.key (fetch c.args.room.now)
    (fetch_34 c.args.store.now c.args.owner c.args.key first.0 first.1 c.args.room.now
    (slot_not _ c.in_default.ensures))

pub returns-then-room-n : goal.returns-then-room-n
returns-then-room-n c =
    let first = first_yes c.args.store.now c.args.owner c.args.key (fetch c.args.room.now) c.in_ok-asked.ensures in
    let held = slot_is (slot_with c.args.store.now c.args.owner c.args.key) _ c.in-Some.ensures in
    leaves_room c.args.store.now c.args.owner c.args.key (fetch c.args.room.now)
    (fetch_35 c.args.store.now c.args.owner c.args.key first.0 first.1 c.args.room.now
    c.slot_at-p.result c.table_length-n.result (omega (arith, held.0, held.1))
    (c.slot_at-p.ensures ∙ ap (slot_at c.args.owner) (sym held.0)) c.table_length-n.ensures c.if-room-n.true)

pub returns : goal.returns
returns c =
    let first = first_yes c.args.store.now c.args.owner c.args.key (fetch c.args.room.now) c.in_ok-asked.ensures in
    let held = slot_is (slot_with c.args.store.now c.args.owner c.args.key) _ c.in-Some.ensures in
    fetch_yes c.args.store.now c.args.owner c.args.key first.0 first.1 c.args.room.now c.slot_at-p.result
    c.table_length-n.result (omega (arith, held.0, held.1))
    (c.slot_at-p.ensures ∙ ap (slot_at c.args.owner) (sym held.0)) c.table_length-n.ensures _
    c.if-room-n.false c.place.ensures
