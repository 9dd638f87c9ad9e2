-- `put`: the questions in their order, and the slot filled. Assumes nothing.
use Rattle.model.specs.Kit.{sym, ap, ◌∙◌, ℕ, ◌<◌, arith}
use Rattle.model.specs.{Lists.at, Written.placed}
use Rattle.std.proofs.lemmas.Result.{err_from_is_err_and}
use Rattle.store.specs.{Store.put, Inner.Layout.slot_at, Inner.Layout.slot_for, Inner.Layout.slot_bytes}
use Rattle.store.proofs.{Slots.slot_is, Slots.slot_not, Answers.refuses, Answers.refuses_first, Answers.first_yes, Answers.accepts, Answers.put_33, Answers.put_32, Answers.put_yes}
use Rattle.store.proofs.put.Goals as goal

pub returns-in_err-asked : goal.returns-in_err-asked
unfolding at
returns-in_err-asked c =
    let bytes : (i : ℕ) → at c.args.store.now i < 256 = λ i. omega (arith, c.slice_known-1.given i) in
    let p = err_from_is_err_and c.from_residual.result c.from_residual.ensures.1 in
    refuses_first c.args.store.now c.args.owner c.args.key (put c.args.table.now) bytes c.from_residual.result _ _ p.1 p.2 c.in_err-asked.ensures

pub returns-then-table-gt2048 : goal.returns-then-table-gt2048
unfolding at
returns-then-table-gt2048 c =
    let bytes : (i : ℕ) → at c.args.store.now i < 256 = λ i. omega (arith, c.slice_known-1.given i) in
    let first = first_yes c.args.store.now c.args.owner c.args.key (put c.args.table.now) c.in_ok-asked.ensures in
    refuses c.args.store.now c.args.owner c.args.key (put c.args.table.now) bytes
    (put_33 c.args.store.now c.args.owner c.args.key first.0 first.1 bytes c.args.table.now
    c.if-table-gt2048.true)

pub returns-in_default : goal.returns-in_default
unfolding at
returns-in_default c =
    let bytes : (i : ℕ) → at c.args.store.now i < 256 = λ i. omega (arith, c.slice_known-1.given i) in
    let first = first_yes c.args.store.now c.args.owner c.args.key (put c.args.table.now) c.in_ok-asked.ensures in
    refuses c.args.store.now c.args.owner c.args.key (put c.args.table.now) bytes (put_32 c.args.store.now c.args.owner c.args.key first.0
    first.1 bytes c.args.table.now c.if-table-gt2048.false (slot_not _ c.in_default.ensures))

pub returns : goal.returns
unfolding at
returns c =
    let bytes : (i : ℕ) → at c.args.store.now i < 256 = λ i. omega (arith, c.slice_known-1.given i) in
    let first = first_yes c.args.store.now c.args.owner c.args.key (put c.args.table.now) c.in_ok-asked.ensures in
    let held = slot_is (slot_for c.args.store.now c.args.owner c.args.key) _ c.in-Some.ensures in
    accepts c.args.store.now c.args.owner c.args.key (put c.args.table.now) bytes _ (put_yes c.args.store.now c.args.owner c.args.key first.0
    first.1 bytes c.args.table.now c.if-table-gt2048.false
    (omega (arith, held.0, held.1)))
    (c.fill.ensures ∙ ap (λ (p : ℕ). placed c.args.store.now p (slot_bytes c.args.key c.args.table.now)) (c.slot_at.ensures ∙ ap (slot_at c.args.owner) (sym held.0)))
