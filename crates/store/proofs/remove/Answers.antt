-- `remove`: the questions in their order, and the slots freed. Assumes nothing.
use Rattle.model.specs.Kit.{ℕ, ◌<◌, arith}
use Rattle.model.specs.Lists.{at}
use Rattle.std.proofs.lemmas.Result.{err_from_is_err_and}
use Rattle.store.specs.{Store.remove}
use Rattle.store.proofs.{Slots.slot_no, Slots.slot_yes, Answers.refuses, Answers.refuses_first, Answers.first_yes, Answers.accepts, Answers.remove_34, Answers.remove_yes}
use Rattle.store.proofs.remove.Goals as goal

pub returns-in_err-asked : goal.returns-in_err-asked
unfolding at
returns-in_err-asked c =
    let bytes : (i : ℕ) → at c.args.store.now i < 256 = λ i. omega (arith, c.slice_known-1.given i) in
    let p = err_from_is_err_and c.from_residual.result c.from_residual.ensures.1 in
    refuses_first c.args.store.now c.args.owner c.args.key remove bytes c.from_residual.result _ _ p.1 p.2 c.in_err-asked.ensures

pub returns-then-is_none : goal.returns-then-is_none
unfolding at
returns-then-is_none c =
    let bytes : (i : ℕ) → at c.args.store.now i < 256 = λ i. omega (arith, c.slice_known-1.given i) in
    let first = first_yes c.args.store.now c.args.owner c.args.key remove c.in_ok-asked.ensures in
    refuses c.args.store.now c.args.owner c.args.key remove bytes (remove_34 c.args.store.now c.args.owner c.args.key first.0 first.1
    (slot_no _ _ _ c.slot_with.ensures c.is_none.ensures c.if-is_none.true))

pub returns : goal.returns
unfolding at
returns c =
    let bytes : (i : ℕ) → at c.args.store.now i < 256 = λ i. omega (arith, c.slice_known-1.given i) in
    let first = first_yes c.args.store.now c.args.owner c.args.key remove c.in_ok-asked.ensures in
    accepts c.args.store.now c.args.owner c.args.key remove bytes _ (remove_yes c.args.store.now c.args.owner c.args.key first.0
    first.1 (slot_yes _ _ _ c.slot_with.ensures c.is_none.ensures c.if-is_none.false)) c.free_all.ensures
