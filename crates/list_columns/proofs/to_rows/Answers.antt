-- `to_rows`: the questions, then the rows. Assumes nothing.
use Rattle.model.specs.Kit.{◌≡◌, sym, ◌∙◌, true, ◌+◌, ◌-◌, ◌≤◌, arith, length, take, drop}
use Rattle.model.specs.Verdict.{accepted}
use Rattle.std.proofs.lemmas.Result.{err_from_is_err_and}
use Rattle.model.proofs.{Lists.T_of}
use Rattle.list_columns.specs.Columns.{is_store, bytes_verdict, rows_of}
use Rattle.list_columns.proofs.{Asking.refused_by, Asking.store_e, Storing.body_is, Storing.not_a_store, Storing.verdict_is, Storing.rows_fit, Storing.rows_wrote}
use Rattle.list_columns.proofs.to_rows.Goals as goal

pub returns-then-not-is_store : goal.returns-then-not-is_store
returns-then-not-is_store c = not_a_store _ _ (rows_of c.args.store.now) _ (sym c.is_store.ensures ∙ c.if-not-is_store.true)

pub returns-in_err-question : goal.returns-in_err-question
returns-in_err-question c =
    let store : is_store c.args.store.now ≡ true = sym c.is_store.ensures ∙ c.if-not-is_store.false in
    let p = err_from_is_err_and c.from_residual.result c.from_residual.ensures.1 in
    refused_by c.from_residual.result _ _ _ (rows_of c.args.store.now) c.args.room.now p.1 p.2
    (c.in_err-question.ensures ∙ verdict_is c.args.store.now store (take (length c.args.store.now - 8) (drop 8 c.args.store.now)) c.word_at-variables.result c.word_at-plans.result
    (body_is c.args.store.now) c.word_at-variables.ensures.0 c.word_at-plans.ensures.0 c.args.room.now)

pub put_rows-requires : goal.put_rows-requires
put_rows-requires c =
    let store : is_store c.args.store.now ≡ true = sym c.is_store.ensures ∙ c.if-not-is_store.false in
    let none : bytes_verdict c.word_at-variables.result (take (length c.args.store.now - 8) (drop 8 c.args.store.now)) (0 + length (take (length c.args.store.now - 8) (drop 8 c.args.store.now)))
    (length c.args.room.now) ≡ accepted = sym c.in_ok-question.ensures in
    rows_fit c.args.store.now store (take (length c.args.store.now - 8) (drop 8 c.args.store.now)) c.word_at-variables.result c.word_at-plans.result (body_is c.args.store.now)
    c.word_at-variables.ensures.0
    c.word_at-plans.ensures.0 c.args.room.now none

pub returns : goal.returns
returns c =
    let store : is_store c.args.store.now ≡ true = sym c.is_store.ensures ∙ c.if-not-is_store.false in
    let none : bytes_verdict c.word_at-variables.result (take (length c.args.store.now - 8) (drop 8 c.args.store.now)) (0 + length (take (length c.args.store.now - 8) (drop 8 c.args.store.now)))
    (length c.args.room.now) ≡ accepted = sym c.in_ok-question.ensures in
    rows_wrote c.args.store.now store (take (length c.args.store.now - 8) (drop 8 c.args.store.now)) c.word_at-variables.result c.word_at-plans.result (body_is c.args.store.now)
    c.word_at-variables.ensures.0 c.word_at-plans.ensures.0 c.args.room.now _ none
    c.put_rows.ensures

pub word_at-variables-requires : goal.word_at-variables-requires
word_at-variables-requires c =
    let store : is_store c.args.store.now ≡ true = sym c.is_store.ensures ∙ c.if-not-is_store.false in
    let long : 8 ≤ length c.args.store.now = (store_e _ (T_of _ store)).long in
    omega (arith, long)

pub word_at-plans-requires : goal.word_at-plans-requires
word_at-plans-requires c =
    let store : is_store c.args.store.now ≡ true = sym c.is_store.ensures ∙ c.if-not-is_store.false in
    let long : 8 ≤ length c.args.store.now = (store_e _ (T_of _ store)).long in
    omega (arith, long)

pub slice_bounds-columns-count : goal.slice_bounds-columns-count
slice_bounds-columns-count c =
    let store : is_store c.args.store.now ≡ true = sym c.is_store.ensures ∙ c.if-not-is_store.false in
    let long : 8 ≤ length c.args.store.now = (store_e _ (T_of _ store)).long in
    long

pub slice_bounds-columns-start : goal.slice_bounds-columns-start
slice_bounds-columns-start c =
    let store : is_store c.args.store.now ≡ true = sym c.is_store.ensures ∙ c.if-not-is_store.false in
    let long : 8 ≤ length c.args.store.now = (store_e _ (T_of _ store)).long in
    long
