-- `merge`: question 24, the settling order, then the merge in that order. Assumes nothing.
use Rattle.model.specs.Kit.{refl, sym, ap, ◌∙◌, arith, length-take-le}
use Rattle.std.proofs.lemmas.Result.{err_from_is_err_and}
use Rattle.model.specs.{Refusals.number_of, Room.refusal}
use Rattle.model.specs.declared.{refusals.Question.Question}
use Rattle.list_merge.specs.Meaning.{means}
use Rattle.list_merge.proofs.{Asking.whole_e, Asking.no_24, Asking.no_pairs, Asking.ready, Asking.answered}
use Rattle.list_merge.proofs.merge.Goals as goal

pub returns-then-not-whole : goal.returns-then-not-whole
returns-then-not-whole c =
    let q = no_24 c.args.n c.args.pairs.now c.args.first.now c.args.second.now c.args.room.now _ (sym c.whole.ensures ∙ c.if-not-whole.true) refl in
    record { answers = q.0; leaves = q.1 }

pub settling_order-requires : goal.settling_order-requires
settling_order-requires c =
    ((whole_e c.args.n c.args.first.now c.args.second.now (sym c.whole.ensures ∙ c.if-not-whole.false)).most, refl)

pub returns-in_err-settling_order : goal.returns-in_err-settling_order
returns-in_err-settling_order c =
    let q = no_pairs c.args.n c.args.pairs.now c.args.first.now c.args.second.now c.args.room.now
    (sym c.whole.ensures ∙ c.if-not-whole.false) c.settling_order.ensures _ c.in_err-settling_order.was in
    let p = err_from_is_err_and c.from_residual.result c.from_residual.ensures.1 in
    record { answers = ap means p.1 ∙ ap (λ (e : Question). refusal (number_of e) 0) p.2 ∙ q.0; leaves = q.1 }

pub slice_bounds-order-end : goal.slice_bounds-order-end
slice_bounds-order-end c =
    omega (
      arith,
      c.settling_order.ensures.size,
      (whole_e c.args.n c.args.first.now c.args.second.now
          (sym c.whole.ensures ∙ c.if-not-whole.false)).most,
    )

pub slice_bounds-merge_by-end : goal.slice_bounds-merge_by-end
slice_bounds-merge_by-end c =
    sym (length-take-le c.args.n c.settling_order.new.order (omega (
      arith,
      c.settling_order.ensures.size,
      (whole_e c.args.n c.args.first.now c.args.second.now
          (sym c.whole.ensures ∙ c.if-not-whole.false)).most,
    )))

pub merge_by-requires : goal.merge_by-requires
merge_by-requires c =
    let yes = sym c.whole.ensures ∙ c.if-not-whole.false in
    let most = (whole_e c.args.n c.args.first.now c.args.second.now yes).most in (
      ready c.args.n c.args.pairs.now c.args.first.now c.args.second.now c.args.room.now yes c.settling_order.ensures c.in_ok-settling_order.was,
      length-take-le c.args.n c.settling_order.new.order (omega (arith, c.settling_order.ensures.size, most)),
      most,
    )

pub returns : goal.returns
returns c =
    let q = answered c.args.n c.args.pairs.now c.args.first.now c.args.second.now c.args.room.now
    (sym c.whole.ensures ∙ c.if-not-whole.false) c.settling_order.ensures
    c.in_ok-settling_order.was (means c.merge_by.result) _ c.merge_by.ensures.result_value c.merge_by.ensures.room_after in
    record { answers = q.0; leaves = q.1 }
