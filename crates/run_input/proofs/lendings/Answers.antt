use Rattle.std.proofs.lemmas.Result.{err_from_is_err_and}
use Rattle.model.specs.Kit.{◌≡◌, arith, rules}
use Rattle.model.specs.Lists.{at}
use Rattle.model.specs.declared.refusals.Question.{Question}
use Rattle.sheet.proofs.Mapped.{mapped_ok, mapped_err}
use Rattle.run_input.proofs.{Compiling.pairs_refused, Compiling.block_answers, Compiling.variables_are, Compiling.variables_few}
use Rattle.run_input.proofs.lendings.Goals as goal

pub settling_order-requires : goal.settling_order-requires
unfolding at
settling_order-requires c = (variables_few c.requires.0 _ _ c.requires.1, search rules)

pub returns-in_err-map_err : goal.returns-in_err-map_err
unfolding at
returns-in_err-map_err c = λ p h.
    let m = mapped_err c.map_err.result _ c.settling_order.result c.in_err-map_err.field-0.0 c.map_err.ensures.cases c.in_err-map_err.was in
    let q : Question = m.0 in
    let g = m.2 in
    let e : c.in_err-map_err.field-0.0 ≡ record { question = q; item = 0 } = grind arith in
    let r = err_from_is_err_and c.from_residual.result c.from_residual.ensures.1 in
    rw (r.1, r.2, e) (pairs_refused _ _ _ _ _ c.settling_order.ensures (search rules) _ p (variables_are p _ _ h) q m.1)

pub returns : goal.returns
unfolding at
returns c = λ p h.
    block_answers _ _ _ _ _ c.settling_order.ensures (search rules) _ p (variables_are p _ _ h)
    (mapped_ok c.map_err.result _ c.settling_order.result tt c.map_err.ensures.cases c.in_ok-map_err.was) _ (c.question.ensures p h)
