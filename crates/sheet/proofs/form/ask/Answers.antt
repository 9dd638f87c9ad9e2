use Rattle.std.proofs.lemmas.Result.{err_from_is_err_and}
use Rattle.model.specs.Kit.{ap, arith}
use Rattle.model.specs.Sheet.{Header as Numbers}
use Rattle.model.specs.Refusals.{verdict_from_question}
use Rattle.sheet.proofs.FormTurn.{fit_of, form_heading, form_sets, form_constraints, form_length, form_whole}
use Rattle.sheet.proofs.{Asking.heading}
use Rattle.sheet.proofs.form.ask.Goals as goal

pub returns-in_err-ask : goal.returns-in_err-ask
returns-in_err-ask c =
    let p = err_from_is_err_and c.from_residual.result c.from_residual.ensures.1 in
    rw (p.1) (form_heading _ _ _ _ _ p.0 c.in_err-ask.was p.2 (heading c.args.h _ _ c.requires.1 c.ask.ensures))

pub ask-requires-2 : goal.ask-requires-2
ask-requires-2 c = (
  fit_of _ _ (ap verdict_from_question c.in_ok-ask.was) (heading c.args.h _ _ c.requires.1 c.ask.ensures),
  ap (λ (x : Numbers). x.variables) c.requires.1,
  ap (λ (x : Numbers). x.values) c.requires.1,
)

pub returns-in_err-ask-2 : goal.returns-in_err-ask-2
returns-in_err-ask-2 c =
    let p = err_from_is_err_and c.from_residual-in_err-ask-2.result c.from_residual-in_err-ask-2.ensures.1 in
    rw (p.1, p.2)
    (form_sets _ _ (ap verdict_from_question c.in_ok-ask.was) (heading c.args.h _ _ c.requires.1 c.ask.ensures) _ _ _ _ _ _ _ c.in_err-ask-2.was c.ask-2.ensures)

pub ask-requires-3 : goal.ask-requires-3
ask-requires-3 c = (fit_of _ _ (ap verdict_from_question c.in_ok-ask.was) (heading c.args.h _ _ c.requires.1 c.ask.ensures), c.requires.1)

pub returns-in_err-ask-3 : goal.returns-in_err-ask-3
returns-in_err-ask-3 c =
    let p = err_from_is_err_and c.from_residual-in_err-ask-3.result c.from_residual-in_err-ask-3.ensures.1 in
    rw (p.1, p.2)
    (form_constraints _ _ (ap verdict_from_question c.in_ok-ask.was) (heading c.args.h _ _ c.requires.1 c.ask.ensures) _ _ _ _ c.in_ok-ask-2.was c.ask-2.ensures _ _ _ _ _
    c.in_err-ask-3.was c.ask-3.ensures)

pub tables_fit-requires : goal.tables_fit-requires
tables_fit-requires c =
    let f = fit_of _ _ (ap verdict_from_question c.in_ok-ask.was) (heading c.args.h _ _ c.requires.1 c.ask.ensures) in (
      omega (arith, f.few, ap (λ (x : Numbers). x.variables) c.requires.1),
      omega (arith, f.sixteen, ap (λ (x : Numbers). x.values) c.requires.1),
      omega (arith, f.symmetries, ap (λ (x : Numbers). x.symmetries) c.requires.1),
      omega (arith, f.third, ap (λ (x : Numbers). x.third) c.requires.1, c.well_formed),
    )

pub returns-then-not-tables_fit : goal.returns-then-not-tables_fit
returns-then-not-tables_fit c =
    form_length _ _ (ap verdict_from_question c.in_ok-ask.was) (heading c.args.h _ _ c.requires.1 c.ask.ensures) _ _ _ _ c.in_ok-ask-2.was c.ask-2.ensures _ _ _ _ c.in_ok-ask-3.was
    c.ask-3.ensures _ c.requires.1 _ c.tables_fit.ensures _ c.into.ensures c.if-not-tables_fit.true

pub returns : goal.returns
returns c =
    form_whole _ _ (ap verdict_from_question c.in_ok-ask.was) (heading c.args.h _ _ c.requires.1 c.ask.ensures) _ _ _ _ c.in_ok-ask-2.was c.ask-2.ensures _ _ _ _ c.in_ok-ask-3.was
    c.ask-3.ensures _ c.requires.1 _ c.tables_fit.ensures _ c.if-not-tables_fit.false (ap (λ (x : Numbers). x.variables) c.requires.1) c.requires.2 c.requires.3 c.store_counts.ensures
