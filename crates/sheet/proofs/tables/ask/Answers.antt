use Rattle.std.proofs.lemmas.Result.{err_from_is_err_and}
use Rattle.model.specs.Kit.{◌≡◌, ℕ, ◌<◌, ap, subst, arith}
use Rattle.model.specs.Sheet.{Header as Numbers, header_of, problem_of}
use Rattle.model.specs.declared.refusals.Question.{Question}
use Rattle.sheet.proofs.Mapped.{mapped_ok, mapped_err}
use Rattle.sheet.proofs.TablesTurn.{tables_none, tables_more, tables_no, tables_end, table_asked, table_room}
use Rattle.sheet.proofs.{Stating.form_passed, FormTurn.pair_room, FormTurn.same_size}
use Rattle.sheet.proofs.tables.ask.Goals as goal

pub overflow_mul-size : goal.overflow_mul-size
overflow_mul-size c =
    let f = (form_passed c.args.sheet.now c.requires.0.passed).fits in
    omega (
      arith,
      pair_room c.args.h.variables c.args.h.values (omega (arith, f.few, ap (λ (x : Numbers). x.variables) c.requires.1))
          (omega (arith, f.sixteen, ap (λ (x : Numbers). x.values) c.requires.1)),
    )

pub overflow_mul-size-2 : goal.overflow_mul-size-2
overflow_mul-size-2 c =
    let f = (form_passed c.args.sheet.now c.requires.0.passed).fits in
    omega (
      arith,
      pair_room c.args.h.variables c.args.h.values (omega (arith, f.few, ap (λ (x : Numbers). x.variables) c.requires.1))
          (omega (arith, f.sixteen, ap (λ (x : Numbers). x.values) c.requires.1)),
    )

pub loop-e-init : goal.loop-e-init
loop-e-init c = (omega arith, tables_none _ _ (ap (λ (x : Numbers). x.third) c.requires.1))

pub table_question-requires : goal.table_question-requires
table_question-requires c = (
  problem_of c.args.sheet.now,
  table_asked _ _ _ _ _ c.requires.0 c.loop-e.invariant.1
      (subst (λ (x : ℕ). c.loop-e.e < x) (ap (λ (x : Numbers). x.symmetries) c.requires.1) (omega arith)),
)

pub returns-in_err-map_err : goal.returns-in_err-map_err
returns-in_err-map_err c =
    let inside : c.loop-e.e < (header_of c.args.sheet.now).symmetries = subst (λ (x : ℕ). c.loop-e.e < x) (ap (λ (x : Numbers). x.symmetries) c.requires.1) (omega arith) in
    let h = mapped_err c.map_err.result _ c.table_question.result c.in_err-map_err.field-0.0 c.map_err.ensures.cases c.in_err-map_err.was in
    let q : Question = h.0 in
    let g = h.2 in
    let e : c.in_err-map_err.field-0.0 ≡ record { question = q; item = c.loop-e.e } = grind arith in
    let p = err_from_is_err_and c.from_residual.result c.from_residual.ensures.1 in
    rw (p.1, p.2, e)
    (tables_no _ _ _ c.loop-e.invariant.1 inside _ (c.table_question.ensures _ (table_asked _ _ _ _ _ c.requires.0 c.loop-e.invariant.1 inside)) q h.1)

pub overflow_add-at : goal.overflow_add-at
overflow_add-at c =
    let f = form_passed c.args.sheet.now c.requires.0.passed in
    let l : c.loop-e.e < _ = subst (λ (x : ℕ). c.loop-e.e < x)
    (ap (λ (x : Numbers). x.symmetries) c.requires.1) (omega arith) in
    omega (
      arith,
      c.loop-e.invariant.1.here,
      table_room c.args.sheet.now c.loop-e.e
          f.filled l,
      same_size c.args.h.variables c.args.h.values _ _
          (ap (λ (x : Numbers). x.variables) c.requires.1)
          (ap (λ (x : Numbers). x.values) c.requires.1),
      c.well_formed,
    )

pub loop-e-preserved : goal.loop-e-preserved
loop-e-preserved c =
    let inside : c.loop-e.e < (header_of c.args.sheet.now).symmetries = subst (λ (x : ℕ). c.loop-e.e < x) (ap (λ (x : Numbers). x.symmetries) c.requires.1) (omega arith) in
    let h = mapped_ok c.map_err.result _ c.table_question.result tt c.map_err.ensures.cases c.in_ok-map_err.was in (
      omega arith,
      tables_more _ _ _ c.loop-e.invariant.1 inside _ (c.table_question.ensures _ (table_asked _ _ _ _ _ c.requires.0 c.loop-e.invariant.1 inside)) _ _
          (ap (λ (x : Numbers). x.variables) c.requires.1) (ap (λ (x : Numbers). x.values) c.requires.1) h,
    )

pub returns : goal.returns
returns c = tables_end _ _ _ c.loop-e.invariant.1 (omega (arith, ap (λ (x : Numbers). x.symmetries) c.requires.1))
