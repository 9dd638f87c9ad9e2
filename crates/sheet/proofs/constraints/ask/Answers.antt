use Rattle.std.proofs.lemmas.Result.{err_from_is_err_and}
use Rattle.model.specs.Kit.{◌≡◌, ap, arith}
use Rattle.model.specs.declared.refusals.Question.{Question}
use Rattle.model.specs.Sheet.{Header as Numbers}
use Rattle.sheet.proofs.Mapped.{mapped_ok, mapped_err}
use Rattle.sheet.proofs.ConstraintsTurn.{constraints_none, constraints_more, constraints_no, constraints_short, constraints_end}
use Rattle.sheet.proofs.constraints.ask.Goals as goal

pub loop-k-init : goal.loop-k-init
loop-k-init c = (omega arith, constraints_none _ _ _ _ _ (ap (λ (x : Numbers). x.second) c.requires.1) c.requires.0.ordered)

pub returns-in_err-o : goal.returns-in_err-o
returns-in_err-o c =
    let h = mapped_err c.map_err.result _ c.constraint.result c.in_err-o.field-0.0 c.map_err.ensures.cases c.in_err-o.was in
    let q : Question = h.0 in
    let g = h.2 in
    let e : c.in_err-o.field-0.0 ≡ record { question = q; item = c.loop-k.k } = grind arith in
    let p = err_from_is_err_and c.from_residual.result c.from_residual.ensures.1 in
    rw (p.1, p.2, e) (constraints_no _ _ _ _ _ _ _ _ c.loop-k.invariant.1 (omega arith) _ _ _ _ (ap (λ (x : Numbers). x.constraints) c.requires.1) h.1 c.constraint.ensures)

pub loop-k-preserved : goal.loop-k-preserved
loop-k-preserved c =
    let h = mapped_ok c.map_err.result _ c.constraint.result c.in_ok-o.o c.map_err.ensures.cases c.in_ok-o.was in
    (omega arith, constraints_more _ _ _ _ _ _ _ _ c.loop-k.invariant.1 (omega arith) _ _ _ _ h c.constraint.ensures)

pub returns-then-o-h : goal.returns-then-o-h
returns-then-o-h c = constraints_short _ _ _ _ _ _ _ _ c.loop-k.invariant.1 (omega arith) c.loop-k.invariant.0
    (ap (λ (x : Numbers). x.constraints) c.requires.1) _ (ap (λ (x : Numbers). x.third) c.requires.1)
    c.if-o-h.true

pub returns : goal.returns
returns c = constraints_end _ _ _ _ _ _ _ _ c.loop-k.invariant.1 (omega arith) c.loop-k.invariant.0
    (ap (λ (x : Numbers). x.constraints) c.requires.1) _ (ap (λ (x : Numbers). x.third) c.requires.1) c.if-o-h.false
