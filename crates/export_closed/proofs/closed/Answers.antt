-- `closed`: the answer's length is asked first; then the test, and its answer as three numbers. Assumes nothing.
use Rattle.model.specs.Kit.{refl, sym, ap, ◌∙◌, arith}
use Rattle.std.specs.Prelude.{Option}
use Rattle.families_closed.specs.{declared.Missing.Missing, Lent.told, Lent.open_of}
use Rattle.families_closed.proofs.Testing.{told_few}
use Rattle.wire.proofs.Codes.{refused_small}
use Rattle.export_lent.proofs.Lent.{lent_small}
use Rattle.export_closed.proofs.{Answers.wrong_answer, Answers.right_answer, Answers.refusal_told}
use Rattle.export_closed.proofs.closed.Goals as goal

pub returns-then-answer-ne12 : goal.returns-then-answer-ne12
returns-then-answer-ne12 c = wrong_answer _ _ _ _ c.if-answer-ne12.true

pub refusal_code-requires : goal.refusal_code-requires
refusal_code-requires c = refused_small _ _ _ (refusal_told _ _ _ _ _ c.in-Err.ensures) (lent_small _ _ _)

pub three-requires-in-Ok-Some : goal.three-requires-in-Ok-Some
three-requires-in-Ok-Some c =
    let f = told_few _ _ _ _ _ (sym (ap (λ (m : Option Missing). told (open_of m)) c.in-Ok-Some.field-0-is) ∙ c.in-Ok-Some.ensures) in
    (c.if-answer-ne12.false, omega arith, omega (arith, f.0), omega (arith, f.1))

pub returns-in-Err : goal.returns-in-Err
returns-in-Err c = right_answer _ _ _ _ _ _ _ c.if-answer-ne12.false c.in-Err.ensures c.refusal_code.ensures refl

pub returns-in-Ok-None : goal.returns-in-Ok-None
returns-in-Ok-None c =
    right_answer _ _ _ _ _ _ _ c.if-answer-ne12.false (sym (ap (λ (m : Option Missing). told (open_of m)) c.in-Ok-None.field-0-is) ∙ c.in-Ok-None.ensures) refl
    c.three.ensures

pub returns-in-Ok-Some : goal.returns-in-Ok-Some
returns-in-Ok-Some c =
    right_answer _ _ _ _ _ _ _ c.if-answer-ne12.false (sym (ap (λ (m : Option Missing). told (open_of m)) c.in-Ok-Some.field-0-is) ∙ c.in-Ok-Some.ensures) refl
    c.three-in-Ok-Some.ensures
