-- `small_sheet`: the answer's length is asked first; then the position, and its outcome as a code and an answer. Assumes nothing.
use Rattle.model.specs.Kit.{refl, sym, ap, ◌∙◌, ◌+◌, ◌*◌, arith}
use Rattle.model.specs.{Room.wrote, Room.refusal, Refusals.number_of, declared.refusals.Refusal.Refusal}
use Rattle.sheet_small.specs.Answers.{means}
use Rattle.sheet_once.proofs.Bounds.{wrote_few}
use Rattle.export_small.proofs.{SmallSheets.wrong_length_lem, SmallSheets.answered}
use Rattle.export_small.proofs.small_sheet.Goals as goal

pub returns-then-answer-ne12 : goal.returns-then-answer-ne12
returns-then-answer-ne12 c = wrong_length_lem c.args.k c.args.out.now c.args.answer.now c.if-answer-ne12.true

pub three-requires : goal.three-requires
three-requires c = (
  c.if-answer-ne12.false,
  omega arith,
  omega
      (arith, wrote_few c.args.k c.args.out.now c.in-Ok.bytes (sym (ap means c.in-Ok.is) ∙ c.small_sheet.ensures.0)),
  omega arith,
)

pub returns-in-Err : goal.returns-in-Err
returns-in-Err c =
    answered c.args.k c.args.out.now c.args.answer.now (refusal (number_of c.in-Err.question) 0) c.refusal_code.result _ _ c.if-answer-ne12.false
    (sym (ap means c.in-Err.is) ∙ c.small_sheet.ensures.0) (c.refusal_code.ensures ∙ ap (λ (by : Refusal). number_of by.question * 256 + by.item) c.into.ensures)
    c.small_sheet.ensures.1 refl

pub returns-in-Ok : goal.returns-in-Ok
returns-in-Ok c =
    answered c.args.k c.args.out.now c.args.answer.now (wrote c.in-Ok.bytes) 0 _ _ c.if-answer-ne12.false (sym (ap means c.in-Ok.is) ∙ c.small_sheet.ensures.0) refl
    c.small_sheet.ensures.1 c.three.ensures
