-- `run_part`: the answer's length is asked first; then the part, and its head. Assumes nothing.
use Rattle.model.specs.Kit.{refl, sym, ap, ◌∙◌, take}
use Rattle.model.specs.{Run.Tally, Run.refusal, Run.ended, Refusals.number_of}
use Rattle.run_input.specs.Lent.{verdict_lent}
use Rattle.run.specs.Meaning.{means}
use Rattle.run_state.specs.Meaning.{ending_of}
use Rattle.wire.proofs.Codes.{refused_small}
use Rattle.export_lent.proofs.Lent.{lent_small}
use Rattle.export_parts.proofs.{Answered.refusal_of, Answered.counted, Answered.counts_fit, Answered.wrong_answer, Answered.right_answer, Answered.pieces}
use Rattle.export_parts.proofs.run_part.Goals as goal

pub returns-then-answer-ne115 : goal.returns-then-answer-ne115
returns-then-answer-ne115 c = wrong_answer c.args.sheet.now c.args.pairs.now c.args.block.now c.args.from.now c.args.upto.now c.args.limit
    c.args.list.now c.args.answer.now c.if-answer-ne115.true

pub refusal_code-requires : goal.refusal_code-requires
refusal_code-requires c =
    let v = refusal_of c.args.sheet.now c.args.pairs.now c.args.block.now c.args.from.now c.args.upto.now c.args.limit c.args.list.now (number_of c.in-Err.refusal.question) c.in-Err.refusal.item
    (sym c.run_part-part.ensures.answers ∙ ap means c.in-Err.is) in
    refused_small (verdict_lent c.args.sheet.now c.args.pairs.now c.args.block.now) (number_of c.in-Err.refusal.question) c.in-Err.refusal.item v
    (lent_small c.args.sheet.now c.args.pairs.now c.args.block.now)

pub put_ending-requires : goal.put_ending-requires
put_ending-requires c =
    let so = sym c.run_part-part.ensures.answers ∙ ap means c.in-Ok.is in (
      c.if-answer-ne115.false,
      counted c.args.sheet.now c.args.pairs.now c.args.block.now c.args.from.now c.args.upto.now c.args.limit c.args.list.now (ending_of c.in-Ok.ending) so c.ranges.limit.fits,
      counts_fit c.args.sheet.now c.args.pairs.now c.args.block.now c.args.from.now c.args.upto.now c.args.limit c.args.list.now (ending_of c.in-Ok.ending) so c.ranges.limit.fits
          c.run_part-part.result.tally.counts
          (ap (λ (t : Tally). t.counts) c.run_part-part.ensures.counts),
    )

pub returns-in-Err : goal.returns-in-Err
returns-in-Err c =
    right_answer c.args.sheet.now c.args.pairs.now c.args.block.now c.args.from.now c.args.upto.now c.args.limit c.args.list.now c.args.answer.now c.refusal_code.result c.run_part-part.new.list
    c.args.answer.now (refusal (number_of c.in-Err.refusal.question) c.in-Err.refusal.item) c.if-answer-ne115.false
    (sym c.run_part-part.ensures.answers ∙ ap means c.in-Err.is) c.refusal_code.ensures c.run_part-part.ensures.leaves refl

pub returns-in-Ok : goal.returns-in-Ok
returns-in-Ok c =
    let so = sym c.run_part-part.ensures.answers ∙ ap means c.in-Ok.is in
    right_answer c.args.sheet.now c.args.pairs.now c.args.block.now c.args.from.now c.args.upto.now c.args.limit c.args.list.now c.args.answer.now 0 c.run_part-part.new.list c.put_paths.new.out
    (ended (ending_of c.in-Ok.ending)) c.if-answer-ne115.false so refl c.run_part-part.ensures.leaves
    (pieces c.args.sheet.now c.args.pairs.now c.args.block.now c.args.from.now c.args.upto.now c.args.limit c.args.list.now c.args.answer.now c.put_ending.new.out c.put_name.new.out
    c.put_paths.new.out (ending_of c.in-Ok.ending) c.run_part-part.result.tally.counts (take c.run_part-part.result.length c.run_part-part.result.last) c.if-answer-ne115.false
    (ap (λ (t : Tally). t.counts) c.run_part-part.ensures.counts) c.run_part-part.ensures.stands c.put_ending.ensures c.put_name.ensures c.put_paths.ensures)
