-- `run_lent`: the answer's length is asked first; then the run, and its answer as three numbers and twelve. Assumes nothing.
use Rattle.model.specs.Kit.{refl, sym, ap, ◌∙◌, List, ◌++◌, ℕ}
use Rattle.model.specs.{Run.refusal, Run.ended, Refusals.number_of}
use Rattle.run_input.specs.Lent.{verdict_lent}
use Rattle.run_state.specs.{Meaning.tally_in, Meaning.ending_of, Inner.Walk.no_nodes}
use Rattle.run.specs.Meaning.{means}
use Rattle.export_run.specs.Run.{ending_bytes}
use Rattle.export_counts.specs.Tallied.{numbers_of}
use Rattle.wire.proofs.Codes.{refused_small}
use Rattle.export_lent.proofs.{Lent.lent_small, Lent.refusal_lent_of, Lent.counted_lent, Lent.wrong_answer, Lent.right_answer, Lent.counts_of, Lent.counts_fit}
use Rattle.export_lent.proofs.run_lent.Goals as goal

pub returns-then-answer-ne60 : goal.returns-then-answer-ne60
returns-then-answer-ne60 c = wrong_answer c.args.sheet.now c.args.pairs.now c.args.block.now c.args.limit c.args.list.now c.args.answer.now c.if-answer-ne60.true

pub refusal_code-requires : goal.refusal_code-requires
refusal_code-requires c =
    let v = refusal_lent_of c.args.sheet.now c.args.pairs.now c.args.block.now c.args.limit c.args.list.now _ _ (sym c.run_counted-r.ensures.0 ∙ ap means c.in-Err.is) in
    refused_small (verdict_lent c.args.sheet.now c.args.pairs.now c.args.block.now) _ _ v (lent_small c.args.sheet.now c.args.pairs.now c.args.block.now)

pub ending-requires : goal.ending-requires
ending-requires c =
    let so = sym c.run_counted-r.ensures.0 ∙ ap means c.in-Ok.is in (
      c.if-answer-ne60.false,
      counted_lent c.args.sheet.now c.args.pairs.now c.args.block.now c.args.limit c.args.list.now (ending_of c.in-Ok.e) c.ranges.limit.fits so,
      counts_fit c.args.sheet.now
          c.args.pairs.now c.args.block.now c.args.limit c.args.list.now (ending_of c.in-Ok.e) no_nodes (tally_in c.run_counted-r.result.tally) so c.run_counted-r.ensures.2 c.ranges.limit.fits,
    )

pub returns-in-Err : goal.returns-in-Err
returns-in-Err c =
    right_answer c.args.sheet.now c.args.pairs.now c.args.block.now c.args.limit c.args.list.now c.args.answer.now c.refusal_code.result c.run_counted-r.new.list c.args.answer.now
    (refusal (number_of c.in-Err.refused.question) c.in-Err.refused.item) c.if-answer-ne60.false (sym c.run_counted-r.ensures.0 ∙ ap means c.in-Err.is) c.refusal_code.ensures
    c.run_counted-r.ensures.1 refl

pub returns-in-Ok : goal.returns-in-Ok
returns-in-Ok c =
    let so = sym c.run_counted-r.ensures.0 ∙ ap means c.in-Ok.is in
    let same = counts_of c.args.sheet.now c.args.pairs.now c.args.block.now c.args.limit c.args.list.now (ending_of c.in-Ok.e) no_nodes (tally_in c.run_counted-r.result.tally) so
    c.run_counted-r.ensures.2 in
    right_answer c.args.sheet.now c.args.pairs.now c.args.block.now c.args.limit c.args.list.now c.args.answer.now 0 c.run_counted-r.new.list c.ending.new.out (ended (ending_of c.in-Ok.e))
    c.if-answer-ne60.false so refl c.run_counted-r.ensures.1 (c.ending.ensures ∙ ap (λ (l : List ℕ). ending_bytes (ending_of c.in-Ok.e) ++ numbers_of l) same)
