-- `put_counts`: after x turns of the loop the first x counts are put. Assumes nothing.
use Rattle.model.specs.Kit.{refl, sym, ap, ◌∙◌, ◌+◌, arith, rules}
use Rattle.model.specs.{Lists.at, Bytes.four_bytes}
use Rattle.run_cut.specs.Parts.{added}
use Rattle.run_cut.proofs.Counts.{length_added, at_added}
use Rattle.desk.specs.{Inner.Places.COUNTS}
use Rattle.desk_turns.proofs.{Counting.counts_begin, Counting.counts_turn, Counting.counts_end}
use Rattle.desk_turns.proofs.serve.put_counts.Goals as goal

pub loop-x-init : goal.loop-x-init
loop-x-init c = (refl, counts_begin c.args.queue.now (added c.args.before c.args.more) (c.args.p + COUNTS))

pub overflow_add-k : goal.overflow_add-k
unfolding at
overflow_add-k c = search (rules, c.requires.3 c.loop-x.x)

pub overflow_cast-k : goal.overflow_cast-k
unfolding at
overflow_cast-k c = search (rules, c.requires.3 c.loop-x.x)

pub four-requires : goal.four-requires
unfolding at
four-requires c = search (rules, c.requires.3 c.loop-x.x)

pub loop-x-preserved : goal.loop-x-preserved
unfolding at four_bytes
loop-x-preserved c =
    let n = length_added c.args.before c.args.more in (
      c.four.auto.out ∙ c.loop-x.invariant.0,
      counts_turn c.args.queue.now (added c.args.before c.args.more) (c.args.p + COUNTS) c.loop-x.x _ _ _ (omega (arith, n)) (omega (arith, n, c.requires.0)) c.loop-x.invariant.1
          (ap four_bytes (sym (at_added c.args.before c.args.more c.loop-x.x (omega (arith))))) c.four.ensures.bytes,
    )

pub returns : goal.returns
returns c =
    counts_end c.args.queue.now (added c.args.before c.args.more) (c.args.p + COUNTS) c.loop-x.x _ (omega (arith, length_added c.args.before c.args.more))
    c.loop-x.invariant.1

pub shape_of-queue : goal.shape_of-queue
shape_of-queue c = c.loop-x.invariant.0
