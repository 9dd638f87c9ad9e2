-- A look into the memo. Assumes nothing.
use Rattle.model.specs.Kit.{refl, ◌∙◌, arith}
use Rattle.model.specs.Lists.{at}
use Rattle.run_state.specs.Meaning.{tally_in}
use Rattle.run_memo.proofs.{Looked.symmetries_few, Looked.copies_so, Looked.looked, Looked.looked_none}
use Rattle.run_memo.proofs.recall.Goals as goal

pub marks_at-marks-requires : goal.marks_at-marks-requires
unfolding at
marks_at-marks-requires c = (symmetries_few c.requires.3.prefix, omega (arith, c.requires.3.prefix.inner, c.requires.3.prefix.ready.well_formed.few), c.requires.3.prefix.ready.work_length)

pub returns-then-not-is_same : goal.returns-then-not-is_same
unfolding at
returns-then-not-is_same c =
    record {
      looked = λ p supports tables g. looked_none p c.args.stack.now c.args.work.now supports tables c.args.numbers.now c.args.list.now.now (tally_in c.args.before) c.args.k g.prefix
          c.entry_for-s.result
          c.entry_for-s.ensures;
      same_slice = (refl, refl);
    }

pub copy-requires : goal.copy-requires
unfolding at
copy-requires c =
    copies_so c.requires.0 c.args.stack.now c.args.work.now c.requires.1 c.requires.2 c.args.numbers.now c.args.list.now.now (tally_in c.args.before) c.args.k c.requires.3
    c.pending_at-pending.result c.marks_at-marks.result.low c.marks_at-marks.result.good c.entry_for-s.result
    c.pending_at-pending.ensures c.marks_at-marks.ensures c.entry_for-s.ensures
    (c.is_same.ensures c.if-not-is_same.false)

pub take-requires : goal.take-requires
unfolding at
take-requires c =
    (omega (arith, c.requires.3.prefix.inner, c.requires.3.prefix.ready.well_formed.few), c.copy.ensures.copied.long ∙ c.requires.3.prefix.ready.work_length, c.entry_for-s.ensures)

pub returns : goal.returns
unfolding at
returns c = record {
  looked = λ p supports tables g. looked p c.args.stack.now c.args.work.now supports tables c.args.numbers.now c.args.list.now.now (tally_in c.args.before) c.args.k g
      c.pending_at-pending.result c.marks_at-marks.result.low c.marks_at-marks.result.good c.entry_for-s.result
      c.pending_at-pending.ensures c.marks_at-marks.ensures c.entry_for-s.ensures
      (c.is_same.ensures c.if-not-is_same.false) _ _ c.copy.ensures.copied _ c.take.ensures;
  same_slice = c.copy.ensures.same_slice;
}
