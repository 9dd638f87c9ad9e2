-- `go_on`: what stands in the slot is lent, and what the run leaves is put back. Assumes nothing.
use Rattle.model.specs.Kit.{ℕ, length-replicate}
use Rattle.model.specs.Lists.{at}
use Rattle.arrays.specs.Inner.Places.{NUMBERS, STACK, SUPPORTS, TABLES}
use Rattle.sheet.proofs.Whole.{zeros}
use Rattle.desk_turns.proofs.{Going.going, Going.gone}
use Rattle.desk_turns.proofs.serve.go_on.Goals as goal

pub prepare_again-step-requires : goal.prepare_again-step-requires
prepare_again-step-requires c =
    record {
      stack_length = length-replicate {A = ℕ} STACK 0;
      work_length = c.put_progress.ensures.work_length;
      supports_blank = zeros SUPPORTS;
      tables_length = length-replicate {A = ℕ} TABLES 0;
      numbers_blank = zeros NUMBERS;
    }

pub go_on-requires : goal.go_on-requires
unfolding at
go_on-requires c = (
  _,
  _,
  _,
  _,
  going c.args.queue.now c.args.p c.requires.0
      (λ i. (c.slice_known-1.given i).fits) _ _ _ _ c.bounded-plans.ensures c.byte.ensures
      c.bounded.ensures c.bounded-size.ensures c.args.more _ _ _ _ _ _ _ _
      c.put_progress.ensures c.prepare_again-step.ensures,
)

pub returns : goal.returns
unfolding at
returns c =
    gone c.args.queue.now c.args.p c.requires.0 (λ i. (c.slice_known-1.given i).fits) _
    c.bounded-size.ensures c.args.more _ _ _ _
    (c.go_on.ensures _ _ _ _ (going c.args.queue.now c.args.p c.requires.0
    (λ i. (c.slice_known-1.given i).fits) _ _ _ _
    c.bounded-plans.ensures c.byte.ensures
    c.bounded.ensures c.bounded-size.ensures
    c.args.more _ _ _ _ _ _ _ _ c.put_progress.ensures c.prepare_again-step.ensures))
    c.go_on.auto.list
