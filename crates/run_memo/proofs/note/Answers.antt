-- A subtree is kept. Assumes nothing.
use Rattle.model.specs.Kit.{◌≡◌, sym, ◌∙◌, ◌-◌, arith}
use Rattle.model.specs.Lists.{at}
use Rattle.arrays.specs.Inner.Places.{PLANS, ALL, VAIN}
use Rattle.run_state.specs.Meaning.{tally_in}
use Rattle.run_memo.proofs.{Looked.symmetries_few, Looked.marks_own, Noted.nodes_grow_at, Noted.counts_grow_at, Noted.plans_grow_at, Noted.charged_at, Noted.noted_at}
use Rattle.run_state.{specs.Inner.Cut.stop_of, proofs.Stops.went_on}
use Rattle.run_memo.proofs.note.Goals as goal

pub returns-then-is_err : goal.returns-then-is_err
returns-then-is_err c = λ p s w u t l m g. g.walked

pub returns-then-last-k : goal.returns-then-last-k
returns-then-last-k c = λ p s w u t l m g. g.walked

pub returns-then-last-gt12 : goal.returns-then-last-gt12
returns-then-last-gt12 c = λ p s w u t l m g. g.walked

pub returns-then-after-before : goal.returns-then-after-before
unfolding at
returns-then-after-before c = λ p s w u t l m g.
    charged_at p s w u t c.args.numbers.now l (tally_in c.args.before) c.args.k c.args.stack.now c.args.work.now m (tally_in c.args.after) c.args.turn c.args.place (stop_of c.args.stop)
    (went_on c.args.stop (sym c.is_err.ensures.value ∙ c.if-is_err.false)) g (omega (arith, c.if-last-gt12.false)) c.charge.new.work
    c.charge.ensures

pub marks_at-marks-requires : goal.marks_at-marks-requires
unfolding at
marks_at-marks-requires c = (
  symmetries_few c.requires.7.prefix,
  omega (arith, c.requires.7.prefix.inner, c.requires.7.prefix.ready.well_formed.few),
  c.charge.ensures.long ∙ c.requires.7.walked.work_length ∙ c.requires.7.prefix.ready.work_length,
)

pub put-requires : goal.put-requires
unfolding at
put-requires c =
    let e : stop_of c.args.stop ≡ ALL = went_on c.args.stop (sym c.is_err.ensures.value ∙ c.if-is_err.false) in (
      omega (arith, c.requires.7.prefix.inner, c.requires.7.prefix.ready.well_formed.few),
      c.requires.7.walked.stack_length ∙ c.requires.7.prefix.ready.stack_length,
      c.charge.ensures.long ∙ c.requires.7.walked.work_length ∙ c.requires.7.prefix.ready.work_length,
      c.requires.7.placed,
      counts_grow_at c.requires.0 c.requires.1 c.requires.2 c.requires.3 c.requires.4 c.args.numbers.now c.requires.5 (tally_in c.args.before) c.args.k c.args.stack.now c.args.work.now c.requires.6
          (tally_in c.args.after) c.args.turn c.args.place
          (stop_of c.args.stop) e c.requires.7 (omega (arith, c.if-last-gt12.false)),
      nodes_grow_at c.requires.0 c.requires.1 c.requires.2 c.requires.3 c.requires.4 c.args.numbers.now c.requires.5 (tally_in c.args.before) c.args.k c.args.stack.now c.args.work.now c.requires.6
          (tally_in c.args.after) c.args.turn c.args.place
          (stop_of c.args.stop) e c.requires.7 (omega (arith, c.if-last-gt12.false)),
    )

pub put_plans-requires : goal.put_plans-requires
unfolding at
put_plans-requires c =
    let e : stop_of c.args.stop ≡ ALL = went_on c.args.stop (sym c.is_err.ensures.value ∙ c.if-is_err.false) in (
      c.put.ensures.long ∙ c.charge.ensures.long ∙ c.requires.7.walked.work_length ∙ c.requires.7.prefix.ready.work_length,
      c.requires.7.placed,
      omega (
        arith,
        c.put.ensures.before PLANS (omega (arith, c.requires.7.placed.is)),
        c.charge.ensures.others PLANS (λ i. omega arith),
        plans_grow_at c.requires.0 c.requires.1 c.requires.2 c.requires.3 c.requires.4 c.args.numbers.now
            c.requires.5 (tally_in c.args.before) c.args.k c.args.stack.now c.args.work.now c.requires.6 (tally_in c.args.after) c.args.turn c.args.place (stop_of c.args.stop) e c.requires.7
            (omega (arith, c.if-last-gt12.false)),
      ),
    )

pub returns : goal.returns
unfolding at
returns c = λ p s w u t l m g.
    noted_at p s w u t c.args.numbers.now l (tally_in c.args.before) c.args.k c.args.stack.now c.args.work.now m (tally_in c.args.after) c.args.turn c.args.place (stop_of c.args.stop)
    (went_on c.args.stop (sym c.is_err.ensures.value ∙ c.if-is_err.false)) g
    (omega (arith, c.if-last-gt12.false))
    c.charge.new.work c.charge.ensures
    (omega (arith, c.if-last-k.false))
    (λ z. omega (arith, c.if-after-before.false)) c.marks_at-marks.result.low c.marks_at-marks.result.good (c.args.place - VAIN) g.placed
    (marks_own g.prefix _ _ _ c.marks_at-marks.ensures) c.put.new.work c.put.ensures c.put_plans.new.work c.put_plans.ensures

pub overflow_sub-place : goal.overflow_sub-place
overflow_sub-place c = c.requires.7.vain

pub overflow_sub-turn : goal.overflow_sub-turn
overflow_sub-turn c = omega (arith, c.requires.7.turn_is)

pub overflow_sub-place-2 : goal.overflow_sub-place-2
overflow_sub-place-2 c = c.requires.7.vain
