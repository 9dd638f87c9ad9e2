-- `run::run_lent` meets its contract: proofs/Whole. Assumes nothing.
use Rattle.model.specs.Kit.{refl, ap, ℕ, replicate}
use Rattle.arrays.specs.Inner.Places.{PLANS, NUMBERS, STACK, SUPPORTS, TABLES, WORK, WANTED}
use Rattle.sheet.proofs.Whole.{zeros}
use Rattle.run_search.specs.Inner.Prepared.{Blank}
use Rattle.std.proofs.lemmas.Result.{err_from_is_err_and}
use Rattle.run_state.specs.Meaning.{tally_in}
use Rattle.run.proofs.{Whole.ran_refused, Whole.ran_ended, Whole.said}
use Rattle.run.proofs.run_lent.Goals as goal

-- the arrays as they are made
blank : (size : ℕ) → Blank (replicate STACK 0) (replicate WORK 0) (replicate SUPPORTS 0) (replicate TABLES 0) (replicate NUMBERS 0) size
blank size = record {
  stack_length = (zeros STACK).sized;
  work_length = (zeros WORK).sized;
  none_listed = (zeros WORK).blank PLANS;
  supports_blank = zeros SUPPORTS;
  tables_length = (zeros TABLES).sized;
  numbers_blank = zeros NUMBERS;
  unlisted = λ n. absurd (n ((zeros WORK).blank WANTED));
}

pub explore-requires : goal.explore-requires
explore-requires c = blank _

pub returns-in_err-stop : goal.returns-in_err-stop
returns-in_err-stop c =
    let q = err_from_is_err_and c.from_residual.result c.from_residual.ensures.1 in
    let h = c.in_err-stop.ensures in
    let e = said _ _ _ _ _ _ _ _ _ _ (ran_refused (replicate WORK 0) _ _ _ c.args.limit _ _ _ h.0 _ _ h.1 (ap tally_in h.2)) ((zeros WORK).blank WANTED) in
    rw (q.1, q.2) record { answers = e.answer; leaves = e.lists; counts = e.counts }

pub returns : goal.returns
returns c =
    let e = said _ _ _ _ _ _ _ _ _ _ (ran_ended _ _ _ _ _ _ (tally_in c.args.tally.now) _ _ _ _ c.in_ok-stop.ensures _ refl _ c.answered.ensures) ((zeros WORK).blank WANTED) in
    record { answers = e.answer; leaves = e.lists; counts = e.counts }
