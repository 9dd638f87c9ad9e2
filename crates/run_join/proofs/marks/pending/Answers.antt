-- `pending`: those passed are not pending. Assumes nothing.
use Rattle.model.specs.Kit.{◌≡◌, true, false, not}
use Rattle.model.specs.Lists.{both}
use Rattle.std.proofs.Common.{rules, tests}
use Rattle.std.proofs.lemmas.Iterator.{first_from_Range}
use Rattle.run_join.specs.Inner.Inner.{marked}
use Rattle.run_join.proofs.{Bits.pending_is}
use Rattle.run_join.proofs.marks.pending.Goals as goal

pub returns : goal.returns
returns c =
    pending_is c.args.marks.now c.args.done.now c.args.n c.find.result
    (first_from_Range _ _ _ c.find.result (λ k. both (marked c.args.marks.now k) (not (marked c.args.done.now k)) ≡ true)
    (λ k. both (marked c.args.marks.now k) (not (marked c.args.done.now k)) ≡ false)
    c.find.ensures.ran (λ x q k. search (rules, tests)) (λ x q k. search (rules, tests)))
