-- `next_here`: those passed begin elsewhere, or are not marked. Assumes nothing.
use Rattle.model.specs.Kit.{◌≡◌, true, false}
use Rattle.std.proofs.Common.{rules, tests}
use Rattle.std.proofs.lemmas.Iterator.{first_from_Range}
use Rattle.run_join.specs.{Join.path_at, Inner.Inner.begins}
use Rattle.run_join.proofs.Turns.{first_is}
use Rattle.run_join.proofs.steps.next_here.Goals as goal

pub returns : goal.returns
returns c =
    let test = begins c.args.marks.now c.args.l.now (path_at c.args.here.now 0) in
    first_is test c.args.k c.args.n c.find.result
    (first_from_Range _ _ _ c.find.result (λ k. test k ≡ true) (λ k. test k ≡ false) c.find.ensures.ran (λ x q k. search (rules, tests)) (λ x q k. search (rules, tests)))
