-- `filter::first_wrong` meets its contract. Assumes nothing.
use Rattle.model.specs.Kit.{◌≡◌, true, false, ℕ, rules}
use Rattle.std.proofs.Common.{tests}
use Rattle.std.proofs.lemmas.Iterator.{first_from_Range}
use Rattle.model.specs.Lists.{at}
use Rattle.filter.proofs.{Questions.ok_at, Questions.found_wrong}
use Rattle.filter.proofs.first_wrong.Goals as goal

pub returns : goal.returns
unfolding at
returns c =
    let ok : ℕ → Type 0 = λ k. ok_at c.args.n c.args.index.now c.args.equal.now c.args.not_equal.now k ≡ true in
    let wrong : ℕ → Type 0 = λ k. ok_at c.args.n c.args.index.now c.args.equal.now c.args.not_equal.now k ≡ false in
    found_wrong c.args.n c.args.index.now c.args.equal.now c.args.not_equal.now c.find.result
    (first_from_Range _ _ _ c.find.result wrong ok c.find.ensures.ran (λ x q k. search (rules, tests)) (λ x q k. (search rules, search (rules, tests))))
