-- The test of every byte. Assumes nothing.
use Rattle.model.specs.Kit.{◌∙◌, ltb, rules}
use Rattle.std.proofs.Common.{tests}
use Rattle.std.proofs.lemmas.Iterator.{YieldsList-from_slice}
use Rattle.std.proofs.lemmas.Iterator.Search.{all_from_yields_List}
use Rattle.order.proofs.Placing.{all_is}
use Rattle.order.proofs.all_below.Goals as goal

pub returns : goal.returns
returns c = all_from_yields_List (λ x. ltb x c.args.n) _ _ _ c.all.ensures.ran (YieldsList-from_slice c.args.pairs.now cc) (λ x b q k. search (rules, tests))
    ∙ all_is (λ x. ltb x c.args.n) c.args.pairs.now
