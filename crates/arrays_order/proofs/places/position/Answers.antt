-- The first place of x. Assumes nothing.
use Rattle.model.specs.Kit.{arith, eqb, rules, take}
use Rattle.std.proofs.Common.{tests}
use Rattle.std.proofs.lemmas.Iterator.{YieldsList-from_slice}
use Rattle.std.proofs.lemmas.Iterator.Search.{position_from_yields_List}
use Rattle.arrays_order.proofs.Standing.{stood}
use Rattle.arrays_order.proofs.places.position.Goals as goal

pub returns : goal.returns
returns c = stood c.args.n c.args.order.now c.args.x _ _ (omega arith) c.unwrap_or.ensures
    (position_from_yields_List (λ y. eqb y c.args.x) _ _ _ c.position.ensures.ran (YieldsList-from_slice (take c.args.n c.args.order.now) cc) (λ x b q k. search (rules, tests)))
