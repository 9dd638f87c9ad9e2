-- `all_shaped`: head by head. Assumes nothing.
use Rattle.model.specs.Kit.{refl, ◌∙◌, arith}
use Rattle.model.specs.Lists.{below}
use Rattle.std.proofs.Common.{rules, tests}
use Rattle.std.proofs.lemmas.Iterator.{YieldsList-from_range}
use Rattle.std.proofs.lemmas.Iterator.Search.{all_from_yields_List}
use Rattle.run_join.specs.Join.{head_shaped}
use Rattle.run_join.proofs.Slices.{range_all}
use Rattle.run_join.proofs.heads.all_shaped.Goals as goal

pub returns : goal.returns
unfolding below
returns c =
    all_from_yields_List (head_shaped c.args.l.now) _ _ c.all.result c.all.ensures.ran (YieldsList-from_range 0 c.args.n c.args.n refl (omega arith)) (λ x b q k. search (rules, tests))
    ∙ range_all (head_shaped c.args.l.now) 0 c.args.n
