-- `none_full`: head by head. Assumes nothing.
use Rattle.model.specs.Kit.{refl, ◌∙◌, arith, leb}
use Rattle.model.specs.Lists.{below}
use Rattle.std.proofs.Common.{rules, tests}
use Rattle.std.proofs.lemmas.Iterator.{YieldsList-from_range}
use Rattle.std.proofs.lemmas.Iterator.Search.{all_from_yields_List}
use Rattle.run_join.specs.Join.{kind_at}
use Rattle.run_join.proofs.Slices.{range_all}
use Rattle.run_join.proofs.heads.none_full.Goals as goal

pub returns : goal.returns
unfolding below
returns c =
    all_from_yields_List (λ k. leb (kind_at c.args.l.now k) 2) _ _ c.all.result c.all.ensures.ran (YieldsList-from_range 0 c.args.n c.args.n refl (omega arith)) (λ x b q k. search (rules, tests))
    ∙ range_all (λ k. leb (kind_at c.args.l.now k) 2) 0 c.args.n
