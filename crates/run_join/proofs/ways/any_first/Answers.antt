-- `any_first`: head by head. Assumes nothing.
use Rattle.model.specs.Kit.{refl, ◌∙◌, arith, []}
use Rattle.model.specs.Lists.{below, both, same}
use Rattle.std.proofs.Common.{rules, tests}
use Rattle.std.proofs.lemmas.Iterator.{YieldsList-from_range}
use Rattle.std.proofs.lemmas.Iterator.Search.{any_from_yields_List}
use Rattle.run_join.specs.{Join.from_at, Inner.Inner.marked}
use Rattle.run_join.proofs.Slices.{range_any}
use Rattle.run_join.proofs.ways.any_first.Goals as goal

pub returns : goal.returns
unfolding below
returns c =
    any_from_yields_List (λ k. both (marked c.args.marks.now k) (same (from_at c.args.l.now k) [])) _ _ c.any.result c.any.ensures.ran (YieldsList-from_range 0 c.args.n c.args.n refl (omega arith))
    (λ x b q k. search (rules, tests))
    ∙ range_any (λ k. both (marked c.args.marks.now k) (same (from_at c.args.l.now k) [])) 0 c.args.n
