-- `padded_same`: the values, then how many they are. Assumes nothing.
use Rattle.model.specs.Kit.{refl, sym, ap, ◌∙◌, Bool}
use Rattle.model.specs.Lists.{at, both}
use Rattle.std.proofs.Common.{rules, tests}
use Rattle.std.proofs.lemmas.Iterator.{YieldsList-from_range}
use Rattle.std.proofs.lemmas.Iterator.Search.{all_from_yields_List}
use Rattle.run_join.proofs.{Padded.alike, Padded.padded_same, Slices.range_all}
use Rattle.run_join.proofs.paths.padded_same.Goals as goal

pub returns-then-all : goal.returns-then-all
unfolding at
returns-then-all c =
    let f = alike c.args.a.now c.args.b.now in
    let all = all_from_yields_List f _ _ c.all.result c.all.ensures.ran (YieldsList-from_range 1 13 12 refl refl) (λ x b q k. search (rules, tests)) ∙ range_all f 1 12 in
    ap (λ (b : Bool). both b (f 0)) (sym c.if-all.true ∙ all) ∙ padded_same _ _ c.requires.0 c.requires.1

pub returns-else-all : goal.returns-else-all
unfolding at
returns-else-all c =
    let f = alike c.args.a.now c.args.b.now in
    let all = all_from_yields_List f _ _ c.all.result c.all.ensures.ran (YieldsList-from_range 1 13 12 refl refl) (λ x b q k. search (rules, tests)) ∙ range_all f 1 12 in
    c.if-all.false ∙ ap (λ (b : Bool). both b (f 0)) (sym c.if-all.false ∙ all) ∙ padded_same _ _ c.requires.0 c.requires.1
