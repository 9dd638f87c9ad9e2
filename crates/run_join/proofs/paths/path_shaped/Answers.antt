-- `path_shaped`: the length, then the values behind it. Assumes nothing.
use Rattle.model.specs.Kit.{refl, sym, ap, ◌∙◌, ℕ, ◌+◌, ◌-◌, arith, lt-leb, eqb}
use Rattle.model.specs.Lists.{all, at, up_from}
use Rattle.std.proofs.Common.{rules, tests}
use Rattle.std.proofs.lemmas.Iterator.{YieldsList-from_range}
use Rattle.std.proofs.lemmas.Iterator.Search.{all_from_yields_List}
use Rattle.run_join.proofs.{Orders.shaped_long, Orders.shaped_zeros, Slices.range_all}
use Rattle.run_join.proofs.paths.path_shaped.Goals as goal

pub returns-then-length-le12 : goal.returns-then-length-le12
unfolding at
returns-then-length-le12 c =
    let l = c.args.l.now in
    let o = c.args.o in
    let m = c.from-length.result in
    all_from_yields_List (λ i. eqb (at l (o + 1 + i)) 0) _ _ c.all.result c.all.ensures.ran (YieldsList-from_range m 12 (12 - m) refl refl) (λ x b q k. search (rules, tests))
    ∙ range_all (λ i. eqb (at l (o + 1 + i)) 0) m (12 - m) ∙ ap (λ (k : ℕ). all (λ i. eqb (at l (o + 1 + i)) 0) (up_from k (12 - k))) c.from-length.ensures
    ∙ shaped_zeros l o (omega (arith, c.from-length.ensures))

pub returns-else-length-le12 : goal.returns-else-length-le12
unfolding at
returns-else-length-le12 c =
    lt-leb c.from-length.result 12 c.if-length-le12.false ∙ sym (shaped_long c.args.l.now c.args.o (omega (arith, c.from-length.ensures)))
