-- One value cuts the sets by its row. A loose variable with two values and a cover of all sets leave nothing to do; else the sets are cut. Assumes nothing.
use Rattle.model.specs.Kit.{sym, ◌∙◌, arith, rules, eqb-true, eqb-false}
use Rattle.model.specs.Lists.{at}
use Rattle.prune_pairs.proofs.OneCut.{x_lt, low_lt, ready_narrow, bit_in, by_loose, by_covered, by_cut, row_spared, by_row}
use Rattle.prune_pairs.proofs.cut_by.Goals as goal

pub slice_bounds-cut_row-end : goal.slice_bounds-cut_row-end
unfolding at
slice_bounds-cut_row-end c =
    omega (arith, x_lt c.requires.1, low_lt c.requires.1 _ c.lowest.ensures)

pub cut_row-requires : goal.cut_row-requires
unfolding at
cut_row-requires c = (
  search rules,
  search rules,
  row_spared c.requires.1 c.lowest.ensures (sym c.without_lowest.ensures ∙ eqb-true _ 0
      (sym c.is_empty.ensures ∙ c.if-is_empty.true)) (omega (arith, x_lt c.requires.1, low_lt c.requires.1 _ c.lowest.ensures)),
)

pub returns-then-is_empty : goal.returns-then-is_empty
unfolding at
returns-then-is_empty c =
    let e = eqb-true _ 0 (sym c.is_empty.ensures ∙ c.if-is_empty.true) in
    λ p w. by_row w c.lowest.ensures (sym c.without_lowest.ensures ∙ e) (omega (arith, x_lt c.requires.1, low_lt c.requires.1 _ c.lowest.ensures)) _ c.cut_row.result c.cut_row.ensures

pub returns-then-loose-x-eq1 : goal.returns-then-loose-x-eq1
unfolding at
returns-then-loose-x-eq1 c =
    let n = eqb-false _ 0 (sym c.is_empty.ensures ∙ c.if-is_empty.false) in
    λ p w. by_loose w (bit_in _ _ c.if-loose-x-eq1.true) (λ e. n (c.without_lowest.ensures ∙ e))

pub returns-then-exceeds : goal.returns-then-exceeds
unfolding at
returns-then-exceeds c = λ p w. by_cut w c.cover_of-cover.ensures _ c.cut.result c.cut.ensures

pub returns : goal.returns
unfolding at
returns c = λ p w. by_covered w c.cover_of-cover.ensures (c.exceeds.ensures c.if-exceeds.false)

pub cover_of-cover-requires : goal.cover_of-cover-requires
cover_of-cover-requires c = (x_lt c.requires.1, ready_narrow c.requires.1)
