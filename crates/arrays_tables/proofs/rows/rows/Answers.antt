-- The rows of all constraints. Assumes nothing.
use Rattle.model.specs.Kit.{refl, sym, ◌∙◌, arith}
use Rattle.model.specs.{Lists.at}
use Rattle.arrays_tables.proofs.{RowTables.rows_begin, RowTables.rows_end}
use Rattle.arrays_tables.proofs.rows.rows.Goals as goal

pub loop-k-init : goal.loop-k-init
unfolding at
loop-k-init c = (refl, c.clear.ensures.size ∙ c.told-tables, λ p g. rows_begin p _ _ c.clear.ensures)

pub link-requires : goal.link-requires
link-requires c =
    (c.requires.0, c.requires.1, omega (arith, c.requires.1.numbered.constraints, c.loop-k.invariant.0))

pub loop-k-preserved : goal.loop-k-preserved
loop-k-preserved c = (
  c.loop-k.invariant.0,
  c.link.ensures.0 ∙ c.loop-k.invariant.1,
  λ p g. c.link.ensures.1 p g
      (omega (arith, g.numbered.constraints, c.loop-k.invariant.0)) (c.loop-k.invariant.2 p g),
)

pub returns : goal.returns
returns c = (
  c.loop-k.invariant.1 ∙ sym c.told-tables,
  λ p g. rows_end p _ _ (omega (arith, g.numbered.constraints, c.loop-k.invariant.0))
      (c.loop-k.invariant.2 p g),
)
