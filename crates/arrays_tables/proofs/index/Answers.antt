-- All tables, one kind after another. Assumes nothing.
use Rattle.arrays_tables.proofs.Assembled.{bounds, link_bounds, rows_source, looks_bounds, lanes_bounds, made}
use Rattle.arrays_tables.proofs.index.Goals as goal

pub looks-requires : goal.looks-requires
looks-requires c = looks_bounds _ _ _ _ _ c.requires.1 _ c.linked.ensures _

pub image_tables-requires : goal.image_tables-requires
image_tables-requires c = lanes_bounds _ _ _ _ _ c.requires.1 _ c.linked.ensures _ c.looks.ensures c.by_lanes.ensures

pub returns : goal.returns
returns c =
    λ p q. made p _ _ _ _ q _ c.linked.ensures _ c.rows.ensures _ c.loose-set.ensures _
    c.looks.ensures _ c.by_lanes.ensures _ c.image_tables.ensures

pub linked-requires : goal.linked-requires
linked-requires c = let b = bounds _ _ _ _ _ c.requires.1 in (b.0, b.1)

pub rows-requires : goal.rows-requires
rows-requires c = (_, rows_source _ _ _ _ _ c.requires.1 _ c.linked.ensures)

pub loose-set-requires : goal.loose-set-requires
loose-set-requires c = (link_bounds _ _ _ _ _ c.requires.1 _ c.linked.ensures).0
