-- `make`: the rows, the numbers before them and the table, one after another. Assumes nothing.
use Rattle.model.specs.Kit.{ap, ℕ, ◌+◌, ◌*◌, arith}
use Rattle.sheet_small.proofs.{Drafts.made, Pruned.few}
use Rattle.sheet_small.proofs.make.Goals as goal

pub table-requires : goal.table-requires
table-requires c =
    let t = few c.args.j c.permuted.result c.requires.2 c.permuted.ensures in
    (omega (arith, c.rows-end.ensures.1), t.0, t.1, t.2, t.3)

pub returns : goal.returns
returns c = (
  made c.args.i c.args.tables c.args.j c.rows-end.result c.permuted.result _ _ _ c.permuted.ensures c.rows-end.ensures.1 c.rows-end.ensures.0 c.head.ensures c.table.ensures,
  ap
      (λ (n : ℕ). n + 8 * c.args.tables) c.rows-end.ensures.1,
)
