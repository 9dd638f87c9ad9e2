-- The rows of one constraint. Assumes nothing.
use Rattle.model.specs.Kit.{true, false, refl, sym, ◌∙◌, ℕ, ◌+◌, ◌*◌, ◌≡◌, ◌<◌, arith}
use Rattle.model.specs.{Lists.at}
use Rattle.model.proofs.Lists.{T_of}
use Rattle.arrays.proofs.Copies.{copied_at}
use Rattle.arrays_tables.proofs.{RowTables.rows_skip, RowTables.rows_turn, RowTables.two_of, RowTables.by_rows_is, RowTables.across_from, RowTables.back_from}
use Rattle.arrays_tables.proofs.rows.link.Goals as goal

pub returns-then-not-contains : goal.returns-then-not-contains
unfolding at
returns-then-not-contains c = (refl, λ p g h r. rows_skip p _ c.args.tables.now h (by_rows_is p _ _ g _ h false (sym c.contains.ensures ∙ c.if-not-contains.true)) r)

pub across-requires : goal.across-requires
unfolding at
across-requires c =
    let d = two_of c.requires.0 _ _ c.requires.1 _ c.requires.2
    (T_of _ (by_rows_is c.requires.0 _ _ c.requires.1 _ c.requires.2 true (sym c.contains.ensures ∙ c.if-not-contains.false))) _ _ c.scope_at-x.ensures c.scope_at-y.ensures in
    omega (arith, d.order, d.few)

pub back-requires : goal.back-requires
unfolding at
back-requires c =
    let d = two_of c.requires.0 _ _ c.requires.1 _ c.requires.2
    (T_of _ (by_rows_is c.requires.0 _ _ c.requires.1 _ c.requires.2 true (sym c.contains.ensures ∙ c.if-not-contains.false))) _ _ c.scope_at-x.ensures c.scope_at-y.ensures in
    omega (arith, d.order, d.few)

pub returns : goal.returns
unfolding at
returns c =
    let same : (v : ℕ) → v < 16 → at c.copy_from_slice.new.self v ≡ at c.args.supports.now (256 * c.args.k + v) =
    λ v. copied_at c.args.supports.now _ (256 * c.args.k) 16 v c.copy_from_slice.ensures.after in (
      c.back.ensures.size ∙ c.across.ensures.size,
      λ p g h r. rows_turn p _ _ g _ h _ _
          (two_of p _ _ g _ h (T_of _ (by_rows_is p _ _ g _ h true (sym c.contains.ensures ∙ c.if-not-contains.false))) _ _ c.scope_at-x.ensures c.scope_at-y.ensures) _ _ _
          (across_from _ (256 * c.args.k) _ c.args.supports.now _ _ same c.across.ensures) (back_from _ (256 * c.args.k) _ c.args.supports.now _ _ same c.back.ensures) r,
    )
