-- The number of small sheets, computed. Assumes nothing.
use Rattle.model.specs.Kit.{◌≡◌, refl, ap, ap₂, ◌∙◌, List, [], ◌∷◌, map, ℕ, ◌+◌, ◌/◌, ◌%◌, arith, length, length-append, length-map}
use Rattle.model.specs.{Lists.all, Lists.any, Lists.keep, Lists.flat, Lists.up_from, Lists.below, Lists.at, Lists.same, Lists.earlier, Lists.ascending, Lists.rows_ascend, ValueSets.has}
use Rattle.model.specs.{ValueSets.members, Problem.assignments, Problem.pair, Problem.is_pair, Problem.within, Problem.doubled, Problem.pairs_at, Problem.excluded, Problem.forbidden, Problem.respects}
use Rattle.model.specs.{Sheet.word, Sheet.words, Sheet.header_of, Sheet.scope_at, Sheet.rows_at, Sheet.after_at, Sheet.constraints_from, Sheet.table_at, Sheet.problem_of, Sheet.sets_verdict}
use Rattle.model.specs.{Sheet.constraints_verdict, Sheet.distinct, Sheet.permutes_pairs, Sheet.symmetries_verdict, Sheet.verdict_of, Sheet.constraint_verdict, Sheet.header_verdict, Sheet.form_verdict}
use Rattle.model.proofs.Lists.{keep_ext, below_e}
use Rattle.sheet_once.specs.Inner.Claims.{Figures}
use Rattle.sheet_small.specs.Small.{shapes, tables, rows_of, front_of, sheet_of, is_sheet, plain_sheets, symmetric_sheets, small_sheets}
use Rattle.sheet_small.specs.Inner.Inner.{shape_no, table_no}
use Rattle.sheet_small.proofs.{Lists.keep_map, Stating.stated, Stating.table_verdict, Stating.table_fits, Stating.table_fits_lem}

plain : length plain_sheets ≡ 144
unfolding plain_sheets shapes sheet_of front_of rows_of is_sheet all keep flat up_from below at earlier ascending rows_ascend has members word words header_of scope_at rows_at after_at
    constraints_from
    table_at problem_of sets_verdict constraint_verdict constraints_verdict symmetries_verdict header_verdict form_verdict verdict_of
plain = refl

-- ---- with one table
tabled : ℕ → List ℕ
tabled m = sheet_of (shape_no (m / 24)) (table_no (m % 24) ∷ [])

numbered : flat (map (λ s. map (λ g. sheet_of s (g ∷ [])) tables) shapes) ≡ map tabled (below 3456)
unfolding tabled shapes tables shape_no any keep flat up_from below has members assignments distinct
numbered = refl

fitting : length (keep (λ m. table_fits (m / 24) (m % 24)) (below 3456)) ≡ 400
unfolding table_fits table_verdict stated shape_no rows_of all any keep flat up_from below at same has members assignments pair is_pair within doubled pairs_at excluded forbidden respects distinct
    permutes_pairs symmetries_verdict
fitting = refl

symmetric : length symmetric_sheets ≡ 400
unfolding symmetric_sheets tabled
symmetric =
    ap (λ (l : List (List ℕ)). length (keep is_sheet l)) numbered
    ∙ ap length (keep_map is_sheet tabled (below 3456)) ∙ length-map (keep (λ m. is_sheet (tabled m)) (below 3456)) tabled
    ∙ ap length (keep_ext (λ m. is_sheet (tabled m)) (λ m. table_fits (m / 24) (m % 24)) (below 3456) (λ m k. table_fits_lem (m / 24) (m % 24) (omega (arith, below_e 3456 m k))))
    ∙ fitting

pub figures : Figures
unfolding small_sheets
figures = record { plain = plain; symmetric = symmetric; whole = length-append plain_sheets symmetric_sheets ∙ ap₂ (λ (x y : ℕ). x + y) plain symmetric }
