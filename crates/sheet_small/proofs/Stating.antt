-- The verdict on a candidate with a table goes by what it states: its bytes are read once for each shape. Assumes nothing.
use Rattle.model.specs.Kit.{◌≡◌, refl, ap, ap₂, ◌∙◌, Bool, List, [], ◌∷◌, map, ℕ, ◌+◌, ◌*◌, ◌/◌, ◌%◌, ◌<◌, arith}
use Rattle.model.specs.{Lists.all, Lists.keep, Lists.flat, Lists.up_from, Lists.below, Lists.at, Lists.earlier, Lists.ascending, Lists.rows_ascend, ValueSets.has, ValueSets.members, Problem.Problem}
use Rattle.model.specs.{Verdict.Verdict, Verdict.is_accepted, Sheet.word, Sheet.words, Sheet.header_of, Sheet.scope_at, Sheet.rows_at, Sheet.after_at, Sheet.constraints_from, Sheet.table_at}
use Rattle.model.specs.{Sheet.problem_of}
use Rattle.model.specs.{Sheet.sets_verdict, Sheet.constraints_verdict, Sheet.symmetries_verdict, Sheet.verdict_of, Sheet.constraint_verdict, Sheet.header_verdict, Sheet.form_verdict}
use Rattle.sheet_small.specs.{Small.Shape, Small.rows_of, Small.front_of, Small.sheet_of, Small.is_sheet, Inner.Inner.shape_no, Inner.Inner.table_no}
use Rattle.sheet_small.proofs.Lists.{same_below}

-- a shape with one table
unfoldable pub stated : Shape → List ℕ → Problem
stated s g =
    record {
      variables = 2;
      values = 2;
      initial = s.first ∷ s.second ∷ [];
      constraints = record { scope = 0 ∷ 1 ∷ []; rows = rows_of s.rows } ∷ [];
      symmetries = g ∷ [];
    }

-- the verdict on its table
unfoldable pub table_verdict : ℕ → List ℕ → Verdict
table_verdict i g = symmetries_verdict (stated (shape_no i) g) 0 (g ∷ [])

-- a number read back from its bytes
abbrev back : ℕ → ℕ
back w = w % 256 + 256 * (w / 256)

verdicts : (a b c d : ℕ) → map (λ i. verdict_of (sheet_of (shape_no i) ((a ∷ b ∷ c ∷ d ∷ []) ∷ []))) (below 144) ≡ map (λ i. table_verdict i (back a ∷ back b ∷ back c ∷ back d ∷ [])) (below 144)
unfolding stated table_verdict shape_no sheet_of front_of rows_of all keep flat up_from below at earlier ascending rows_ascend has members word words header_of scope_at rows_at after_at
    constraints_from
    table_at problem_of sets_verdict constraint_verdict constraints_verdict header_verdict form_verdict verdict_of
verdicts a b c d = refl

read_back : (i a b c d : ℕ) → i < 144 → verdict_of (sheet_of (shape_no i) ((a ∷ b ∷ c ∷ d ∷ []) ∷ [])) ≡ table_verdict i (a ∷ b ∷ c ∷ d ∷ [])
read_back i a b c d h =
    same_below (λ i. verdict_of (sheet_of (shape_no i) ((a ∷ b ∷ c ∷ d ∷ []) ∷ []))) (λ i. table_verdict i (back a ∷ back b ∷ back c ∷ back d ∷ [])) 144 (verdicts a b c d) i h
    ∙ ap₂ (λ (x y : ℕ). table_verdict i (x ∷ y ∷ back c ∷ back d ∷ [])) (whole a) (whole b)
    ∙ ap₂ (λ (x y : ℕ). table_verdict i (a ∷ b ∷ x ∷ y ∷ [])) (whole c) (whole d)
  where
    whole : (w : ℕ) → back w ≡ w
    whole w = omega arith

unfoldable pub table_fits : ℕ → ℕ → Bool
table_fits i j = is_accepted (table_verdict i (table_no j))

pub table_fits_lem : (i j : ℕ) → i < 144 → is_sheet (sheet_of (shape_no i) (table_no j ∷ [])) ≡ table_fits i j
unfolding is_sheet table_fits
table_fits_lem i j h = ap is_accepted (read_back i _ _ _ _ h)
