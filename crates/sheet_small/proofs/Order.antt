-- The small sheets are the accepted ones of the candidates, number by number. Assumes nothing.
use Rattle.model.specs.Kit.{◌≡◌, refl, sym, ap, ◌∙◌, [], ◌∷◌, ◌++◌, map}
use Rattle.model.specs.{Lists.any, Lists.keep, Lists.flat, Lists.up_from, Lists.below, ValueSets.has, ValueSets.members, Problem.assignments, Sheet.distinct}
use Rattle.model.proofs.Lists.{keep_append}
use Rattle.sheet_small.specs.{Small.shapes, Small.tables, Small.sheet_of, Small.is_sheet, Small.plain_sheets, Small.symmetric_sheets, Small.small_sheets, Inner.Inner.shape_no}
use Rattle.sheet_small.specs.Inner.Inner.{candidate}

candidates : map (λ s. sheet_of s []) shapes ++ flat (map (λ s. map (λ g. sheet_of s (g ∷ [])) tables) shapes) ≡ map candidate (below 3600)
unfolding shapes tables shape_no candidate any keep flat up_from below has members assignments distinct
candidates = refl

pub order : small_sheets ≡ keep is_sheet (map candidate (below 3600))
unfolding small_sheets plain_sheets symmetric_sheets
order =
    sym (keep_append is_sheet (map (λ s. sheet_of s []) shapes) (flat (map (λ s. map (λ g. sheet_of s (g ∷ [])) tables) shapes)))
    ∙ ap (keep is_sheet) candidates
