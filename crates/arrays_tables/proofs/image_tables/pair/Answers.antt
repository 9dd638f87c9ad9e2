-- One pair is stored, and its image joins the smaller ones. Assumes nothing.
use Rattle.model.specs.Kit.{sym, ap, ◌∙◌, ℕ, ◌%◌, ◌<◌, rules}
use Rattle.model.specs.{Lists.at, ValueSets.only_mask}
use Rattle.model.proofs.Lists.{T_of}
use Rattle.arrays_tables.proofs.{Images.pair_skip, Images.pair_more}
use Rattle.arrays_tables.proofs.image_tables.pair.Goals as goal

pub returns-then-not-contains : goal.returns-then-not-contains
returns-then-not-contains c = λ old d. pair_skip _ _ _ _ _ _ _ c.requires.0 c.requires.1 d (sym c.contains.ensures ∙ c.if-not-contains.true)

pub returns : goal.returns
unfolding at
returns c =
    let byte : c.image-y.result < 256 = search rules in
    λ old d.
    pair_more _ _ _ _ _ _ _ c.requires.0 c.requires.1 d _ c.store_sets.ensures _ c.image-y.ensures byte
    (T_of _ (sym c.contains.ensures ∙ c.if-not-contains.false)) c.told-tables _ _
    (c.only-one.ensures ∙ ap (λ (n : ℕ). only_mask n (c.image-y.result % 16)) c.full.ensures) c.union-more.ensures
