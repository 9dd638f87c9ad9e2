use Rattle.model.specs.Kit.{◌∙◌, ap, not, [], ℕ, ◌+◌, ◌*◌, ◌<◌, arith}
use Rattle.model.specs.ValueSets.{has, mask_of}
use Rattle.sheet_carried.proofs.Walks.{next_in, row_small, made_all, made_last}
use Rattle.arrays.specs.Inner.Places.{SUPPORTS}
use Rattle.sheet_symmetries.proofs.walk.choices.Goals as goal

pub returns-then-ahead-eq1 : goal.returns-then-ahead-eq1
returns-then-ahead-eq1 c = λ p vs codes r h n e. made_last p vs codes _ _ _ _ _ _ r h n e _ (c.initial-set.ensures p r.framed (next_in p vs codes _ _ _ _ _ _ r h n e)) _ _
    (c.complement.ensures ∙ ap (λ (s : ℕ). mask_of (λ v. not (has s v))) c.support.ensures) c.common.ensures c.if-ahead-eq1.true

pub returns-else-ahead-eq1 : goal.returns-else-ahead-eq1
returns-else-ahead-eq1 c = λ p vs codes r h n e. made_all p vs codes _ _ _ _ _ _ r h n e _ (c.initial-set.ensures p r.framed (next_in p vs codes _ _ _ _ _ _ r h n e)) c.if-ahead-eq1.false

pub initial-set-requires : goal.initial-set-requires
initial-set-requires c = (c.requires.0, c.requires.2.framed, next_in c.requires.0 c.requires.1 [] _ _ _ _ _ _ c.requires.2 c.requires.3 c.requires.4 c.requires.5)

pub overflow_add-k : goal.overflow_add-k
overflow_add-k c =
    let place : 256 * c.args.k + c.args.key < SUPPORTS = row_small c.requires.0 c.requires.1 [] _ _ _ _ _ _ c.requires.2 c.requires.3 c.requires.4 c.requires.5 in
    omega (arith, place)

pub support-requires : goal.support-requires
support-requires c =
    let place : 256 * c.args.k + c.args.key < SUPPORTS = row_small c.requires.0 c.requires.1 [] _ _ _ _ _ _ c.requires.2 c.requires.3 c.requires.4 c.requires.5 in
    place
