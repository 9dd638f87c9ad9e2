-- The loop: none of the symmetries before c is the product.
use Rattle.model.specs.Kit.{sym, ◌∙◌, arith}
use Rattle.families_closed.proofs.{Codes.and_last, Codes.made_still, Codes.made_one, Codes.made_not}
use Rattle.families_closed.proofs.Symmetries.is_made.Goals as goal

pub returns-then-moves_none : goal.returns-then-moves_none
returns-then-moves_none c = λ p n e la lb. made_still p _ _ (sym c.if-moves_none.true ∙ c.moves_none.ensures p n (omega (arith, e)) (omega (arith, e)))

pub loop-c-init : goal.loop-c-init
loop-c-init c = λ p n e la lb k l. absurd (omega arith)

pub returns-then-makes_one : goal.returns-then-makes_one
returns-then-makes_one c = λ p n e la lb. made_one p _ _ c.loop-c.c (omega (arith, e))
    (sym c.if-makes_one.true ∙ c.makes_one.ensures p n (omega (arith, e)) (omega (arith, e)) (omega (arith, e)))

pub loop-c-preserved : goal.loop-c-preserved
loop-c-preserved c =
    λ p n e la lb. and_last c.loop-c.c _ (c.loop-c.invariant p n e la lb)
    (sym (c.makes_one.ensures p n (omega (arith, e)) (omega (arith, e)) (omega (arith, e))) ∙ c.if-makes_one.false)

pub returns : goal.returns
returns c = λ p n e la lb. made_not p _ _ (sym c.if-moves_none.false ∙ c.moves_none.ensures p n (omega (arith, e)) (omega (arith, e)))
    (λ k l. c.loop-c.invariant p n e la lb k (omega (arith, e, l)))

pub moves_none-requires : goal.moves_none-requires
moves_none-requires c = (c.requires.0, c.requires.1, omega (arith, c.requires.2, c.requires.3), omega (arith, c.requires.2, c.requires.4))

pub makes_one-requires : goal.makes_one-requires
makes_one-requires c = (c.requires.0, c.requires.1, omega (arith, c.requires.2, c.requires.3), omega (arith, c.requires.2, c.requires.4), omega (arith, c.requires.2))
