-- The loop: each value passed of b goes together with something of e, and what goes together with them. The measure is the set of the values left, as
-- a number. Assumes nothing.
use Rattle.model.specs.Kit.{◌≡◌, refl, sym, ◌∙◌, subst, ◌<◌, arith, rules, eqb-true, eqb-false, T}
use Rattle.model.specs.Lists.{at}
use Rattle.model.proofs.Members.{lowest_left, others_less}
use Rattle.prune_constraints.specs.Inner.Steps.{Supported2}
use Rattle.prune_constraints.proofs.{Unions.passing_begin, Unions.passing_turn, Unions.passing_end}
use Rattle.prune_constraints.proofs.quiet16.Goals as goal

pub loop-left-init : goal.loop-left-init
loop-left-init c = passing_begin _ _ _ _ (search rules)

pub returns-then-t-eq0 : goal.returns-then-t-eq0
returns-then-t-eq0 c = λ q. absurd (subst T (sym q) tt)

pub loop-left-preserved : goal.loop-left-preserved
unfolding at
loop-left-preserved c =
    let some : c.loop-left.left.bits ≡ 0 → ⊥ = eqb-false _ 0 (sym c.is_empty.ensures ∙ c.loop-left-test.true) in
    passing_turn _ _ _ _ 16 _ _ _ c.loop-left.invariant some c.lowest.ensures c.without_lowest-left.ensures (search rules) c.if-t-eq0.false refl

pub returns : goal.returns
returns c = λ q. subst (Supported2 _ _ _ _ _) (eqb-true _ _ q) (passing_end _ _ _ _ _ _ (eqb-true _ 0 (sym c.is_empty.ensures ∙ c.loop-left-test.false))
    c.loop-left.invariant)

pub overflow_cast-t : goal.overflow_cast-t
overflow_cast-t c =
    let some : c.loop-left.left.bits ≡ 0 → ⊥ = eqb-false _ 0 (sym c.is_empty.ensures ∙ c.loop-left-test.true) in
    let low : c.lowest.result < 16 = (lowest_left _ _ _ c.loop-left.invariant.rest some c.lowest.ensures).1 in
    omega (arith, low)

pub overflow_add-t : goal.overflow_add-t
overflow_add-t c =
    let some : c.loop-left.left.bits ≡ 0 → ⊥ = eqb-false _ 0 (sym c.is_empty.ensures ∙ c.loop-left-test.true) in
    let low : c.lowest.result < 16 = (lowest_left _ _ _ c.loop-left.invariant.rest some c.lowest.ensures).1 in
    omega (arith, low)

pub offset_bounds-supports-base : goal.offset_bounds-supports-base
offset_bounds-supports-base c =
    let some : c.loop-left.left.bits ≡ 0 → ⊥ = eqb-false _ 0 (sym c.is_empty.ensures ∙ c.loop-left-test.true) in
    let low : c.lowest.result < 16 = (lowest_left _ _ _ c.loop-left.invariant.rest some c.lowest.ensures).1 in
    omega (arith, low)

pub bounds-supports-base : goal.bounds-supports-base
bounds-supports-base c =
    let some : c.loop-left.left.bits ≡ 0 → ⊥ = eqb-false _ 0 (sym c.is_empty.ensures ∙ c.loop-left-test.true) in
    let low : c.lowest.result < 16 = (lowest_left _ _ _ c.loop-left.invariant.rest some c.lowest.ensures).1 in
    omega (arith, low)

pub loop-left-smaller : goal.loop-left-smaller
loop-left-smaller c =
    let some : c.loop-left.left.bits ≡ 0 → ⊥ = eqb-false _ 0 (sym c.is_empty.ensures ∙ c.loop-left-test.true) in
    others_less _ _ (search rules) some c.without_lowest-left.ensures
