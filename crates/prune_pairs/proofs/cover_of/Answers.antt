-- The loop: the cover of the values that are passed. The measure is the set of the values left, as a number. Assumes nothing.
use Rattle.model.specs.Kit.{◌≡◌, refl, sym, ◌∙◌, ◌<◌, replicate, arith, rules, eqb-true, eqb-false}
use Rattle.model.specs.Lists.{at}
use Rattle.model.proofs.{Members.lowest_left, Members.others_less, Lists.at_replicate}
use Rattle.prune_pairs.proofs.{Covers.covering_begin, Covers.covering_turn, Covers.covering_end, Covers.zeros, Covers.narrow_at}
use Rattle.prune_pairs.proofs.cover_of.Goals as goal

pub loop-left-init : goal.loop-left-init
unfolding at
loop-left-init c = covering_begin _ _ _ (replicate 16 0) (refl, zeros) (search rules) (λ y h. at_replicate 16 y)

pub add-requires : goal.add-requires
add-requires c =
    let some : c.loop-left.left.bits ≡ 0 → ⊥ = eqb-false _ 0 (sym c.is_empty.ensures ∙ c.loop-left-test.true) in
    let low : c.lowest-v.result < 16 = (lowest_left _ _ _ c.loop-left.invariant.rest some c.lowest-v.ensures).1 in
    (omega (arith, low), narrow_at _ _ _ low c.requires.1, c.loop-left.invariant.sets)

pub loop-left-preserved : goal.loop-left-preserved
loop-left-preserved c =
    let some : c.loop-left.left.bits ≡ 0 → ⊥ = eqb-false _ 0 (sym c.is_empty.ensures ∙ c.loop-left-test.true) in
    covering_turn c.loop-left.invariant some c.lowest-v.ensures _
    c.add.ensures c.without_lowest-left.ensures

pub returns : goal.returns
returns c = covering_end c.loop-left.invariant (eqb-true _ 0 (sym c.is_empty.ensures ∙ c.loop-left-test.false))

pub overflow_cast-v : goal.overflow_cast-v
overflow_cast-v c =
    let some : c.loop-left.left.bits ≡ 0 → ⊥ = eqb-false _ 0 (sym c.is_empty.ensures ∙ c.loop-left-test.true) in
    let low : c.lowest-v.result < 16 = (lowest_left _ _ _ c.loop-left.invariant.rest some c.lowest-v.ensures).1 in
    omega (arith, low)

pub overflow_mul-v : goal.overflow_mul-v
overflow_mul-v c =
    let some : c.loop-left.left.bits ≡ 0 → ⊥ = eqb-false _ 0 (sym c.is_empty.ensures ∙ c.loop-left-test.true) in
    let low : c.lowest-v.result < 16 = (lowest_left _ _ _ c.loop-left.invariant.rest some c.lowest-v.ensures).1 in
    omega (arith, low)

pub overflow_add-x : goal.overflow_add-x
overflow_add-x c =
    let some : c.loop-left.left.bits ≡ 0 → ⊥ = eqb-false _ 0 (sym c.is_empty.ensures ∙ c.loop-left-test.true) in
    let low : c.lowest-v.result < 16 = (lowest_left _ _ _ c.loop-left.invariant.rest some c.lowest-v.ensures).1 in
    omega (arith, low)

pub loop-left-smaller : goal.loop-left-smaller
loop-left-smaller c =
    let some : c.loop-left.left.bits ≡ 0 → ⊥ = eqb-false _ 0 (sym c.is_empty.ensures ∙ c.loop-left-test.true) in
    others_less _ _ (search rules) some c.without_lowest-left.ensures
