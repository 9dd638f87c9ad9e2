-- The loop: the values passed of b whose sets are not empty. The measure is the set of the values left, as a number. Assumes nothing.
use Rattle.model.specs.Kit.{◌≡◌, sym, ◌∙◌, ◌<◌, arith, rules, eqb-true, eqb-false}
use Rattle.model.specs.Lists.{at}
use Rattle.model.proofs.Members.{lowest_left, others_less}
use Rattle.prune_constraints.proofs.{Sixteen.sifting_begin, Sixteen.sifting_turn, Sixteen.sifting_end}
use Rattle.prune_constraints.proofs.full_sets.Goals as goal

pub loop-left-init : goal.loop-left-init
loop-left-init c = sifting_begin _ _ (search rules)

pub loop-left-preserved : goal.loop-left-preserved
unfolding at
loop-left-preserved c =
    let some : c.loop-left.left.bits ≡ 0 → ⊥ = eqb-false _ 0 (sym c.is_empty.ensures ∙ c.loop-left-test.true) in
    sifting_turn _ _ _ _ _ c.loop-left.invariant some c.lowest-v.ensures c.without_lowest-left.ensures c.one_if.ensures c.union-full.ensures

pub returns : goal.returns
returns c = sifting_end _ _ _ (eqb-true _ 0 (sym c.is_empty.ensures ∙ c.loop-left-test.false)) c.loop-left.invariant

pub overflow_cast-v : goal.overflow_cast-v
overflow_cast-v c =
    let some : c.loop-left.left.bits ≡ 0 → ⊥ = eqb-false _ 0 (sym c.is_empty.ensures ∙ c.loop-left-test.true) in
    let low : c.lowest-v.result < 16 = (lowest_left _ _ _ c.loop-left.invariant.rest some c.lowest-v.ensures).1 in
    omega (arith, low)

pub offset_bounds-all-v : goal.offset_bounds-all-v
offset_bounds-all-v c =
    let some : c.loop-left.left.bits ≡ 0 → ⊥ = eqb-false _ 0 (sym c.is_empty.ensures ∙ c.loop-left-test.true) in
    let low : c.lowest-v.result < 16 = (lowest_left _ _ _ c.loop-left.invariant.rest some c.lowest-v.ensures).1 in
    omega (arith, low)

pub bounds-all-v : goal.bounds-all-v
bounds-all-v c =
    let some : c.loop-left.left.bits ≡ 0 → ⊥ = eqb-false _ 0 (sym c.is_empty.ensures ∙ c.loop-left-test.true) in
    let low : c.lowest-v.result < 16 = (lowest_left _ _ _ c.loop-left.invariant.rest some c.lowest-v.ensures).1 in
    omega (arith, low)

pub one_if-requires : goal.one_if-requires
one_if-requires c =
    let some : c.loop-left.left.bits ≡ 0 → ⊥ = eqb-false _ 0 (sym c.is_empty.ensures ∙ c.loop-left-test.true) in
    let low : c.lowest-v.result < 16 = (lowest_left _ _ _ c.loop-left.invariant.rest some c.lowest-v.ensures).1 in
    low

pub loop-left-smaller : goal.loop-left-smaller
loop-left-smaller c =
    let some : c.loop-left.left.bits ≡ 0 → ⊥ = eqb-false _ 0 (sym c.is_empty.ensures ∙ c.loop-left-test.true) in
    others_less _ _ (search rules) some c.without_lowest-left.ensures
