-- The loop: the values passed of a, and what of b goes together with them. The measure is the set of the values left, as a number. Assumes nothing.
use Rattle.model.specs.Kit.{◌≡◌, sym, ap, ◌∙◌, Bool, not, ℕ, ◌+◌, ◌<◌, arith, eqb, bit_and, bit_or, rules, eqb-true, eqb-false}
use Rattle.model.specs.{Lists.at, ValueSets.one_if}
use Rattle.model.proofs.{Masks.union_op, Members.common_op_r, Members.lowest_left, Members.others_less}
use Rattle.prune_constraints.proofs.{Unions.small, Unions.supporting2_begin, Unions.supporting2_turn, Unions.supporting2_end}
use Rattle.prune_constraints.proofs.supported2.Goals as goal

pub loop-b-init : goal.loop-b-init
loop-b-init c = (omega arith, supporting2_begin _ _ _ _ (search rules))

pub loop-b-preserved : goal.loop-b-preserved
unfolding at
loop-b-preserved c =
    let some : c.loop-b.left.bits ≡ 0 → ⊥ = eqb-false _ 0 (sym c.is_empty.ensures ∙ c.loop-b-test.true) in
    let support_is : c.common-t.result.bits ≡ bit_and (at c.args.supports.now (c.args.base + c.lowest-v.result)) c.args.b.bits = c.common-t.ensures ∙ sym (common_op_r _ _ (search rules)) in
    let x = support_is in (
      small _ _ c.union-last.ensures,
      supporting2_turn _ _ _ _ 16 _ _ _ c.loop-b.invariant.1 some c.lowest-v.ensures c.without_lowest-left.ensures (search rules)
          (c.one_if.ensures ∙ ap (λ (z : Bool). one_if (not z) c.lowest-v.result) (c.is_empty-in-loop-b.ensures ∙ ap (λ (n : ℕ). eqb n 0) x))
          c.union-first.ensures (c.union-last.ensures ∙ sym (union_op _ _ c.loop-b.invariant.0 (search rules)) ∙ ap (bit_or c.loop-b.last.bits) x),
    )

pub returns : goal.returns
returns c = supporting2_end _ _ _ _ _ _ _ (eqb-true _ 0 (sym c.is_empty.ensures ∙ c.loop-b-test.false)) c.loop-b.invariant.1

pub overflow_cast-support : goal.overflow_cast-support
overflow_cast-support c =
    let some : c.loop-b.left.bits ≡ 0 → ⊥ = eqb-false _ 0 (sym c.is_empty.ensures ∙ c.loop-b-test.true) in
    let low : c.lowest-v.result < 16 = (lowest_left _ _ _ c.loop-b.invariant.1.rest some c.lowest-v.ensures).1 in
    omega (arith, low)

pub overflow_add-support : goal.overflow_add-support
overflow_add-support c =
    let some : c.loop-b.left.bits ≡ 0 → ⊥ = eqb-false _ 0 (sym c.is_empty.ensures ∙ c.loop-b-test.true) in
    let low : c.lowest-v.result < 16 = (lowest_left _ _ _ c.loop-b.invariant.1.rest some c.lowest-v.ensures).1 in
    omega (arith, low)

pub offset_bounds-supports-base : goal.offset_bounds-supports-base
offset_bounds-supports-base c =
    let some : c.loop-b.left.bits ≡ 0 → ⊥ = eqb-false _ 0 (sym c.is_empty.ensures ∙ c.loop-b-test.true) in
    let low : c.lowest-v.result < 16 = (lowest_left _ _ _ c.loop-b.invariant.1.rest some c.lowest-v.ensures).1 in
    omega (arith, low)

pub bounds-supports-base : goal.bounds-supports-base
bounds-supports-base c =
    let some : c.loop-b.left.bits ≡ 0 → ⊥ = eqb-false _ 0 (sym c.is_empty.ensures ∙ c.loop-b-test.true) in
    let low : c.lowest-v.result < 16 = (lowest_left _ _ _ c.loop-b.invariant.1.rest some c.lowest-v.ensures).1 in
    omega (arith, low)

pub one_if-requires : goal.one_if-requires
one_if-requires c =
    let some : c.loop-b.left.bits ≡ 0 → ⊥ = eqb-false _ 0 (sym c.is_empty.ensures ∙ c.loop-b-test.true) in
    let low : c.lowest-v.result < 16 = (lowest_left _ _ _ c.loop-b.invariant.1.rest some c.lowest-v.ensures).1 in
    low

pub loop-b-smaller : goal.loop-b-smaller
loop-b-smaller c =
    let some : c.loop-b.left.bits ≡ 0 → ⊥ = eqb-false _ 0 (sym c.is_empty.ensures ∙ c.loop-b-test.true) in
    others_less _ _ (search rules) some c.without_lowest-left.ensures
