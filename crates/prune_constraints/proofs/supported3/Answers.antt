-- The loop: the values passed of a, and the values of b and e that go together with them, for whichever e the masks are of. The measure is the set of the
-- values left, as a number. Assumes nothing.
use Rattle.model.specs.Kit.{◌≡◌, refl, sym, ◌∙◌, ◌^◌, ◌<◌, arith, rules, eqb-true, eqb-false}
use Rattle.model.proofs.Members.{Rest, lowest_left, others_less}
use Rattle.prune_constraints.proofs.{Sixteen.supporting3_begin, Sixteen.supporting3_turn, Sixteen.supporting3_end}
use Rattle.prune_constraints.proofs.supported3.Goals as goal

pub loop-masks-init : goal.loop-masks-init
loop-masks-init c = λ e k. supporting3_begin _ _ _ _ e (search rules)

pub loop-masks-smaller : goal.loop-masks-smaller
loop-masks-smaller c =
    let some : c.loop-masks.left.bits ≡ 0 → ⊥ = eqb-false _ 0 (sym c.is_empty.ensures ∙ c.loop-masks-test.true) in
    let left_rest : Rest 16 c.args.a.bits c.loop-masks.left.bits = (c.loop-masks.invariant _ c.masks-masks.ensures).rest in
    others_less _ _ left_rest.0 some c.without_lowest-left.ensures

pub loop-masks-preserved : goal.loop-masks-preserved
loop-masks-preserved c =
    let some : c.loop-masks.left.bits ≡ 0 → ⊥ = eqb-false _ 0 (sym c.is_empty.ensures ∙ c.loop-masks-test.true) in
    let narrow : c.args.b.bits < 2 ^ 16 = search rules in
    λ e k.
    supporting3_turn _ _ _ _ e _ _ _ (c.loop-masks.invariant e k) some c.lowest-u.ensures c.without_lowest-left.ensures
    narrow (search rules) k c.meet-some.ensures c.one_if.ensures c.union-first.ensures refl

pub returns : goal.returns
returns c =
    supporting3_end _ _ _ _ _ _ (eqb-true _ 0 (sym c.is_empty.ensures ∙ c.loop-masks-test.false)) (search rules)
    (c.loop-masks.invariant _ c.masks-masks.ensures) c.full_sets.ensures

pub overflow_cast-u : goal.overflow_cast-u
overflow_cast-u c =
    let some : c.loop-masks.left.bits ≡ 0 → ⊥ = eqb-false _ 0 (sym c.is_empty.ensures ∙ c.loop-masks-test.true) in
    let left_rest : Rest 16 c.args.a.bits c.loop-masks.left.bits = (c.loop-masks.invariant _ c.masks-masks.ensures).rest in
    let low : c.lowest-u.result < 16 = (lowest_left _ _ _ left_rest some c.lowest-u.ensures).1 in
    omega (arith, low)

pub overflow_mul-u : goal.overflow_mul-u
overflow_mul-u c =
    let some : c.loop-masks.left.bits ≡ 0 → ⊥ = eqb-false _ 0 (sym c.is_empty.ensures ∙ c.loop-masks-test.true) in
    let left_rest : Rest 16 c.args.a.bits c.loop-masks.left.bits = (c.loop-masks.invariant _ c.masks-masks.ensures).rest in
    let low : c.lowest-u.result < 16 = (lowest_left _ _ _ left_rest some c.lowest-u.ensures).1 in
    omega (arith, low)

pub overflow_add-base : goal.overflow_add-base
overflow_add-base c =
    let some : c.loop-masks.left.bits ≡ 0 → ⊥ = eqb-false _ 0 (sym c.is_empty.ensures ∙ c.loop-masks-test.true) in
    let left_rest : Rest 16 c.args.a.bits c.loop-masks.left.bits = (c.loop-masks.invariant _ c.masks-masks.ensures).rest in
    let low : c.lowest-u.result < 16 = (lowest_left _ _ _ left_rest some c.lowest-u.ensures).1 in
    omega (arith, low)

pub meet-some-requires : goal.meet-some-requires
meet-some-requires c =
    let some : c.loop-masks.left.bits ≡ 0 → ⊥ = eqb-false _ 0 (sym c.is_empty.ensures ∙ c.loop-masks-test.true) in
    let left_rest : Rest 16 c.args.a.bits c.loop-masks.left.bits = (c.loop-masks.invariant _ c.masks-masks.ensures).rest in
    let low : c.lowest-u.result < 16 = (lowest_left _ _ _ left_rest some c.lowest-u.ensures).1 in
    record { base_bound = omega (arith, low); all_len = (c.loop-masks.invariant _ c.masks-masks.ensures).size }

pub one_if-requires : goal.one_if-requires
one_if-requires c =
    let some : c.loop-masks.left.bits ≡ 0 → ⊥ = eqb-false _ 0 (sym c.is_empty.ensures ∙ c.loop-masks-test.true) in
    let left_rest : Rest 16 c.args.a.bits c.loop-masks.left.bits = (c.loop-masks.invariant _ c.masks-masks.ensures).rest in
    let low : c.lowest-u.result < 16 = (lowest_left _ _ _ left_rest some c.lowest-u.ensures).1 in
    low
