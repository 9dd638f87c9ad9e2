-- All three sets are cut to the values that go together, if there are any. Assumes nothing.
use Rattle.model.specs.Kit.{sym, ◌∙◌, ◌^◌, ◌<◌, rules, eqb-true, eqb-false}
use Rattle.model.specs.Lists.{at}
use Rattle.model.proofs.Members.{or_zero_e, xor_zero_e}
use Rattle.prune_constraints.proofs.{Stores.three, Stores.three_same, Stores.three_dead}
use Rattle.prune_constraints.proofs.leave.Goals as goal

pub returns-then-is_empty : goal.returns-then-is_empty
unfolding at
returns-then-is_empty c =
    let narrow : (c.args.t.first.bits < 2 ^ 16) × (c.args.t.second.bits < 2 ^ 16) × (c.args.t.last.bits < 2 ^ 16) = (search rules, search rules, search rules) in
    let n = narrow in λ d supports k q j.
    three_dead q _ c.requires.sets _ _ _ n.0 n.1 n.2 j (eqb-true _ 0 (sym c.is_empty.ensures ∙ c.if-is_empty.true))

pub returns-then-first-a-eq0 : goal.returns-then-first-a-eq0
unfolding at
returns-then-first-a-eq0 c =
    let narrow : (c.args.t.first.bits < 2 ^ 16) × (c.args.t.second.bits < 2 ^ 16) × (c.args.t.last.bits < 2 ^ 16) = (search rules, search rules, search rules) in
    let o = or_zero_e _ _ c.if-first-a-eq0.true in
    let i = or_zero_e _ _ o.0 in
    let n = narrow in λ d supports k q j.
    three_same q _ c.requires.sets _ _ _ n.0 n.1 n.2 j (xor_zero_e _ _ i.0) (xor_zero_e _ _ i.1) (xor_zero_e _ _ o.1)
    (eqb-false _ 0 (sym c.is_empty.ensures ∙ c.if-is_empty.false))

pub returns : goal.returns
unfolding at
returns c =
    let narrow : (c.args.t.first.bits < 2 ^ 16) × (c.args.t.second.bits < 2 ^ 16) × (c.args.t.last.bits < 2 ^ 16) = (search rules, search rules, search rules) in
    let n = narrow in λ d supports k q j.
    three q _ c.requires.sets _ _ _ n.0 n.1 n.2 j _ _ _ c.moved.ensures c.moved-2.ensures c.moved-3.ensures
    (eqb-false _ 0 (sym c.is_empty.ensures ∙ c.if-is_empty.false))
