-- The cycle of calls {settle_variable, try_value}: what is known at each call is in `Facts`, and one turn of each in `Turns`. The measures: variables left, then
-- values left. Assumes nothing.
use Rattle.model.specs.Kit.{◌≡◌, refl, sym, ap, subst, ◌∙◌, ℕ, ◌+◌, ◌<◌, ◌^◌, arith, List}
use Rattle.model.specs.Lists.{at}
use Rattle.arrays.specs.Inner.Places.{LIMIT}
use Rattle.run_state.specs.Inner.Pair.{Walked, lowest_tried}
use Rattle.run_state.specs.{Meaning.tally_in}
use Rattle.run_memo.specs.Inner.Steps.{Turned, AtNote}
use Rattle.run_tree.proofs.Turns.{turn_none, turn_spent, turn_stops, μ_settle, μ_try, next_falls}
use Rattle.run_tree.proofs.Facts.{rest_asks, rest_goes, others_fall, variable_few, node_counts, entered_stops, next_few, inside, turn_asks_for, look_asks, found_goes, again_asks, note_asks, note_goes}
use Rattle.run_state.specs.Inner.Cut.{step_of}
use Rattle.run_tree.{specs.Inner.Stopped.number_of, proofs.Stopped.was_cut, proofs.Stopped.goes_on, proofs.Stopped.is_leaf, proofs.Stopped.leaf_ends, proofs.Stopped.cut_ends}
use Rattle.run_tree.proofs.+settle_try_value.Goals as goal

pub settle_variable-returns-then-m-eq0-clause-walked : goal.settle_variable-returns-then-m-eq0-clause-walked
settle_variable-returns-then-m-eq0-clause-walked t c = λ p h. turn_none p _ _ _ _ _ _ _ _ _ h c.if-m-eq0.true

pub settle_variable-returns-then-tally-limit-clause-walked : goal.settle_variable-returns-then-tally-limit-clause-walked
settle_variable-returns-then-tally-limit-clause-walked t c = λ p h.
    let some : 0 < c.args.m = omega arith in
    let small : c.args.m < 2 ^ 16 = omega arith in
    turn_spent p _ _ _ _ _ _ _ _ _ h some small (c.if-tally-limit.true ∙ c.limit.ensures)

pub settle_variable-returns-in_default-clause-walked : goal.settle_variable-returns-in_default-clause-walked
settle_variable-returns-in_default-clause-walked t c = λ p h.
    let some : 0 < c.args.m = omega arith in
    let small : c.args.m < 2 ^ 16 = omega arith in
    let due : c.args.tally.now.nodes ≡ at c.args.numbers.now LIMIT → ⊥ = λ i. c.if-tally-limit.false (i ∙ sym c.limit.ensures) in
    turn_stops p _ _ _ _ _ _ _ _ _ h some small _ _ _ _ _ (c.try_value.ensures.walked p record { values = h; some = some; due = due }) (was_cut _ c.in_default.not-All)

pub settle_variable-settle_variable-requires : goal.settle_variable-settle_variable-requires
settle_variable-settle_variable-requires t c =
    let p = c.requires.0 in
    let h = c.requires.1 in
    let some : 0 < c.args.m = omega arith in
    let small : c.args.m < 2 ^ 16 = omega arith in
    let due : c.args.tally.now.nodes ≡ at c.args.numbers.now LIMIT → ⊥ = λ i. c.if-tally-limit.false (i ∙ sym c.limit.ensures) in
    let fewer : μ_settle c.args.k c.rest.result < μ_settle c.args.k c.args.m = others_fall c.args.k c.args.m c.rest.result some small c.rest.ensures in (
      omega (arith, c.decreases, fewer),
      (p, rest_asks p _ _ _ _ _ _ _ _ _ h some small _ _ _ _ _ (c.try_value.ensures.walked p record { values = h; some = some; due = due }) c.rest.result c.rest.ensures),
    )

pub settle_variable-returns-clause-walked : goal.settle_variable-returns-clause-walked
settle_variable-returns-clause-walked t c = λ p h.
    let some : 0 < c.args.m = omega arith in
    let small : c.args.m < 2 ^ 16 = omega arith in
    let due : c.args.tally.now.nodes ≡ at c.args.numbers.now LIMIT → ⊥ = λ i. c.if-tally-limit.false (i ∙ sym c.limit.ensures) in
    let walked = c.try_value.ensures.walked p record { values = h; some = some; due = due } in
    rest_goes p _ _ _ _ _ _ _ _ _ h some small _ _ _ _ _ walked c.rest.result c.rest.ensures (ap number_of c.in-All.is) _ _ _ _ _
    (c.settle_variable.ensures.walked p (rest_asks p _ _ _ _ _ _ _ _ _ h some small _ _ _ _ _ walked c.rest.result c.rest.ensures))

pub try_value-add_node-requires : goal.try_value-add_node-requires
try_value-add_node-requires t c = node_counts c.requires.0 _ _ _ _ _ _ _ _ _ c.requires.1 c.variable_at-x.result c.variable_at-x.ensures

pub try_value-returns-in-Err-clause-walked : goal.try_value-returns-in-Err-clause-walked
try_value-returns-in-Err-clause-walked t c = λ p g.
    subst (Walked p _ _ _ _ _ _ _ _ _ _ _) (ap step_of c.in-Err.is ∙ sym c.by.ensures)
    (entered_stops p _ _ _ _ _ _ _ _ _ g c.variable_at-x.result c.variable_at-x.ensures _ _ _ _ (c.enter.ensures.entered p (tally_in c.args.tally.now) g) _ c.add_node.ensures
    (cut_ends c.in-Err.is))

pub try_value-returns-in-Ok-Leaf-clause-walked : goal.try_value-returns-in-Ok-Leaf-clause-walked
try_value-returns-in-Ok-Leaf-clause-walked t c = λ p g.
    subst (Walked p _ _ _ _ _ _ _ _ _ _ _) (is_leaf c.in-Ok-Leaf.is c.in-Ok-Leaf.field-0-is)
    (entered_stops p _ _ _ _ _ _ _ _ _ g c.variable_at-x.result c.variable_at-x.ensures _ _ _ _ (c.enter.ensures.entered p (tally_in c.args.tally.now) g) _ c.add_node.ensures
    (leaf_ends c.in-Ok-Leaf.is c.in-Ok-Leaf.field-0-is))

pub try_value-candidates-all-requires : goal.try_value-candidates-all-requires
try_value-candidates-all-requires t c =
    let p = c.requires.0 in
    let g = c.requires.1 in
    next_few p _ _ _ _ _ _ _ _ _ g c.variable_at-x.result c.variable_at-x.ensures _ _ _ _ (c.enter.ensures.entered p (tally_in c.args.tally.now) g) _ c.add_node.ensures
    (goes_on c.in-Ok-Inner.is c.in-Ok-Inner.field-0-is)

pub try_value-turn-turn-requires : goal.try_value-turn-turn-requires
try_value-turn-turn-requires t c =
    let p = c.requires.0 in
    let g = c.requires.1 in
    let i = inside p _ _ _ _ _ _ _ _ _ g c.variable_at-x.result c.variable_at-x.ensures _ _ _ _ (c.enter.ensures.entered p (tally_in c.args.tally.now) g) _ c.add_node.ensures
    (goes_on c.in-Ok-Inner.is c.in-Ok-Inner.field-0-is) c.candidates-all.result c.candidates-all.ensures in
    turn_asks_for i

pub try_value-settle_variable-requires : goal.try_value-settle_variable-requires
try_value-settle_variable-requires t c =
    let p = c.requires.0 in
    let g = c.requires.1 in
    let i = inside p _ _ _ _ _ _ _ _ _ g c.variable_at-x.result c.variable_at-x.ensures _ _ _ _ (c.enter.ensures.entered p (tally_in c.args.tally.now) g) _ c.add_node.ensures
    (goes_on c.in-Ok-Inner.is c.in-Ok-Inner.field-0-is) c.candidates-all.result c.candidates-all.ensures in
    let few : c.args.k < 12 = variable_few p _ _ _ _ _ _ _ _ _ g in
    let small : c.candidates-all.result < 2 ^ 16 = omega arith in
    let fewer : μ_settle (c.args.k + 1) c.candidates-all.result < μ_try c.args.k c.args.m = next_falls c.args.k c.args.m c.candidates-all.result few small in
    (omega (arith, c.decreases, fewer), (p, i.asks))

pub try_value-returns-then-turn-eq0-clause-walked : goal.try_value-returns-then-turn-eq0-clause-walked
try_value-returns-then-turn-eq0-clause-walked t c = λ p g.
    let i = inside p _ _ _ _ _ _ _ _ _ g c.variable_at-x.result c.variable_at-x.ensures _ _ _ _ (c.enter.ensures.entered p (tally_in c.args.tally.now) g) _ c.add_node.ensures
    (goes_on c.in-Ok-Inner.is c.in-Ok-Inner.field-0-is) c.candidates-all.result c.candidates-all.ensures in
    i.goes _ _ _ _ _ (c.settle_variable.ensures.walked p i.asks)

pub try_value-visit-place-requires : goal.try_value-visit-place-requires
try_value-visit-place-requires t c =
    let p = c.requires.0 in
    let g = c.requires.1 in
    let i = inside p _ _ _ _ _ _ _ _ _ g c.variable_at-x.result c.variable_at-x.ensures _ _ _ _ (c.enter.ensures.entered p (tally_in c.args.tally.now) g) _ c.add_node.ensures
    (goes_on c.in-Ok-Inner.is c.in-Ok-Inner.field-0-is) c.candidates-all.result c.candidates-all.ensures in
    let turned : Turned c.enter.new.work c.args.numbers.now c.turn-turn.result = c.turn-turn.ensures c.if-turn-eq0.false in
    ((λ e. (p, c.args.supports.now, c.args.tables.now, look_asks i turned.asks)), (λ n. absurd (n refl)))

pub try_value-grown-requires : goal.try_value-grown-requires
try_value-grown-requires t c =
    let p = c.requires.0 in
    let g = c.requires.1 in
    let i = inside p _ _ _ _ _ _ _ _ _ g c.variable_at-x.result c.variable_at-x.ensures _ _ _ _ (c.enter.ensures.entered p (tally_in c.args.tally.now) g) _ c.add_node.ensures
    (goes_on c.in-Ok-Inner.is c.in-Ok-Inner.field-0-is) c.candidates-all.result c.candidates-all.ensures in
    let turned : Turned c.enter.new.work c.args.numbers.now c.turn-turn.result = c.turn-turn.ensures c.if-turn-eq0.false in
    let looked = c.visit-place.ensures.visited.looked refl p c.args.supports.now c.args.tables.now (look_asks i turned.asks) in
    (looked.long, looked.placed c.if-place-lt-VAIN.true, looked.grows c.if-place-lt-VAIN.true)

pub try_value-returns-then-place-lt-VAIN-clause-walked : goal.try_value-returns-then-place-lt-VAIN-clause-walked
try_value-returns-then-place-lt-VAIN-clause-walked t c = λ p g.
    let i = inside p _ _ _ _ _ _ _ _ _ g c.variable_at-x.result c.variable_at-x.ensures _ _ _ _ (c.enter.ensures.entered p (tally_in c.args.tally.now) g) _ c.add_node.ensures
    (goes_on c.in-Ok-Inner.is c.in-Ok-Inner.field-0-is) c.candidates-all.result c.candidates-all.ensures in
    let turned : Turned c.enter.new.work c.args.numbers.now c.turn-turn.result = c.turn-turn.ensures c.if-turn-eq0.false in
    let looked = c.visit-place.ensures.visited.looked refl p c.args.supports.now c.args.tables.now (look_asks i turned.asks) in
    found_goes i looked _ c.if-place-lt-VAIN.true c.grown.ensures

pub try_value-settle_variable-stop-requires : goal.try_value-settle_variable-stop-requires
try_value-settle_variable-stop-requires t c =
    let p = c.requires.0 in
    let g = c.requires.1 in
    let i = inside p _ _ _ _ _ _ _ _ _ g c.variable_at-x.result c.variable_at-x.ensures _ _ _ _ (c.enter.ensures.entered p (tally_in c.args.tally.now) g) _ c.add_node.ensures
    (goes_on c.in-Ok-Inner.is c.in-Ok-Inner.field-0-is) c.candidates-all.result c.candidates-all.ensures in
    let turned : Turned c.enter.new.work c.args.numbers.now c.turn-turn.result = c.turn-turn.ensures c.if-turn-eq0.false in
    let looked = c.visit-place.ensures.visited.looked refl p c.args.supports.now c.args.tables.now (look_asks i turned.asks) in
    let few : c.args.k < 12 = variable_few p _ _ _ _ _ _ _ _ _ g in
    let small : c.candidates-all.result < 2 ^ 16 = omega arith in
    let fewer : μ_settle (c.args.k + 1) c.candidates-all.result < μ_try c.args.k c.args.m = next_falls c.args.k c.args.m c.candidates-all.result few small in
    (omega (arith, c.decreases, fewer), (p, again_asks i looked c.if-place-lt-VAIN.false))

pub try_value-visit-requires : goal.try_value-visit-requires
try_value-visit-requires t c =
    let p = c.requires.0 in
    let g = c.requires.1 in
    let i = inside p _ _ _ _ _ _ _ _ _ g c.variable_at-x.result c.variable_at-x.ensures _ _ _ _ (c.enter.ensures.entered p (tally_in c.args.tally.now) g) _ c.add_node.ensures
    (goes_on c.in-Ok-Inner.is c.in-Ok-Inner.field-0-is) c.candidates-all.result c.candidates-all.ensures in
    let turned : Turned c.enter.new.work c.args.numbers.now c.turn-turn.result = c.turn-turn.ensures c.if-turn-eq0.false in
    let looked = c.visit-place.ensures.visited.looked refl p c.args.supports.now c.args.tables.now (look_asks i turned.asks) in
    let walked = c.settle_variable-stop.ensures.walked p (again_asks i looked c.if-place-lt-VAIN.false) in
    let asked = note_asks i looked c.if-place-lt-VAIN.false _ _ _ _ (number_of c.settle_variable-stop.result) c.turn-turn.result turned.plans walked in
    let placed : c.visit-place.result ≡ 0 → ⊥ = λ e. omega (arith, c.if-place-lt-VAIN.false, e) in
    let told = subst (AtNote p _ _ _ _ _ _ _ _ _ _ _ _ _ _) (sym c.told.ensures) asked in
    ((λ e. absurd (placed e)), (λ n. (p, c.enter.new.stack, c.enter.new.work, c.args.supports.now, c.args.tables.now, c.enter.new.list.now, told)))

pub try_value-returns-clause-walked : goal.try_value-returns-clause-walked
try_value-returns-clause-walked t c = λ p g.
    let i = inside p _ _ _ _ _ _ _ _ _ g c.variable_at-x.result c.variable_at-x.ensures _ _ _ _ (c.enter.ensures.entered p (tally_in c.args.tally.now) g) _ c.add_node.ensures
    (goes_on c.in-Ok-Inner.is c.in-Ok-Inner.field-0-is) c.candidates-all.result c.candidates-all.ensures in
    let turned : Turned c.enter.new.work c.args.numbers.now c.turn-turn.result = c.turn-turn.ensures c.if-turn-eq0.false in
    let looked = c.visit-place.ensures.visited.looked refl p c.args.supports.now c.args.tables.now (look_asks i turned.asks) in
    let walked = c.settle_variable-stop.ensures.walked p (again_asks i looked c.if-place-lt-VAIN.false) in
    let asked = note_asks i looked c.if-place-lt-VAIN.false _ _ _ _ (number_of c.settle_variable-stop.result) c.turn-turn.result turned.plans walked in
    let placed : c.visit-place.result ≡ 0 → ⊥ = λ e. omega (arith, c.if-place-lt-VAIN.false, e) in
    let told = subst (AtNote p _ _ _ _ _ _ _ _ _ _ _ _ _ _) (sym c.told.ensures) asked in
    subst (λ (q : List ℕ). Walked p (lowest_tried p c.args.work.now c.args.k c.args.m) c.args.stack.now c.args.work.now c.args.numbers.now c.args.list.now.now (tally_in c.args.tally.now) c.args.k
    c.settle_variable-stop.new.stack c.visit.new.work q (tally_in c.settle_variable-stop.new.tally) (number_of c.settle_variable-stop.result)) (sym (c.visit.ensures.visited.kept placed))
    (subst (Walked p _ _ _ _ _ _ _ _ _ _ _) c.told.ensures (note_goes i _ _ _ _ _
    (c.visit.ensures.visited.noted placed p c.enter.new.stack c.enter.new.work c.args.supports.now c.args.tables.now c.enter.new.list.now told)))
