-- `below`, `into`, `onto` and `up_to`, which call each other, meet their contracts: proofs/Walks. Assumes nothing.
use Rattle.model.specs.Kit.{refl, sym, ap, not, subst, ◌∙◌, [], ℕ, ◌+◌, ◌<◌, arith, length, eqb-true, eqb-false}
use Rattle.model.specs.Lists.{at}
use borrow.Author.Rules.{part_to_end}
use Rattle.run_state.specs.{Inner.Walk.with_node, Inner.Pair.Countable, Meaning.tally_in}
use Rattle.run_between.proofs.Walks.{along, into_few, into_last, into_asks, into_ends, into_next, into_then, onto_few, onto_out, onto_absent, onto_there, onto_spent, onto_counts, onto_asks}
use Rattle.run_between.proofs.Walks.{onto_dead, onto_next, onto_then, up_values, up_last, up_stops, up_asks, up_then, below_none, below_open, below_open_asks, below_back, below_into}
use Rattle.run_between.proofs.Walks.{below_equal, below_stops, below_up_asks, below_then}
use Rattle.run_state.proofs.Stops.{went_on, was_cut}
use Rattle.run_between.proofs.+below_into_onto_up_to.Goals as goal

pub below-returns-then-is_empty : goal.below-returns-then-is_empty
unfolding at
below-returns-then-is_empty t c = λ p h. below_none p _ _ _ _ _ _ _ _ c.args.from.now c.args.upto.now h (eqb-true _ 0 (sym c.is_empty.ensures ∙ c.if-is_empty.true))

pub below-returns-then-is_empty-2 : goal.below-returns-then-is_empty-2
unfolding at
below-returns-then-is_empty-2 t c = λ p h.
    let some : 0 < length c.args.upto.now = omega (arith, eqb-false _ 0 (sym c.is_empty.ensures ∙ c.if-is_empty.false)) in
    along p _ _ [] [] _ _ _ _ (below_open p _ _ _ _ _ _ _ _ c.args.from.now c.args.upto.now h some (eqb-true _ 0 (sym c.is_empty-2.ensures ∙ c.if-is_empty-2.true)))
    (c.up_to.ensures p (below_open_asks p _ _ _ _ _ _ _ _ c.args.from.now c.args.upto.now h some))

pub below-returns-then-b-a : goal.below-returns-then-b-a
unfolding at
below-returns-then-b-a t c = λ p h.
    let some : 0 < length c.args.upto.now = omega (arith, eqb-false _ 0 (sym c.is_empty.ensures ∙ c.if-is_empty.false)) in
    let more : 0 < length c.args.from.now = omega (arith, eqb-false _ 0 (sym c.is_empty-2.ensures ∙ c.if-is_empty-2.false)) in
    below_back p _ _ _ _ _ _ _ _ c.args.from.now c.args.upto.now h some more c.if-b-a.true

pub below-into-requires : goal.below-into-requires
unfolding at
below-into-requires t c =
    let p = c.requires.0 in
    let h = c.requires.1 in
    let some : 0 < length c.args.upto.now = omega (arith, eqb-false _ 0 (sym c.is_empty.ensures ∙ c.if-is_empty.false)) in
    let more : 0 < length c.args.from.now = omega (arith, eqb-false _ 0 (sym c.is_empty-2.ensures ∙ c.if-is_empty-2.false)) in (
      omega (arith, c.decreases),
      (
        p,
        (below_into p _ _ _ _ _ _ _ _ c.args.from.now c.args.upto.now h some more _ (part_to_end c.args.from.now 1) _ c.from-low.ensures
            (omega (arith, c.from-low.ensures))),
      ),
    )

pub below-returns-then-a-b : goal.below-returns-then-a-b
unfolding at
below-returns-then-a-b t c = λ p h.
    let some : 0 < length c.args.upto.now = omega (arith, eqb-false _ 0 (sym c.is_empty.ensures ∙ c.if-is_empty.false)) in
    let more : 0 < length c.args.from.now = omega (arith, eqb-false _ 0 (sym c.is_empty-2.ensures ∙ c.if-is_empty-2.false)) in
    along p _ _ [] [] _ _ _ _ (below_equal p _ _ _ _ _ _ _ _ c.args.from.now c.args.upto.now h some more c.if-a-b.true _ _ (part_to_end c.args.from.now 1) (part_to_end c.args.upto.now 1))
    (c.into.ensures p (below_into p _ _ _ _ _ _ _ _ c.args.from.now c.args.upto.now h some more _ (part_to_end c.args.from.now 1) _ c.from-low.ensures (omega (arith, c.from-low.ensures))))

pub below-into-part-requires : goal.below-into-part-requires
unfolding at
below-into-part-requires t c =
    let p = c.requires.0 in
    let h = c.requires.1 in
    let some : 0 < length c.args.upto.now = omega (arith, eqb-false _ 0 (sym c.is_empty.ensures ∙ c.if-is_empty.false)) in
    let more : 0 < length c.args.from.now = omega (arith, eqb-false _ 0 (sym c.is_empty-2.ensures ∙ c.if-is_empty-2.false)) in (
      omega (arith, c.decreases),
      (
        p,
        (below_into p _ _ _ _ _ _ _ _ c.args.from.now c.args.upto.now h some more _ (part_to_end c.args.from.now 1) _ c.from-low.ensures
            (omega (arith, c.from-low.ensures))),
      ),
    )

pub below-returns-then-is_err : goal.below-returns-then-is_err
unfolding at
below-returns-then-is_err t c = λ p h.
    let some : 0 < length c.args.upto.now = omega (arith, eqb-false _ 0 (sym c.is_empty.ensures ∙ c.if-is_empty.false)) in
    let more : 0 < length c.args.from.now = omega (arith, eqb-false _ 0 (sym c.is_empty-2.ensures ∙ c.if-is_empty-2.false)) in
    let less : at c.args.from.now 0 < at c.args.upto.now 0 = omega arith in
    below_stops p _ _ _ _ _ _ _ _ c.args.from.now c.args.upto.now h some more less _ (part_to_end c.args.from.now 1) _ _ _ _ _
    (c.into-part.ensures p (below_into p _ _ _ _ _ _ _ _ c.args.from.now c.args.upto.now h some more _ (part_to_end c.args.from.now 1) _ c.from-low.ensures (omega (arith, c.from-low.ensures))))
    (was_cut _ (sym c.is_err.ensures.value ∙ c.if-is_err.true))

pub below-up_to-requires-2 : goal.below-up_to-requires-2
unfolding at
below-up_to-requires-2 t c =
    let p = c.requires.0 in
    let h = c.requires.1 in
    let some : 0 < length c.args.upto.now = omega (arith, eqb-false _ 0 (sym c.is_empty.ensures ∙ c.if-is_empty.false)) in
    let more : 0 < length c.args.from.now = omega (arith, eqb-false _ 0 (sym c.is_empty-2.ensures ∙ c.if-is_empty-2.false)) in
    let less : at c.args.from.now 0 < at c.args.upto.now 0 = omega arith in (
      omega (arith, c.decreases),
      (
        p,
        below_up_asks p _ _ _ _ _ _ _ _ c.args.from.now c.args.upto.now h some more less _ (part_to_end c.args.from.now 1) _ _ _ _ _
            (c.into-part.ensures p (below_into p _ _ _ _ _ _ _ _ c.args.from.now c.args.upto.now h some more _ (part_to_end c.args.from.now 1) _ c.from-low.ensures
            (omega (arith, c.from-low.ensures)))) _
            (ap (λ (x : ℕ). x + 1) c.from-low.ensures),
      ),
    )

pub below-returns : goal.below-returns
unfolding at
below-returns t c = λ p h.
    let some : 0 < length c.args.upto.now = omega (arith, eqb-false _ 0 (sym c.is_empty.ensures ∙ c.if-is_empty.false)) in
    let more : 0 < length c.args.from.now = omega (arith, eqb-false _ 0 (sym c.is_empty-2.ensures ∙ c.if-is_empty-2.false)) in
    let less : at c.args.from.now 0 < at c.args.upto.now 0 = omega arith in
    below_then p _ _ _ _ _ _ _ _ c.args.from.now c.args.upto.now h some more less _ (part_to_end c.args.from.now 1) _ _ _ _ _
    (c.into-part.ensures p (below_into p _ _ _ _ _ _ _ _ c.args.from.now c.args.upto.now h some more _ (part_to_end c.args.from.now 1) _ c.from-low.ensures (omega (arith, c.from-low.ensures))))
    (went_on _ (sym c.is_err.ensures.value ∙ c.if-is_err.false)) _ (ap (λ (x : ℕ). x + 1) c.from-low.ensures) _ _ _ _ _
    (c.up_to-2.ensures p (below_up_asks p _ _ _ _ _ _ _ _ c.args.from.now c.args.upto.now h some more less _ (part_to_end c.args.from.now 1) _ _ _ _ _
    (c.into-part.ensures p (below_into p _ _ _ _ _ _ _ _ c.args.from.now c.args.upto.now h some more _ (part_to_end c.args.from.now 1) _ c.from-low.ensures (omega (arith, c.from-low.ensures)))) _
    (ap (λ (x : ℕ). x + 1) c.from-low.ensures)))

pub into-returns-then-k-numbers : goal.into-returns-then-k-numbers
unfolding at
into-returns-then-k-numbers t c = λ p h. into_last p _ _ _ _ _ _ _ _ _ h _ (c.if-k-numbers.true ∙ h.prefix.ready.indexed.numbered.variables)

pub into-step-requires : goal.into-step-requires
unfolding at
into-step-requires t c =
    let p = c.requires.0 in
    let h = c.requires.1 in
    (p, _, _, (into_asks p _ _ _ _ _ _ _ _ _ h (λ z. c.if-k-numbers.false (z ∙ sym h.prefix.ready.indexed.numbered.variables))))

pub into-returns-then-not-step : goal.into-returns-then-not-step
unfolding at
into-returns-then-not-step t c =
    λ p h. into_ends p _ _ _ _ _ _ _ _ _ h _ _ _ (c.step.ensures p _ _ (into_asks p _ _ _ _ _ _ _ _ _ h (λ z. c.if-k-numbers.false (z ∙ sym h.prefix.ready.indexed.numbered.variables))))
    c.if-not-step.true _

pub into-below-requires : goal.into-below-requires
unfolding at
into-below-requires t c =
    let p = c.requires.0 in
    let h = c.requires.1 in
    let few = into_few p _ _ _ _ _ _ _ _ _ h in (
      omega (arith, c.decreases, few),
      (
        p,
        into_next p _ _ _ _ _ _ _ _ _ h _ _ _ (c.step.ensures p _ _ (into_asks p _ _ _ _ _ _ _ _ _ h (λ z. c.if-k-numbers.false (z ∙ sym h.prefix.ready.indexed.numbered.variables))))
            c.if-not-step.false,
      ),
    )

pub into-returns : goal.into-returns
unfolding at
into-returns t c = λ p h. into_then p _ _ _ _ _ _ _ _ _ h _ _ _
    (c.step.ensures p _ _ (into_asks p _ _ _ _ _ _ _ _ _ h (λ z. c.if-k-numbers.false (z ∙ sym h.prefix.ready.indexed.numbered.variables)))) c.if-not-step.false _ _ _ _ _ _
    (c.below.ensures p (into_next p _ _ _ _ _ _ _ _ _ h _ _ _
    (c.step.ensures p _ _ (into_asks p _ _ _ _ _ _ _ _ _ h (λ z. c.if-k-numbers.false (z ∙ sym h.prefix.ready.indexed.numbered.variables)))) c.if-not-step.false))

pub onto-returns-then-not-contains : goal.onto-returns-then-not-contains
unfolding at
onto-returns-then-not-contains t c =
    λ p h. onto_out p _ _ _ _ _ _ _ _ c.args.v c.args.upto.now h (onto_absent p _ _ _ _ _ _ _ _ c.args.v c.args.upto.now h _ _ c.from.ensures c.contains.ensures (ap not c.if-not-contains.true))

pub onto-returns-then-tally-limit : goal.onto-returns-then-tally-limit
unfolding at
onto-returns-then-tally-limit t c =
    λ p h. onto_spent p _ _ _ _ _ _ _ _ c.args.v c.args.upto.now h (onto_there p _ _ _ _ _ _ _ _ c.args.v c.args.upto.now h _ _ c.from.ensures c.contains.ensures (ap not c.if-not-contains.false))
    (c.if-tally-limit.true ∙ c.limit.ensures)

pub onto-add_node-requires : goal.onto-add_node-requires
unfolding at
onto-add_node-requires t c =
    let p = c.requires.0 in
    let h = c.requires.1 in
    subst (λ (x : ℕ). Countable x (tally_in c.args.tally)) (sym c.variable_at-x.ensures)
    (onto_counts p _ _ _ _ _ _ _ _ c.args.v c.args.upto.now h (onto_there p _ _ _ _ _ _ _ _ c.args.v c.args.upto.now h _ _ c.from.ensures c.contains.ensures (ap not c.if-not-contains.false))
    (λ z. c.if-tally-limit.false (z ∙ sym c.limit.ensures)))

pub onto-put_node-requires : goal.onto-put_node-requires
unfolding at
onto-put_node-requires t c =
    let p = c.requires.0 in
    let h = c.requires.1 in (
      p,
      _,
      _,
      (onto_asks p _ _ _ _ _ _ _ _ c.args.v c.args.upto.now h
          (onto_there p _ _ _ _ _ _ _ _ c.args.v c.args.upto.now h _ _ c.from.ensures c.contains.ensures (ap not c.if-not-contains.false)) (λ z. c.if-tally-limit.false (z ∙ sym c.limit.ensures))),
    )

pub onto-returns-then-not-put_node : goal.onto-returns-then-not-put_node
unfolding at
onto-returns-then-not-put_node t c =
    λ p h. onto_dead p _ _ _ _ _ _ _ _ c.args.v c.args.upto.now h (onto_there p _ _ _ _ _ _ _ _ c.args.v c.args.upto.now h _ _ c.from.ensures c.contains.ensures (ap not c.if-not-contains.false))
    (λ z. c.if-tally-limit.false (z ∙ sym c.limit.ensures)) _ _ _
    (c.put_node.ensures p _ _
    (onto_asks p _ _ _ _ _ _ _ _ c.args.v c.args.upto.now h
    (onto_there p _ _ _ _ _ _ _ _ c.args.v c.args.upto.now h _ _ c.from.ensures c.contains.ensures (ap not c.if-not-contains.false))
    (λ z. c.if-tally-limit.false (z ∙ sym c.limit.ensures)))) _
    (c.add_node.ensures.is ∙ ap (λ (x : ℕ). with_node x (tally_in c.args.tally)) c.variable_at-x.ensures) c.if-not-put_node.true

pub onto-below-requires : goal.onto-below-requires
unfolding at
onto-below-requires t c =
    let p = c.requires.0 in
    let h = c.requires.1 in
    let few = onto_few p _ _ _ _ _ _ _ _ c.args.v c.args.upto.now h in (
      omega (arith, c.decreases, few),
      (
        p,
        onto_next p _ _ _ _ _ _ _ _ c.args.v c.args.upto.now h (onto_there p _ _ _ _ _ _ _ _ c.args.v c.args.upto.now h _ _ c.from.ensures c.contains.ensures (ap not c.if-not-contains.false))
            (λ z. c.if-tally-limit.false (z ∙ sym c.limit.ensures)) _ _ _
            (c.put_node.ensures p _ _
            (onto_asks p _ _ _ _ _ _ _ _ c.args.v c.args.upto.now h
            (onto_there p _ _ _ _ _ _ _ _ c.args.v c.args.upto.now h _ _ c.from.ensures c.contains.ensures (ap not c.if-not-contains.false))
            (λ z. c.if-tally-limit.false (z ∙ sym c.limit.ensures)))) _
            (c.add_node.ensures.is ∙ ap (λ (x : ℕ). with_node x (tally_in c.args.tally)) c.variable_at-x.ensures) c.if-not-put_node.false,
      ),
    )

pub onto-returns : goal.onto-returns
unfolding at
onto-returns t c = λ p h. onto_then p _ _ _ _ _ _ _ _ c.args.v c.args.upto.now h
    (onto_there p _ _ _ _ _ _ _ _ c.args.v c.args.upto.now h _ _ c.from.ensures c.contains.ensures (ap not c.if-not-contains.false)) (λ z. c.if-tally-limit.false (z ∙ sym c.limit.ensures)) _ _ _
    (c.put_node.ensures p _ _
    (onto_asks p _ _ _ _ _ _ _ _ c.args.v c.args.upto.now h (onto_there p _ _ _ _ _ _ _ _ c.args.v c.args.upto.now h _ _ c.from.ensures c.contains.ensures (ap not c.if-not-contains.false))
    (λ z. c.if-tally-limit.false (z ∙ sym c.limit.ensures)))) _
    (c.add_node.ensures.is ∙ ap (λ (x : ℕ). with_node x (tally_in c.args.tally)) c.variable_at-x.ensures) _ _ _ _ _
    (c.below.ensures p (onto_next p _ _ _ _ _ _ _ _ c.args.v c.args.upto.now h
    (onto_there p _ _ _ _ _ _ _ _ c.args.v c.args.upto.now h _ _ c.from.ensures c.contains.ensures (ap not c.if-not-contains.false)) (λ z. c.if-tally-limit.false (z ∙ sym c.limit.ensures))
    _ _ _ (c.put_node.ensures p _ _
    (onto_asks p _ _ _ _ _ _ _ _ c.args.v c.args.upto.now h
    (onto_there p _ _ _ _ _ _ _ _ c.args.v c.args.upto.now h _ _ c.from.ensures c.contains.ensures (ap not c.if-not-contains.false))
    (λ z. c.if-tally-limit.false (z ∙ sym c.limit.ensures)))) _
    (c.add_node.ensures.is ∙ ap (λ (x : ℕ). with_node x (tally_in c.args.tally)) c.variable_at-x.ensures) c.if-not-put_node.false))

pub up_to-walk_counted-requires : goal.up_to-walk_counted-requires
unfolding at
up_to-walk_counted-requires t c =
    let p = c.requires.0 in
    let h = c.requires.1 in
    (p, (up_values p _ _ _ _ _ _ _ _ _ _ h _ _ c.values_within-all.ensures))

pub up_to-returns-then-k-numbers : goal.up_to-returns-then-k-numbers
unfolding at
up_to-returns-then-k-numbers t c =
    λ p h. up_last p _ _ _ _ _ _ _ _ _ _ h _ _ c.values_within-all.ensures _ _ _ _ _ (c.walk_counted.ensures p (up_values p _ _ _ _ _ _ _ _ _ _ h _ _ c.values_within-all.ensures)) _
    (ap (λ (x : ℕ). x + 1) c.from-high.ensures) (c.if-k-numbers.true ∙ h.prefix.ready.indexed.numbered.variables)

pub up_to-walk_counted-part-requires : goal.up_to-walk_counted-part-requires
unfolding at
up_to-walk_counted-part-requires t c =
    let p = c.requires.0 in
    let h = c.requires.1 in
    (p, (up_values p _ _ _ _ _ _ _ _ _ _ h _ _ c.values_within-m.ensures))

pub up_to-returns-then-is_err : goal.up_to-returns-then-is_err
unfolding at
up_to-returns-then-is_err t c =
    λ p h. up_stops p _ _ _ _ _ _ _ _ _ _ h _ _ c.values_within-m.ensures _ _ _ _ _ (c.walk_counted-part.ensures p (up_values p _ _ _ _ _ _ _ _ _ _ h _ _ c.values_within-m.ensures))
    c.from-high.ensures _ (was_cut _ (sym c.is_err.ensures.value ∙ c.if-is_err.true))

pub up_to-onto-requires : goal.up_to-onto-requires
unfolding at
up_to-onto-requires t c =
    let p = c.requires.0 in
    let h = c.requires.1 in (
      omega (arith, c.decreases),
      (
        p,
        up_asks p _ _ _ _ _ _ _ _ _ _ h _ _ c.values_within-m.ensures _ _ _ _ _ (c.walk_counted-part.ensures p (up_values p _ _ _ _ _ _ _ _ _ _ h _ _ c.values_within-m.ensures)) c.from-high.ensures
            (λ z. c.if-k-numbers.false (z ∙ sym h.prefix.ready.indexed.numbered.variables)),
      ),
    )

pub up_to-returns : goal.up_to-returns
unfolding at
up_to-returns t c = λ p h. up_then p _ _ _ _ _ _ _ _ _ _ h _ _ c.values_within-m.ensures _ _ _ _ _ (c.walk_counted-part.ensures p (up_values p _ _ _ _ _ _ _ _ _ _ h _ _ c.values_within-m.ensures))
    c.from-high.ensures (went_on _ (sym c.is_err.ensures.value ∙ c.if-is_err.false)) _ refl _
    (part_to_end c.args.upto.now 1) _ _ _ _ _
    (c.onto.ensures p (up_asks p _ _ _ _ _ _ _ _ _ _ h _ _ c.values_within-m.ensures _ _ _ _ _ (c.walk_counted-part.ensures p (up_values p _ _ _ _ _ _ _ _ _ _ h _ _ c.values_within-m.ensures))
    c.from-high.ensures
    (λ z. c.if-k-numbers.false (z ∙ sym h.prefix.ready.indexed.numbered.variables))))
