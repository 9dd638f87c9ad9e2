-- `run_tree::enter` meets its contract: proofs/Turns. Assumes nothing.
use Rattle.model.specs.Kit.{refl, sym, ◌∙◌, subst, ℕ, ◌<◌, arith}
use Rattle.model.specs.Lists.{at}
use Rattle.run_tree.proofs.Turns.{child_asks, entered_dead, plan_asks, plan_bytes, plan_order, plan_sized, entered_plan, entered_inner}
use Rattle.std.proofs.lemmas.Result.{err_from_is_err_and}
use Rattle.run_tree.proofs.enter.Goals as goal

pub child-requires : goal.child-requires
child-requires c =
    (_, _, child_asks c.requires.0 _ _ _ _ _ _ c.requires.1.0 _ _ c.requires.1.1 c.ranges.m.fits _ c.lowest-lowest.ensures)

pub returns-then-child : goal.returns-then-child
returns-then-child c = record {
  entered = (λ p made g.
      entered_dead p _ _ _ _ _ _ made _ _ g c.ranges.m.fits _ c.lowest-lowest.ensures _ _ _ (c.child.ensures _ _ (child_asks p _ _ _ _ _ _ made _ _ g c.ranges.m.fits _ c.lowest-lowest.ensures))
      c.if-child.true);
  same_slice = (refl, refl);
}

pub list_plan-requires : goal.list_plan-requires
unfolding at
list_plan-requires c = let q = c.child.ensures _ _ (child_asks c.requires.0 _ _ _ _ _ _ _ _ _ c.requires.1.1 c.ranges.m.fits _ c.lowest-lowest.ensures) in record {
  list_room = plan_asks c.requires.0 _ _ _ _ _ _ _ _ _ c.requires.1.1 c.ranges.m.fits _ c.lowest-lowest.ensures _ _ _ q;
  numbers_bound = (
    omega (arith, c.requires.1.1.values.prefix.ready.indexed.numbered.variables, c.requires.1.1.values.prefix.ready.well_formed.few),
    λ i m. plan_bytes c.requires.0 _ _ _ _ _ _ _ _ _ c.requires.1.1 c.ranges.m.fits _ c.lowest-lowest.ensures _ _ _ q c.if-child.false (c.if-k-numbers.true
        ∙ c.requires.1.1.values.prefix.ready.indexed.numbered.variables) i (subst (λ (n : ℕ). i < n) c.requires.1.1.values.prefix.ready.indexed.numbered.variables m),
    plan_sized c.requires.0 _ _ _ _ _ _ _ _ _ c.requires.1.1 c.ranges.m.fits _ c.lowest-lowest.ensures _ _ _ q,
    plan_order c.requires.0 _ _ _ _ _ _ _ _ _ c.requires.1.1 c.ranges.m.fits _ c.lowest-lowest.ensures _ _ _ q,
  );
}

pub returns-in_err-list_plan-clause-entered : goal.returns-in_err-list_plan-clause-entered
unfolding at
returns-in_err-list_plan-clause-entered c = λ p made g.
    let r = c.child.ensures _ _ (child_asks p _ _ _ _ _ _ made _ _ g c.ranges.m.fits _ c.lowest-lowest.ensures) in
    let v = g.values.prefix.ready.indexed.numbered.variables in
    let q = err_from_is_err_and c.from_residual.result c.from_residual.ensures.1 in
    rw (q.1, q.2) (entered_plan p _ _ _ _ _ _ made _ _ g c.ranges.m.fits _ c.lowest-lowest.ensures _ _ _ r c.if-child.false (c.if-k-numbers.true ∙ v) _ _ _ c.in_err-list_plan.ensures.listed)

pub returns-then-k-numbers : goal.returns-then-k-numbers
unfolding at
returns-then-k-numbers c = record {
  entered = (λ p made g.
      let q = c.child.ensures _ _ (child_asks p _ _ _ _ _ _ made _ _ g c.ranges.m.fits _ c.lowest-lowest.ensures) in
      let v = g.values.prefix.ready.indexed.numbered.variables in
      entered_plan p _ _ _ _ _ _ made _ _ g c.ranges.m.fits _ c.lowest-lowest.ensures _ _ _ q c.if-child.false (c.if-k-numbers.true ∙ v) _ _ _
      c.in_ok-list_plan.ensures.listed);
  same_slice = c.in_ok-list_plan.ensures.same_slice;
}

pub returns : goal.returns
unfolding at
returns c = record {
  entered = (λ p made g.
      let q = c.child.ensures _ _ (child_asks p _ _ _ _ _ _ made _ _ g c.ranges.m.fits _ c.lowest-lowest.ensures) in
      let v = g.values.prefix.ready.indexed.numbered.variables in
      entered_inner p _ _ _ _ _ _ made _ _ g c.ranges.m.fits _ c.lowest-lowest.ensures _ _ _ q c.if-child.false (λ z. c.if-k-numbers.false (z ∙ sym v)));
  same_slice = (refl, refl);
}
