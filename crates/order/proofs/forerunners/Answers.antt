-- One pair after another. Assumes nothing.
use Rattle.model.specs.Kit.{sym, ap, ◌∙◌, ℕ, ◌*◌, arith, rules, length, drop, length-drop}
use Rattle.std.proofs.lemmas.List.{length_push}
use Rattle.model.specs.Lists.{at}
use Rattle.model.proofs.Members.{one_has}
use Rattle.order.proofs.{Placing.befores_begin, Placing.befores_taken, Placing.befores_end, Placing.taken}
use Rattle.order.proofs.forerunners.Goals as goal

pub loop-pair-init : goal.loop-pair-init
loop-pair-init c = (search rules, search rules, search rules, befores_begin _ _ c.told-befores c.requires.1)

pub bounds-befores-from : goal.bounds-befores-from
bounds-befores-from c =
    let t = taken _ c.in-Some.pair.now _ _ _ _ c.requires.0 c.loop-pair.invariant.0 c.loop-pair.invariant.1 c.in-Some.ensures.steps.1.0 c.in-Some.ensures.steps.1.1 in
    omega (arith, t.second_small, c.from.ensures)

pub bounds-befores-from-in-loop-pair : goal.bounds-befores-from-in-loop-pair
bounds-befores-from-in-loop-pair c =
    let t = taken _ c.in-Some.pair.now _ _ _ _ c.requires.0 c.loop-pair.invariant.0 c.loop-pair.invariant.1 c.in-Some.ensures.steps.1.0 c.in-Some.ensures.steps.1.1 in
    omega (arith, t.second_small, c.from.ensures)

pub overflow_shl-befores : goal.overflow_shl-befores
overflow_shl-befores c =
    let t = taken _ c.in-Some.pair.now _ _ _ _ c.requires.0 c.loop-pair.invariant.0 c.loop-pair.invariant.1 c.in-Some.ensures.steps.1.0 c.in-Some.ensures.steps.1.1 in
    omega (arith, t.first_small)

pub loop-pair-preserved : goal.loop-pair-preserved
unfolding at
loop-pair-preserved c =
    let t = taken _ c.in-Some.pair.now _ _ _ _ c.requires.0 c.loop-pair.invariant.0 c.loop-pair.invariant.1 c.in-Some.ensures.steps.1.0 c.in-Some.ensures.steps.1.1 in
    let more = length_push c.loop-pair.yielded c.in-Some.pair in (
      c.in-Some.ensures.steps.0 ∙ c.loop-pair.invariant.0,
      t.onward ∙ ap (λ (k : ℕ). drop (2 * k) c.args.pairs.now) (sym more),
      omega (arith, t.inside, more),
      befores_taken _ _ _ _ _ _ _ _ t more c.from.ensures c.loop-pair.invariant.3 (search rules) (λ z. one_has 64 _ z (omega (arith, t.first_small))),
    )

pub returns : goal.returns
returns c =
    let left = ap length c.loop-pair.invariant.1 in
    let few = c.in-None.ensures.steps.1.0 in
    befores_end _ _ _ _ (omega (arith, left, few, length-drop (2 * length c.loop-pair.yielded) c.args.pairs.now, c.loop-pair.invariant.0))
    (omega (arith, c.loop-pair.invariant.2)) c.loop-pair.invariant.3
