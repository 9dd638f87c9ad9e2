-- The loop over the symmetries. Assumes nothing.
use Rattle.model.specs.Kit.{refl, sym, ◌∙◌, subst, List, ℕ, ◌+◌, ◌*◌, ◌≤◌, ◌<◌, arith, set}
use Rattle.std.proofs.lemmas.Option.{MatchOption-at_none, MatchOption-at_some}
use Rattle.model.specs.{Lists.at}
use Rattle.arrays.specs.{Inner.Places.MARKS, Inner.Places.SYMMETRIES}
use Rattle.prune.proofs.FilterLoop.{FilteredSoFar, filtered_begin, filtered_end, filtered_skip, filtered_turn, filtered_dead, levelled, e_few, k_few}
use Rattle.prune.proofs.filters.Goals as goal
use Rattle.prune.proofs.filters.Goals.{then-due+in-Some, else-due}

pub loop-e-init : goal.loop-e-init
unfolding at
loop-e-init c = (refl, λ p su s g l m. filtered_begin s g _ l m)

pub filter-requires : goal.filter-requires
unfolding at
filter-requires c =
    let turn : c.loop-e.e < at c.args.numbers.now SYMMETRIES = subst (λ (n : ℕ). c.loop-e.e < n) c.loop-e.invariant.0 c.loop-e-test.true in
    (c.requires.0, levelled c.requires.2 c.requires.3 _ turn (c.loop-e.invariant.1 c.requires.0 c.requires.1 c.requires.2 c.requires.3 c.requires.4 c.requires.5) (sym c.due.ensures ∙ c.if-due.true))

pub returns-in_default : goal.returns-in_default
unfolding at
returns-in_default c =
    let turn : c.loop-e.e < at c.args.numbers.now SYMMETRIES = subst (λ (n : ℕ). c.loop-e.e < n) c.loop-e.invariant.0 c.loop-e-test.true in
    λ p su s g l m.
    let r = c.loop-e.invariant.1 p su s g l m in
    let d = sym c.due.ensures ∙ c.if-due.true in
    filtered_dead s g _ turn r d (MatchOption-at_none _ _ c.in_default.is (c.filter.ensures p (levelled s g _ turn r d)))

pub loop-e-preserved : goal.loop-e-preserved
unfolding at
loop-e-preserved c =
    let turn : c.loop-e.e < at c.args.numbers.now SYMMETRIES = subst (λ (n : ℕ). c.loop-e.e < n) c.loop-e.invariant.0 c.loop-e-test.true in (
      c.loop-e.invariant.0,
      λ p su s g l m.
          let r = c.loop-e.invariant.1 p su s g l m in
          let Next : List ℕ → List ℕ → Type 0 = λ work sets. FilteredSoFar p c.args.k c.args.work.now c.args.sets.now work sets (c.loop-e.e + 1) in
          (elim c.if-due.branch [
            | then-due+in-Some w ↦
                subst (λ (z : List ℕ). Next z c.if-due.sets) (sym w.work-is) (subst (λ (z : List ℕ). Next (set c.loop-e.work (16 * c.args.k + MARKS + c.loop-e.e) w.in-Some.mark) z)
                (sym w.sets-is) (filtered_turn s g c.args.sets.now turn r (sym c.due.ensures ∙ w.if-due.true)
                (MatchOption-at_some _ _ _ w.in-Some.is (w.filter.ensures p (levelled s g c.args.sets.now turn r (sym c.due.ensures ∙ w.if-due.true))))))
            | else-due w ↦ subst (λ (z : List ℕ). Next z c.if-due.sets) (sym w.work-is) (subst (λ (z : List ℕ). Next c.loop-e.work z) (sym w.sets-is)
                (filtered_skip s g c.args.sets.now turn r (sym c.due.ensures ∙ w.if-due.false)))
          ]),
    )

pub returns : goal.returns
returns c = λ p su s g l m. filtered_end s g _ _ _ _ (subst (λ (n : ℕ). n ≤ c.loop-e.e) c.loop-e.invariant.0 c.loop-e-test.false) (c.loop-e.invariant.1 p su s g l m)

pub overflow_mul-start : goal.overflow_mul-start
overflow_mul-start c =
    let turn : c.loop-e.e < at c.args.numbers.now SYMMETRIES = subst (λ (n : ℕ). c.loop-e.e < n) c.loop-e.invariant.0 c.loop-e-test.true in
    let few_k : c.args.k ≤ 12 = k_few c.requires.2 c.requires.3 _ turn (c.loop-e.invariant.1 c.requires.0 c.requires.1 c.requires.2 c.requires.3 c.requires.4 c.requires.5) in
    omega (arith, few_k)

pub overflow_add-start : goal.overflow_add-start
overflow_add-start c =
    let turn : c.loop-e.e < at c.args.numbers.now SYMMETRIES = subst (λ (n : ℕ). c.loop-e.e < n) c.loop-e.invariant.0 c.loop-e-test.true in
    let few_k : c.args.k ≤ 12 = k_few c.requires.2 c.requires.3 _ turn (c.loop-e.invariant.1 c.requires.0 c.requires.1 c.requires.2 c.requires.3 c.requires.4 c.requires.5) in
    omega (arith, few_k)

pub overflow_add-start-in-loop-e : goal.overflow_add-start-in-loop-e
overflow_add-start-in-loop-e c =
    let turn : c.loop-e.e < at c.args.numbers.now SYMMETRIES = subst (λ (n : ℕ). c.loop-e.e < n) c.loop-e.invariant.0 c.loop-e-test.true in
    let few_e : c.loop-e.e < 16 = e_few c.requires.2 c.requires.3 _ turn (c.loop-e.invariant.1 c.requires.0 c.requires.1 c.requires.2 c.requires.3 c.requires.4 c.requires.5) in
    let few_k : c.args.k ≤ 12 = k_few c.requires.2 c.requires.3 _ turn (c.loop-e.invariant.1 c.requires.0 c.requires.1 c.requires.2 c.requires.3 c.requires.4 c.requires.5) in
    omega (arith, few_k, few_e)

pub offset_bounds-work-k : goal.offset_bounds-work-k
offset_bounds-work-k c =
    let turn : c.loop-e.e < at c.args.numbers.now SYMMETRIES = subst (λ (n : ℕ). c.loop-e.e < n) c.loop-e.invariant.0 c.loop-e-test.true in
    let few_e : c.loop-e.e < 16 = e_few c.requires.2 c.requires.3 _ turn (c.loop-e.invariant.1 c.requires.0 c.requires.1 c.requires.2 c.requires.3 c.requires.4 c.requires.5) in
    let few_k : c.args.k ≤ 12 = k_few c.requires.2 c.requires.3 _ turn (c.loop-e.invariant.1 c.requires.0 c.requires.1 c.requires.2 c.requires.3 c.requires.4 c.requires.5) in
    omega (arith, few_k, few_e)

pub bounds-work-k : goal.bounds-work-k
bounds-work-k c =
    let turn : c.loop-e.e < at c.args.numbers.now SYMMETRIES = subst (λ (n : ℕ). c.loop-e.e < n) c.loop-e.invariant.0 c.loop-e-test.true in
    let few_e : c.loop-e.e < 16 = e_few c.requires.2 c.requires.3 _ turn (c.loop-e.invariant.1 c.requires.0 c.requires.1 c.requires.2 c.requires.3 c.requires.4 c.requires.5) in
    let few_k : c.args.k ≤ 12 = k_few c.requires.2 c.requires.3 _ turn (c.loop-e.invariant.1 c.requires.0 c.requires.1 c.requires.2 c.requires.3 c.requires.4 c.requires.5) in
    omega (arith, few_k, few_e)

pub due-requires : goal.due-requires
due-requires c =
    let turn : c.loop-e.e < at c.args.numbers.now SYMMETRIES = subst (λ (n : ℕ). c.loop-e.e < n) c.loop-e.invariant.0 c.loop-e-test.true in
    let few_k : c.args.k ≤ 12 = k_few c.requires.2 c.requires.3 _ turn (c.loop-e.invariant.1 c.requires.0 c.requires.1 c.requires.2 c.requires.3 c.requires.4 c.requires.5) in
    few_k

pub overflow_mul-work : goal.overflow_mul-work
overflow_mul-work c =
    let turn : c.loop-e.e < at c.args.numbers.now SYMMETRIES = subst (λ (n : ℕ). c.loop-e.e < n) c.loop-e.invariant.0 c.loop-e-test.true in
    let few_k : c.args.k ≤ 12 = k_few c.requires.2 c.requires.3 _ turn (c.loop-e.invariant.1 c.requires.0 c.requires.1 c.requires.2 c.requires.3 c.requires.4 c.requires.5) in
    omega (arith, few_k)

pub overflow_add-work : goal.overflow_add-work
overflow_add-work c =
    let turn : c.loop-e.e < at c.args.numbers.now SYMMETRIES = subst (λ (n : ℕ). c.loop-e.e < n) c.loop-e.invariant.0 c.loop-e-test.true in
    let few_k : c.args.k ≤ 12 = k_few c.requires.2 c.requires.3 _ turn (c.loop-e.invariant.1 c.requires.0 c.requires.1 c.requires.2 c.requires.3 c.requires.4 c.requires.5) in
    omega (arith, few_k)

pub overflow_add-work-then-due : goal.overflow_add-work-then-due
overflow_add-work-then-due c =
    let turn : c.loop-e.e < at c.args.numbers.now SYMMETRIES = subst (λ (n : ℕ). c.loop-e.e < n) c.loop-e.invariant.0 c.loop-e-test.true in
    let few_e : c.loop-e.e < 16 = e_few c.requires.2 c.requires.3 _ turn (c.loop-e.invariant.1 c.requires.0 c.requires.1 c.requires.2 c.requires.3 c.requires.4 c.requires.5) in
    let few_k : c.args.k ≤ 12 = k_few c.requires.2 c.requires.3 _ turn (c.loop-e.invariant.1 c.requires.0 c.requires.1 c.requires.2 c.requires.3 c.requires.4 c.requires.5) in
    omega (arith, few_k, few_e)

pub offset_bounds-work-k-then-due : goal.offset_bounds-work-k-then-due
offset_bounds-work-k-then-due c =
    let turn : c.loop-e.e < at c.args.numbers.now SYMMETRIES = subst (λ (n : ℕ). c.loop-e.e < n) c.loop-e.invariant.0 c.loop-e-test.true in
    let few_e : c.loop-e.e < 16 = e_few c.requires.2 c.requires.3 _ turn (c.loop-e.invariant.1 c.requires.0 c.requires.1 c.requires.2 c.requires.3 c.requires.4 c.requires.5) in
    let few_k : c.args.k ≤ 12 = k_few c.requires.2 c.requires.3 _ turn (c.loop-e.invariant.1 c.requires.0 c.requires.1 c.requires.2 c.requires.3 c.requires.4 c.requires.5) in
    omega (arith, few_k, few_e)

pub bounds-work-k-then-due : goal.bounds-work-k-then-due
bounds-work-k-then-due c =
    let turn : c.loop-e.e < at c.args.numbers.now SYMMETRIES = subst (λ (n : ℕ). c.loop-e.e < n) c.loop-e.invariant.0 c.loop-e-test.true in
    let few_e : c.loop-e.e < 16 = e_few c.requires.2 c.requires.3 _ turn (c.loop-e.invariant.1 c.requires.0 c.requires.1 c.requires.2 c.requires.3 c.requires.4 c.requires.5) in
    let few_k : c.args.k ≤ 12 = k_few c.requires.2 c.requires.3 _ turn (c.loop-e.invariant.1 c.requires.0 c.requires.1 c.requires.2 c.requires.3 c.requires.4 c.requires.5) in
    omega (arith, few_k, few_e)

pub loop-e-smaller : goal.loop-e-smaller
loop-e-smaller c = omega (arith, c.loop-e-test.true)
