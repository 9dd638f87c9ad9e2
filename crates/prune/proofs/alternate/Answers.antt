-- The loop: filters and constraints by turns. The measure is the number of values in all sets. Assumes nothing.
use Rattle.model.specs.Kit.{refl, subst, false, List, ℕ, ◌<◌, lt_of_le_of_lt, arith, bit_and, rules}
use Rattle.model.specs.{Lists.at, Problem.Problem}
use Rattle.arrays.specs.Inner.Places.{LINKED}
use Rattle.prune.specs.Inner.Steps.{ArraysHold, Blocked, BeforeFixpoint, AllFilteredOr}
use Rattle.prune.proofs.FixpointLoop.{after_from, constrained_dead, constrained_done, constrained_size, filters_dead, fixpoint_end, fixpoint_turn, fixpoint_less}
use Rattle.prune.proofs.{FilterLoop.kept_none, FilterLoop.kept_trans, Starts.some_one}
use Rattle.prune.proofs.alternate.Goals as goal

pub loop-old-init : goal.loop-old-init
loop-old-init c = λ p gs s b n. (n, kept_none _ _)

pub filters-requires : goal.filters-requires
filters-requires c =
    let n = (c.loop-old.invariant c.requires.0 c.requires.1 c.requires.2 c.requires.3 c.requires.4).0 in
    (c.requires.0, _, c.requires.2, n.startable.prefix_held, n.startable.live, n.startable.marking)

pub returns-then-filters : goal.returns-then-filters
returns-then-filters c = λ p gs s b n₀.
    let i = c.loop-old.invariant p gs s b n₀ in
    let f = c.filters.ensures p _ s i.0.startable.prefix_held i.0.startable.live i.0.startable.marking in
    after_from s n₀.startable.prefix_held.work_length n₀.startable.prefix_held.depth i.1 (filters_dead s b i.0 _ _ f.kept (f.ended c.if-filters.true))

pub returns-then-changed-eq0 : goal.returns-then-changed-eq0
returns-then-changed-eq0 c =
    let all_filtered : (p : Problem) (gs : List (List ℕ)) → ArraysHold p c.args.supports.now c.args.tables.now c.args.numbers.now → Blocked p gs c.args.numbers.now →
    BeforeFixpoint p gs c.loop-old.work c.args.numbers.now c.loop-old.sets c.args.k 0 0 → AllFilteredOr p c.args.k c.loop-old.work c.loop-old.sets c.filters.new.work c.filters.new.sets false =
    λ p gs s b n. subst (AllFilteredOr p _ _ _ _ _) c.if-filters.false (c.filters.ensures p _ s n.startable.prefix_held n.startable.live n.startable.marking) in
    λ p gs s b n₀.
    let i = c.loop-old.invariant p gs s b n₀ in
    let f = all_filtered p gs s b i.0 in
    after_from s n₀.startable.prefix_held.work_length n₀.startable.prefix_held.depth i.1
    (fixpoint_end s b i.0 (f.all_filtered refl) (f.marking refl) f.kept c.difference-changed.ensures c.if-changed-eq0.true)

pub constrain-requires : goal.constrain-requires
unfolding at
constrain-requires c =
    let all_filtered : (p : Problem) (gs : List (List ℕ)) → ArraysHold p c.args.supports.now c.args.tables.now c.args.numbers.now → Blocked p gs c.args.numbers.now →
    BeforeFixpoint p gs c.loop-old.work c.args.numbers.now c.loop-old.sets c.args.k 0 0 → AllFilteredOr p c.args.k c.loop-old.work c.loop-old.sets c.filters.new.work c.filters.new.sets false =
    λ p gs s b n. subst (AllFilteredOr p _ _ _ _ _) c.if-filters.false (c.filters.ensures p _ s n.startable.prefix_held n.startable.live n.startable.marking) in
    let turned : (p : Problem) (gs : List (List ℕ)) → ArraysHold p c.args.supports.now c.args.tables.now c.args.numbers.now → Blocked p gs c.args.numbers.now →
    BeforeFixpoint p gs c.loop-old.work c.args.numbers.now c.loop-old.sets c.args.k 0 0 →
    BeforeFixpoint p gs c.filters.new.work c.args.numbers.now c.filters.new.sets c.args.k c.touched-left.result (bit_and c.difference-changed.result (at c.args.numbers.now LINKED)) =
    λ p gs s b n. let f = all_filtered p gs s b n in fixpoint_turn s b n (f.all_filtered refl) (f.marking refl) f.kept
    c.difference-changed.ensures c.touched-left.ensures refl in (
      c.requires.0,
      c.requires.2,
      (turned c.requires.0 c.requires.1 c.requires.2 c.requires.3 (c.loop-old.invariant c.requires.0 c.requires.1 c.requires.2 c.requires.3 c.requires.4).0).startable.pending,
    )

pub returns-then-constrain : goal.returns-then-constrain
unfolding at
returns-then-constrain c =
    let all_filtered : (p : Problem) (gs : List (List ℕ)) → ArraysHold p c.args.supports.now c.args.tables.now c.args.numbers.now → Blocked p gs c.args.numbers.now →
    BeforeFixpoint p gs c.loop-old.work c.args.numbers.now c.loop-old.sets c.args.k 0 0 → AllFilteredOr p c.args.k c.loop-old.work c.loop-old.sets c.filters.new.work c.filters.new.sets false =
    λ p gs s b n. subst (AllFilteredOr p _ _ _ _ _) c.if-filters.false (c.filters.ensures p _ s n.startable.prefix_held n.startable.live n.startable.marking) in
    let turned : (p : Problem) (gs : List (List ℕ)) → ArraysHold p c.args.supports.now c.args.tables.now c.args.numbers.now → Blocked p gs c.args.numbers.now →
    BeforeFixpoint p gs c.loop-old.work c.args.numbers.now c.loop-old.sets c.args.k 0 0 →
    BeforeFixpoint p gs c.filters.new.work c.args.numbers.now c.filters.new.sets c.args.k c.touched-left.result (bit_and c.difference-changed.result (at c.args.numbers.now LINKED)) =
    λ p gs s b n. let f = all_filtered p gs s b n in fixpoint_turn s b n (f.all_filtered refl) (f.marking refl) f.kept
    c.difference-changed.ensures c.touched-left.ensures refl in
    λ p gs s b n₀.
    let i = c.loop-old.invariant p gs s b n₀ in
    let f = all_filtered p gs s b i.0 in
    let t = turned p gs s b i.0 in
    after_from s n₀.startable.prefix_held.work_length n₀.startable.prefix_held.depth (kept_trans _ _ _ _ i.1 f.kept)
    (constrained_dead s b t _ ((c.constrain.ensures p s t.startable.pending).ended c.if-constrain.true))

pub loop-old-smaller : goal.loop-old-smaller
unfolding at
loop-old-smaller c =
    let all_filtered : (p : Problem) (gs : List (List ℕ)) → ArraysHold p c.args.supports.now c.args.tables.now c.args.numbers.now → Blocked p gs c.args.numbers.now →
    BeforeFixpoint p gs c.loop-old.work c.args.numbers.now c.loop-old.sets c.args.k 0 0 → AllFilteredOr p c.args.k c.loop-old.work c.loop-old.sets c.filters.new.work c.filters.new.sets false =
    λ p gs s b n. subst (AllFilteredOr p _ _ _ _ _) c.if-filters.false (c.filters.ensures p _ s n.startable.prefix_held n.startable.live n.startable.marking) in
    let turned : (p : Problem) (gs : List (List ℕ)) → ArraysHold p c.args.supports.now c.args.tables.now c.args.numbers.now → Blocked p gs c.args.numbers.now →
    BeforeFixpoint p gs c.loop-old.work c.args.numbers.now c.loop-old.sets c.args.k 0 0 →
    BeforeFixpoint p gs c.filters.new.work c.args.numbers.now c.filters.new.sets c.args.k c.touched-left.result (bit_and c.difference-changed.result (at c.args.numbers.now LINKED)) =
    λ p gs s b n. let f = all_filtered p gs s b n in fixpoint_turn s b n (f.all_filtered refl) (f.marking refl) f.kept
    c.difference-changed.ensures c.touched-left.ensures refl in
    let n = (c.loop-old.invariant c.requires.0 c.requires.1 c.requires.2 c.requires.3 c.requires.4).0 in
    let f = all_filtered c.requires.0 c.requires.1 c.requires.2 c.requires.3 n in
    let t = turned c.requires.0 c.requires.1 c.requires.2 c.requires.3 n in
    lt_of_le_of_lt (constrained_size c.requires.2 c.requires.3 t ((c.constrain.ensures c.requires.0 c.requires.2 t.startable.pending).all_constrained c.if-constrain.false))
    (fixpoint_less c.requires.2 c.requires.3 n (f.all_filtered refl) (f.marking refl) f.kept c.difference-changed.ensures (search rules)
    c.if-changed-eq0.false)

pub loop-old-preserved : goal.loop-old-preserved
unfolding at
loop-old-preserved c =
    let all_filtered : (p : Problem) (gs : List (List ℕ)) → ArraysHold p c.args.supports.now c.args.tables.now c.args.numbers.now → Blocked p gs c.args.numbers.now →
    BeforeFixpoint p gs c.loop-old.work c.args.numbers.now c.loop-old.sets c.args.k 0 0 → AllFilteredOr p c.args.k c.loop-old.work c.loop-old.sets c.filters.new.work c.filters.new.sets false =
    λ p gs s b n. subst (AllFilteredOr p _ _ _ _ _) c.if-filters.false (c.filters.ensures p _ s n.startable.prefix_held n.startable.live n.startable.marking) in
    let turned : (p : Problem) (gs : List (List ℕ)) → ArraysHold p c.args.supports.now c.args.tables.now c.args.numbers.now → Blocked p gs c.args.numbers.now →
    BeforeFixpoint p gs c.loop-old.work c.args.numbers.now c.loop-old.sets c.args.k 0 0 →
    BeforeFixpoint p gs c.filters.new.work c.args.numbers.now c.filters.new.sets c.args.k c.touched-left.result (bit_and c.difference-changed.result (at c.args.numbers.now LINKED)) =
    λ p gs s b n. let f = all_filtered p gs s b n in fixpoint_turn s b n (f.all_filtered refl) (f.marking refl) f.kept
    c.difference-changed.ensures c.touched-left.ensures refl in
    λ p gs s b n₀.
    let i = c.loop-old.invariant p gs s b n₀ in
    let f = all_filtered p gs s b i.0 in
    let t = turned p gs s b i.0 in
    (constrained_done s b t ((c.constrain.ensures p s t.startable.pending).all_constrained c.if-constrain.false), kept_trans _ _ _ _ i.1 f.kept)

pub overflow_shl-settled : goal.overflow_shl-settled
overflow_shl-settled c =
    let few : c.args.k < 64 = omega (arith, c.requires.4.startable.prefix_held.depth, c.requires.2.well_formed.few) in
    few

pub overflow_sub-settled : goal.overflow_sub-settled
overflow_sub-settled c =
    let few : c.args.k < 64 = omega (arith, c.requires.4.startable.prefix_held.depth, c.requires.2.well_formed.few) in
    some_one _ few
