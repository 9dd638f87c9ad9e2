-- All constraints are due, and then every filter from its first level on. Assumes nothing.
use Rattle.model.specs.Kit.{refl, List, ℕ, arith}
use Rattle.model.specs.{Lists.at, Problem.Problem}
use Rattle.arrays.specs.Inner.Places.{LINKED}
use Rattle.prune.specs.{Inner.Node.Ready, Inner.Steps.BeforeFixpoint, Inner.Steps.Unpruned}
use Rattle.prune.proofs.Starts.{some_few, some_one, arrays_hold, blocked, unpruned_few, unpruned_start, unpruned_dead, unpruned_live}
use Rattle.prune.proofs.{FixpointLoop.constrained_dead, FixpointLoop.constrained_done}
use Rattle.prune.proofs.prune_all.Goals as goal

pub overflow_shl-numbers : goal.overflow_shl-numbers
unfolding at
overflow_shl-numbers c = some_few c.requires.2

pub overflow_sub-numbers : goal.overflow_sub-numbers
unfolding at
overflow_sub-numbers c = some_one _ (some_few c.requires.2)

pub overflow_sub-settled : goal.overflow_sub-settled
unfolding at
overflow_sub-settled c = let h = unpruned_few c.requires.2 c.requires.3 in some_one _ (omega arith)

pub constrain-requires : goal.constrain-requires
unfolding at
constrain-requires c =
    let started : (p : Problem) (gs : List (List ℕ)) → Ready p gs c.args.stack.now c.args.work.now c.args.supports.now c.args.tables.now c.args.numbers.now →
    Unpruned p gs c.args.work.now c.args.numbers.now c.args.sets.now c.args.k →
    BeforeFixpoint p gs c.clear_marks.new.work c.args.numbers.now c.args.sets.now c.args.k c.touched-todo.result (at c.args.numbers.now LINKED) =
    λ p gs r n. unpruned_start r n _ refl _ c.touched-todo.ensures _ c.clear_marks.ensures in
    (c.requires.0, arrays_hold c.requires.2, (started c.requires.0 c.requires.1 c.requires.2 c.requires.3).startable.pending)

pub returns-then-constrain : goal.returns-then-constrain
unfolding at
returns-then-constrain c =
    let started : (p : Problem) (gs : List (List ℕ)) → Ready p gs c.args.stack.now c.args.work.now c.args.supports.now c.args.tables.now c.args.numbers.now →
    Unpruned p gs c.args.work.now c.args.numbers.now c.args.sets.now c.args.k →
    BeforeFixpoint p gs c.clear_marks.new.work c.args.numbers.now c.args.sets.now c.args.k c.touched-todo.result (at c.args.numbers.now LINKED) =
    λ p gs r n. unpruned_start r n _ refl _ c.touched-todo.ensures _ c.clear_marks.ensures in
    λ p gs r n.
    let b = started p gs r n in
    unpruned_dead r n _ refl _ c.touched-todo.ensures _ c.clear_marks.ensures c.constrain.new.sets _ _
    (constrained_dead (arrays_hold r) (blocked r) b _ ((c.constrain.ensures p (arrays_hold r) b.startable.pending).ended c.if-constrain.true)) refl

pub alternate-requires : goal.alternate-requires
unfolding at
alternate-requires c =
    let started : (p : Problem) (gs : List (List ℕ)) → Ready p gs c.args.stack.now c.args.work.now c.args.supports.now c.args.tables.now c.args.numbers.now →
    Unpruned p gs c.args.work.now c.args.numbers.now c.args.sets.now c.args.k →
    BeforeFixpoint p gs c.clear_marks.new.work c.args.numbers.now c.args.sets.now c.args.k c.touched-todo.result (at c.args.numbers.now LINKED) =
    λ p gs r n. unpruned_start r n _ refl _ c.touched-todo.ensures _ c.clear_marks.ensures in
    let rested : (p : Problem) (gs : List (List ℕ)) → Ready p gs c.args.stack.now c.args.work.now c.args.supports.now c.args.tables.now c.args.numbers.now →
    Unpruned p gs c.args.work.now c.args.numbers.now c.args.sets.now c.args.k → BeforeFixpoint p gs c.clear_marks.new.work c.args.numbers.now c.constrain.new.sets c.args.k 0 0 =
    λ p gs r n. let b = started p gs r n in
    constrained_done (arrays_hold r) (blocked r) b ((c.constrain.ensures p (arrays_hold r) b.startable.pending).all_constrained c.if-constrain.false) in
    (c.requires.0, c.requires.1, arrays_hold c.requires.2, blocked c.requires.2, rested c.requires.0 c.requires.1 c.requires.2 c.requires.3)

pub returns-then-alternate : goal.returns-then-alternate
unfolding at
returns-then-alternate c =
    let started : (p : Problem) (gs : List (List ℕ)) → Ready p gs c.args.stack.now c.args.work.now c.args.supports.now c.args.tables.now c.args.numbers.now →
    Unpruned p gs c.args.work.now c.args.numbers.now c.args.sets.now c.args.k →
    BeforeFixpoint p gs c.clear_marks.new.work c.args.numbers.now c.args.sets.now c.args.k c.touched-todo.result (at c.args.numbers.now LINKED) =
    λ p gs r n. unpruned_start r n _ refl _ c.touched-todo.ensures _ c.clear_marks.ensures in
    let rested : (p : Problem) (gs : List (List ℕ)) → Ready p gs c.args.stack.now c.args.work.now c.args.supports.now c.args.tables.now c.args.numbers.now →
    Unpruned p gs c.args.work.now c.args.numbers.now c.args.sets.now c.args.k → BeforeFixpoint p gs c.clear_marks.new.work c.args.numbers.now c.constrain.new.sets c.args.k 0 0 =
    λ p gs r n. let b = started p gs r n in
    constrained_done (arrays_hold r) (blocked r) b ((c.constrain.ensures p (arrays_hold r) b.startable.pending).all_constrained c.if-constrain.false) in
    λ p gs r n.
    unpruned_dead r n _ refl _ c.touched-todo.ensures _ c.clear_marks.ensures _ _ _
    (c.alternate.ensures p gs (arrays_hold r) (blocked r) (rested p gs r n)) c.if-alternate.true

pub returns : goal.returns
unfolding at
returns c =
    let started : (p : Problem) (gs : List (List ℕ)) → Ready p gs c.args.stack.now c.args.work.now c.args.supports.now c.args.tables.now c.args.numbers.now →
    Unpruned p gs c.args.work.now c.args.numbers.now c.args.sets.now c.args.k →
    BeforeFixpoint p gs c.clear_marks.new.work c.args.numbers.now c.args.sets.now c.args.k c.touched-todo.result (at c.args.numbers.now LINKED) =
    λ p gs r n. unpruned_start r n _ refl _ c.touched-todo.ensures _ c.clear_marks.ensures in
    let rested : (p : Problem) (gs : List (List ℕ)) → Ready p gs c.args.stack.now c.args.work.now c.args.supports.now c.args.tables.now c.args.numbers.now →
    Unpruned p gs c.args.work.now c.args.numbers.now c.args.sets.now c.args.k → BeforeFixpoint p gs c.clear_marks.new.work c.args.numbers.now c.constrain.new.sets c.args.k 0 0 =
    λ p gs r n. let b = started p gs r n in
    constrained_done (arrays_hold r) (blocked r) b ((c.constrain.ensures p (arrays_hold r) b.startable.pending).all_constrained c.if-constrain.false) in
    λ p gs r n.
    unpruned_live r n _ refl _ c.touched-todo.ensures _ c.clear_marks.ensures _ _ _ _
    (c.alternate.ensures p gs (arrays_hold r) (blocked r) (rested p gs r n)) c.if-alternate.false c.store.ensures
