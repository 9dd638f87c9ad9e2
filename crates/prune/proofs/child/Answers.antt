-- The sets and marks of depth k, with one value kept of variable k's set and the block's later variables cut, are on the way to those of the longer prefix.
-- Assumes nothing.
use Rattle.model.specs.Kit.{refl, [], arith}
use Rattle.model.specs.Lists.{at}
use Rattle.std.proofs.lemmas.Option.{MatchOption-at_none, MatchOption-at_some}
use Rattle.prune.proofs.Starts.{arrays_hold, blocked, value_small, child_startable, child_later, child_on_way, child_dead, child_live}
use Rattle.prune.proofs.{ChildCut.whole_is, ChildCut.cut_dead, ChildCut.cut_sets_are, ChildCut.cut_before, ChildCut.cut_last}
use Rattle.prune.proofs.child.Goals as goal

pub cut_later-requires : goal.cut_later-requires
unfolding at
cut_later-requires c =
    let s = (child_startable c.requires.2 _ c.copy_marks.ensures c.load.new.sets c.load.ensures _ _ _
    c.only-one.ensures c.due-todo.ensures c.due-dirty.ensures) in
    (s.live.sixteen, omega (arith, c.requires.2.room, c.requires.2.ready.well_formed.few), omega arith, λ y t. omega (arith, c.requires.2.ready.block_few y t, c.requires.2.ready.well_formed.few))

pub returns-in_default : goal.returns-in_default
unfolding at
returns-in_default c =
    λ p gs a.
    let s = (child_startable a _ c.copy_marks.ensures
    c.load.new.sets
    c.load.ensures _ _ _ c.only-one.ensures
    c.due-todo.ensures c.due-dirty.ensures) in
    child_dead a _ c.copy_marks.ensures [] _ _
    (cut_dead (arrays_hold a.ready) (blocked a.ready) s.live _ _ (MatchOption-at_none _ _ c.in_default.is c.cut_later.ensures)
    (child_on_way a _ c.copy_marks.ensures
    c.load.new.sets
    c.load.ensures _ _ _ c.only-one.ensures
    c.due-todo.ensures c.due-dirty.ensures _ _ refl
    (whole_is (arrays_hold a.ready) (blocked a.ready) s.live _ _)).0 []) refl

pub fixpoint-dead-requires : goal.fixpoint-dead-requires
unfolding at
fixpoint-dead-requires c =
    let s = (child_startable c.requires.2 _ c.copy_marks.ensures
    c.load.new.sets
    c.load.ensures _ _ _ c.only-one.ensures
    c.due-todo.ensures c.due-dirty.ensures) in
    let w = (child_on_way c.requires.2 _ c.copy_marks.ensures
    c.load.new.sets
    c.load.ensures _ _ _ c.only-one.ensures
    c.due-todo.ensures c.due-dirty.ensures _ _ refl
    (cut_sets_are (arrays_hold c.requires.2.ready) (blocked c.requires.2.ready) s.live _ _ (MatchOption-at_some _ _ _ c.in-Some.is c.cut_later.ensures))) in
    let n = cut_before (arrays_hold c.requires.2.ready) (blocked c.requires.2.ready) s.live _ _ (MatchOption-at_some _ _ _ c.in-Some.is c.cut_later.ensures) s
    c.touched.ensures refl refl w in
    let l = cut_last (arrays_hold c.requires.2.ready) (blocked c.requires.2.ready) s.live _ _ (MatchOption-at_some _ _ _ c.in-Some.is c.cut_later.ensures) s
    c.touched.ensures refl refl (value_small c.requires.2 _ c.copy_marks.ensures)
    (child_later c.requires.2 _ c.copy_marks.ensures
    c.load.new.sets
    c.load.ensures _ _ _ c.only-one.ensures
    c.due-todo.ensures c.due-dirty.ensures) in
    (_, _, arrays_hold c.requires.2.ready, blocked c.requires.2.ready, n, l)

pub returns-then-dead : goal.returns-then-dead
unfolding at
returns-then-dead c =
    λ p gs a.
    let s = (child_startable a _ c.copy_marks.ensures
    c.load.new.sets
    c.load.ensures _ _ _ c.only-one.ensures
    c.due-todo.ensures c.due-dirty.ensures) in
    let w = (child_on_way a _ c.copy_marks.ensures
    c.load.new.sets
    c.load.ensures _ _ _ c.only-one.ensures
    c.due-todo.ensures c.due-dirty.ensures _ _ refl
    (cut_sets_are (arrays_hold a.ready) (blocked a.ready) s.live _ _ (MatchOption-at_some _ _ _ c.in-Some.is c.cut_later.ensures))) in
    let n = cut_before (arrays_hold a.ready) (blocked a.ready) s.live _ _ (MatchOption-at_some _ _ _ c.in-Some.is c.cut_later.ensures) s
    c.touched.ensures refl refl w in
    child_dead a _ c.copy_marks.ensures _ _ _
    (c.fixpoint-dead.ensures p gs (arrays_hold a.ready) (blocked a.ready) n) c.if-dead.true

pub overflow_add-k-3 : goal.overflow_add-k-3
overflow_add-k-3 c =
    omega (arith, c.requires.2.room, c.requires.2.ready.well_formed.few)

pub store-requires : goal.store-requires
store-requires c =
    (omega (arith, c.requires.2.room, c.requires.2.ready.well_formed.few), c.requires.2.ready.stack_length)

pub returns : goal.returns
unfolding at
returns c =
    λ p gs a.
    let s = (child_startable a _ c.copy_marks.ensures
    c.load.new.sets
    c.load.ensures _ _ _ c.only-one.ensures
    c.due-todo.ensures c.due-dirty.ensures) in
    let w = (child_on_way a _ c.copy_marks.ensures
    c.load.new.sets
    c.load.ensures _ _ _ c.only-one.ensures
    c.due-todo.ensures c.due-dirty.ensures _ _ refl
    (cut_sets_are (arrays_hold a.ready) (blocked a.ready) s.live _ _ (MatchOption-at_some _ _ _ c.in-Some.is c.cut_later.ensures))) in
    let n = cut_before (arrays_hold a.ready) (blocked a.ready) s.live _ _ (MatchOption-at_some _ _ _ c.in-Some.is c.cut_later.ensures) s
    c.touched.ensures refl refl w in
    child_live a _ c.copy_marks.ensures _ _ _ _
    (c.fixpoint-dead.ensures p gs (arrays_hold a.ready) (blocked a.ready) n) c.if-dead.false c.store.ensures
