-- Plans are listed once more. Assumes nothing.
use denote.Ref.{MutBor}
use Rattle.model.specs.Kit.{refl, ap, ◌∙◌, List, ℕ, arith, length}
use Rattle.model.specs.Lists.{at}
use denote.Ref.{at_last}
use Rattle.run_entry.proofs.{Copies.copy_none, Copies.copy_turn, Copies.copy_all, Copies.copy_counted, Copies.read_fits, Copies.room_loaded, Copies.bytes_loaded}
use Rattle.run_entry.proofs.copy.Goals as goal

pub overflow_add-work : goal.overflow_add-work
unfolding at
overflow_add-work c = omega (arith, c.requires.fits, c.requires.room.small)

pub returns-then-list-eq0 : goal.returns-then-list-eq0
unfolding at
returns-then-list-eq0 c = record { copied = copy_counted _ _ _ _ _ c.requires c.if-list-eq0.true; same_slice = (refl, refl) }

pub loop-r-init : goal.loop-r-init
unfolding at
loop-r-init c =
    (omega arith, refl, refl, refl, c.if-list-eq0.false, (refl, refl), copy_none _ _ _ _ _ c.requires c.if-list-eq0.false)

pub overflow_add-first-in-loop-r : goal.overflow_add-first-in-loop-r
unfolding at
overflow_add-first-in-loop-r c =
    omega (arith, c.requires.past, c.requires.room.listed, c.requires.room.small, c.loop-r.invariant.0, c.loop-r-test.true)

pub load-requires : goal.load-requires
unfolding at
load-requires c = (
  c.requires.inner,
  c.requires.few,
  c.loop-r.invariant.6.long ∙ c.requires.long,
  read_fits _ _ _ _ _ c.requires c.loop-r.invariant.4 c.loop-r.r _ _ c.loop-r.invariant.6 c.loop-r-test.true,
  c.requires.order,
)

pub list_plan-requires : goal.list_plan-requires
unfolding at
list_plan-requires c =
    record {
      list_room = room_loaded _ _ _ _ _ c.requires c.loop-r.invariant.4 c.loop-r.r _ _ c.loop-r.invariant.6 c.loop-r-test.true _ c.load.ensures.loaded _ c.load.ensures.list_unchanged;
      numbers_bound = (
        c.requires.few,
        bytes_loaded _ _ _ _ _ c.requires c.loop-r.invariant.4 c.loop-r.r _ _ c.loop-r.invariant.6 c.loop-r-test.true _ c.load.ensures.loaded,
        c.load.ensures.loaded.long ∙ c.loop-r.invariant.6.long ∙ c.requires.long,
        c.requires.order,
      );
    }

pub loop-r-preserved : goal.loop-r-preserved
unfolding at
loop-r-preserved c = (
  omega arith,
  c.loop-r.invariant.1,
  c.loop-r.invariant.2,
  c.loop-r.invariant.3,
  c.loop-r.invariant.4,
  (
    c.list_plan.ensures.same_slice.0 ∙ ap (λ (u : MutBor (List ℕ)). at_last u c.list_plan.new.list.now) c.loop-r.invariant.5.0,
    c.list_plan.ensures.same_slice.1
        ∙ ap length c.load.ensures.list_unchanged ∙ c.loop-r.invariant.5.1,
  ),
  copy_turn _ _ _ _ _ c.requires c.loop-r.invariant.4 c.loop-r.r _ _ c.loop-r.invariant.6 c.loop-r-test.true _ c.load.ensures.loaded _ c.load.ensures.list_unchanged _ _ _
      c.list_plan.ensures.listed,
)

pub returns : goal.returns
unfolding at
returns c = record {
  copied = copy_all _ _ _ _ _ c.requires c.loop-r.invariant.4 c.loop-r.r _ _ c.loop-r.invariant.6 (omega (arith, c.loop-r.invariant.0, c.loop-r-test.false));
  same_slice =
      c.loop-r.invariant.5;
}
