-- `run_state::list_plan` meets its contract: proofs/Listing. Assumes nothing.
use Rattle.model.specs.Kit.{refl, arith}
use Rattle.model.specs.Lists.{at}
use Rattle.run_state.proofs.{Listing.one_more, Listing.full_now, Listing.kept_now}
use Rattle.run_state.proofs.list_plan.Goals as goal

pub returns-then-plans-numbers : goal.returns-then-plans-numbers
unfolding at
returns-then-plans-numbers c = record { listed = full_now _ _ _ _ _ c.requires.list_room c.if-plans-numbers.true; same_slice = (refl, refl) }

pub note-requires : goal.note-requires
unfolding at
note-requires c = record {
  list_room = (c.requires.list_room, c.if-plans-numbers.false);
  numbers_bound =
      (c.requires.numbers_bound.0, omega (arith, c.requires.numbers_bound.0, c.requires.numbers_bound.2), c.requires.numbers_bound.1, c.requires.numbers_bound.3);
}

pub overflow_add-work : goal.overflow_add-work
unfolding at
overflow_add-work c = omega (arith, one_more _ _ _ _ c.requires.list_room c.if-plans-numbers.false, c.requires.list_room.small)

pub returns : goal.returns
unfolding at
returns c = record { listed = kept_now _ _ _ _ _ c.requires.list_room _ c.requires.numbers_bound.2 c.if-plans-numbers.false c.note.ensures; same_slice = (refl, c.note.auto.list) }
