-- `run_state::note` meets its contract: proofs/Listing. Assumes nothing.
use Rattle.model.specs.Kit.{sym, ◌∙◌, arith, eqb-true, eqb-false}
use Rattle.model.specs.Lists.{at}
use Rattle.run_state.proofs.{Walk.noted_none, Walk.noted_over, Listing.fits_bytes}
use Rattle.run_state.proofs.note.Goals as goal

pub returns-then-is_empty : goal.returns-then-is_empty
returns-then-is_empty c = sym (noted_none _ _ _ (eqb-true _ 0 (sym c.is_empty.ensures ∙ c.if-is_empty.true)))

pub overflow_mul-plans : goal.overflow_mul-plans
unfolding at
overflow_mul-plans c = omega (arith, fits_bytes _ _ _ _ c.requires.list_room.0 c.requires.list_room.1 (eqb-false _ 0 (sym c.is_empty.ensures ∙ c.if-is_empty.false)), c.well_formed.0.0)

pub keep-requires : goal.keep-requires
unfolding at
keep-requires c = record {
  n_bound = (c.requires.numbers_bound.0, c.requires.numbers_bound.1, fits_bytes _ _ _ _ c.requires.list_room.0 c.requires.list_room.1 (eqb-false _ 0 (sym c.is_empty.ensures ∙ c.if-is_empty.false)));
  by_index =
      (c.requires.numbers_bound.2, c.requires.numbers_bound.3);
}

pub returns : goal.returns
unfolding at
returns c = c.keep.ensures ∙ sym (noted_over _ _ _ (eqb-false _ 0 (sym c.is_empty.ensures ∙ c.if-is_empty.false)))
