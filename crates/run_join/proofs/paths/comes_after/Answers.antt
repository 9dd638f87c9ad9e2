-- `comes_after`: the order of slices is that of paths. Assumes nothing.
use Rattle.model.specs.Kit.{refl}
use Rattle.run_cut.specs.Parts.{after}
use Rattle.std.specs.Ordering.{nat_cmp, is_lt}
use Rattle.std.proofs.lemmas.Cmp.{same_from_slice_cmp_tested}
use Rattle.run_join.proofs.Slices.{after_pair}
use Rattle.run_join.proofs.paths.comes_after.Goals as goal

pub returns : goal.returns
unfolding after
returns c = same_from_slice_cmp_tested nat_cmp is_lt after refl (λ y ys. refl) (λ x xs. refl) after_pair c.args.a.now c.args.b.now c.lt.result c.lt.ensures
