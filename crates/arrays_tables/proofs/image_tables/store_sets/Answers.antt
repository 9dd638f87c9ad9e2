-- A part of the tables. Assumes nothing.
use Rattle.model.specs.Kit.{ap, ◌∙◌, List, ℕ, arith, length}
use Rattle.model.specs.Lists.{at}
use Rattle.arrays.proofs.Copies.{filled_copied}
use Rattle.arrays_tables.proofs.image_tables.store_sets.Goals as goal

pub returns : goal.returns
returns c =
    let same = c.copy_from_slice.ensures.after in
    filled_copied c.args.tables.now _ c.args.from 16 _ (omega arith) (ap length same ∙ c.told-sets) (λ v l. ap (λ (k : List ℕ). at k v) same)
