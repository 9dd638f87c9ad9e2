-- The columns, in the place of the sets. Assumes nothing.
use Rattle.model.specs.Kit.{ap, ◌∙◌, ℕ, List, length, arith, rules}
use Rattle.model.specs.{Lists.at}
use Rattle.model.proofs.{Lists.at_replicate}
use Rattle.arrays.proofs.Copies.{filled_copied}
use Rattle.arrays_order.proofs.{Tables.column_of}
use Rattle.arrays_order.proofs.supports.transpose.Goals as goal

pub returns : goal.returns
returns c =
    let same = c.copy_from_slice.ensures.after in
    filled_copied c.args.supports.now _ c.args.base 16 _ (omega arith) (ap length same ∙ c.gather.ensures.0)
    (λ w l. column_of c.args.base w c.args.supports.now _ l (ap (λ (k : List ℕ). at k w) same ∙ c.gather.ensures.1 w l))

pub gather-requires : goal.gather-requires
gather-requires c = (search rules, λ w. at_replicate 16 w)
