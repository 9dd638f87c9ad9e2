-- `eight`: the bytes are read one by one. Assumes nothing.
use Rattle.model.specs.Kit.{arith}
use Rattle.list_merge.specs.Inner.Inner.{eight_of}
use Rattle.list_merge.proofs.eight.Goals as goal

pub returns : goal.returns
unfolding eight_of
returns c = record { is = omega arith; bytes = λ i. omega (arith, c.shared_slice_known-9-1.given i) }
