-- `word`: the bytes are read one by one. Assumes nothing.
use Rattle.model.specs.Kit.{arith}
use Rattle.list_merge.specs.Inner.Inner.{word_of}
use Rattle.list_merge.proofs.word.Goals as goal

pub returns : goal.returns
unfolding word_of
returns c = record { is = omega arith; bytes = λ i. omega (arith, c.shared_slice_known-5-1.given i) }
