-- `read_long`: two words. Assumes nothing.
use Rattle.model.specs.Kit.{ap₂, ℕ, ◌+◌, ◌*◌, arith, rules}
use Rattle.model.specs.Lists.{at}
use Rattle.desk.specs.Inner.Layout.{long}
use Rattle.desk.proofs.{Slots.word_small}
use Rattle.desk.proofs.read_long.Goals as goal

pub overflow_mul-result : goal.overflow_mul-result
unfolding at
overflow_mul-result c =
    let y = word_small c.args.queue.now (λ i. omega (arith, c.shared_slice_known-1.given i)) (c.args.at + 2) in
    search (rules, y, c.read_word-2.ensures)

pub overflow_add-result : goal.overflow_add-result
unfolding at
overflow_add-result c =
    let x = word_small c.args.queue.now (λ i. omega (arith, c.shared_slice_known-1.given i)) c.args.at in
    let y = word_small c.args.queue.now (λ i. omega (arith, c.shared_slice_known-1.given i)) (c.args.at + 2) in
    search (rules, x, y, c.read_word.ensures, c.read_word-2.ensures)

pub returns : goal.returns
unfolding long
returns c = ap₂ (λ (x y : ℕ). x + 65536 * y) c.read_word.ensures c.read_word-2.ensures
