-- The loop: the product so far is k!. Assumes nothing.
use Rattle.model.specs.Kit.{◌≡◌, refl, subst, ℕ, ◌+◌, arith}
use Rattle.block.specs.Block.{factorial}
use Rattle.block.proofs.Orderings.{factorial_le}
use Rattle.arrays_block.proofs.{Asking.next_row}
use Rattle.arrays_block.proofs.row_count.Goals as goal

pub loop-k-init : goal.loop-k-init
unfolding factorial
loop-k-init c = (omega arith, omega arith, refl)

pub overflow_mul-count : goal.overflow_mul-count
overflow_mul-count c =
    let e = next_row c.loop-k.k c.loop-k.count c.loop-k.invariant.2 in
    let l = factorial_le (c.loop-k.k + 1) (omega arith, omega arith) in
    omega arith

pub loop-k-preserved : goal.loop-k-preserved
loop-k-preserved c = (omega arith, omega arith, next_row _ _ c.loop-k.invariant.2)

pub returns : goal.returns
returns c =
    let e : c.loop-k.k ≡ c.args.m = omega arith in
    let z = subst (λ (k : ℕ). c.loop-k.count ≡ factorial k) e c.loop-k.invariant.2 in
    (z, (let l = factorial_le c.args.m c.requires in omega arith))
