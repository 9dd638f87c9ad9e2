use Rattle.model.specs.Kit.{◌≡◌, ◌*◌, ◌≤◌, length, drop}
use Rattle.std.specs.Slice.Iter.{chunks_exact_size, chunks_exact_rest}
use Rattle.order.specs.Inner.Settled.{Befores}
use Rattle.order.proofs.forerunners.Given as goal

abbrev pub invariant-loop-pair : goal.invariant-loop-pair
invariant-loop-pair l =
    (chunks_exact_size l.pair-iterator ≡ 2) × (chunks_exact_rest l.pair-iterator ≡ drop (2 * length l.yielded) l.pairs) × (2 * length l.yielded ≤ length l.pairs)
    × Befores l.pairs (length l.yielded) l.befores
