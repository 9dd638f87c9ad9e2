use Rattle.model.specs.Kit.{◌≡◌, ◌-◌, ◌≤◌, length}
use Rattle.order.specs.Reordered.{earlier_by}
use Rattle.list_merge.proofs.{Reading.onwards}
use Rattle.list_merge.proofs.by_places.Given as goal

abbrev pub invariant-loop-i : goal.invariant-loop-i
invariant-loop-i l = (l.i ≤ length l.order) × (earlier_by l.order l.a l.b ≡ onwards l.order l.a l.b l.i) × (earlier_by l.order l.b l.a ≡ onwards l.order l.b l.a l.i)

abbrev pub decreases-loop-i : goal.decreases-loop-i
decreases-loop-i l = length l.order - l.i
