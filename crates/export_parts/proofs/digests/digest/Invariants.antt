use Rattle.model.specs.Kit.{◌≡◌, ◌<◌, take}
use Rattle.export_parts.specs.Head.{digest}
use Rattle.export_parts.proofs.digests.digest.Given as goal

abbrev pub invariant-loop-byte : goal.invariant-loop-byte
invariant-loop-byte l = (l.h < 2147483647) × (l.h ≡ digest l.base (take l.byte-index l.bytes))
