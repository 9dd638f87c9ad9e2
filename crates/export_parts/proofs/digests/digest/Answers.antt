-- `digest`: after i turns it is the digest of the first i bytes. Assumes nothing.
use Rattle.model.specs.Kit.{arith}
use Rattle.export_parts.proofs.{Pieces.digest_none, Pieces.digest_turn, Pieces.digest_all}
use Rattle.export_parts.proofs.digests.digest.Goals as goal

pub loop-byte-init : goal.loop-byte-init
loop-byte-init c = (omega arith, digest_none c.args.base)

pub loop-byte-preserved : goal.loop-byte-preserved
loop-byte-preserved c = (
  c.with_byte-h.ensures.1,
  digest_turn c.args.base c.loop-byte.byte-index c.loop-byte.h c.wide.result c.with_byte-h.result c.args.bytes.now (omega arith) c.loop-byte.invariant.1
      c.wide.ensures.0 c.with_byte-h.ensures.0,
)

pub returns : goal.returns
returns c =
    (digest_all c.args.base c.loop-byte.byte-index c.loop-byte.h c.args.bytes.now (omega arith) c.loop-byte.invariant.1, c.loop-byte.invariant.0)
