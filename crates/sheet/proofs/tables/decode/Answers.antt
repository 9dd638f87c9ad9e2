use Rattle.model.specs.Kit.{arith}
use Rattle.model.proofs.Filling.{filled_begin}
use Rattle.sheet.proofs.{DecodeTurn.coded, DecodeTurn.decode_more, DecodeTurn.decode_end}
use Rattle.sheet.proofs.tables.decode.Goals as goal

pub pair_code-requires : goal.pair_code-requires
pair_code-requires c = coded _ _ _ _ _ _ c.requires _ (omega
    (arith, c.read_word-y.ensures, c.requires.pairs c.loop-q.q (omega arith)))

pub loop-q-preserved : goal.loop-q-preserved
loop-q-preserved c = (
  omega (arith),
  decode_more _ _ _ _ _ _ c.requires _ _ _ _ _
      (omega arith) c.read_word-y.ensures c.pair_code-in-loop-q.ensures c.pair_code.ensures.0
      c.loop-q.invariant.1,
)

pub returns : goal.returns
returns c = decode_end _ _ _ _ _ _ _ _ (omega arith) c.loop-q.invariant.0 c.loop-q.invariant.1

pub pair_code-requires-in-loop-q : goal.pair_code-requires-in-loop-q
pair_code-requires-in-loop-q c = coded _ _ _ _ _ _ c.requires _ (omega arith)
