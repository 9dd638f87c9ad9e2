-- `load`: after i turns the first i words are read. Assumes nothing.
use Rattle.model.specs.Kit.{◌≡◌, refl, ◌+◌, ◌*◌, arith, get_or, length-set}
use Rattle.export_filter.proofs.{SetBytes.stored_more, SetBytes.loaded}
use Rattle.export_filter.proofs.sets.load.Goals as goal

pub loop-i-init : goal.loop-i-init
loop-i-init c = (refl, λ k l. absurd (omega arith))

pub loop-i-preserved : goal.loop-i-preserved
loop-i-preserved c = (
  simp length-set c.loop-i.invariant.0,
  stored_more (λ k x. x ≡ get_or c.args.sets.now (2 * k) 0 + 256 * get_or c.args.sets.now (2 * k + 1) 0) c.loop-i.words c.loop-i.i c.word.result (omega arith) c.loop-i.invariant.1
      c.word.ensures,
)

pub returns : goal.returns
returns c =
    loaded c.args.sets.now c.loop-i.words (omega arith) (λ k h. c.loop-i.invariant.1 k (omega arith))

pub overflow_mul-at : goal.overflow_mul-at
overflow_mul-at c = omega arith

pub bounds-sets-at : goal.bounds-sets-at
bounds-sets-at c = omega arith

pub overflow_add-at : goal.overflow_add-at
overflow_add-at c = omega arith

pub bounds-sets-at-in-loop-i : goal.bounds-sets-at-in-loop-i
bounds-sets-at-in-loop-i c = omega arith

pub shape_of-words : goal.shape_of-words
shape_of-words c = c.loop-i.invariant.0
