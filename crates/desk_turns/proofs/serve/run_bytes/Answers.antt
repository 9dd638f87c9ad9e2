-- `run_bytes`: after i turns of the loop the first i values of the last node stand behind the figures. Assumes nothing.
use Rattle.model.specs.Kit.{◌≡◌, refl, ap, ◌∙◌, ◌+◌, arith, length}
use Rattle.model.specs.Lists.{at}
use Rattle.model.proofs.Filling.{filled_begin, filled_turn, filled_end}
use Rattle.desk_turns.proofs.{Telling.begun_is, Telling.told}
use Rattle.desk_turns.proofs.serve.run_bytes.Goals as goal

pub overflow_cast-bytes-2 : goal.overflow_cast-bytes-2
unfolding at
overflow_cast-bytes-2 c = omega (arith, c.requires.1.few)

pub overflow_cast-bytes-3 : goal.overflow_cast-bytes-3
unfolding at
overflow_cast-bytes-3 c = omega (arith, c.requires.1.short)

pub loop-i-init : goal.loop-i-init
loop-i-init c = filled_begin _ _ _

pub offset_bounds-work-i : goal.offset_bounds-work-i
unfolding at
offset_bounds-work-i c = omega (arith, c.requires.1.short)

pub bounds-work-i : goal.bounds-work-i
unfolding at
bounds-work-i c = omega (arith, c.requires.1.short)

pub overflow_cast-bytes-in-loop-i : goal.overflow_cast-bytes-in-loop-i
unfolding at
overflow_cast-bytes-in-loop-i c = omega (arith, c.requires.1.bytes c.loop-i.i (omega arith))

pub overflow_add-bytes-in-loop-i : goal.overflow_add-bytes-in-loop-i
unfolding at
overflow_add-bytes-in-loop-i c = omega (arith, c.requires.1.short)

pub bounds-bytes-i : goal.bounds-bytes-i
unfolding at
bounds-bytes-i c = omega (arith, c.requires.1.short)

pub loop-i-preserved : goal.loop-i-preserved
unfolding at
loop-i-preserved c =
    filled_turn (λ j. 8 + j) _ _ _ c.loop-i.i _ _ c.loop-i.invariant refl
    (let n : length c.loop-i.bytes ≡ 20 = c.loop-i.invariant.size ∙ ap length (begun_is _ _ _ _ _ c.four.ensures.bytes) in
    omega (arith, n, c.requires.1.short)) (λ v l e. omega arith) refl

pub returns : goal.returns
unfolding at
returns c = λ h s.
    told h _ _ _ _ _ s (begun_is _ _ _ _ _ c.four.ensures.bytes)
    (filled_end (λ j. 8 + j) _ _ _ _ c.loop-i.i (omega arith) (omega arith) c.loop-i.invariant)

pub four-requires : goal.four-requires
four-requires c = (omega arith, omega (arith, c.requires.1.narrow))
