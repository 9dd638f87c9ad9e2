-- The loop: the numbers below q stay.
use Rattle.model.specs.Kit.{◌*◌, ◌<◌, arith}
use Rattle.model.specs.{Lists.at, Problem.symmetry_at}
use Rattle.families_closed.proofs.Codes.{held_bounds, held_size, goes_lt, goes_asked, goes_is, stay_turn, stay_not, stay_all, and_last}
use Rattle.families_closed.proofs.Symmetries.moves_none.Goals as goal

pub loop-q-init : goal.loop-q-init
loop-q-init c = λ p n la lb k l. absurd (omega arith)

pub goes-requires : goal.goes-requires
goes-requires c =
    goes_asked c.requires.1 c.args.a c.requires.2 c.loop-q.q c.code-place.result (omega arith) c.code-place.ensures

pub goes-requires-in-loop-q : goal.goes-requires-in-loop-q
goes-requires-in-loop-q c =
    goes_asked c.requires.1 c.args.b c.requires.3 (at (symmetry_at c.requires.0 c.args.a) c.loop-q.q) c.goes.result (goes_lt c.requires.1 c.args.a c.requires.2 c.loop-q.q (omega arith))
    (goes_is c.requires.1 c.args.a c.requires.2 c.loop-q.q c.code-place.result c.goes.result (omega arith) c.code-place.ensures c.goes.ensures)

pub returns-then-goes-place : goal.returns-then-goes-place
returns-then-goes-place c = λ p n la lb.
    let l : c.loop-q.q < c.args.self.now.variables * c.args.self.now.values = omega arith in
    let f = goes_is n _ la c.loop-q.q _ c.goes.result l c.code-place.ensures c.goes.ensures in
    let y = goes_is n _ lb _ c.goes.result c.goes-in-loop-q.result (goes_lt n _ la c.loop-q.q l) f c.goes-in-loop-q.ensures in
    stay_not n _ _ la lb c.loop-q.q _ l y c.code-place.result c.code-place.ensures c.if-goes-place.true

pub loop-q-preserved : goal.loop-q-preserved
loop-q-preserved c =
    λ p n la lb.
    let l : c.loop-q.q < c.args.self.now.variables * c.args.self.now.values = omega arith in
    let f = goes_is n _ la c.loop-q.q _ c.goes.result l c.code-place.ensures c.goes.ensures in
    let y = goes_is n _ lb _ c.goes.result c.goes-in-loop-q.result (goes_lt n _ la c.loop-q.q l) f c.goes-in-loop-q.ensures in
    and_last c.loop-q.q _ (c.loop-q.invariant p n la lb) (stay_turn n _ _ la lb c.loop-q.q _ l y c.code-place.result
    c.code-place.ensures c.if-goes-place.false)

pub returns : goal.returns
returns c = λ p n la lb. stay_all n _ _ la lb c.loop-q.q (omega arith) (c.loop-q.invariant p n la lb)

pub overflow_mul-q-end : goal.overflow_mul-q-end
overflow_mul-q-end c = omega (arith, held_size c.requires.1)

pub code-place-requires : goal.code-place-requires
code-place-requires c = ((held_bounds c.requires.1).0, omega (arith, held_size c.requires.1))
