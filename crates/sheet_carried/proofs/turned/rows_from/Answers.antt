use Rattle.model.specs.Kit.{sym, subst, ◌<◌, arith, T}
use Rattle.model.specs.Problem.{Problem}
use Rattle.sheet_table.specs.Inner.Forbidden.{Three, Two}
use Rattle.sheet_carried.proofs.{Wholes.three_in, Wholes.whole_up, Wholes.whole_down}
use Rattle.sheet_carried.proofs.turned.rows_from.Goals as goal

pub returns-then-y-z : goal.returns-then-y-z
returns-then-y-z c =
    let ready : (p : Problem) → Three p c.args.numbers.now c.args.supports.now c.args.m c.args.x c.args.y c.args.z → Two p c.args.numbers.now c.args.x c.args.z × (c.args.y < p.variables) =
    λ p h. let i = three_in p _ _ c.args.moves.now _ c.args.k _ _ _ h c.requires.2 c.requires.3 in ((h.ready.framed, i.0, i.2), i.1) in
    λ q p h. let r = ready p h in whole_up p _ _ _ _ _ _ _ _ h c.requires.2 c.requires.3 c.if-y-z.true (c.seconds_from.ensures q p r.0 r.1)

pub returns-then-z-y : goal.returns-then-z-y
returns-then-z-y c =
    let ready : (p : Problem) → Three p c.args.numbers.now c.args.supports.now c.args.m c.args.x c.args.y c.args.z → Two p c.args.numbers.now c.args.x c.args.z × (c.args.y < p.variables) =
    λ p h. let i = three_in p _ _ c.args.moves.now _ c.args.k _ _ _ h c.requires.2 c.requires.3 in ((h.ready.framed, i.0, i.2), i.1) in
    λ q p h. let r = ready p h in whole_down p _ _ _ _ _ _ _ _ h c.requires.2 c.requires.3 c.if-z-y.true (c.seconds_from-then-z-y.ensures q p r.0 r.1)

pub seconds_from-requires : goal.seconds_from-requires
seconds_from-requires c =
    let ready : (p : Problem) → Three p c.args.numbers.now c.args.supports.now c.args.m c.args.x c.args.y c.args.z → Two p c.args.numbers.now c.args.x c.args.z × (c.args.y < p.variables) =
    λ p h. let i = three_in p _ _ c.args.moves.now _ c.args.k _ _ _ h c.requires.2 c.requires.3 in ((h.ready.framed, i.0, i.2), i.1) in
    let room : c.args.m < 32 = omega (arith, c.requires.0.1.inside, c.requires.0.1.ready.framed.stated.most) in
    let r = ready c.requires.0.0 c.requires.0.1 in ((c.requires.0.0, r.0, r.1), c.requires.1, omega (arith, room), c.requires.4)

pub seconds_from-requires-then-z-y : goal.seconds_from-requires-then-z-y
seconds_from-requires-then-z-y c =
    let ready : (p : Problem) → Three p c.args.numbers.now c.args.supports.now c.args.m c.args.x c.args.y c.args.z → Two p c.args.numbers.now c.args.x c.args.z × (c.args.y < p.variables) =
    λ p h. let i = three_in p _ _ c.args.moves.now _ c.args.k _ _ _ h c.requires.2 c.requires.3 in ((h.ready.framed, i.0, i.2), i.1) in
    let room : c.args.m < 32 = omega (arith, c.requires.0.1.inside, c.requires.0.1.ready.framed.stated.most) in
    let r = ready c.requires.0.0 c.requires.0.1 in ((c.requires.0.0, r.0, r.1), c.requires.1, omega (arith, room), c.requires.4)
