use Rattle.model.specs.Kit.{◌+◌, ◌<◌, arith}
use Rattle.model.specs.Problem.{Problem}
use Rattle.sheet_table.specs.{Inner.Table.Framed}
use Rattle.sheet_table.proofs.{Targets.blank_moves, Targets.moving_none, Targets.moving_more, Targets.moved_all}
use Rattle.sheet_table.proofs.moves.targets.Goals as goal

pub loop-x-init : goal.loop-x-init
loop-x-init c = (c.requires.1, λ p f d b. (omega arith, moving_none p f.stated _ _ b))

pub loop-x-preserved : goal.loop-x-preserved
loop-x-preserved c =
    let inside : (p : Problem) → Framed p c.args.numbers.now → c.loop-x.x < p.variables = λ p f. omega (arith, c.number-n.ensures, f.numbered.variables) in
    let small : 192 + c.loop-x.x < 256 = omega (arith, inside c.requires.0.0 c.requires.0.1, c.requires.0.1.stated.few) in (
      blank_moves _ _ _ _ small c.goes_to.ensures.0 c.loop-x.invariant.0,
      λ p f d a. (
        omega (arith, inside p f),
        moving_more p f.stated _ _ _ _ d (inside p f) c.loop-x.invariant.0.moves_room (c.goes_to.ensures.1 p f (inside p f)) (c.loop-x.invariant.1 p f d a).1,
      ),
    )

pub returns : goal.returns
returns c =
    λ p f d a. moved_all p f.stated _ _ _ (omega (arith, c.number-n.ensures, f.numbered.variables, (c.loop-x.invariant.1 p f d a).0)) c.loop-x.invariant.0.small
    (c.loop-x.invariant.1 p f d a).1

pub goes_to-requires : goal.goes_to-requires
goes_to-requires c =
    let inside : (p : Problem) → Framed p c.args.numbers.now → c.loop-x.x < p.variables = λ p f. omega (arith, c.number-n.ensures, f.numbered.variables) in
    (c.requires.0.0, c.requires.0.1, inside c.requires.0.0 c.requires.0.1)

pub overflow_cast-moves : goal.overflow_cast-moves
overflow_cast-moves c = omega (arith, c.goes_to.ensures.0)

pub overflow_add-moves : goal.overflow_add-moves
overflow_add-moves c =
    let inside : (p : Problem) → Framed p c.args.numbers.now → c.loop-x.x < p.variables = λ p f. omega (arith, c.number-n.ensures, f.numbered.variables) in
    let small : 192 + c.loop-x.x < 256 = omega (arith, inside c.requires.0.0 c.requires.0.1, c.requires.0.1.stated.few) in
    omega (arith, small)

pub bounds-moves-x : goal.bounds-moves-x
bounds-moves-x c =
    let inside : (p : Problem) → Framed p c.args.numbers.now → c.loop-x.x < p.variables = λ p f. omega (arith, c.number-n.ensures, f.numbered.variables) in
    let small : 192 + c.loop-x.x < 256 = omega (arith, inside c.requires.0.0 c.requires.0.1, c.requires.0.1.stated.few) in
    omega (arith, small)
