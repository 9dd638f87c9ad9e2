use Rattle.model.specs.Kit.{◌≡◌, sym, ◌∙◌, ◌<◌, arith}
use Rattle.model.specs.{Problem.Problem}
use Rattle.sheet_table.specs.Inner.Forbidden.{Lent}
use Rattle.sheet_table.proofs.Laws.{numbers_start, numbers_stop, numbers_rest, numbers_over}
use Rattle.sheet_symmetries.proofs.walk.variables.Invariants.{kept}
use Rattle.sheet_symmetries.proofs.walk.variables.Goals as goal

pub loop-x-init : goal.loop-x-init
loop-x-init c = λ p l. (omega arith, numbers_start (kept p _) p.variables)

pub returns-then-not-doubles : goal.returns-then-not-doubles
returns-then-not-doubles c =
    let inside : (p : Problem) → Lent p c.args.numbers.now c.args.supports.now c.args.codes.now c.args.moves.now → c.loop-x.x < p.variables =
    λ p l. omega (arith, c.number-n.ensures, l.ready.framed.numbered.variables) in
    let answer : (p : Problem) → Lent p c.args.numbers.now c.args.supports.now c.args.codes.now c.args.moves.now → kept p c.args.codes.now c.loop-x.x ≡ c.doubles.result =
    λ p l. sym (c.doubles.ensures p l (inside p l)) in
    λ p l. numbers_stop (kept p _) p.variables _ _ (c.loop-x.invariant p l).1 (inside p l) (answer p l ∙ c.if-not-doubles.true)

pub loop-x-preserved : goal.loop-x-preserved
loop-x-preserved c =
    let inside : (p : Problem) → Lent p c.args.numbers.now c.args.supports.now c.args.codes.now c.args.moves.now → c.loop-x.x < p.variables =
    λ p l. omega (arith, c.number-n.ensures, l.ready.framed.numbered.variables) in
    let answer : (p : Problem) → Lent p c.args.numbers.now c.args.supports.now c.args.codes.now c.args.moves.now → kept p c.args.codes.now c.loop-x.x ≡ c.doubles.result =
    λ p l. sym (c.doubles.ensures p l (inside p l)) in
    λ p l. (
      omega (arith, inside p l),
      numbers_rest (kept p _) p.variables _ _ (c.loop-x.invariant p l).1 (inside p l)
          (answer p l ∙ c.if-not-doubles.false),
    )

pub returns : goal.returns
returns c = λ p l. numbers_over (kept p _) p.variables _ _ (c.loop-x.invariant p l).1
    (omega (arith, c.number-n.ensures, l.ready.framed.numbered.variables))

pub doubles-requires : goal.doubles-requires
doubles-requires c =
    let inside : (p : Problem) → Lent p c.args.numbers.now c.args.supports.now c.args.codes.now c.args.moves.now → c.loop-x.x < p.variables =
    λ p l. omega (arith, c.number-n.ensures, l.ready.framed.numbered.variables) in
    (c.requires.0, c.requires.1, inside c.requires.0 c.requires.1)
