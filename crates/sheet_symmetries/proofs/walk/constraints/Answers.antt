use Rattle.model.specs.Kit.{◌≡◌, refl, sym, ◌∙◌, [], ◌<◌, arith, length}
use Rattle.model.specs.{Problem.Problem, Problem.Constraint, Problem.constraint_at}
use Rattle.sheet_table.specs.Inner.Forbidden.{Lent, Walking}
use Rattle.sheet_table.proofs.{Codes.good, Laws.list_stop, Laws.list_rest, Laws.list_over}
use Rattle.sheet_carried.proofs.Walks.{walk_start}
use Rattle.sheet_symmetries.proofs.walk.constraints.Invariants.{kept}
use Rattle.sheet_symmetries.proofs.walk.constraints.Goals as goal

abbrev none : Constraint
none = record { scope = []; rows = [] }

pub loop-k-init : goal.loop-k-init
loop-k-init c = λ p l. (omega arith, refl)

pub returns-then-not-walk : goal.returns-then-not-walk
returns-then-not-walk c =
    let inside : (p : Problem) → Lent p c.args.numbers.now c.args.supports.now c.args.codes.now c.args.moves.now → c.loop-k.k < length p.constraints =
    λ p l. omega (arith, c.number-c.ensures, l.ready.framed.numbered.constraints) in
    let start : (p : Problem) → Lent p c.args.numbers.now c.args.supports.now c.args.codes.now c.args.moves.now →
    Walking p [] c.args.numbers.now c.args.supports.now c.args.codes.now c.args.moves.now c.loop-k.k c.arity.result 0 255 255 255 =
    λ p l. walk_start p _ _ _ _ _ _ l (inside p l) (c.arity.ensures p l.ready.framed (inside p l)) in
    let some : (p : Problem) → Lent p c.args.numbers.now c.args.supports.now c.args.codes.now c.args.moves.now → c.arity.result ≡ 0 → ⊥ =
    λ p l z. omega (arith, c.arity.ensures p l.ready.framed (inside p l), (good p l.ready.framed.stated _ (inside p l)).some) in
    let answer : (p : Problem) → Lent p c.args.numbers.now c.args.supports.now c.args.codes.now c.args.moves.now → kept p c.args.codes.now (constraint_at p c.loop-k.k) ≡ c.walk.result =
    λ p l. sym (c.walk.ensures p [] 255 (start p l) (some p l)) in
    λ p l. list_stop (kept p _) p.constraints none _ _ (c.loop-k.invariant p l).1 (inside p l)
    (answer p l ∙ c.if-not-walk.true)

pub loop-k-preserved : goal.loop-k-preserved
loop-k-preserved c =
    let inside : (p : Problem) → Lent p c.args.numbers.now c.args.supports.now c.args.codes.now c.args.moves.now → c.loop-k.k < length p.constraints =
    λ p l. omega (arith, c.number-c.ensures, l.ready.framed.numbered.constraints) in
    let start : (p : Problem) → Lent p c.args.numbers.now c.args.supports.now c.args.codes.now c.args.moves.now →
    Walking p [] c.args.numbers.now c.args.supports.now c.args.codes.now c.args.moves.now c.loop-k.k c.arity.result 0 255 255 255 =
    λ p l. walk_start p _ _ _ _ _ _ l (inside p l) (c.arity.ensures p l.ready.framed (inside p l)) in
    let some : (p : Problem) → Lent p c.args.numbers.now c.args.supports.now c.args.codes.now c.args.moves.now → c.arity.result ≡ 0 → ⊥ =
    λ p l z. omega (arith, c.arity.ensures p l.ready.framed (inside p l), (good p l.ready.framed.stated _ (inside p l)).some) in
    let answer : (p : Problem) → Lent p c.args.numbers.now c.args.supports.now c.args.codes.now c.args.moves.now → kept p c.args.codes.now (constraint_at p c.loop-k.k) ≡ c.walk.result =
    λ p l. sym (c.walk.ensures p [] 255 (start p l) (some p l)) in
    λ p l. (
      omega (arith, inside p l),
      list_rest (kept p _) p.constraints none _ _ (c.loop-k.invariant p l).1
          (inside p l) (answer p l ∙ c.if-not-walk.false),
    )

pub returns : goal.returns
returns c = λ p l. list_over (kept p _) p.constraints none c.loop-k.k _ (c.loop-k.invariant p l).1
    (omega (arith, c.number-c.ensures, l.ready.framed.numbered.constraints, (c.loop-k.invariant p l).0))

pub arity-requires : goal.arity-requires
arity-requires c =
    let inside : (p : Problem) → Lent p c.args.numbers.now c.args.supports.now c.args.codes.now c.args.moves.now → c.loop-k.k < length p.constraints =
    λ p l. omega (arith, c.number-c.ensures, l.ready.framed.numbered.constraints) in
    (c.requires.0, c.requires.1.ready.framed, inside c.requires.0 c.requires.1)

pub walk-requires : goal.walk-requires
walk-requires c =
    let inside : (p : Problem) → Lent p c.args.numbers.now c.args.supports.now c.args.codes.now c.args.moves.now → c.loop-k.k < length p.constraints =
    λ p l. omega (arith, c.number-c.ensures, l.ready.framed.numbered.constraints) in
    let start : (p : Problem) → Lent p c.args.numbers.now c.args.supports.now c.args.codes.now c.args.moves.now →
    Walking p [] c.args.numbers.now c.args.supports.now c.args.codes.now c.args.moves.now c.loop-k.k c.arity.result 0 255 255 255 =
    λ p l. walk_start p _ _ _ _ _ _ l (inside p l) (c.arity.ensures p l.ready.framed (inside p l)) in
    let some : (p : Problem) → Lent p c.args.numbers.now c.args.supports.now c.args.codes.now c.args.moves.now → c.arity.result ≡ 0 → ⊥ =
    λ p l z. omega (arith, c.arity.ensures p l.ready.framed (inside p l), (good p l.ready.framed.stated _ (inside p l)).some) in
    (c.requires.0, [], 255, start c.requires.0 c.requires.1, some c.requires.0 c.requires.1)
