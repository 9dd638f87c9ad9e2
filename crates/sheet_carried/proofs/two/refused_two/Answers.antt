use Rattle.model.specs.Kit.{◌≡◌, sym, ◌∙◌, ap₂, subst, ◌+◌, ◌*◌, ◌/◌, ◌%◌, ◌<◌, lt_of_le_of_lt, arith, not-true, bit_and, count_trailing_zeros, T, lit<, length}
use Rattle.model.specs.{Lists.at, Problem.Problem}
use lib.Count.{trailing_le}
use Rattle.sheet_table.specs.Inner.Forbidden.{Triple}
use Rattle.sheet_table.proofs.Codes.{variable_lt}
use Rattle.sheet_carried.proofs.{Couples.couple_lt, Couples.couple_row, Couples.couple_blocked}
use Rattle.arrays.specs.Inner.Places.{SUPPORTS}
use Rattle.sheet_carried.proofs.two.refused_two.Goals as goal

pub returns : goal.returns
returns c =
    let found : bit_and c.number.result c.number-2.result ≡ bit_and (at c.args.numbers.now (c.args.a / 16)) (at c.args.numbers.now (c.args.b / 16)) = ap₂ bit_and c.number.ensures c.number-2.ensures in
    let inside : (p : Problem) → Triple p c.args.numbers.now c.args.supports.now 255 c.args.a c.args.b → count_trailing_zeros 64 (bit_and c.number.result c.number-2.result) < length p.constraints =
    λ p t. couple_lt p _ _ _ _ t _ found c.if-set-eq0.false in
    λ q p t.
    couple_blocked p _ _ _ _ t _ found c.if-set-eq0.false c.requires.1
    (sym (c.arity.ensures p t.ready.framed (inside p t)) ∙ c.if-arity-ne2.false) _ c.support.ensures (sym c.contains.ensures ∙ not-true _ q)

pub overflow_cast-k : goal.overflow_cast-k
overflow_cast-k c = record { fits = lt_of_le_of_lt (trailing_le 64 _) (lit< tt) }

pub arity-requires : goal.arity-requires
arity-requires c =
    let found : bit_and c.number.result c.number-2.result ≡ bit_and (at c.args.numbers.now (c.args.a / 16)) (at c.args.numbers.now (c.args.b / 16)) = ap₂ bit_and c.number.ensures c.number-2.ensures in
    let inside : (p : Problem) → Triple p c.args.numbers.now c.args.supports.now 255 c.args.a c.args.b → count_trailing_zeros 64 (bit_and c.number.result c.number-2.result) < length p.constraints =
    λ p t. couple_lt p _ _ _ _ t _ found c.if-set-eq0.false in
    (c.requires.0.0, c.requires.0.1.ready.framed, inside c.requires.0.0 c.requires.0.1)

pub overflow_mul-k : goal.overflow_mul-k
overflow_mul-k c =
    let found : bit_and c.number.result c.number-2.result ≡ bit_and (at c.args.numbers.now (c.args.a / 16)) (at c.args.numbers.now (c.args.b / 16)) = ap₂ bit_and c.number.ensures c.number-2.ensures in
    let row : 256 * count_trailing_zeros 64 (bit_and c.number.result c.number-2.result) + c.args.a % 16 < SUPPORTS = couple_row c.requires.0.0 _ _ _ _ c.requires.0.1 _ found c.if-set-eq0.false in
    omega (arith, row)

pub overflow_add-k : goal.overflow_add-k
overflow_add-k c =
    let found : bit_and c.number.result c.number-2.result ≡ bit_and (at c.args.numbers.now (c.args.a / 16)) (at c.args.numbers.now (c.args.b / 16)) = ap₂ bit_and c.number.ensures c.number-2.ensures in
    let row : 256 * count_trailing_zeros 64 (bit_and c.number.result c.number-2.result) + c.args.a % 16 < SUPPORTS = couple_row c.requires.0.0 _ _ _ _ c.requires.0.1 _ found c.if-set-eq0.false in
    omega (arith, row)

pub support-requires : goal.support-requires
support-requires c =
    let found : bit_and c.number.result c.number-2.result ≡ bit_and (at c.args.numbers.now (c.args.a / 16)) (at c.args.numbers.now (c.args.b / 16)) = ap₂ bit_and c.number.ensures c.number-2.ensures in
    let row : 256 * count_trailing_zeros 64 (bit_and c.number.result c.number-2.result) + c.args.a % 16 < SUPPORTS = couple_row c.requires.0.0 _ _ _ _ c.requires.0.1 _ found c.if-set-eq0.false in
    row
