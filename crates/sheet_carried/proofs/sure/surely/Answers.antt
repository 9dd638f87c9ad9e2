use Rattle.model.specs.Kit.{◌≡◌, ap₂, ◌/◌, ◌<◌, lt_of_le_of_lt, arith, bit_and, lit<, count_trailing_zeros}
use Rattle.model.specs.Lists.{at}
use lib.Count.{trailing_le}
use Rattle.sheet_table.proofs.Codes.{variable_lt}
use Rattle.sheet_carried.proofs.{Surely.sure_none, Surely.on_small, Surely.on_lowest}
use Rattle.sheet_carried.proofs.sure.surely.Goals as goal

pub returns-then-set-eq0 : goal.returns-then-set-eq0
returns-then-set-eq0 c = λ p r ma mb. sure_none p _ _ _

pub returns : goal.returns
returns c =
    let found : bit_and (bit_and c.number.result c.number-2.result) c.number-3.result ≡ bit_and (bit_and (at c.args.numbers.now (c.args.a / 16)) (at c.args.numbers.now (c.args.b / 16)))
    (at c.args.numbers.now c.args.y) = ap₂ bit_and (ap₂ bit_and c.number.ensures c.number-2.ensures) c.number-3.ensures in
    λ p r ma mb. c.refusing.ensures p _ (on_lowest p _ _ r _ _ _ ma mb c.requires.4 _ found c.if-set-eq0.false)

pub overflow_cast-set : goal.overflow_cast-set
overflow_cast-set c = record { fits = lt_of_le_of_lt (trailing_le 64 _) (lit< tt) }

pub refusing-requires : goal.refusing-requires
refusing-requires c =
    let found : bit_and (bit_and c.number.result c.number-2.result) c.number-3.result ≡ bit_and (bit_and (at c.args.numbers.now (c.args.a / 16)) (at c.args.numbers.now (c.args.b / 16)))
    (at c.args.numbers.now c.args.y) = ap₂ bit_and (ap₂ bit_and c.number.ensures c.number-2.ensures) c.number-3.ensures in
    let small : count_trailing_zeros 64 (bit_and (bit_and c.number.result c.number-2.result) c.number-3.result) < 32 =
    on_small c.requires.0 _ _ c.requires.1 _ _ _ c.requires.2 c.requires.3 c.requires.4 _ found c.if-set-eq0.false in
    small
