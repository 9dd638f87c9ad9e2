use Rattle.model.specs.Kit.{◌≡◌, sym, ◌∙◌, ap, ap₂, subst, List, ℕ, ◌+◌, ◌*◌, ◌<◌, arith, bit_and, T, length}
use Rattle.model.specs.{Lists.at, Problem.Problem, Problem.constraint_at}
use Rattle.arrays.specs.Inner.Places.{SUPPORTS}
use Rattle.sheet_table.specs.Inner.Forbidden.{MaybePair, Walking, Across}
use Rattle.sheet_table.proofs.Codes.{variable_lt}
use Rattle.sheet_carried.proofs.Across.{across_of, carried_key, carried_image, carried_variable, carried_all}
use Rattle.sheet_carried.proofs.{Wholes.walk_whole, Wholes.whole_walked}
use Rattle.sheet_carried.proofs.carried.carried.Goals as goal

pub returns-then-ahead-eq3 : goal.returns-then-ahead-eq3
returns-then-ahead-eq3 c =
    λ q p vs codes z w s. whole_walked p vs _ _ codes _ _ _ _ _ _ _ s c.if-ahead-eq3.true (c.turned.ensures q p codes (walk_whole p vs _ _ codes _ _ _ _ _ _ _ s c.if-ahead-eq3.true))

pub scope_at-requires : goal.scope_at-requires
scope_at-requires c =
    let Walks : Problem → List ℕ → List ℕ → ℕ → ℕ → Type 0 =
    λ p vs codes z w. Walking p vs c.args.numbers.now c.args.supports.now codes c.args.moves.now c.args.k c.args.ahead c.args.key z w c.args.a in
    let three : (p : Problem) (vs codes : List ℕ) (z w : ℕ) → Walks p vs codes z w → length (constraint_at p c.args.k).scope ≡ 3 =
    λ p vs codes z w s. sym (c.arity.ensures p s.lent.ready.framed s.chosen.inside) ∙ c.if-arity-ne3.false in
    (c.requires.0, c.requires.5.lent.ready.framed, c.requires.5.chosen.inside, omega (arith, three c.requires.0 c.requires.1 c.requires.2 c.requires.3 c.requires.4 c.requires.5))

pub scope_at-requires-2 : goal.scope_at-requires-2
scope_at-requires-2 c =
    let Walks : Problem → List ℕ → List ℕ → ℕ → ℕ → Type 0 =
    λ p vs codes z w. Walking p vs c.args.numbers.now c.args.supports.now codes c.args.moves.now c.args.k c.args.ahead c.args.key z w c.args.a in
    let three : (p : Problem) (vs codes : List ℕ) (z w : ℕ) → Walks p vs codes z w → length (constraint_at p c.args.k).scope ≡ 3 =
    λ p vs codes z w s. sym (c.arity.ensures p s.lent.ready.framed s.chosen.inside) ∙ c.if-arity-ne3.false in
    (c.requires.0, c.requires.5.lent.ready.framed, c.requires.5.chosen.inside, omega (arith, three c.requires.0 c.requires.1 c.requires.2 c.requires.3 c.requires.4 c.requires.5))

pub number-requires : goal.number-requires
number-requires c =
    let Walks : Problem → List ℕ → List ℕ → ℕ → ℕ → Type 0 =
    λ p vs codes z w. Walking p vs c.args.numbers.now c.args.supports.now codes c.args.moves.now c.args.k c.args.ahead c.args.key z w c.args.a in
    let three : (p : Problem) (vs codes : List ℕ) (z w : ℕ) → Walks p vs codes z w → length (constraint_at p c.args.k).scope ≡ 3 =
    λ p vs codes z w s. sym (c.arity.ensures p s.lent.ready.framed s.chosen.inside) ∙ c.if-arity-ne3.false in
    let image : (p : Problem) (vs codes : List ℕ) (z w : ℕ) → Walks p vs codes z w → MaybePair p c.args.a =
    λ p vs codes z w s. carried_image p vs _ _ codes _ _ _ _ _ _ _ s c.if-ahead-ne2.false (three p vs codes z w s) in
    omega
    (arith, variable_lt c.requires.0 c.requires.5.lent.ready.framed.stated _ (image c.requires.0 c.requires.1 c.requires.2 c.requires.3 c.requires.4 c.requires.5))

pub rows_from-requires : goal.rows_from-requires
rows_from-requires c =
    let Walks : Problem → List ℕ → List ℕ → ℕ → ℕ → Type 0 =
    λ p vs codes z w. Walking p vs c.args.numbers.now c.args.supports.now codes c.args.moves.now c.args.k c.args.ahead c.args.key z w c.args.a in
    let three : (p : Problem) (vs codes : List ℕ) (z w : ℕ) → Walks p vs codes z w → length (constraint_at p c.args.k).scope ≡ 3 =
    λ p vs codes z w s. sym (c.arity.ensures p s.lent.ready.framed s.chosen.inside) ∙ c.if-arity-ne3.false in
    let image : (p : Problem) (vs codes : List ℕ) (z w : ℕ) → Walks p vs codes z w → MaybePair p c.args.a =
    λ p vs codes z w s. carried_image p vs _ _ codes _ _ _ _ _ _ _ s c.if-ahead-ne2.false (three p vs codes z w s) in
    let goes_1 : c.place-y.result < 16 = omega
    (arith, c.place-y.ensures.0, c.requires.5.lent.moved.small (192 + c.scope_at.result)) in
    let goes_2 : c.place-z.result < 16 = omega (arith, c.place-z.ensures.0, c.requires.5.lent.moved.small (192 + c.scope_at-2.result)) in
    let across : (p : Problem) (vs codes : List ℕ) (z w : ℕ) → Walks p vs codes z w → Across p c.args.numbers.now c.args.supports.now c.pick-m.result c.args.a c.place-y.result c.place-z.result =
    λ p vs codes z w s. across_of p _ _ s.lent.ready _ _ _ (image p vs codes z w s) goes_1
    goes_2 _ _
    (ap₂ bit_and (ap₂ bit_and c.number.ensures c.number-2.ensures) c.number-3.ensures) c.pick-m.ensures in
    let row : 256 * c.args.k + 16 * c.args.key + 15 < SUPPORTS = carried_key c.requires.0 c.requires.1 _ _ c.requires.2 _ _ _ _ _ _ _ c.requires.5 c.if-ahead-ne2.false
    (three c.requires.0 c.requires.1 c.requires.2 c.requires.3 c.requires.4 c.requires.5) in
    ((c.requires.0, across c.requires.0 c.requires.1 c.requires.2 c.requires.3 c.requires.4 c.requires.5), row, c.requires.5.lent.moved.small)

pub returns : goal.returns
returns c =
    let Walks : Problem → List ℕ → List ℕ → ℕ → ℕ → Type 0 =
    λ p vs codes z w. Walking p vs c.args.numbers.now c.args.supports.now codes c.args.moves.now c.args.k c.args.ahead c.args.key z w c.args.a in
    let three : (p : Problem) (vs codes : List ℕ) (z w : ℕ) → Walks p vs codes z w → length (constraint_at p c.args.k).scope ≡ 3 =
    λ p vs codes z w s. sym (c.arity.ensures p s.lent.ready.framed s.chosen.inside) ∙ c.if-arity-ne3.false in
    let scope_1 : (p : Problem) (vs codes : List ℕ) (z w : ℕ) → Walks p vs codes z w → c.scope_at.result ≡ at (constraint_at p c.args.k).scope 1 =
    λ p vs codes z w s. c.scope_at.ensures p s.lent.ready.framed s.chosen.inside (omega (arith, three p vs codes z w s)) in
    let scope_2 : (p : Problem) (vs codes : List ℕ) (z w : ℕ) → Walks p vs codes z w → c.scope_at-2.result ≡ at (constraint_at p c.args.k).scope 2 =
    λ p vs codes z w s. c.scope_at-2.ensures p s.lent.ready.framed s.chosen.inside (omega (arith, three p vs codes z w s)) in
    let to_1 : (p : Problem) (vs codes : List ℕ) (z w : ℕ) → Walks p vs codes z w → c.place-y.result ≡ at c.args.moves.now (192 + at (constraint_at p c.args.k).scope 1) =
    λ p vs codes z w s. c.place-y.ensures.0 ∙ ap (λ (n : ℕ). at c.args.moves.now (192 + n)) (scope_1 p vs codes z w s) in
    let to_2 : (p : Problem) (vs codes : List ℕ) (z w : ℕ) → Walks p vs codes z w → c.place-z.result ≡ at c.args.moves.now (192 + at (constraint_at p c.args.k).scope 2) =
    λ p vs codes z w s. c.place-z.ensures.0 ∙ ap (λ (n : ℕ). at c.args.moves.now (192 + n))
    (scope_2 p vs codes z w s) in
    let image : (p : Problem) (vs codes : List ℕ) (z w : ℕ) → Walks p vs codes z w → MaybePair p c.args.a =
    λ p vs codes z w s. carried_image p vs _ _ codes _ _ _ _ _ _ _ s c.if-ahead-ne2.false (three p vs codes z w s) in
    let goes_1 : c.place-y.result < 16 = omega
    (arith, c.place-y.ensures.0, c.requires.5.lent.moved.small (192 + c.scope_at.result)) in
    let goes_2 : c.place-z.result < 16 = omega (arith, c.place-z.ensures.0, c.requires.5.lent.moved.small (192 + c.scope_at-2.result)) in
    let across : (p : Problem) (vs codes : List ℕ) (z w : ℕ) → Walks p vs codes z w → Across p c.args.numbers.now c.args.supports.now c.pick-m.result c.args.a c.place-y.result c.place-z.result =
    λ p vs codes z w s. across_of p _ _ s.lent.ready _ _ _ (image p vs codes z w s) goes_1
    goes_2 _ _
    (ap₂ bit_and (ap₂ bit_and c.number.ensures c.number-2.ensures) c.number-3.ensures) c.pick-m.ensures in
    λ q p vs codes z w s. carried_all p vs _ _ codes _ _ _ _ _ _ _ s c.if-ahead-ne2.false
    (three p vs codes z w s) _ _ _ (to_1 p vs codes z w s) (to_2 p vs codes z w s) (across p vs codes z w s)
    (c.rows_from.ensures q p (across p vs codes z w s))

pub turned-requires : goal.turned-requires
turned-requires c = (c.requires.0, c.requires.2, walk_whole c.requires.0 c.requires.1 _ _ c.requires.2 _ _ _ _ _ _ _ c.requires.5 c.if-ahead-eq3.true)

pub overflow_add-scope_at : goal.overflow_add-scope_at
overflow_add-scope_at c =
    let Walks : Problem → List ℕ → List ℕ → ℕ → ℕ → Type 0 =
    λ p vs codes z w. Walking p vs c.args.numbers.now c.args.supports.now codes c.args.moves.now c.args.k c.args.ahead c.args.key z w c.args.a in
    let three : (p : Problem) (vs codes : List ℕ) (z w : ℕ) → Walks p vs codes z w → length (constraint_at p c.args.k).scope ≡ 3 =
    λ p vs codes z w s. sym (c.arity.ensures p s.lent.ready.framed s.chosen.inside) ∙ c.if-arity-ne3.false in
    let scope_1 : (p : Problem) (vs codes : List ℕ) (z w : ℕ) → Walks p vs codes z w → c.scope_at.result ≡ at (constraint_at p c.args.k).scope 1 =
    λ p vs codes z w s. c.scope_at.ensures p s.lent.ready.framed s.chosen.inside (omega (arith, three p vs codes z w s)) in
    let first : (p : Problem) (vs codes : List ℕ) (z w : ℕ) → Walks p vs codes z w → c.scope_at.result < 12 = λ p vs codes z w s. omega (
      arith,
      scope_1 p vs codes z w s,
      carried_variable p vs _ _ codes _ _ _ _ _ _ _ s c.if-ahead-ne2.false (three p vs codes z w s) 1
          (omega arith),
    ) in
    omega (arith, first c.requires.0 c.requires.1 c.requires.2 c.requires.3 c.requires.4 c.requires.5)

pub place-y-requires : goal.place-y-requires
place-y-requires c =
    let Walks : Problem → List ℕ → List ℕ → ℕ → ℕ → Type 0 =
    λ p vs codes z w. Walking p vs c.args.numbers.now c.args.supports.now codes c.args.moves.now c.args.k c.args.ahead c.args.key z w c.args.a in
    let three : (p : Problem) (vs codes : List ℕ) (z w : ℕ) → Walks p vs codes z w → length (constraint_at p c.args.k).scope ≡ 3 =
    λ p vs codes z w s. sym (c.arity.ensures p s.lent.ready.framed s.chosen.inside) ∙ c.if-arity-ne3.false in
    let scope_1 : (p : Problem) (vs codes : List ℕ) (z w : ℕ) → Walks p vs codes z w → c.scope_at.result ≡ at (constraint_at p c.args.k).scope 1 =
    λ p vs codes z w s. c.scope_at.ensures p s.lent.ready.framed s.chosen.inside (omega (arith, three p vs codes z w s)) in
    let first : (p : Problem) (vs codes : List ℕ) (z w : ℕ) → Walks p vs codes z w → c.scope_at.result < 12 = λ p vs codes z w s. omega (
      arith,
      scope_1 p vs codes z w s,
      carried_variable p vs _ _ codes _ _ _ _ _ _ _ s c.if-ahead-ne2.false (three p vs codes z w s) 1
          (omega arith),
    ) in
    omega (arith, first c.requires.0 c.requires.1 c.requires.2 c.requires.3 c.requires.4 c.requires.5)

pub overflow_add-scope_at-2 : goal.overflow_add-scope_at-2
overflow_add-scope_at-2 c =
    let Walks : Problem → List ℕ → List ℕ → ℕ → ℕ → Type 0 =
    λ p vs codes z w. Walking p vs c.args.numbers.now c.args.supports.now codes c.args.moves.now c.args.k c.args.ahead c.args.key z w c.args.a in
    let three : (p : Problem) (vs codes : List ℕ) (z w : ℕ) → Walks p vs codes z w → length (constraint_at p c.args.k).scope ≡ 3 =
    λ p vs codes z w s. sym (c.arity.ensures p s.lent.ready.framed s.chosen.inside) ∙ c.if-arity-ne3.false in
    let scope_2 : (p : Problem) (vs codes : List ℕ) (z w : ℕ) → Walks p vs codes z w → c.scope_at-2.result ≡ at (constraint_at p c.args.k).scope 2 =
    λ p vs codes z w s. c.scope_at-2.ensures p s.lent.ready.framed s.chosen.inside (omega (arith, three p vs codes z w s)) in
    let second : (p : Problem) (vs codes : List ℕ) (z w : ℕ) → Walks p vs codes z w → c.scope_at-2.result < 12 = λ p vs codes z w s. omega (
      arith,
      scope_2 p vs codes z w s,
      carried_variable p vs _ _ codes _ _ _ _ _ _ _ s c.if-ahead-ne2.false
          (three p vs codes z w s) 2 (omega arith),
    ) in
    omega (arith, second c.requires.0 c.requires.1 c.requires.2 c.requires.3 c.requires.4 c.requires.5)

pub place-z-requires : goal.place-z-requires
place-z-requires c =
    let Walks : Problem → List ℕ → List ℕ → ℕ → ℕ → Type 0 =
    λ p vs codes z w. Walking p vs c.args.numbers.now c.args.supports.now codes c.args.moves.now c.args.k c.args.ahead c.args.key z w c.args.a in
    let three : (p : Problem) (vs codes : List ℕ) (z w : ℕ) → Walks p vs codes z w → length (constraint_at p c.args.k).scope ≡ 3 =
    λ p vs codes z w s. sym (c.arity.ensures p s.lent.ready.framed s.chosen.inside) ∙ c.if-arity-ne3.false in
    let scope_2 : (p : Problem) (vs codes : List ℕ) (z w : ℕ) → Walks p vs codes z w → c.scope_at-2.result ≡ at (constraint_at p c.args.k).scope 2 =
    λ p vs codes z w s. c.scope_at-2.ensures p s.lent.ready.framed s.chosen.inside (omega (arith, three p vs codes z w s)) in
    let second : (p : Problem) (vs codes : List ℕ) (z w : ℕ) → Walks p vs codes z w → c.scope_at-2.result < 12 = λ p vs codes z w s. omega (
      arith,
      scope_2 p vs codes z w s,
      carried_variable p vs _ _ codes _ _ _ _ _ _ _ s c.if-ahead-ne2.false
          (three p vs codes z w s) 2 (omega arith),
    ) in
    omega (arith, second c.requires.0 c.requires.1 c.requires.2 c.requires.3 c.requires.4 c.requires.5)

pub overflow_mul-key : goal.overflow_mul-key
overflow_mul-key c =
    let Walks : Problem → List ℕ → List ℕ → ℕ → ℕ → Type 0 =
    λ p vs codes z w. Walking p vs c.args.numbers.now c.args.supports.now codes c.args.moves.now c.args.k c.args.ahead c.args.key z w c.args.a in
    let three : (p : Problem) (vs codes : List ℕ) (z w : ℕ) → Walks p vs codes z w → length (constraint_at p c.args.k).scope ≡ 3 =
    λ p vs codes z w s. sym (c.arity.ensures p s.lent.ready.framed s.chosen.inside) ∙ c.if-arity-ne3.false in
    let row : 256 * c.args.k + 16 * c.args.key + 15 < SUPPORTS = carried_key c.requires.0 c.requires.1 _ _ c.requires.2 _ _ _ _ _ _ _ c.requires.5 c.if-ahead-ne2.false
    (three c.requires.0 c.requires.1 c.requires.2 c.requires.3 c.requires.4 c.requires.5) in
    omega (arith, row)

pub overflow_add-k : goal.overflow_add-k
overflow_add-k c =
    let Walks : Problem → List ℕ → List ℕ → ℕ → ℕ → Type 0 =
    λ p vs codes z w. Walking p vs c.args.numbers.now c.args.supports.now codes c.args.moves.now c.args.k c.args.ahead c.args.key z w c.args.a in
    let three : (p : Problem) (vs codes : List ℕ) (z w : ℕ) → Walks p vs codes z w → length (constraint_at p c.args.k).scope ≡ 3 =
    λ p vs codes z w s. sym (c.arity.ensures p s.lent.ready.framed s.chosen.inside) ∙ c.if-arity-ne3.false in
    let row : 256 * c.args.k + 16 * c.args.key + 15 < SUPPORTS = carried_key c.requires.0 c.requires.1 _ _ c.requires.2 _ _ _ _ _ _ _ c.requires.5 c.if-ahead-ne2.false
    (three c.requires.0 c.requires.1 c.requires.2 c.requires.3 c.requires.4 c.requires.5) in
    omega (arith, row)
