use Rattle.model.specs.Kit.{◌≡◌, sym, ap, ap₂, ◌∙◌, subst, List, ℕ, ◌+◌, ◌<◌, arith, bit_and, T}
use Rattle.model.specs.{Lists.at, Problem.Problem, Problem.constraint_at}
use Rattle.sheet_table.specs.Inner.Forbidden.{Three, Whole}
use Rattle.sheet_carried.proofs.{Wholes.three_of, Wholes.three_in, Wholes.whole_in, Wholes.whole_kept}
use Rattle.sheet_carried.proofs.turned.turned.Goals as goal

pub rows_from-requires : goal.rows_from-requires
rows_from-requires c =
    let At : Problem → List ℕ → Type 0 = λ p codes. Whole p c.args.numbers.now c.args.supports.now codes c.args.moves.now c.args.k in
    let small : (i r : ℕ) → r ≡ at c.args.moves.now i → r < 16 = λ i r e. omega (arith, c.requires.2.lent.moved.small i) in
    let On : Problem → ℕ → ℕ → ℕ → ℕ → Type 0 = λ p m x y z. Three p c.args.numbers.now c.args.supports.now m x y z in
    let to_0 : ℕ = c.place-x.result in
    let to_1 : ℕ = c.place-y.result in
    let to_2 : ℕ = c.place-z.result in
    let three : (p : Problem) (codes : List ℕ) → At p codes → On p c.pick.result to_0 to_1 to_2 =
    λ p codes s. three_of p _ _ s.lent.ready _ _ _ (small _ _ c.place-x.ensures.0) (small _ _ c.place-y.ensures.0)
    (small _ _ c.place-z.ensures.0) _ _
    (ap₂ bit_and (ap₂ bit_and c.number.ensures c.number-2.ensures) c.number-3.ensures) c.pick.ensures in (
      (c.requires.0, three c.requires.0 c.requires.1 c.requires.2),
      omega (arith, c.requires.2.inside, c.requires.2.lent.ready.framed.stated.most),
      c.if-x-y.false,
      c.if-x-z.false,
      c.requires.2.lent.moved.small,
    )

pub returns : goal.returns
returns c =
    let At : Problem → List ℕ → Type 0 = λ p codes. Whole p c.args.numbers.now c.args.supports.now codes c.args.moves.now c.args.k in
    let scope : Problem → ℕ → ℕ = λ p i. at (constraint_at p c.args.k).scope i in
    let is_0 : (p : Problem) (codes : List ℕ) → At p codes → c.scope_at.result ≡ scope p 0 = λ p codes s. c.scope_at.ensures p s.lent.ready.framed s.inside (omega (arith, s.three)) in
    let is_1 : (p : Problem) (codes : List ℕ) → At p codes → c.scope_at-2.result ≡ scope p 1 = λ p codes s. c.scope_at-2.ensures p s.lent.ready.framed s.inside (omega (arith, s.three)) in
    let is_2 : (p : Problem) (codes : List ℕ) → At p codes → c.scope_at-3.result ≡ scope p 2 = λ p codes s. c.scope_at-3.ensures p s.lent.ready.framed s.inside (omega (arith, s.three)) in
    let small : (i r : ℕ) → r ≡ at c.args.moves.now i → r < 16 = λ i r e. omega (arith, c.requires.2.lent.moved.small i) in
    let On : Problem → ℕ → ℕ → ℕ → ℕ → Type 0 = λ p m x y z. Three p c.args.numbers.now c.args.supports.now m x y z in
    let to_0 : ℕ = c.place-x.result in
    let to_1 : ℕ = c.place-y.result in
    let to_2 : ℕ = c.place-z.result in
    let three : (p : Problem) (codes : List ℕ) → At p codes → On p c.pick.result to_0 to_1 to_2 =
    λ p codes s. three_of p _ _ s.lent.ready _ _ _ (small _ _ c.place-x.ensures.0) (small _ _ c.place-y.ensures.0)
    (small _ _ c.place-z.ensures.0) _ _
    (ap₂ bit_and (ap₂ bit_and c.number.ensures c.number-2.ensures) c.number-3.ensures) c.pick.ensures in
    λ q p codes s.
    let v = c.args.moves.now in
    let h = three p codes s in
    let k = c.args.k in
    let i = three_in p _ _ v _ k _ _ _ h c.if-x-y.false c.if-x-z.false in
    whole_kept p _ _ codes _ _ s _ _ _ _ (c.place-x.ensures.0 ∙ ap (λ (n : ℕ). at v (192 + n)) (is_0 p codes s))
    (c.place-y.ensures.0 ∙ ap (λ (n : ℕ). at v (192 + n)) (is_1 p codes s))
    (c.place-z.ensures.0 ∙ ap (λ (n : ℕ). at v (192 + n)) (is_2 p codes s)) h (omega (arith, i.0, s.lent.ready.framed.stated.few))
    (c.rows_from.ensures q p h)

pub overflow_add-scope_at : goal.overflow_add-scope_at
overflow_add-scope_at c =
    let At : Problem → List ℕ → Type 0 = λ p codes. Whole p c.args.numbers.now c.args.supports.now codes c.args.moves.now c.args.k in
    let scope : Problem → ℕ → ℕ = λ p i. at (constraint_at p c.args.k).scope i in
    let is_0 : (p : Problem) (codes : List ℕ) → At p codes → c.scope_at.result ≡ scope p 0 = λ p codes s. c.scope_at.ensures p s.lent.ready.framed s.inside (omega (arith, s.three)) in
    let few : (i x : ℕ) → i < 3 → ((p : Problem) (codes : List ℕ) → At p codes → x ≡ scope p i) → x < 12 =
    λ i x l e. omega (arith, e c.requires.0 c.requires.1 c.requires.2, whole_in c.requires.0 _ _ c.requires.1 _ _ c.requires.2 i l, c.requires.2.lent.ready.framed.stated.few) in
    omega (arith, few 0 _ (omega arith) is_0)

pub place-x-requires : goal.place-x-requires
place-x-requires c =
    let At : Problem → List ℕ → Type 0 = λ p codes. Whole p c.args.numbers.now c.args.supports.now codes c.args.moves.now c.args.k in
    let scope : Problem → ℕ → ℕ = λ p i. at (constraint_at p c.args.k).scope i in
    let is_0 : (p : Problem) (codes : List ℕ) → At p codes → c.scope_at.result ≡ scope p 0 = λ p codes s. c.scope_at.ensures p s.lent.ready.framed s.inside (omega (arith, s.three)) in
    let few : (i x : ℕ) → i < 3 → ((p : Problem) (codes : List ℕ) → At p codes → x ≡ scope p i) → x < 12 =
    λ i x l e. omega (arith, e c.requires.0 c.requires.1 c.requires.2, whole_in c.requires.0 _ _ c.requires.1 _ _ c.requires.2 i l, c.requires.2.lent.ready.framed.stated.few) in
    omega (arith, few 0 _ (omega arith) is_0)

pub overflow_add-scope_at-2 : goal.overflow_add-scope_at-2
overflow_add-scope_at-2 c =
    let At : Problem → List ℕ → Type 0 = λ p codes. Whole p c.args.numbers.now c.args.supports.now codes c.args.moves.now c.args.k in
    let scope : Problem → ℕ → ℕ = λ p i. at (constraint_at p c.args.k).scope i in
    let is_1 : (p : Problem) (codes : List ℕ) → At p codes → c.scope_at-2.result ≡ scope p 1 = λ p codes s. c.scope_at-2.ensures p s.lent.ready.framed s.inside (omega (arith, s.three)) in
    let few : (i x : ℕ) → i < 3 → ((p : Problem) (codes : List ℕ) → At p codes → x ≡ scope p i) → x < 12 =
    λ i x l e. omega (arith, e c.requires.0 c.requires.1 c.requires.2, whole_in c.requires.0 _ _ c.requires.1 _ _ c.requires.2 i l, c.requires.2.lent.ready.framed.stated.few) in
    omega (arith, few 1 _ (omega arith) is_1)

pub place-y-requires : goal.place-y-requires
place-y-requires c =
    let At : Problem → List ℕ → Type 0 = λ p codes. Whole p c.args.numbers.now c.args.supports.now codes c.args.moves.now c.args.k in
    let scope : Problem → ℕ → ℕ = λ p i. at (constraint_at p c.args.k).scope i in
    let is_1 : (p : Problem) (codes : List ℕ) → At p codes → c.scope_at-2.result ≡ scope p 1 = λ p codes s. c.scope_at-2.ensures p s.lent.ready.framed s.inside (omega (arith, s.three)) in
    let few : (i x : ℕ) → i < 3 → ((p : Problem) (codes : List ℕ) → At p codes → x ≡ scope p i) → x < 12 =
    λ i x l e. omega (arith, e c.requires.0 c.requires.1 c.requires.2, whole_in c.requires.0 _ _ c.requires.1 _ _ c.requires.2 i l, c.requires.2.lent.ready.framed.stated.few) in
    omega (arith, few 1 _ (omega arith) is_1)

pub overflow_add-scope_at-3 : goal.overflow_add-scope_at-3
overflow_add-scope_at-3 c =
    let At : Problem → List ℕ → Type 0 = λ p codes. Whole p c.args.numbers.now c.args.supports.now codes c.args.moves.now c.args.k in
    let scope : Problem → ℕ → ℕ = λ p i. at (constraint_at p c.args.k).scope i in
    let is_2 : (p : Problem) (codes : List ℕ) → At p codes → c.scope_at-3.result ≡ scope p 2 = λ p codes s. c.scope_at-3.ensures p s.lent.ready.framed s.inside (omega (arith, s.three)) in
    let few : (i x : ℕ) → i < 3 → ((p : Problem) (codes : List ℕ) → At p codes → x ≡ scope p i) → x < 12 =
    λ i x l e. omega (arith, e c.requires.0 c.requires.1 c.requires.2, whole_in c.requires.0 _ _ c.requires.1 _ _ c.requires.2 i l, c.requires.2.lent.ready.framed.stated.few) in
    omega (arith, few 2 _ (omega arith) is_2)

pub place-z-requires : goal.place-z-requires
place-z-requires c =
    let At : Problem → List ℕ → Type 0 = λ p codes. Whole p c.args.numbers.now c.args.supports.now codes c.args.moves.now c.args.k in
    let scope : Problem → ℕ → ℕ = λ p i. at (constraint_at p c.args.k).scope i in
    let is_2 : (p : Problem) (codes : List ℕ) → At p codes → c.scope_at-3.result ≡ scope p 2 = λ p codes s. c.scope_at-3.ensures p s.lent.ready.framed s.inside (omega (arith, s.three)) in
    let few : (i x : ℕ) → i < 3 → ((p : Problem) (codes : List ℕ) → At p codes → x ≡ scope p i) → x < 12 =
    λ i x l e. omega (arith, e c.requires.0 c.requires.1 c.requires.2, whole_in c.requires.0 _ _ c.requires.1 _ _ c.requires.2 i l, c.requires.2.lent.ready.framed.stated.few) in
    omega (arith, few 2 _ (omega arith) is_2)
