use Rattle.model.specs.Kit.{◌≡◌, sym, ap, ◌∙◌, subst, List, ℕ, ◌+◌, ◌-◌, arith, T, length, eqb-true}
use Rattle.model.specs.{Lists.at, Problem.Problem, Problem.constraint_at}
use Rattle.sheet_table.specs.{Inner.Table.Ready, Inner.Forbidden.Chosen}
use Rattle.sheet_carried.proofs.Walks.{choices_over}
use Rattle.sheet_symmetries.proofs.walk.all_rows.Goals as goal

some : ◌≡◌ {A = ℕ} 1 0 → ⊥
some e = omega arith

pub scope_at-x-requires : goal.scope_at-x-requires
scope_at-x-requires c =
    let At : Problem → List ℕ → Type 0 = λ p vs. Ready p c.args.numbers.now c.args.supports.now × Chosen p vs c.args.k c.args.ahead c.args.key in
    let last : (p : Problem) (vs : List ℕ) → At p vs → c.arity.result ≡ length vs + 1 = λ p vs h. omega (arith, c.arity.ensures p h.0.framed h.1.inside, h.1.split, c.if-ahead-ne1.false) in (
      c.requires.0,
      c.requires.2.framed,
      c.requires.3.inside,
      omega (arith, last c.requires.0 c.requires.1 (c.requires.2, c.requires.3), c.arity.ensures c.requires.0 c.requires.2.framed c.requires.3.inside),
    )

pub returns : goal.returns
returns c =
    let At : Problem → List ℕ → Type 0 = λ p vs. Ready p c.args.numbers.now c.args.supports.now × Chosen p vs c.args.k c.args.ahead c.args.key in
    let last : (p : Problem) (vs : List ℕ) → At p vs → c.arity.result ≡ length vs + 1 = λ p vs h. omega (arith, c.arity.ensures p h.0.framed h.1.inside, h.1.split, c.if-ahead-ne1.false) in
    let variable : (p : Problem) (vs : List ℕ) → At p vs → c.scope_at-x.result ≡ at (constraint_at p c.args.k).scope (length vs) = λ p vs h. let l = last p vs h in
    let e : c.arity.result - 1 ≡ length vs = omega arith in
    c.scope_at-x.ensures p h.0.framed h.1.inside (omega (arith, c.arity.ensures p h.0.framed h.1.inside))
    ∙ ap (at (constraint_at p c.args.k).scope) e in
    let chosen : (p : Problem) (vs : List ℕ) → At p vs → Chosen p vs c.args.k 1 c.args.key = λ p vs h. subst (λ (n : ℕ). Chosen p vs c.args.k n c.args.key) c.if-ahead-ne1.false h.1 in
    λ q p vs codes r h.
    choices_over (c.choices.ensures p vs codes r (chosen p vs (r, h)) some (variable p vs (r, h))) (eqb-true _ _ (sym c.is_empty.ensures ∙ q))

pub overflow_sub-arity : goal.overflow_sub-arity
overflow_sub-arity c =
    let At : Problem → List ℕ → Type 0 = λ p vs. Ready p c.args.numbers.now c.args.supports.now × Chosen p vs c.args.k c.args.ahead c.args.key in
    let last : (p : Problem) (vs : List ℕ) → At p vs → c.arity.result ≡ length vs + 1 = λ p vs h. omega (arith, c.arity.ensures p h.0.framed h.1.inside, h.1.split, c.if-ahead-ne1.false) in
    omega (arith, last c.requires.0 c.requires.1 (c.requires.2, c.requires.3))

pub choices-requires : goal.choices-requires
choices-requires c =
    let At : Problem → List ℕ → Type 0 = λ p vs. Ready p c.args.numbers.now c.args.supports.now × Chosen p vs c.args.k c.args.ahead c.args.key in
    let last : (p : Problem) (vs : List ℕ) → At p vs → c.arity.result ≡ length vs + 1 = λ p vs h. omega (arith, c.arity.ensures p h.0.framed h.1.inside, h.1.split, c.if-ahead-ne1.false) in
    let variable : (p : Problem) (vs : List ℕ) → At p vs → c.scope_at-x.result ≡ at (constraint_at p c.args.k).scope (length vs) = λ p vs h. let l = last p vs h in
    let e : c.arity.result - 1 ≡ length vs = omega arith in
    c.scope_at-x.ensures p h.0.framed h.1.inside (omega (arith, c.arity.ensures p h.0.framed h.1.inside))
    ∙ ap (at (constraint_at p c.args.k).scope) e in
    let chosen : (p : Problem) (vs : List ℕ) → At p vs → Chosen p vs c.args.k 1 c.args.key = λ p vs h. subst (λ (n : ℕ). Chosen p vs c.args.k n c.args.key) c.if-ahead-ne1.false h.1 in
    (c.requires.0, c.requires.1, c.requires.2, chosen c.requires.0 c.requires.1 (c.requires.2, c.requires.3), some, variable c.requires.0 c.requires.1 (c.requires.2, c.requires.3))
