use Rattle.model.specs.Kit.{◌≡◌, sym, ◌∙◌, subst, ℕ, ◌/◌, ◌^◌, ◌<◌, arith, bit_and, bit_or, length}
use Rattle.model.specs.{Lists.at, Problem.Problem}
use Rattle.sheet_table.specs.Inner.Forbidden.{Triple}
use Rattle.sheet_carried.proofs.Asking.{first_clash, second_clash, third_clash, variables_small, asked_yes, asked_all}
use Rattle.sheet_carried.proofs.{Scopes.all_few, Scopes.two_few}
use Rattle.sheet_carried.proofs.forbidden.blocked.Goals as goal

pub returns-then-clash : goal.returns-then-clash
returns-then-clash c = λ p t. first_clash p _ _ _ _ _ t (sym c.clash.ensures ∙ c.if-clash.true)

pub returns-then-clash-2 : goal.returns-then-clash-2
returns-then-clash-2 c = λ p t. second_clash p _ _ _ _ _ t (sym c.clash-2.ensures ∙ c.if-clash-2.true)

pub returns-then-clash-3 : goal.returns-then-clash-3
returns-then-clash-3 c = λ p t. third_clash p _ _ _ _ _ t (sym c.clash-3.ensures ∙ c.if-clash-3.true)

-- the constraints on two of the variables, and on any
abbrev two : ℕ → ℕ → ℕ → ℕ
two s t u = bit_or (bit_or (bit_and s t) (bit_and s u)) (bit_and t u)

abbrev some : ℕ → ℕ → ℕ → ℕ
some s t u = bit_or (bit_or s t) u

pub returns-then-any_refuses : goal.returns-then-any_refuses
returns-then-any_refuses c =
    let Given : Problem → Type 0 = λ p. Triple p c.args.numbers.now c.args.supports.now c.args.a c.args.b c.args.e in
    let found : (f : ℕ → ℕ → ℕ → ℕ) →
    f c.number-s.result c.number-t.result c.number-u.result ≡ f (at c.args.numbers.now (c.args.a / 16)) (at c.args.numbers.now (c.args.b / 16)) (at c.args.numbers.now (c.args.e / 16)) = λ f. cc in
    let few_two : (p : Problem) → Given p → two c.number-s.result c.number-t.result c.number-u.result < 2 ^ length p.constraints = λ p t. let v = variables_small p _ _ _ _ _ t in
    subst (λ (n : ℕ). n < 2 ^ length p.constraints) (sym (found two)) (two_few p _ t.ready.framed _ _ _ v.0 v.1 v.2) in
    λ p t. asked_yes p _ _ _ _ _ t _ _ (c.any_refuses.ensures p t (few_two p t)) c.if-any_refuses.true

pub returns : goal.returns
returns c =
    let Given : Problem → Type 0 = λ p. Triple p c.args.numbers.now c.args.supports.now c.args.a c.args.b c.args.e in
    let found : (f : ℕ → ℕ → ℕ → ℕ) →
    f c.number-s.result c.number-t.result c.number-u.result ≡ f (at c.args.numbers.now (c.args.a / 16)) (at c.args.numbers.now (c.args.b / 16)) (at c.args.numbers.now (c.args.e / 16)) = λ f. cc in
    let few_all : (p : Problem) → Given p → some c.number-s.result c.number-t.result c.number-u.result < 2 ^ length p.constraints = λ p t. let v = variables_small p _ _ _ _ _ t in
    subst (λ (n : ℕ). n < 2 ^ length p.constraints) (sym (found some)) (all_few p _ t.ready.framed _ _ _ v.0 v.1 v.2) in
    λ p t.
    asked_all p _ _ _ _ _ t _ _ (found some) (c.any_refuses-2.ensures p t (few_all p t))
    (sym c.clash.ensures
    ∙ c.if-clash.false)
    (sym c.clash-2.ensures ∙ c.if-clash-2.false)
    (sym c.clash-3.ensures ∙ c.if-clash-3.false)

pub number-s-requires : goal.number-s-requires
number-s-requires c = omega (arith, (variables_small c.requires.0 _ _ _ _ _ c.requires.1).0)

pub number-t-requires : goal.number-t-requires
number-t-requires c = omega (arith, (variables_small c.requires.0 _ _ _ _ _ c.requires.1).1)

pub number-u-requires : goal.number-u-requires
number-u-requires c = omega (arith, (variables_small c.requires.0 _ _ _ _ _ c.requires.1).2)

pub any_refuses-requires : goal.any_refuses-requires
any_refuses-requires c =
    let Given : Problem → Type 0 = λ p. Triple p c.args.numbers.now c.args.supports.now c.args.a c.args.b c.args.e in
    let found : (f : ℕ → ℕ → ℕ → ℕ) →
    f c.number-s.result c.number-t.result c.number-u.result ≡ f (at c.args.numbers.now (c.args.a / 16)) (at c.args.numbers.now (c.args.b / 16)) (at c.args.numbers.now (c.args.e / 16)) = λ f. cc in
    let few_two : (p : Problem) → Given p → two c.number-s.result c.number-t.result c.number-u.result < 2 ^ length p.constraints = λ p t. let v = variables_small p _ _ _ _ _ t in
    subst (λ (n : ℕ). n < 2 ^ length p.constraints) (sym (found two)) (two_few p _ t.ready.framed _ _ _ v.0 v.1 v.2) in
    (c.requires.0, c.requires.1, few_two c.requires.0 c.requires.1)

pub any_refuses-requires-2 : goal.any_refuses-requires-2
any_refuses-requires-2 c =
    let Given : Problem → Type 0 = λ p. Triple p c.args.numbers.now c.args.supports.now c.args.a c.args.b c.args.e in
    let found : (f : ℕ → ℕ → ℕ → ℕ) →
    f c.number-s.result c.number-t.result c.number-u.result ≡ f (at c.args.numbers.now (c.args.a / 16)) (at c.args.numbers.now (c.args.b / 16)) (at c.args.numbers.now (c.args.e / 16)) = λ f. cc in
    let few_all : (p : Problem) → Given p → some c.number-s.result c.number-t.result c.number-u.result < 2 ^ length p.constraints = λ p t. let v = variables_small p _ _ _ _ _ t in
    subst (λ (n : ℕ). n < 2 ^ length p.constraints) (sym (found some)) (all_few p _ t.ready.framed _ _ _ v.0 v.1 v.2) in
    (c.requires.0, c.requires.1, few_all c.requires.0 c.requires.1)
