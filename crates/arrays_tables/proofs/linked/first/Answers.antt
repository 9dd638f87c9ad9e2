-- No constraint before has the same number. Assumes nothing.
use Rattle.model.specs.Kit.{◌≡◌, refl, sym, ◌∙◌, List, ℕ, ◌+◌, ◌-◌, ◌%◌, arith, rules, length, ne_eqb}
use Rattle.std.proofs.Common.{tests}
use Rattle.std.specs.List.{between}
use Rattle.std.proofs.lemmas.Iterator.{YieldsList-from_slice, cases_from_all}
use Rattle.std.proofs.lemmas.List.Edits.{length-between}
use Rattle.model.specs.Lists.{at}
use Rattle.arrays.specs.Inner.Places.{SCOPES}
use Rattle.arrays_tables.proofs.{Scopes.first_other, Scopes.first_search}
use Rattle.arrays_tables.proofs.linked.first.Goals as goal

pub returns-else-arity-eq2 : goal.returns-else-arity-eq2
unfolding at
returns-else-arity-eq2 c = λ p nb h. ne_eqb _ 2 c.if-arity-eq2.false ∙ first_other p _ nb _ h (λ e. c.if-arity-eq2.false (c.arity.ensures ∙ e))

pub returns-then-arity-eq2 : goal.returns-then-arity-eq2
unfolding at
returns-then-arity-eq2 c = λ p nb h.
    let w : ℕ = at c.args.numbers.now (SCOPES + c.args.k) % 16777216 in
    let part : List ℕ = between SCOPES (SCOPES + c.args.k) c.args.numbers.now in
    let long : length part ≡ c.args.k = length-between c.args.numbers.now SCOPES (SCOPES + c.args.k) (omega arith) ∙ (let e : SCOPES + c.args.k - SCOPES ≡ c.args.k = omega arith in e) in
    first_search p _ nb _ h (sym c.arity.ensures ∙ c.if-arity-eq2.true) part c.all.result refl long
    (cases_from_all _ _ _ (λ n. n % 16777216 ≡ w → ⊥) (λ n. n % 16777216 ≡ w) c.all.ensures.ran (YieldsList-from_slice part cc) (λ x q k. search (rules, tests)) (λ x q k. search (rules, tests)))
