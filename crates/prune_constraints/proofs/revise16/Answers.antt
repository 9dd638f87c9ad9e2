-- One constraint on three variables whose first set has one value, or any. Assumes nothing.
use Rattle.model.specs.Kit.{◌≡◌, refl, sym, ◌∙◌, [], ◌∷◌, ◌+◌, ◌<◌, length}
use Rattle.model.specs.{Lists.at, Problem.Problem, Problem.constraint_at}
use Rattle.arrays.specs.{Inner.Places.SCOPES, Inner.Layout.arity_in}
use Rattle.prune_constraints.specs.Inner.Steps.{OneValue, ConstraintsHeld, Scoped}
use Rattle.prune_constraints.proofs.{Scopes.of_three, Scopes.read_3, Unions.one_value}
use Rattle.prune_constraints.proofs.revise16.Goals as goal

pub revise_few-requires : goal.revise_few-requires
unfolding at
revise_few-requires c = record { sets = c.requires.sets; fact = (λ e. c.if-arity-ne3.true (c.arity.ensures ∙ e)); constraints_held = (_, c.requires.constraints_held.1, c.requires.constraints_held.2) }

pub bounds-sets-x : goal.bounds-sets-x
unfolding at
bounds-sets-x c =
    let is_three : arity_in (at c.args.numbers.now (SCOPES + c.args.k)) ≡ 3 = sym c.arity.ensures ∙ c.if-arity-ne3.false in
    let three_of : (p : Problem) → ConstraintsHeld p c.args.numbers.now c.args.supports.now → c.args.k < length p.constraints →
    Scoped (constraint_at p c.args.k) c.args.supports.now c.args.k (c.scope_at-x.result ∷ c.scope_at-y.result ∷ c.scope_at-z.result ∷ []) =
    λ p g h. read_3 g _ h _ c.scope_at-x.ensures _ c.scope_at-y.ensures _ c.scope_at-z.ensures is_three in
    let three : Scoped (constraint_at c.requires.constraints_held.0 c.args.k) c.args.supports.now c.args.k (c.scope_at-x.result ∷ c.scope_at-y.result ∷ c.scope_at-z.result ∷ []) =
    three_of c.requires.constraints_held.0 c.requires.constraints_held.1 c.requires.constraints_held.2 in
    (of_three refl three.inside).0

pub bounds-sets-y : goal.bounds-sets-y
unfolding at
bounds-sets-y c =
    let is_three : arity_in (at c.args.numbers.now (SCOPES + c.args.k)) ≡ 3 = sym c.arity.ensures ∙ c.if-arity-ne3.false in
    let three_of : (p : Problem) → ConstraintsHeld p c.args.numbers.now c.args.supports.now → c.args.k < length p.constraints →
    Scoped (constraint_at p c.args.k) c.args.supports.now c.args.k (c.scope_at-x.result ∷ c.scope_at-y.result ∷ c.scope_at-z.result ∷ []) =
    λ p g h. read_3 g _ h _ c.scope_at-x.ensures _ c.scope_at-y.ensures _ c.scope_at-z.ensures is_three in
    let three : Scoped (constraint_at c.requires.constraints_held.0 c.args.k) c.args.supports.now c.args.k (c.scope_at-x.result ∷ c.scope_at-y.result ∷ c.scope_at-z.result ∷ []) =
    three_of c.requires.constraints_held.0 c.requires.constraints_held.1 c.requires.constraints_held.2 in
    (of_three refl three.inside).1

pub revise_last-requires : goal.revise_last-requires
unfolding at
revise_last-requires c =
    let is_three : arity_in (at c.args.numbers.now (SCOPES + c.args.k)) ≡ 3 = sym c.arity.ensures ∙ c.if-arity-ne3.false in
    let three_of : (p : Problem) → ConstraintsHeld p c.args.numbers.now c.args.supports.now → c.args.k < length p.constraints →
    Scoped (constraint_at p c.args.k) c.args.supports.now c.args.k (c.scope_at-x.result ∷ c.scope_at-y.result ∷ c.scope_at-z.result ∷ []) =
    λ p g h. read_3 g _ h _ c.scope_at-x.ensures _ c.scope_at-y.ensures _ c.scope_at-z.ensures is_three in
    let three : Scoped (constraint_at c.requires.constraints_held.0 c.args.k) c.args.supports.now c.args.k (c.scope_at-x.result ∷ c.scope_at-y.result ∷ c.scope_at-z.result ∷ []) =
    three_of c.requires.constraints_held.0 c.requires.constraints_held.1 c.requires.constraints_held.2 in
    let one : OneValue (at c.args.sets.now c.scope_at-x.result) =
    one_value _ _ _ (c.requires.sets.1 _) (of_three three.is c.requires.constraints_held.3).0 c.without_lowest.ensures c.is_empty.ensures c.if-is_empty.true in
    let one_y : OneValue (at c.args.sets.now c.scope_at-y.result) =
    one_value _ _ _ (c.requires.sets.1 _) (of_three three.is c.requires.constraints_held.3).1 c.without_lowest-then-is_empty.ensures c.is_empty-then-is_empty.ensures c.if-is_empty-2.true in
    record { sets = c.requires.sets; one_value = (one, one_y); scoped = (_, three) }

pub returns-then-is_empty-2 : goal.returns-then-is_empty-2
unfolding at
returns-then-is_empty-2 c =
    let is_three : arity_in (at c.args.numbers.now (SCOPES + c.args.k)) ≡ 3 = sym c.arity.ensures ∙ c.if-arity-ne3.false in
    let three_of : (p : Problem) → ConstraintsHeld p c.args.numbers.now c.args.supports.now → c.args.k < length p.constraints →
    Scoped (constraint_at p c.args.k) c.args.supports.now c.args.k (c.scope_at-x.result ∷ c.scope_at-y.result ∷ c.scope_at-z.result ∷ []) =
    λ p g h. read_3 g _ h _ c.scope_at-x.ensures _ c.scope_at-y.ensures _ c.scope_at-z.ensures is_three in
    λ p g h. c.revise_last.ensures _ (three_of p g h)

pub revise_rest-requires : goal.revise_rest-requires
unfolding at
revise_rest-requires c =
    let is_three : arity_in (at c.args.numbers.now (SCOPES + c.args.k)) ≡ 3 = sym c.arity.ensures ∙ c.if-arity-ne3.false in
    let three_of : (p : Problem) → ConstraintsHeld p c.args.numbers.now c.args.supports.now → c.args.k < length p.constraints →
    Scoped (constraint_at p c.args.k) c.args.supports.now c.args.k (c.scope_at-x.result ∷ c.scope_at-y.result ∷ c.scope_at-z.result ∷ []) =
    λ p g h. read_3 g _ h _ c.scope_at-x.ensures _ c.scope_at-y.ensures _ c.scope_at-z.ensures is_three in
    let three : Scoped (constraint_at c.requires.constraints_held.0 c.args.k) c.args.supports.now c.args.k (c.scope_at-x.result ∷ c.scope_at-y.result ∷ c.scope_at-z.result ∷ []) =
    three_of c.requires.constraints_held.0 c.requires.constraints_held.1 c.requires.constraints_held.2 in
    let one : OneValue (at c.args.sets.now c.scope_at-x.result) =
    one_value _ _ _ (c.requires.sets.1 _) (of_three three.is c.requires.constraints_held.3).0 c.without_lowest.ensures c.is_empty.ensures c.if-is_empty.true in
    record { sets = c.requires.sets; one_value = (one, (of_three three.is c.requires.constraints_held.3).2); scoped = (_, three) }

pub returns-then-is_empty : goal.returns-then-is_empty
unfolding at
returns-then-is_empty c =
    let is_three : arity_in (at c.args.numbers.now (SCOPES + c.args.k)) ≡ 3 = sym c.arity.ensures ∙ c.if-arity-ne3.false in
    let three_of : (p : Problem) → ConstraintsHeld p c.args.numbers.now c.args.supports.now → c.args.k < length p.constraints →
    Scoped (constraint_at p c.args.k) c.args.supports.now c.args.k (c.scope_at-x.result ∷ c.scope_at-y.result ∷ c.scope_at-z.result ∷ []) =
    λ p g h. read_3 g _ h _ c.scope_at-x.ensures _ c.scope_at-y.ensures _ c.scope_at-z.ensures is_three in
    λ p g h. c.revise_rest.ensures _ (three_of p g h)

pub revise_any-requires : goal.revise_any-requires
unfolding at
revise_any-requires c = record { sets = c.requires.sets; constraints_held = (_, c.requires.constraints_held.1, c.requires.constraints_held.2) }
