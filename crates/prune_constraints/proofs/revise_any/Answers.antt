-- One constraint, by its arity: on three variables all three sets are cut. Assumes nothing.
use Rattle.model.specs.Kit.{◌≡◌, refl, sym, ◌∙◌, [], ◌∷◌, ◌+◌, ◌<◌, length}
use Rattle.model.specs.{Lists.at, Problem.Problem, Problem.constraint_at}
use Rattle.arrays.specs.{Inner.Places.SCOPES, Inner.Layout.arity_in}
use Rattle.prune_constraints.specs.Inner.Steps.{ConstraintsHeld, Scoped}
use Rattle.prune_constraints.proofs.{Scopes.of_three, Scopes.read_3}
use Rattle.prune_constraints.proofs.revise_any.Goals as goal

pub revise_few-requires : goal.revise_few-requires
unfolding at
revise_few-requires c = record { sets = c.requires.sets; fact = (λ e. c.if-arity-ne3.true (c.arity.ensures ∙ e)); constraints_held = (_, c.requires.constraints_held.1, c.requires.constraints_held.2) }

pub bounds-sets-x : goal.bounds-sets-x
unfolding at
bounds-sets-x c =
    let is_three : arity_in (at c.args.numbers.now (SCOPES + c.args.k)) ≡ 3 = sym c.arity.ensures ∙ c.if-arity-ne3.false in
    let three_of : (p : Problem) → ConstraintsHeld p c.args.numbers.now c.args.supports.now → c.args.k < length p.constraints →
    Scoped (constraint_at p c.args.k) c.args.supports.now c.args.k (c.scope_at-x.result ∷ c.scope_at-y.result ∷ c.scope_at-z.result ∷ []) =
    λ p g h. read_3 g _ h _ c.scope_at-x.ensures _ c.scope_at-y.ensures _ c.scope_at-z.ensures is_three in
    let three : Scoped (constraint_at c.requires.constraints_held.0 c.args.k) c.args.supports.now c.args.k (c.scope_at-x.result ∷ c.scope_at-y.result ∷ c.scope_at-z.result ∷ []) =
    three_of c.requires.constraints_held.0 c.requires.constraints_held.1 c.requires.constraints_held.2 in
    (of_three refl three.inside).0

pub bounds-sets-y : goal.bounds-sets-y
unfolding at
bounds-sets-y c =
    let is_three : arity_in (at c.args.numbers.now (SCOPES + c.args.k)) ≡ 3 = sym c.arity.ensures ∙ c.if-arity-ne3.false in
    let three_of : (p : Problem) → ConstraintsHeld p c.args.numbers.now c.args.supports.now → c.args.k < length p.constraints →
    Scoped (constraint_at p c.args.k) c.args.supports.now c.args.k (c.scope_at-x.result ∷ c.scope_at-y.result ∷ c.scope_at-z.result ∷ []) =
    λ p g h. read_3 g _ h _ c.scope_at-x.ensures _ c.scope_at-y.ensures _ c.scope_at-z.ensures is_three in
    let three : Scoped (constraint_at c.requires.constraints_held.0 c.args.k) c.args.supports.now c.args.k (c.scope_at-x.result ∷ c.scope_at-y.result ∷ c.scope_at-z.result ∷ []) =
    three_of c.requires.constraints_held.0 c.requires.constraints_held.1 c.requires.constraints_held.2 in
    (of_three refl three.inside).1

pub bounds-sets-z : goal.bounds-sets-z
unfolding at
bounds-sets-z c =
    let is_three : arity_in (at c.args.numbers.now (SCOPES + c.args.k)) ≡ 3 = sym c.arity.ensures ∙ c.if-arity-ne3.false in
    let three_of : (p : Problem) → ConstraintsHeld p c.args.numbers.now c.args.supports.now → c.args.k < length p.constraints →
    Scoped (constraint_at p c.args.k) c.args.supports.now c.args.k (c.scope_at-x.result ∷ c.scope_at-y.result ∷ c.scope_at-z.result ∷ []) =
    λ p g h. read_3 g _ h _ c.scope_at-x.ensures _ c.scope_at-y.ensures _ c.scope_at-z.ensures is_three in
    let three : Scoped (constraint_at c.requires.constraints_held.0 c.args.k) c.args.supports.now c.args.k (c.scope_at-x.result ∷ c.scope_at-y.result ∷ c.scope_at-z.result ∷ []) =
    three_of c.requires.constraints_held.0 c.requires.constraints_held.1 c.requires.constraints_held.2 in
    (of_three refl three.inside).2

pub leave-requires : goal.leave-requires
unfolding at
leave-requires c =
    let is_three : arity_in (at c.args.numbers.now (SCOPES + c.args.k)) ≡ 3 = sym c.arity.ensures ∙ c.if-arity-ne3.false in
    let three_of : (p : Problem) → ConstraintsHeld p c.args.numbers.now c.args.supports.now → c.args.k < length p.constraints →
    Scoped (constraint_at p c.args.k) c.args.supports.now c.args.k (c.scope_at-x.result ∷ c.scope_at-y.result ∷ c.scope_at-z.result ∷ []) =
    λ p g h. read_3 g _ h _ c.scope_at-x.ensures _ c.scope_at-y.ensures _ c.scope_at-z.ensures is_three in
    let three : Scoped (constraint_at c.requires.constraints_held.0 c.args.k) c.args.supports.now c.args.k (c.scope_at-x.result ∷ c.scope_at-y.result ∷ c.scope_at-z.result ∷ []) =
    three_of c.requires.constraints_held.0 c.requires.constraints_held.1 c.requires.constraints_held.2 in
    record { sets = c.requires.sets; x_bound = of_three refl three.inside }

pub returns : goal.returns
unfolding at
returns c =
    let is_three : arity_in (at c.args.numbers.now (SCOPES + c.args.k)) ≡ 3 = sym c.arity.ensures ∙ c.if-arity-ne3.false in
    let three_of : (p : Problem) → ConstraintsHeld p c.args.numbers.now c.args.supports.now → c.args.k < length p.constraints →
    Scoped (constraint_at p c.args.k) c.args.supports.now c.args.k (c.scope_at-x.result ∷ c.scope_at-y.result ∷ c.scope_at-z.result ∷ []) =
    λ p g h. read_3 g _ h _ c.scope_at-x.ensures _ c.scope_at-y.ensures _ c.scope_at-z.ensures is_three in
    λ p g h. c.leave.ensures _ _ _ (three_of p g h) c.supported3-t.ensures
