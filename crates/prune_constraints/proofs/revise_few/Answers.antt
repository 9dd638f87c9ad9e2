-- A constraint on one or two variables, by its arity. Assumes nothing.
use Rattle.model.specs.Kit.{refl, sym, ◌∙◌, Memᴰ-head, arith}
use Rattle.model.specs.Lists.{at}
use Rattle.prune_constraints.proofs.{Scopes.read_1, Scopes.read_2, Stores.one}
use Rattle.prune_constraints.proofs.revise_few.Goals as goal

pub revise_two-requires : goal.revise_two-requires
unfolding at
revise_two-requires c =
    record {
      sets = c.requires.sets;
      scoped =
          (_, read_2 c.requires.constraints_held.1 _ c.requires.constraints_held.2 _ c.scope_at-x.ensures _ c.scope_at-y.ensures (sym c.arity.ensures ∙ c.if-arity-eq2.true));
    }

pub returns-then-arity-eq2 : goal.returns-then-arity-eq2
unfolding at
returns-then-arity-eq2 c =
    λ p g h. c.revise_two.ensures _ (read_2 g _ h _ c.scope_at-x.ensures _ c.scope_at-y.ensures (sym c.arity.ensures ∙ c.if-arity-eq2.true))

pub revise_one-requires : goal.revise_one-requires
unfolding at
revise_one-requires c = let s = read_1 c.requires.constraints_held.1 _ c.requires.constraints_held.2 _ c.scope_at-x.ensures c.requires.fact (λ e. c.if-arity-eq2.false (c.arity.ensures ∙ e)) in
    record { sets = c.requires.sets; x_bound = s.inside _ (Memᴰ-head refl); offset_bound = omega (arith, s.room) }

pub returns : goal.returns
unfolding at
returns c =
    λ p g h. one (read_1 g _ h _ c.scope_at-x.ensures c.requires.fact (λ e. c.if-arity-eq2.false (c.arity.ensures ∙ e))) _ c.requires.sets _ c.revise_one.result c.revise_one.ensures
