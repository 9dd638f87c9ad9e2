-- `step`: the best from where one stands, if that is not the end. Assumes nothing.
use Rattle.model.specs.Kit.{refl, sym, ap, ◌∙◌, subst, arith, List, ℕ, [], ◌∷◌}
use Rattle.model.specs.Lists.{all, at, below, same, tabulate, up_from}
use Rattle.std.specs.Prelude.{Option}
use Rattle.run_join.specs.Join.{path_at, path_shaped, head_number, stand_path}
use Rattle.run_join.specs.Inner.Inner.{HeadOr}
use Rattle.run_join.proofs.Turns.{head_or, reach_path, step_end, step_best}
use Rattle.run_join.proofs.steps.step.Goals as goal

pub stand_path-requires : goal.stand_path-requires
stand_path-requires c = head_or c.args.l.now c.args.n c.requires.0 c.args.stand c.requires.2

pub returns-then-are_same : goal.returns-then-are_same
returns-then-are_same c = (
  step_end c.args.l.now (head_number c.args.stand) (ap (λ (s : List ℕ). same s (255 ∷ [])) (sym c.stand_path.ensures) ∙ sym c.are_same.ensures ∙ c.if-are_same.true),
  omega arith,
)

pub best_from-requires : goal.best_from-requires
unfolding path_shaped all at below up_from
best_from-requires c = (record { fits = omega arith; shaped = refl }, c.requires.0, c.requires.3)

pub returns-in-None : goal.returns-in-None
unfolding path_at tabulate at
returns-in-None c = (
  step_best c.args.l.now (head_number c.args.stand) c.args.n (head_number c.best_from.result) []
      (ap (λ (s : List ℕ). same s (255 ∷ [])) (sym c.stand_path.ensures) ∙ sym c.are_same.ensures ∙ c.if-are_same.false) c.requires.1
      (ap (λ (x : Option ℕ). stand_path c.args.l.now (head_number x)) (sym c.in-None.is)) c.best_from.ensures.0,
  c.best_from.ensures.1,
)

pub padded-requires : goal.padded-requires
padded-requires c =
    reach_path c.args.l.now c.in-Some.k (subst (HeadOr c.args.l.now) c.in-Some.is (head_or c.args.l.now c.args.n c.requires.0 c.args.stand c.requires.2))
    c.reach_place.result c.reach_place.ensures

pub best_from-requires-in-Some : goal.best_from-requires-in-Some
best_from-requires-in-Some c = (c.padded.ensures.0, c.requires.0, c.requires.3)

pub returns-in-Some : goal.returns-in-Some
returns-in-Some c = (
  step_best c.args.l.now (head_number c.args.stand) c.args.n (head_number c.best_from-in-Some.result) (path_at c.padded.result.now 0)
      (ap (λ (s : List ℕ). same s (255 ∷ [])) (sym c.stand_path.ensures) ∙ sym c.are_same.ensures ∙ c.if-are_same.false) c.requires.1
      (c.padded.ensures.1 ∙ ap (path_at c.args.l.now) c.reach_place.ensures ∙ ap (λ (x : Option ℕ). stand_path c.args.l.now (head_number x)) (sym c.in-Some.is))
      c.best_from-in-Some.ensures.0,
  c.best_from-in-Some.ensures.1,
)
