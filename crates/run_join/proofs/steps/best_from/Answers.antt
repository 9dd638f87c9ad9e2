-- `best_from`: it is that of the heads passed. Assumes nothing.
use Rattle.model.specs.Kit.{◌≡◌, refl, sym, ap, ◌∙◌, suc, ◌≤◌, arith, Bool}
use Rattle.model.specs.Lists.{choose}
use Rattle.run_join.specs.Join.{path_at, best_of, head_number}
use Rattle.run_join.proofs.Turns.{best_passed, best_turn, both_given, chosen_few}
use Rattle.run_join.proofs.steps.best_from.Goals as goal
use Rattle.run_join.proofs.steps.best_from.Goals.{then-is_further, else-is_further}

pub loop-next-init : goal.loop-next-init
unfolding best_of
loop-next-init c = (refl, omega arith, omega arith)

pub loop-next-preserved : goal.loop-next-preserved
loop-next-preserved c =
    let l = c.args.l.now in
    let s = path_at c.args.here.now 0 in
    let next = c.in-Some.next in
    let found = c.in-Some.ensures in
    let t = c.is_further.result in
    let few : head_number c.loop-next.best ≤ next = omega (arith, c.loop-next.invariant.1, found.0) in
    let picked : head_number c.if-is_further.best ≡ choose t (suc next) (head_number c.loop-next.best) = elim c.if-is_further.branch [
      | then-is_further w ↦ ap head_number w.best-is ∙ sym (ap (λ (b : Bool). choose b (suc next) (head_number c.loop-next.best)) w.if-is_further.true)
      | else-is_further w ↦ ap head_number w.best-is ∙ sym (ap (λ (b : Bool). choose b (suc next) (head_number c.loop-next.best)) w.if-is_further.false)
    ] in
    let before = c.loop-next.invariant.0 ∙ sym (best_passed l s c.args.marks.now c.args.n c.requires.2 c.loop-next.k next found.0 (omega (arith, found.1)) found.3) in (
      best_turn l s next c.loop-next.best c.if-is_further.best t picked _ (c.requires.2 next found.1) before (c.is_further.ensures ∙ both_given _ _ _ found.2),
      chosen_few l s next c.loop-next.best c.if-is_further.best t picked few,
      omega (arith, found.1),
    )

pub returns : goal.returns
returns c = (
  c.loop-next.invariant.0
      ∙ sym (best_passed c.args.l.now (path_at c.args.here.now 0) c.args.marks.now c.args.n c.requires.2 c.loop-next.k c.args.n c.loop-next.invariant.2 (omega arith) c.in_default.ensures),
  omega (arith, c.loop-next.invariant.1, c.loop-next.invariant.2),
)
