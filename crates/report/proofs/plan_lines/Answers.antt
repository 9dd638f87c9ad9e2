-- `plan_lines`: after i turns the lines of the first i rows stand at the front. Assumes nothing.
use Rattle.model.specs.Kit.{◌≡◌, refl, ◌∙◌, subst, List, ℕ, ◌+◌, ◌*◌, ◌≤◌, arith, length}
use Rattle.model.specs.{Lists.flat, Run.listed_plans, Written.Written}
use Rattle.report.specs.Inner.Text.{plan_lines}
use Rattle.model.proofs.Written.{written_none}
use Rattle.report.proofs.{Lines.row_inside, Lines.plans_turn, Lines.lines_step, Lines.lines_fit}
use Rattle.report.proofs.plan_lines.Goals as goal

start : (d : List ℕ) (n : ℕ) (list : List ℕ) → Written d 0 (plan_lines n 0 list) d 0
unfolding listed_plans flat
start d n list = written_none d 0

pub loop-i-init : goal.loop-i-init
loop-i-init c =
    (refl, start c.args.out.now c.args.n c.args.list.now)

pub plan_line-next-requires : goal.plan_line-next-requires
plan_line-next-requires c =
    omega (
      arith,
      lines_step c.args.n c.loop-i.i (c.loop-i.i * c.args.n) c.args.list.now refl,
      lines_fit c.args.n c.loop-i.i c.args.plans c.args.list.now (omega arith),
      c.loop-i.invariant.0,
      c.loop-i.invariant.1.ends,
      c.requires.1,
    )

pub loop-i-preserved : goal.loop-i-preserved
loop-i-preserved c = (
  c.plan_line-next.auto.out ∙ c.loop-i.invariant.0,
  plans_turn c.args.n c.loop-i.i (c.loop-i.i * c.args.n) c.args.list.now refl
      (omega (
        arith,
        lines_step c.args.n c.loop-i.i (c.loop-i.i * c.args.n) c.args.list.now refl,
        lines_fit c.args.n c.loop-i.i c.args.plans c.args.list.now
            (omega arith),
        c.loop-i.invariant.1.ends,
        c.requires.1,
      ))
      c.loop-i.invariant.1 c.plan_line-next.ensures,
)

pub returns : goal.returns
returns c =
    let last : c.loop-i.i ≡ c.args.plans = omega arith in
    subst (λ (k : ℕ). Written c.args.out.now 0 (plan_lines c.args.n k c.args.list.now) c.loop-i.out c.loop-i.next) last c.loop-i.invariant.1

pub overflow_add-at : goal.overflow_add-at
overflow_add-at c =
    let inside : (c.loop-i.i * c.args.n) + c.args.n ≤ length c.args.list.now =
    row_inside c.args.n c.loop-i.i c.args.plans (c.loop-i.i * c.args.n) (length c.args.list.now) (omega arith) refl c.requires.0 in
    omega (arith, inside)

pub slice_bounds-plan_line-end : goal.slice_bounds-plan_line-end
slice_bounds-plan_line-end c =
    let inside : (c.loop-i.i * c.args.n) + c.args.n ≤ length c.args.list.now =
    row_inside c.args.n c.loop-i.i c.args.plans (c.loop-i.i * c.args.n) (length c.args.list.now) (omega arith) refl c.requires.0 in
    omega (arith, inside)

pub shape_of-out : goal.shape_of-out
shape_of-out c = c.loop-i.invariant.0
