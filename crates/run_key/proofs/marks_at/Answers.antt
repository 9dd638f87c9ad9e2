-- What the marks of a depth say. Assumes nothing.
use Rattle.model.specs.Kit.{sym, subst, ℕ, ◌+◌, ◌*◌, arith}
use Rattle.model.specs.{Lists.at}
use Rattle.model.proofs.Filling.{gathered_begin, gathered_turn, gathered_end}
use Rattle.arrays.specs.Inner.Places.{MARKS}
use Rattle.run_key.proofs.{Loops.PassedBy, Loops.passed_turn, Loops.lowered_le}
use Rattle.run_key.proofs.marks_at.Goals as goal

pub loop-e-init : goal.loop-e-init
loop-e-init c = (omega arith, omega arith, (λ f l n. absurd (omega arith)), gathered_begin _)

pub loop-e-preserved : goal.loop-e-preserved
unfolding at
loop-e-preserved c =
    let marks : ℕ → ℕ = λ f. at c.args.work.now (16 * c.args.k + MARKS + f) in (
      omega arith,
      omega (arith, lowered_le c.loop-e.low (marks c.loop-e.e), c.lower-low.ensures, c.loop-e.invariant.1),
      subst (PassedBy marks (c.loop-e.e + 1)) (sym c.lower-low.ensures) (passed_turn marks c.loop-e.e c.loop-e.low c.loop-e.invariant.2),
      gathered_turn _ _ _ _ c.loop-e.invariant.3 c.one_if-good.ensures,
    )

pub returns : goal.returns
returns c =
    record { within = c.loop-e.invariant.1; passed = λ f m n. c.loop-e.invariant.2 f (omega arith) n; obeyed = gathered_end _ _ _ _ (omega arith) (omega arith) c.loop-e.invariant.3 }
