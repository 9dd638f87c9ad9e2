-- The loop: only the constraints left of this round, and those of the next, may take something. Assumes nothing.
use Rattle.model.specs.Kit.{sym, subst, inr, ◌<◌, arith, rules, count_trailing_zeros}
use Rattle.std.proofs.lemmas.Option.{MatchOption-at_none, MatchOption-at_some}
use Rattle.prune_constraints.specs.Inner.Revised.{Constrained}
use Rattle.prune_constraints.proofs.ConstrainLoop.{Chosen, some_due, chosen_some, constrained_begin, constrained_end, k_lt, k_few, k_full, k_narrow, constrained_dead}
use Rattle.prune_constraints.proofs.ConstrainLoop.{constrained_more, more_less, constrained_same, same_less}
use Rattle.prune_constraints.proofs.constrain8.Goals as goal
use Rattle.prune_constraints.proofs.constrain8.Goals.{else-left-eq0, then-left-eq0+else-next-eq0}

pub loop-left-init : goal.loop-left-init
loop-left-init c = λ p w. constrained_begin p _ _ _ _ (search rules) w

pub returns-then-next-eq0 : goal.returns-then-next-eq0
returns-then-next-eq0 c = λ p w. constrained_end p _ _ _ _ _ _ _ c.if-left-eq0.true c.if-next-eq0.true (c.loop-left.invariant p w)

pub revise8-requires : goal.revise8-requires
revise8-requires c =
    let choice : Chosen c.loop-left.left c.loop-left.next c.if-left-eq0.left c.if-left-eq0.next =
    (elim c.if-left-eq0.branch [
      | then-left-eq0+else-next-eq0 q ↦ some_due q.if-left-eq0.true (search rules) q.round-left.ensures q.left-is q.next-is
      | else-left-eq0 q ↦
          inr (q.if-left-eq0.false, q.left-is, q.next-is)
    ]) in
    let i = c.loop-left.invariant _ c.requires.constraints_pending.1 in let o = choice in
    record { sets = i.sixteen; constraints_held = (_, i.held, k_lt i o, k_full i o, k_narrow i o c.requires.constraints_pending.1 c.requires.numbers_bound, c.requires.numbers_bound) }

pub returns-in_err-changed : goal.returns-in_err-changed
returns-in_err-changed c =
    let choice : Chosen c.loop-left.left c.loop-left.next c.if-left-eq0.left c.if-left-eq0.next =
    (elim c.if-left-eq0.branch [
      | then-left-eq0+else-next-eq0 q ↦ some_due q.if-left-eq0.true (search rules) q.round-left.ensures q.left-is q.next-is
      | else-left-eq0 q ↦
          inr (q.if-left-eq0.false, q.left-is, q.next-is)
    ]) in
    let o = choice in λ p w. let i = c.loop-left.invariant p w in
    subst (Constrained p c.args.sets.now c.revise8.new.sets) (sym c.from_residual.ensures)
    (constrained_dead i o (MatchOption-at_none _ _ c.in_err-changed.was (c.revise8.ensures p i.held (k_lt i o))))

pub loop-left-smaller-then-changed-ne0 : goal.loop-left-smaller-then-changed-ne0
loop-left-smaller-then-changed-ne0 c =
    let choice : Chosen c.loop-left.left c.loop-left.next c.if-left-eq0.left c.if-left-eq0.next =
    (elim c.if-left-eq0.branch [
      | then-left-eq0+else-next-eq0 q ↦ some_due q.if-left-eq0.true (search rules) q.round-left.ensures q.left-is q.next-is
      | else-left-eq0 q ↦
          inr (q.if-left-eq0.false, q.left-is, q.next-is)
    ]) in
    let o = choice in let i = c.loop-left.invariant _
    c.requires.constraints_pending.1 in more_less i o (MatchOption-at_some _ _ _ c.in_ok-changed.was (c.revise8.ensures _ i.held (k_lt i o)))
    (search rules) c.waiting-next.ensures (search rules) c.if-changed-ne0.true

pub loop-left-preserved-then-changed-ne0 : goal.loop-left-preserved-then-changed-ne0
loop-left-preserved-then-changed-ne0 c =
    let choice : Chosen c.loop-left.left c.loop-left.next c.if-left-eq0.left c.if-left-eq0.next =
    (elim c.if-left-eq0.branch [
      | then-left-eq0+else-next-eq0 q ↦ some_due q.if-left-eq0.true (search rules) q.round-left.ensures q.left-is q.next-is
      | else-left-eq0 q ↦
          inr (q.if-left-eq0.false, q.left-is, q.next-is)
    ]) in
    let o = choice in λ p w. let i = c.loop-left.invariant p w in
    constrained_more i o (MatchOption-at_some _ _ _ c.in_ok-changed.was (c.revise8.ensures p i.held (k_lt i o))) (search rules)
    c.waiting-next.ensures

pub loop-left-smaller : goal.loop-left-smaller
loop-left-smaller c =
    let choice : Chosen c.loop-left.left c.loop-left.next c.if-left-eq0.left c.if-left-eq0.next =
    (elim c.if-left-eq0.branch [
      | then-left-eq0+else-next-eq0 q ↦ some_due q.if-left-eq0.true (search rules) q.round-left.ensures q.left-is q.next-is
      | else-left-eq0 q ↦
          inr (q.if-left-eq0.false, q.left-is, q.next-is)
    ]) in
    let o = choice in let i = c.loop-left.invariant _
    c.requires.constraints_pending.1 in same_less i o (MatchOption-at_some _ _ _ c.in_ok-changed.was (c.revise8.ensures _ i.held (k_lt i o)))

pub loop-left-preserved : goal.loop-left-preserved
loop-left-preserved c =
    let choice : Chosen c.loop-left.left c.loop-left.next c.if-left-eq0.left c.if-left-eq0.next =
    (elim c.if-left-eq0.branch [
      | then-left-eq0+else-next-eq0 q ↦ some_due q.if-left-eq0.true (search rules) q.round-left.ensures q.left-is q.next-is
      | else-left-eq0 q ↦
          inr (q.if-left-eq0.false, q.left-is, q.next-is)
    ]) in
    let o = choice in λ p w. let i = c.loop-left.invariant p w in constrained_same i o
    (MatchOption-at_some _ _ _ c.in_ok-changed.was (c.revise8.ensures p i.held (k_lt i o))) c.if-changed-ne0.false

pub overflow_cast-k : goal.overflow_cast-k
overflow_cast-k c =
    let choice : Chosen c.loop-left.left c.loop-left.next c.if-left-eq0.left c.if-left-eq0.next =
    (elim c.if-left-eq0.branch [
      | then-left-eq0+else-next-eq0 q ↦ some_due q.if-left-eq0.true (search rules) q.round-left.ensures q.left-is q.next-is
      | else-left-eq0 q ↦
          inr (q.if-left-eq0.false, q.left-is, q.next-is)
    ]) in
    let few : count_trailing_zeros 64 c.if-left-eq0.left < 32 = k_few (c.loop-left.invariant _ c.requires.constraints_pending.1) choice in
    omega (arith, few)

pub overflow_sub-left : goal.overflow_sub-left
overflow_sub-left c =
    let choice : Chosen c.loop-left.left c.loop-left.next c.if-left-eq0.left c.if-left-eq0.next =
    (elim c.if-left-eq0.branch [
      | then-left-eq0+else-next-eq0 q ↦ some_due q.if-left-eq0.true (search rules) q.round-left.ensures q.left-is q.next-is
      | else-left-eq0 q ↦
          inr (q.if-left-eq0.false, q.left-is, q.next-is)
    ]) in
    let n = chosen_some choice in omega arith

pub waiting-next-requires : goal.waiting-next-requires
waiting-next-requires c =
    let choice : Chosen c.loop-left.left c.loop-left.next c.if-left-eq0.left c.if-left-eq0.next =
    (elim c.if-left-eq0.branch [
      | then-left-eq0+else-next-eq0 q ↦ some_due q.if-left-eq0.true (search rules) q.round-left.ensures q.left-is q.next-is
      | else-left-eq0 q ↦
          inr (q.if-left-eq0.false, q.left-is, q.next-is)
    ]) in
    let few : count_trailing_zeros 64 c.if-left-eq0.left < 32 = k_few (c.loop-left.invariant _ c.requires.constraints_pending.1) choice in
    omega (arith, few)
