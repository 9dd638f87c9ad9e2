-- The loop: only the variables that are left may refuse a value. The measure is the number of values in all sets, then the set of those left. Assumes nothing.
use Rattle.std.proofs.lemmas.Option.{MatchOption-at_none, MatchOption-at_some}
use Rattle.model.specs.Kit.{sym, subst, arith, rules}
use Rattle.model.specs.{Lists.at}
use Rattle.prune_pairs.specs.Inner.Links.{ArcsMade}
use Rattle.prune_pairs.proofs.ArcsLoop.{ArcsSoFar, arcs_begin, arcs_end, arcs_lt, arcs_ready, arcs_dead, arcs_turn, arcs_less}
use Rattle.prune_pairs.proofs.arcs.Goals as goal

pub loop-left-init : goal.loop-left-init
loop-left-init c = λ p w. arcs_begin w (search rules) c.requires.settled

pub cut_by-requires : goal.cut_by-requires
unfolding at
cut_by-requires c =
    let so_far : ArcsSoFar c.requires.arcs_pending.0 c.args.sets.now c.loop-left.sets c.loop-left.left c.loop-left.all c.args.low =
    c.loop-left.invariant c.requires.arcs_pending.0 c.requires.arcs_pending.1 in
    (_, arcs_ready c.requires.arcs_pending.1 so_far c.loop-left-test.true)

pub returns-in_err-changed : goal.returns-in_err-changed
unfolding at
returns-in_err-changed c =
    λ p w.
    let t = c.loop-left.invariant p w in
    subst (ArcsMade p c.args.sets.now c.cut_by.new.sets) (sym c.from_residual.ensures)
    (arcs_dead w t c.loop-left-test.true (MatchOption-at_none _ _ c.in_err-changed.was (c.cut_by.ensures p (arcs_ready w t c.loop-left-test.true))))

pub loop-left-smaller : goal.loop-left-smaller
unfolding at
loop-left-smaller c =
    let so_far : ArcsSoFar c.requires.arcs_pending.0 c.args.sets.now c.loop-left.sets c.loop-left.left c.loop-left.all c.args.low =
    c.loop-left.invariant c.requires.arcs_pending.0 c.requires.arcs_pending.1 in
    let t = so_far in
    arcs_less c.requires.arcs_pending.1 t c.loop-left-test.true
    (MatchOption-at_some _ _ _ c.in_ok-changed.was (c.cut_by.ensures _ (arcs_ready c.requires.arcs_pending.1 t c.loop-left-test.true))) (search rules)

pub loop-left-preserved : goal.loop-left-preserved
unfolding at
loop-left-preserved c =
    λ p w.
    let t = c.loop-left.invariant p w in
    arcs_turn w t c.loop-left-test.true (MatchOption-at_some _ _ _ c.in_ok-changed.was (c.cut_by.ensures p (arcs_ready w t c.loop-left-test.true))) (search rules)

pub returns : goal.returns
returns c = λ p w. arcs_end w (c.loop-left.invariant p w) c.loop-left-test.false

pub overflow_cast-x : goal.overflow_cast-x
overflow_cast-x c =
    let so_far : ArcsSoFar c.requires.arcs_pending.0 c.args.sets.now c.loop-left.sets c.loop-left.left c.loop-left.all c.args.low =
    c.loop-left.invariant c.requires.arcs_pending.0 c.requires.arcs_pending.1 in
    omega (arith, arcs_lt c.requires.arcs_pending.1 so_far c.loop-left-test.true)
