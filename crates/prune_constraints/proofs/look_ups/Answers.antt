-- The loop: only the constraints left, those due that are not looked up, and those of the changed variables may take something. Assumes nothing.
use Rattle.model.specs.Kit.{sym, subst, arith, rules}
use Rattle.model.proofs.Members.{rest_less}
use Rattle.std.proofs.lemmas.Option.{MatchOption-at_none, MatchOption-at_some}
use Rattle.prune_constraints.specs.Inner.LookUps.{LookedUp}
use Rattle.prune_constraints.proofs.LookUpLoop.{LookedSoFar, looked_begin, looked_end, look_few, look_next, looked_dead, looked_turn}
use Rattle.prune_constraints.proofs.look_ups.Goals as goal

pub loop-left-init : goal.loop-left-init
loop-left-init c = λ p todo w. looked_begin w (search rules)

pub look_up-requires : goal.look_up-requires
look_up-requires c =
    let so_far : LookedSoFar c.requires.0 c.args.numbers.now c.args.supports.now c.args.sets.now c.loop-left.sets c.requires.1 c.args.some c.loop-left.left c.loop-left.all =
    c.loop-left.invariant c.requires.0 c.requires.1 c.requires.2 in
    let t = so_far in record { sets = t.so_far.sixteen; constraints_held = (_, t.so_far.held, look_next c.requires.2 t c.loop-left-test.true) }

pub returns-in_err-changed : goal.returns-in_err-changed
returns-in_err-changed c = λ p todo w.
    let t = c.loop-left.invariant p todo w in
    subst (LookedUp p c.args.numbers.now c.args.supports.now c.args.sets.now c.look_up.new.sets todo c.args.some) (sym c.from_residual.ensures)
    (looked_dead w t c.loop-left-test.true (MatchOption-at_none _ _ c.in_err-changed.was (c.look_up.ensures p t.so_far.held (look_next w t c.loop-left-test.true))))

pub loop-left-preserved : goal.loop-left-preserved
loop-left-preserved c = λ p todo w.
    let t = c.loop-left.invariant p todo w in
    looked_turn w t c.loop-left-test.true (MatchOption-at_some _ _ _ c.in_ok-changed.was (c.look_up.ensures p t.so_far.held (look_next w t c.loop-left-test.true)))

pub returns : goal.returns
returns c = λ p todo w. looked_end w (c.loop-left.invariant p todo w) c.loop-left-test.false

pub overflow_cast-k : goal.overflow_cast-k
overflow_cast-k c =
    let so_far : LookedSoFar c.requires.0 c.args.numbers.now c.args.supports.now c.args.sets.now c.loop-left.sets c.requires.1 c.args.some c.loop-left.left c.loop-left.all =
    c.loop-left.invariant c.requires.0 c.requires.1 c.requires.2 in
    omega (arith, look_few c.requires.2 so_far c.loop-left-test.true)

pub loop-left-smaller : goal.loop-left-smaller
loop-left-smaller c = rest_less _ c.loop-left-test.true
