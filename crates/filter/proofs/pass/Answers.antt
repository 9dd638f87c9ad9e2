-- `filter::pass` meets its contract. The entries before `i` are passed: what is asked from the start on is what is asked from `i` on of the sets as they are. Assumes nothing.
use Rattle.model.specs.Kit.{arith}
use Rattle.model.specs.{Lists.at}
use Rattle.filter.proofs.{Turns.starts, Turns.ends, Turns.turn_right, Turns.turn_next, Turns.turn_failed, Turns.turn_obeyed, Turns.turn_split}
use Rattle.filter.proofs.pass.Goals as goal

pub loop-i-init : goal.loop-i-init
loop-i-init c = λ n w. starts w

pub read-requires : goal.read-requires
unfolding at
read-requires c = turn_right c.requires.1 (c.loop-i.invariant c.requires.0 c.requires.1) (omega arith)

pub returns-in-Failed : goal.returns-in-Failed
unfolding at
returns-in-Failed c = λ n w. turn_failed w (c.loop-i.invariant n w) (omega arith) c.read.ensures c.in-Failed.is

pub returns-in-Obeyed : goal.returns-in-Obeyed
unfolding at
returns-in-Obeyed c = λ n w. turn_obeyed w (c.loop-i.invariant n w) (omega arith) c.read.ensures c.in-Obeyed.is

pub returns-in-Split : goal.returns-in-Split
unfolding at
returns-in-Split c = λ n w. turn_split w (c.loop-i.invariant n w) (omega arith) c.read.ensures c.loop-i.auto.i c.in-Split.is

pub loop-i-preserved : goal.loop-i-preserved
unfolding at
loop-i-preserved c = λ n w. turn_next w (c.loop-i.invariant n w) (omega arith) c.read.ensures c.in-Next.is

pub returns : goal.returns
returns c = λ n w. ends w (c.loop-i.invariant n w) (omega arith)
