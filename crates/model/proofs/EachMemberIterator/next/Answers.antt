-- None where nothing is left, else the lowest, with less left after it. Assumes nothing.
use Rattle.model.specs.Kit.{◌<◌, arith}
use Rattle.model.specs.{EachMember.over, EachMember.comes}
use Rattle.model.proofs.Lowest.{lowest_less}
use Rattle.model.proofs.EachMemberIterator.next.Goals as goal

pub returns-then-self-eq0-clause-steps : goal.returns-then-self-eq0-clause-steps
returns-then-self-eq0-clause-steps c = over c.if-self-eq0.true

pub returns-clause-steps : goal.returns-clause-steps
returns-clause-steps c = rw (c.lowest-lowest.ensures, c.without_lowest-self.ensures) (comes c.if-self-eq0.false)

pub returns-clause-goes : goal.returns-clause-goes
returns-clause-goes c =
    let left : c.without_lowest-self.result.bits < c.args.self.now.left.bits =
    rw c.without_lowest-self.ensures (lowest_less c.args.self.now.left.bits (omega arith) c.if-self-eq0.false) in
    record { on = λ f. (tt, tt, left); keeps = tt; rests = λ f. tt }
