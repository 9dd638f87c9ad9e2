-- `run_between::put_node` meets its contract: proofs/Steps. Assumes nothing.
use Rattle.run_between.proofs.{Steps.put_asks, Steps.put_node}
use Rattle.run_between.proofs.put_node.Goals as goal

pub descend-requires : goal.descend-requires
descend-requires c =
    (_, _, put_asks c.requires.0 _ _ _ _ _ c.requires.1 c.requires.2 _ _ c.requires.3)

pub returns : goal.returns
returns c = λ p list tally g. put_node p _ _ _ _ _ list tally _ _ g _ _ _ (c.descend.ensures _ _ (put_asks p _ _ _ _ _ list tally _ _ g))
