-- `run_between::step` meets its contract: proofs/Steps. Assumes nothing.
use Rattle.model.specs.Kit.{sym, ◌∙◌, arith}
use Rattle.model.specs.Lists.{at}
use Rattle.model.proofs.Lists.{T_of}
use Rattle.run_between.proofs.{Steps.step_asks, Steps.stepped_in, Steps.stepped_out}
use Rattle.run_between.proofs.step.Goals as goal

pub overflow_cast-work : goal.overflow_cast-work
unfolding at
overflow_cast-work c = omega (arith, c.requires.3.value)

pub descend-requires : goal.descend-requires
unfolding at
descend-requires c =
    (_, _, step_asks c.requires.0 _ _ _ _ _ c.requires.1 c.requires.2 _ c.requires.3 (T_of _ (sym c.contains.ensures ∙ c.if-contains.true)))

pub returns-then-contains : goal.returns-then-contains
unfolding at
returns-then-contains c =
    let i = T_of _ (sym c.contains.ensures ∙ c.if-contains.true) in λ p list tally h.
    stepped_in p _ _ _ _ _ list tally _ h i _ _ _ (c.descend.ensures _ _ (step_asks p _ _ _ _ _ list tally _ h i))

pub returns : goal.returns
unfolding at
returns c = λ p list tally h. stepped_out p _ _ _ _ _ list tally _ h (sym c.contains.ensures ∙ c.if-contains.false)
