-- `reach_place`: by the kind. Assumes nothing.
use Rattle.run_join.proofs.{Questions.place_end, Questions.place_last}
use Rattle.run_join.proofs.steps.reach_place.Goals as goal

pub returns-then-four_at-eq1 : goal.returns-then-four_at-eq1
returns-then-four_at-eq1 c = place_end c.args.l.now c.args.k c.four_at.result c.four_at.ensures.0 c.if-four_at-eq1.true

pub returns : goal.returns
returns c = place_last c.args.l.now c.args.k c.four_at.result c.four_at.ensures.0 c.if-four_at-eq1.false
