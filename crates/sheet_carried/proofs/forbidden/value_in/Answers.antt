use Rattle.model.specs.Kit.{eq-eqb, ne_eqb}
use Rattle.sheet_carried.proofs.forbidden.value_in.Goals as goal

pub returns-then-a-x : goal.returns-then-a-x
returns-then-a-x c = rw (eq-eqb _ _ c.if-a-x.true)

pub returns-then-b-x : goal.returns-then-b-x
returns-then-b-x c = rw (ne_eqb _ _ c.if-a-x.false, eq-eqb _ _ c.if-b-x.true)

pub returns-then-e-x : goal.returns-then-e-x
returns-then-e-x c = rw (ne_eqb _ _ c.if-a-x.false, ne_eqb _ _ c.if-b-x.false, eq-eqb _ _ c.if-e-x.true)

pub returns : goal.returns
returns c = rw (ne_eqb _ _ c.if-a-x.false, ne_eqb _ _ c.if-b-x.false, ne_eqb _ _ c.if-e-x.false)
