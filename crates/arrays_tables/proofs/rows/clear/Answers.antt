-- The front of the tables. Assumes nothing.
use Rattle.model.specs.Kit.{◌≡◌, refl, ◌∙◌, arith, length, length-take-le}
use Rattle.model.specs.Lists.{at}
use Rattle.arrays.specs.Inner.Places.{SMALLER}
use Rattle.arrays.proofs.Copies.{filled_copied, filled_front}
use Rattle.arrays_tables.proofs.rows.clear.Goals as goal

pub returns : goal.returns
unfolding at
returns c =
    let long : length c.fill.new.self ≡ SMALLER = c.fill.ensures.len ∙ length-take-le SMALLER c.args.tables.now (omega arith) in
    filled_front _ SMALLER c.args.tables.now _
    (filled_copied c.args.tables.now c.fill.new.self 0 SMALLER _ (omega arith) long (λ v h. c.fill.ensures.clones v 0 (omega (arith, long, c.fill.ensures.len)) refl))
