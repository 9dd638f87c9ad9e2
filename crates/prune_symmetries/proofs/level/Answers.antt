-- The cuts are made, then the own pair is looked at. Assumes nothing.
use Rattle.prune_symmetries.proofs.{ImageTables.first_lt, Turns.level_failed, Turns.own_asks, Turns.level_result}
use Rattle.prune_symmetries.proofs.level.Goals as goal

pub returns-then-cut : goal.returns-then-cut
returns-then-cut c = record { sixteen = c.cut.ensures.sixteen; entries = λ p w. level_failed w c.cut.new.sets c.cut.result c.if-cut.true (c.cut.ensures.entries p w) }

pub returns : goal.returns
returns c = record {
  sixteen = c.cut.ensures.sixteen;
  entries = λ p w. level_result w c.cut.new.sets c.cut.result
      c.if-cut.false (c.cut.ensures.entries p w) c.image-y.result c.image-y.ensures c.equality.result
      c.equality.ensures;
}

pub image-y-requires : goal.image-y-requires
image-y-requires c = first_lt c.requires.1

pub equality-requires : goal.equality-requires
equality-requires c = own_asks c.requires.1 c.image-y.result c.image-y.ensures
