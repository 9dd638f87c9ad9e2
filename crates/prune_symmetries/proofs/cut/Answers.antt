-- Nothing is stored where no set has a value of the table's. Assumes nothing.
use Rattle.model.specs.Kit.{refl, arith, rules}
use Rattle.prune_symmetries.proofs.{ImageTables.first_lt, ImageTables.cut_missed, ImageTables.cut_taken}
use Rattle.prune_symmetries.proofs.cut.Goals as goal

pub returns-then-not-hits : goal.returns-then-not-hits
returns-then-not-hits c = record { sixteen = refl; entries = λ p w. cut_missed w c.hits.result c.hits.ensures c.if-not-hits.true }

pub take-requires : goal.take-requires
take-requires c = let a = (first_lt c.requires.1).0 in let b = (first_lt c.requires.1).1 in let d = (first_lt
    c.requires.1).2 in (c.requires.1.held.live.sixteen, omega arith)

pub returns : goal.returns
returns c = record { sixteen = c.take.ensures.sixteen; entries = λ p w. cut_taken w c.take.new.sets c.take.result c.take.ensures }

pub overflow_mul-first-3 : goal.overflow_mul-first-3
overflow_mul-first-3 c = let b = (first_lt c.requires.1).2 in search rules

pub overflow_add-first-3 : goal.overflow_add-first-3
overflow_add-first-3 c = let a = (first_lt c.requires.1).0 in let b = (first_lt c.requires.1).1 in let d = (first_lt c.requires.1).2 in search rules

pub hits-requires : goal.hits-requires
hits-requires c = let a = (first_lt c.requires.1).0 in let b = (first_lt c.requires.1).1 in let d = (first_lt c.requires.1).2 in omega arith
