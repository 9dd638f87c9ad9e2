use Rattle.model.specs.Kit.{sym}
use Rattle.model.proofs.Lists.{of_T}
use Rattle.sheet_carried.proofs.{Couples.couple_after, Couples.couple_turned, Couples.triple_turned}
use Rattle.sheet_carried.proofs.two.pair_blocked.Goals as goal

pub returns-then-refused_two : goal.returns-then-refused_two
returns-then-refused_two c = λ p t. sym (of_T _ (couple_after p _ _ _ (c.refused_two.ensures c.if-refused_two.true p t)))

pub returns-then-refused_two-2 : goal.returns-then-refused_two-2
returns-then-refused_two-2 c = λ p t. sym (of_T _ (couple_turned p _ _ _ (c.refused_two-then-b-a.ensures c.if-refused_two-2.true p (triple_turned p _ _ _ _ _ t))))

pub refused_two-requires-then-b-a : goal.refused_two-requires-then-b-a
refused_two-requires-then-b-a c = ((c.requires.0, triple_turned c.requires.0 _ _ _ _ _ c.requires.1), c.if-b-a.true)
