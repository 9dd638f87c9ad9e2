-- A round is not empty, and due. Assumes nothing.
use Rattle.model.proofs.Members.{and_e}
use Rattle.prune_constraints.proofs.round.Goals as goal

pub returns-then-first-ne0 : goal.returns-then-first-ne0
returns-then-first-ne0 c = record { some = c.if-first-ne0.true; inside = λ k t. (and_e _ _ k t).0 }
