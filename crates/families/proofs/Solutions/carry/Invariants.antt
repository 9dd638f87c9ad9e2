use Rattle.model.specs.{Problem.Problem}
use Rattle.families.specs.Inner.Numbered.{Imaging, Weighed}
use Rattle.families.proofs.Rows.{Carrying}
use Rattle.families.proofs.Solutions.carry.Given as goal

abbrev pub invariant-loop-x : goal.invariant-loop-x
invariant-loop-x l = (p : Problem) → Imaging p l.self.rows.now l.self.images.now l.self.variables l.i l.k → Weighed l.self.variables l.self.weights.now →
    Carrying p l.self.rows.now l.self.images.now l.self.variables l.i l.k l.r l.x
