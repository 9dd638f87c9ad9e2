use Rattle.model.specs.Kit.{List, ℕ}
use Rattle.model.specs.{Problem.Problem}
use Rattle.families.specs.Inner.Numbered.{Finding}
use Rattle.families.proofs.{Chains.Seeking}
use Rattle.families.proofs.Solutions.find.Given as goal

abbrev pub invariant-loop-link : goal.invariant-loop-link
invariant-loop-link l = (p : Problem) (s : List ℕ) → Finding p s l.self.keys.now l.self.heads.now l.key → Seeking p s l.key l.link

abbrev pub decreases-loop-link : goal.decreases-loop-link
decreases-loop-link l = l.link
