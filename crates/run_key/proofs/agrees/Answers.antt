-- Whether a set is that of an entry, or is not compared. Assumes nothing.
use Rattle.model.specs.Kit.{sym, ◌∙◌, subst, T}
use Rattle.model.specs.Lists.{at}
use Rattle.run_key.proofs.{Loops.not_both}
use Rattle.run_key.proofs.agrees.Goals as goal

pub returns : goal.returns
unfolding at
returns c = λ e t. absurd (not_both c.is_compared.result e (subst T (sym c.is_compared.ensures) t))

pub returns-then-from-work : goal.returns-then-from-work
unfolding at
returns-then-from-work c = λ e t. sym (c.from.ensures ∙ c.set_at.ensures) ∙ c.if-from-work.true
