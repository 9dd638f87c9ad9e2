-- `is_pending`: two tests. Assumes nothing.
use Rattle.model.specs.Kit.{sym, ap, ◌∙◌, Bool, not}
use Rattle.model.specs.Lists.{both}
use Rattle.run_join.specs.Inner.Inner.{marked}
use Rattle.run_join.proofs.marks.is_pending.Goals as goal

pub returns-then-is_marked : goal.returns-then-is_marked
returns-then-is_marked c =
    ap not c.is_marked-then-is_marked.ensures ∙ sym (ap (λ (x : Bool). both x (not (marked c.args.done.now c.args.k))) (sym c.is_marked.ensures ∙ c.if-is_marked.true))

pub returns-else-is_marked : goal.returns-else-is_marked
returns-else-is_marked c =
    c.if-is_marked.false ∙ sym (ap (λ (x : Bool). both x (not (marked c.args.done.now c.args.k))) (sym c.is_marked.ensures ∙ c.if-is_marked.false))
