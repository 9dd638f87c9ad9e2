-- `filter::right` meets its contract. Assumes nothing.
use Rattle.model.specs.Kit.{sym, ◌∙◌, ⊎_elim}
use Rattle.filter.proofs.{Marks.ok_out, Marks.ok_kind}
use Rattle.filter.proofs.right.Goals as goal

pub returns-then-x-n : goal.returns-then-x-n
returns-then-x-n c = ok_out c.args.n c.args.x c.args.equal c.args.not_equal c.if-x-n.true

pub returns-in-Equality : goal.returns-in-Equality
returns-in-Equality c =
    ⊎_elim (λ w. ok_kind c.args.n c.args.x c.args.equal c.args.not_equal c.if-x-n.false _ (sym w ∙ c.kind_of.ensures))
    (λ w. ok_kind c.args.n c.args.x c.args.equal c.args.not_equal c.if-x-n.false _ (sym w ∙ c.kind_of.ensures)) c.in-Equality.is

pub returns-in-BothAbsent : goal.returns-in-BothAbsent
returns-in-BothAbsent c =
    ⊎_elim (λ w. ok_kind c.args.n c.args.x c.args.equal c.args.not_equal c.if-x-n.false _ (sym w ∙ c.kind_of.ensures))
    (λ w. ok_kind c.args.n c.args.x c.args.equal c.args.not_equal c.if-x-n.false _ (sym w ∙ c.kind_of.ensures)) c.in-BothAbsent.is
