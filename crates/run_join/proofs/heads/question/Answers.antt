-- `question`: one question after the other. Assumes nothing.
use Rattle.model.specs.Kit.{refl, sym}
use Rattle.run_join.specs.Join.{join_verdict}
use Rattle.run_join.proofs.{Questions.asked_no, Questions.asked_yes, Questions.whole_half, Questions.whole_many, Questions.whole_yes}
use Rattle.run_join.proofs.heads.question.Goals as goal
use Rattle.run_join.proofs.heads.question.Goals.{then-l-ne0-via-then-l-ne0, then-l-ne0-via-else-l-ne0+then-n-gt65536}

pub returns-then-l-ne0 : goal.returns-then-l-ne0
unfolding join_verdict
returns-then-l-ne0 c =
    elim c.then-l-ne0.branch [
      | then-l-ne0-via-then-l-ne0 w ↦ asked_no _ _ _ (whole_half _ w.if-l-ne0.true)
      | then-l-ne0-via-else-l-ne0+then-n-gt65536 w ↦ asked_no _ _ _ (whole_many _ w.if-n-gt65536.true)
    ]

pub returns-then-not-all_shaped : goal.returns-then-not-all_shaped
unfolding join_verdict
returns-then-not-all_shaped c =
    asked_yes _ _ _ _ (whole_yes _ c.if-l-ne0.false c.if-n-gt65536.false) (asked_no _ _ _ (sym c.if-not-all_shaped.ensures))

pub returns-then-not-all_alike : goal.returns-then-not-all_alike
unfolding join_verdict
returns-then-not-all_alike c =
    asked_yes _ _ _ _ (whole_yes _ c.if-l-ne0.false c.if-n-gt65536.false) (asked_yes _ _ _ _ (sym c.if-not-all_shaped.ensures) (asked_no _ _ _ (sym c.if-not-all_alike.ensures)))

pub returns-then-not-none_full : goal.returns-then-not-none_full
unfolding join_verdict
returns-then-not-none_full c =
    asked_yes _ _ _ _ (whole_yes _ c.if-l-ne0.false c.if-n-gt65536.false) (asked_yes _ _ _ _ (sym c.if-not-all_shaped.ensures) (asked_yes _ _ _ _ (sym c.if-not-all_alike.ensures)
    (asked_no _ _ _ (sym c.if-not-none_full.ensures))))

pub returns : goal.returns
unfolding join_verdict
returns c =
    asked_yes _ _ _ _ (whole_yes _ c.if-l-ne0.false c.if-n-gt65536.false) (asked_yes _ _ _ _ (sym c.if-not-all_shaped.ensures) (asked_yes _ _ _ _ (sym c.if-not-all_alike.ensures)
    (asked_yes _ _ _ _ (sym c.if-not-none_full.ensures) refl)))
