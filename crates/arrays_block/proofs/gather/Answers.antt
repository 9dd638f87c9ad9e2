use Rattle.model.specs.Kit.{sym, ap, ◌∙◌, subst, arith, rules}
use Rattle.model.specs.{Lists.at, Inner.Filling.Gathered}
use Rattle.model.proofs.Filling.{gathered_begin, gathered_end}
use Rattle.block.specs.Block.{in_block}
use Rattle.arrays_block.proofs.{Gathering.gather_one, Gathering.gather_none}
use Rattle.arrays_block.proofs.gather.Goals as goal
use Rattle.arrays_block.proofs.gather.Goals.{else-is_inside, then-is_inside}

pub loop-i-init : goal.loop-i-init
loop-i-init c = (omega arith, gathered_begin _)

pub loop-i-preserved : goal.loop-i-preserved
unfolding at
loop-i-preserved c =
    let e = sym (c.is_inside.ensures ∙ ap (in_block _ _) c.wide.ensures.0) in (
      search rules,
      (elim c.if-is_inside.branch [
        | then-is_inside w ↦ subst (Gathered _ _) (sym w.set-is) (gather_one _ _ _ c.loop-i.invariant.1 (search rules) (e ∙ w.if-is_inside.true))
        | else-is_inside w ↦
            subst (Gathered _ _) (sym w.set-is) (gather_none _ _ _ c.loop-i.invariant.1 (e ∙ w.if-is_inside.false))
      ]),
    )

pub returns : goal.returns
returns c = gathered_end _ _ _ _ (search rules) c.loop-i.invariant.0 c.loop-i.invariant.1
