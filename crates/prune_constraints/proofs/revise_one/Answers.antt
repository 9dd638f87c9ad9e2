-- One set is cut to what it has in common with a set of the table. Assumes nothing.
use Rattle.model.specs.Kit.{◌≡◌, sym, ◌∙◌, bit_and, eqb-true, eqb-false}
use Rattle.model.specs.Lists.{at}
use Rattle.model.proofs.Members.{common_op_l}
use Rattle.prune_constraints.proofs.{Stores.cut_dead, Stores.cut_live}
use Rattle.prune_constraints.proofs.revise_one.Goals as goal

pub returns-then-is_empty : goal.returns-then-is_empty
unfolding at
returns-then-is_empty c =
    let cut_is : c.common-b.result.bits ≡ bit_and (at c.args.sets.now c.args.x) (at c.args.supports.now c.args.offset) = c.common-b.ensures ∙ sym (common_op_l _ _ (c.requires.sets.1 _)) in
    cut_dead _ _ _ cut_is (eqb-true _ 0 (sym c.is_empty.ensures ∙ c.if-is_empty.true))

pub returns : goal.returns
unfolding at
returns c =
    let cut_is : c.common-b.result.bits ≡ bit_and (at c.args.sets.now c.args.x) (at c.args.supports.now c.args.offset) = c.common-b.ensures ∙ sym (common_op_l _ _ (c.requires.sets.1 _)) in
    cut_live _ _ _ _ _ cut_is (eqb-false _ 0 (sym c.is_empty.ensures ∙ c.if-is_empty.false)) c.moved.ensures
