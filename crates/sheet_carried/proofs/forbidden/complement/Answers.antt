use Rattle.model.specs.Kit.{arith, rules}
use Rattle.model.proofs.Masks.{is_mask, has_not}
use Rattle.sheet_carried.proofs.forbidden.complement.Goals as goal

pub returns : goal.returns
returns c = is_mask _ _ (omega arith) (λ v l. has_not 16 c.args.set.bits v (search rules) l)
