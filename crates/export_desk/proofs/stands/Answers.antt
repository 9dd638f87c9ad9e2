-- `stands`: the kind and the three figures. Assumes nothing.
use Rattle.model.specs.Kit.{subst, ℕ, arith}
use Rattle.model.specs.Written.{Written}
use Rattle.export_desk.specs.Told.{four_numbers}
use Rattle.export_desk.proofs.stands.Goals as goal

pub numbers-requires : goal.numbers-requires
numbers-requires c = (c.requires.0, omega (arith, c.kind.ensures.1), c.requires.1, c.requires.2, c.requires.3)

pub returns : goal.returns
returns c =
    subst (λ (k : ℕ). Written c.args.answer.now 0 (four_numbers k c.args.s.slot c.args.s.plans c.args.s.nodes) c.numbers.new.answer c.numbers.result)
    (c.kind.ensures.0 c.args.s.plans c.args.s.nodes) c.numbers.ensures
