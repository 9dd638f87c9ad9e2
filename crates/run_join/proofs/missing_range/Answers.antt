-- `missing_range`: one test. Assumes nothing.
use Rattle.model.specs.Kit.{arith, refl, ap₂, ◌∙◌, List, ℕ}
use Rattle.run_join.specs.Join.{nearest_of, head_number}
use Rattle.run_join.proofs.{Turns.head_or, Said.said_missing}
use Rattle.run_join.proofs.missing_range.Goals as goal

pub stand_path-requires : goal.stand_path-requires
stand_path-requires c = head_or c.args.l.now c.args.n c.requires.0 c.args.stand c.requires.2

pub returns : goal.returns
returns c =
    said_missing c.args.l.now c.args.joins (head_number c.args.stand) c.args.stand c.nearest.result c.if-joins.false refl
    (c.nearest.ensures.0 ∙ ap₂ (λ (s : List ℕ) (n : ℕ). nearest_of c.args.l.now s n) c.stand_path.ensures c.requires.1) (omega (arith, c.nearest.ensures.1, c.requires.1))
