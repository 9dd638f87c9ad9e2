-- `is_alike`: sixteen bytes. Assumes nothing.
use Rattle.model.specs.Kit.{◌≡◌, ap, ◌∙◌, ℕ, ◌+◌, ◌-◌, ◌*◌, arith, eqb, take, drop}
use lib.Pointwise.{pointwise}
use Rattle.run_join.proofs.Questions.{alike_is}
use Rattle.run_join.proofs.heads.is_alike.Goals as goal

pub returns : goal.returns
returns c =
    let n : 115 * c.args.k + 60 + 16 - (115 * c.args.k + 60) ≡ 16 = omega arith in
    c.eq.ensures ∙ ap (λ (i : ℕ). pointwise eqb (take i (drop (115 * c.args.k + 60) c.args.l.now)) (take 16 (drop 60 c.args.l.now))) n ∙ alike_is c.args.l.now c.args.k c.requires
