-- `kind`: 4 while the run goes on, else by its ending. Assumes nothing.
use Rattle.model.specs.Kit.{◌≡◌, ◌∙◌, min, arith}
use Rattle.export_desk.proofs.{Replies.kind_runs, Replies.kind_ends}
use Rattle.export_desk.proofs.kind.Goals as goal

pub returns-then-standing-eq0 : goal.returns-then-standing-eq0
returns-then-standing-eq0 c = (λ plans nodes. kind_runs c.args.standing plans nodes c.if-standing-eq0.true, omega arith)

pub returns-then-standing-lt3 : goal.returns-then-standing-lt3
returns-then-standing-lt3 c = (
  λ plans nodes. (let z : c.args.standing ≡ min 3 c.args.standing = omega (arith, c.if-standing-lt3.true) in
      z) ∙ kind_ends c.args.standing plans nodes c.if-standing-eq0.false,
  omega (arith, c.if-standing-lt3.true),
)

pub returns : goal.returns
returns c =
    (λ plans nodes. (let z : 3 ≡ min 3 c.args.standing = omega (arith, c.if-standing-lt3.false) in z) ∙ kind_ends c.args.standing plans nodes c.if-standing-eq0.false, omega arith)
