-- `said`: each answer has its kind. Assumes nothing.
use Rattle.model.specs.Kit.{sym, ap, ◌∙◌, subst, arith}
use Rattle.std.specs.Prelude.{Ok}
use Rattle.run.specs.{declared.Enough.Enough, Meaning.said_enough}
use Rattle.export_enough.specs.{Enough.said_bytes, Inner.Inner.SmallSaid}
use Rattle.export_enough.proofs.said.Goals as goal

pub three-requires : goal.three-requires
three-requires c =
    let k = subst (λ (z : Enough). SmallSaid (said_enough (Ok z))) c.in-Yes.is c.requires.1 in
    (c.requires.0, omega arith, k.0, k.1)

pub three-requires-in-No : goal.three-requires-in-No
three-requires-in-No c =
    let k = subst (λ (z : Enough). SmallSaid (said_enough (Ok z))) c.in-No.is c.requires.1 in
    (c.requires.0, omega arith, k.0, k.1)

pub three-requires-in-Spent : goal.three-requires-in-Spent
three-requires-in-Spent c =
    let k = subst (λ (z : Enough). SmallSaid (said_enough (Ok z))) c.in-Spent.is c.requires.1 in
    (c.requires.0, omega arith, k.0, k.1)

pub returns-in-Yes : goal.returns-in-Yes
returns-in-Yes c = c.three.ensures ∙ ap (λ (z : Enough). said_bytes (said_enough (Ok z)) c.args.out.now) (sym c.in-Yes.is)

pub returns-in-No : goal.returns-in-No
returns-in-No c = c.three-in-No.ensures ∙ ap (λ (z : Enough). said_bytes (said_enough (Ok z)) c.args.out.now) (sym c.in-No.is)

pub returns-in-Spent : goal.returns-in-Spent
returns-in-Spent c = c.three-in-Spent.ensures ∙ ap (λ (z : Enough). said_bytes (said_enough (Ok z)) c.args.out.now) (sym c.in-Spent.is)
