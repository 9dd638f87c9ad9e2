-- `turned`: how a slot stands, or four zeros. Assumes nothing.
use Rattle.model.specs.Kit.{sym, ap, ◌∙◌, subst, arith, length}
use Rattle.std.proofs.Common.{Option}
use Rattle.desk.specs.{Queue.answered, Meaning.turned_as, declared.Stands.Stands}
use Rattle.export_desk.specs.{Told.reply_answer, Inner.Fits.ReplyFits}
use Rattle.export_desk.proofs.{Replies.sixteen, Replies.all_four}
use Rattle.export_desk.proofs.turned.Goals as goal

pub stands-requires : goal.stands-requires
stands-requires c =
    let h = subst (λ (s : Option Stands). ReplyFits (answered (turned_as s)) (length c.args.answer.now)) c.in-Some.is c.requires in
    (sixteen h.0, h.1, h.2, h.3)

pub numbers-requires : goal.numbers-requires
numbers-requires c = (
  sixteen (subst (λ (s : Option Stands). ReplyFits (answered (turned_as s)) (length c.args.answer.now)) c.in-None.is c.requires),
  omega arith,
  omega arith,
  omega arith,
  omega arith,
)

pub returns-in-Some : goal.returns-in-Some
returns-in-Some c =
    let h = subst (λ (s : Option Stands). ReplyFits (answered (turned_as s)) (length c.args.answer.now)) c.in-Some.is c.requires in
    all_four _ _ _ _ h.0 c.stands.ensures ∙ sym (ap (λ (s : Option Stands). reply_answer (answered (turned_as s)) c.args.answer.now) c.in-Some.is)

pub returns-in-None : goal.returns-in-None
returns-in-None c =
    let h = subst (λ (s : Option Stands). ReplyFits (answered (turned_as s)) (length c.args.answer.now)) c.in-None.is c.requires in
    all_four 0 0 0 0 h c.numbers.ensures ∙ sym (ap (λ (s : Option Stands). reply_answer (answered (turned_as s)) c.args.answer.now) c.in-None.is)
