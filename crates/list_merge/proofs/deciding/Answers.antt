-- `deciding`: the last four bytes where the first eight agree, else the second four or the first. Assumes nothing.
use Rattle.model.specs.Kit.{sym, ◌∙◌, arith}
use Rattle.list_merge.proofs.{Words.last_four, Words.second_four}
use Rattle.list_merge.proofs.deciding.Goals as goal

pub returns-then-eight : goal.returns-then-eight
returns-then-eight c =
    last_four c.args.a.now c.args.b.now c.eight.ensures.bytes c.eight-2.ensures.bytes c.args.n c.requires.some c.requires.most (sym c.eight.ensures.is ∙ c.if-eight.true ∙ c.eight-2.ensures.is) _
    (omega arith)

pub returns-then-word : goal.returns-then-word
returns-then-word c =
    second_four c.args.a.now c.args.b.now c.eight.ensures.bytes c.eight-2.ensures.bytes c.args.n c.requires.some (λ z. c.if-eight.false (c.eight.ensures.is ∙ z ∙ sym c.eight-2.ensures.is))
    (sym c.word.ensures.is ∙ c.if-word.true ∙ c.word-2.ensures.is)
