-- `by_words`: the deciding four bytes as numbers. Assumes nothing.
use Rattle.model.specs.Kit.{◌∙◌}
use Rattle.list_merge.proofs.{Words.words_way}
use Rattle.list_merge.proofs.Stepping.{cmp_way}
use Rattle.list_merge.proofs.by_words.Goals as goal

pub returns : goal.returns
returns c =
    c.cmp.ensures ∙ cmp_way c.word.result c.word-2.result ∙ words_way c.args.n c.args.a.now c.args.b.now c.requires c.deciding-at.result _ _ c.deciding-at.ensures c.word.ensures c.word-2.ensures
