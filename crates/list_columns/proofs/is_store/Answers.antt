-- `is_store`: the parts of question 23 one after another. Assumes nothing.
use Rattle.model.specs.Kit.{sym, ◌∙◌, arith}
use Rattle.list_columns.proofs.{Asking.no_store, Asking.size_asked, Asking.product}
use Rattle.list_columns.proofs.is_store.Goals as goal
use Rattle.list_columns.proofs.is_store.Goals.{then-store-lt8-via-then-store-lt8, then-store-lt8-via-else-store-lt8+then-word_at-ne8}
use Rattle.list_columns.proofs.is_store.Goals.{then-store-lt8-via-else-store-lt8+else-word_at-ne8+then-store-word_at}

pub returns-then-store-lt8 : goal.returns-then-store-lt8
returns-then-store-lt8 c = sym (no_store _ (λ store. (elim c.then-store-lt8.branch [
  | then-store-lt8-via-then-store-lt8 w ↦ omega (arith, store.long)
  | then-store-lt8-via-else-store-lt8+then-word_at-ne8 w ↦ w.if-word_at-ne8.true (w.word_at.ensures.0 ∙ store.offset)
  | then-store-lt8-via-else-store-lt8+else-word_at-ne8+then-store-word_at w ↦ w.if-store-word_at.true (store.total ∙ sym w.word_at-else-word_at-ne8.ensures.0)
])))

pub returns : goal.returns
returns c =
    size_asked _ _ _ c.if-store-lt8.false (sym c.word_at.ensures.0 ∙ c.if-word_at-ne8.false) (c.if-store-word_at.false ∙ c.word_at-else-word_at-ne8.ensures.0)
    c.word_at-variables.ensures.0 c.word_at-plans.ensures.0

pub overflow_mul-result : goal.overflow_mul-result
overflow_mul-result c = omega (arith, product _ _ c.word_at-variables.ensures.1 c.word_at-plans.ensures.1)

pub overflow_add-result : goal.overflow_add-result
overflow_add-result c = omega (arith, product _ _ c.word_at-variables.ensures.1 c.word_at-plans.ensures.1)
