-- `question`: the questions one after another. Assumes nothing.
use Rattle.model.specs.Kit.{sym, ◌∙◌, arith, rules}
use Rattle.list_columns.proofs.{Asking.Whole, Asking.few_bytes, Asking.no_rows, Asking.large, Asking.short, Asking.passes}
use Rattle.list_columns.proofs.question.Goals as goal
use Rattle.list_columns.proofs.question.Goals.{then-n-lt1-via-then-n-lt1, then-n-lt1-via-else-n-lt1+then-n-gt12}
use Rattle.list_columns.proofs.question.Goals.{then-n-lt1-via-else-n-lt1+else-n-gt12+then-bytes-n-ne0, then-n-lt1-via-else-n-lt1+else-n-gt12+else-bytes-n-ne0+then-bytes-n-gt4096}

pub returns-then-n-lt1 : goal.returns-then-n-lt1
returns-then-n-lt1 c = no_rows _ _ _ _ (λ rows. (elim c.then-n-lt1.branch [
  | then-n-lt1-via-then-n-lt1 w ↦ omega (arith, rows.some)
  | then-n-lt1-via-else-n-lt1+then-n-gt12 w ↦ omega (arith, rows.most)
  | then-n-lt1-via-else-n-lt1+else-n-gt12+then-bytes-n-ne0 w ↦ w.if-bytes-n-ne0.true rows.whole
  | then-n-lt1-via-else-n-lt1+else-n-gt12+else-bytes-n-ne0+then-bytes-n-gt4096 w ↦ omega (arith, rows.many)
]))

pub returns-then-not-values : goal.returns-then-not-values
returns-then-not-values c =
    let rows : Whole c.args.n c.args.bytes.now = record { some = search rules; most = search rules; whole = search rules; many = search rules } in
    large _ _ _ _ rows (sym c.small-values.ensures ∙ c.if-not-values.true)

pub returns-then-not-fits : goal.returns-then-not-fits
returns-then-not-fits c =
    let rows : Whole c.args.n c.args.bytes.now = record { some = search rules; most = search rules; whole = search rules; many = search rules } in
    short _ _ _ _ rows (sym c.small-values.ensures ∙ c.if-not-values.false) (c.if-not-fits.true)

pub returns : goal.returns
returns c =
    let rows : Whole c.args.n c.args.bytes.now = record { some = search rules; most = search rules; whole = search rules; many = search rules } in
    passes _ _ _ _ rows (sym c.small-values.ensures ∙ c.if-not-values.false) (c.if-not-fits.false)

pub overflow_add-fits : goal.overflow_add-fits
overflow_add-fits c =
    let rows : Whole c.args.n c.args.bytes.now = record { some = search rules; most = search rules; whole = search rules; many = search rules } in
    omega (arith, few_bytes rows)
