use Rattle.model.specs.Kit.{sym, ◌∙◌, ◌+◌, ◌*◌, ◌%◌, ◌<◌, get_or, arith, inl, inr}
use Rattle.arrays_block.proofs.{Moving.values_some, Moving.stays_no, Moving.stays_out, Moving.goes, Moving.goes_small}
use Rattle.arrays_block.proofs.moved.Goals as goal

pub returns-then-not-is_pair : goal.returns-then-not-is_pair
returns-then-not-is_pair c = λ p b h. stays_no p _ _ _ _ _ b _ h (sym (c.is_pair.ensures p b.framed) ∙ c.if-not-is_pair.true)

pub returns-then-x-first : goal.returns-then-x-first
returns-then-x-first c = λ p b h. stays_out p _ _ _ _ _ b _ h (sym (c.is_pair.ensures p b.framed) ∙ c.if-not-is_pair.false) (inl c.if-x-first.true)

pub returns-then-first-m : goal.returns-then-first-m
returns-then-first-m c = λ p b h. stays_out p _ _ _ _ _ b _ h (sym (c.is_pair.ensures p b.framed) ∙ c.if-not-is_pair.false) (inr c.if-first-m.true)

pub returns : goal.returns
returns c = λ p b h. goes p _ _ _ _ _ b _ h (omega arith) (λ u. omega arith) _ c.image.ensures
    (sym (c.is_pair.ensures p b.framed) ∙ c.if-not-is_pair.false)

pub nonzero_div-x : goal.nonzero_div-x
nonzero_div-x c = values_some _ _ _ _ _ _ c.requires.1

pub overflow_mul-result : goal.overflow_mul-result
overflow_mul-result c =
    let bound : c.image.result * get_or c.args.numbers.now 65 0 + c.args.q % get_or c.args.numbers.now 65 0 < 192 = goes_small c.requires.0 _ _ _ _ _ c.requires.1 _ c.requires.2 (omega arith)
    (λ u. omega arith) _ c.image.ensures (sym (c.is_pair.ensures c.requires.0 c.requires.1.framed) ∙ c.if-not-is_pair.false) in
    omega (arith, bound)

pub nonzero_rem-result : goal.nonzero_rem-result
nonzero_rem-result c = values_some _ _ _ _ _ _ c.requires.1

pub overflow_add-result : goal.overflow_add-result
overflow_add-result c =
    let bound : c.image.result * get_or c.args.numbers.now 65 0 + c.args.q % get_or c.args.numbers.now 65 0 < 192 = goes_small c.requires.0 _ _ _ _ _ c.requires.1 _ c.requires.2 (omega arith)
    (λ u. omega arith) _ c.image.ensures (sym (c.is_pair.ensures c.requires.0 c.requires.1.framed) ∙ c.if-not-is_pair.false) in
    omega (arith, bound)
