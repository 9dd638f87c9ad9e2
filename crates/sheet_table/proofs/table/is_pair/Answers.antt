use Rattle.model.specs.Kit.{◌∙◌, sym, ap, subst, ℕ, ◌<◌, le-ltb, arith}
use Rattle.model.specs.Lists.{at}
use Rattle.sheet_table.proofs.{Frames.size_lt, Frames.pair_variable, Frames.pair_value, Frames.is_pair_lem, Frames.no_pair}
use Rattle.sheet_table.proofs.table.is_pair.Goals as goal

pub initial-requires : goal.initial-requires
initial-requires c = (c.requires.0, c.requires.1, pair_variable c.requires.0 _ c.requires.1 _ _ _ c.number-n.ensures c.number-d.ensures c.if-q-n.true)

pub overflow_cast-q : goal.overflow_cast-q
overflow_cast-q c = omega (
  arith,
  pair_value c.requires.0 _ c.requires.1 _ _ c.args.q
      c.number-n.ensures c.number-d.ensures,
)

pub returns-then-q-n : goal.returns-then-q-n
returns-then-q-n c = λ p f. c.contains.ensures ∙ is_pair_lem p _ f _ _ _ c.number-n.ensures c.number-d.ensures _ c.if-q-n.true
    (λ x e h. c.initial.ensures p f (subst (λ (y : ℕ). y < p.variables) e h) ∙ ap (at p.initial) (sym e))

pub returns-else-q-n : goal.returns-else-q-n
returns-else-q-n c = λ p f. le-ltb _ _ c.if-q-n.false ∙ no_pair p _ f _ _ _ c.number-n.ensures c.number-d.ensures c.if-q-n.false

pub overflow_mul-n : goal.overflow_mul-n
overflow_mul-n c = omega (arith, size_lt c.requires.0 _ c.requires.1 _ _ c.number-n.ensures c.number-d.ensures)
