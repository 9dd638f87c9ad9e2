-- The loop: the numbers below q have their images. Assumes nothing.
use Rattle.model.specs.Kit.{sym, subst, ℕ, ◌*◌, ◌<◌, arith}
use Rattle.model.specs.Problem.{Problem}
use Rattle.model.proofs.Filling.{filled_begin, filled_end}
use Rattle.arrays_block.specs.Inner.Asked.{BlockRow}
use Rattle.arrays_block.proofs.{Moving.size_is, Moving.size_few, Putting.to_lt, Putting.coded, Putting.row_more}
use Rattle.arrays_block.proofs.put_row.Goals as goal

pub pair_code-requires : goal.pair_code-requires
pair_code-requires c =
    let inside : (p : Problem) → BlockRow p c.args.rows.now c.args.row c.args.first c.args.m c.args.numbers.now → c.loop-q.q < p.variables * p.values =
    λ p b. subst (λ (n : ℕ). c.loop-q.q < n) (size_is p _ _ _ _ _ b) (omega arith) in
    let l = inside c.requires.0.0 c.requires.0.1 in
    coded c.requires.0.0 _ _ _ _ _ c.requires.0.1 _ (subst (λ (y : ℕ). y < c.requires.0.0.variables * c.requires.0.0.values) (sym (c.moved-y.ensures c.requires.0.0 c.requires.0.1 l).0)
    (to_lt c.requires.0.0 _ _ _ _ _ c.requires.0.1 _ l))

pub loop-q-preserved : goal.loop-q-preserved
loop-q-preserved c =
    let inside : (p : Problem) → BlockRow p c.args.rows.now c.args.row c.args.first c.args.m c.args.numbers.now → c.loop-q.q < p.variables * p.values =
    λ p b. subst (λ (n : ℕ). c.loop-q.q < n) (size_is p _ _ _ _ _ b) (omega arith) in (
      omega (arith),
      λ p b. row_more p _ _ _ _ _ b _ _ _ _ _ _ _ c.requires.1 c.told-images
          (c.moved-y.ensures p b (inside p b)).0 c.pair_code-in-loop-q.ensures c.pair_code.ensures.0
          (c.loop-q.invariant.1 p b),
    )

pub returns : goal.returns
returns c = λ p b. let e = size_is p _ _ _ _ _ b in filled_end _ _ _ _ _ _ (omega (arith, e)) (omega (arith, e, c.loop-q.invariant.0)) (c.loop-q.invariant.1 p b)

pub overflow_mul-size : goal.overflow_mul-size
overflow_mul-size c = omega (arith, size_is c.requires.0.0 _ _ _ _ _ c.requires.0.1, size_few c.requires.0.0 _ _ _ _ _ c.requires.0.1)

pub moved-y-requires : goal.moved-y-requires
moved-y-requires c =
    let inside : (p : Problem) → BlockRow p c.args.rows.now c.args.row c.args.first c.args.m c.args.numbers.now → c.loop-q.q < p.variables * p.values =
    λ p b. subst (λ (n : ℕ). c.loop-q.q < n) (size_is p _ _ _ _ _ b) (omega arith) in
    (c.requires.0.0, c.requires.0.1, inside c.requires.0.0 c.requires.0.1)

pub pair_code-requires-in-loop-q : goal.pair_code-requires-in-loop-q
pair_code-requires-in-loop-q c =
    let inside : (p : Problem) → BlockRow p c.args.rows.now c.args.row c.args.first c.args.m c.args.numbers.now → c.loop-q.q < p.variables * p.values =
    λ p b. subst (λ (n : ℕ). c.loop-q.q < n) (size_is p _ _ _ _ _ b) (omega arith) in
    coded c.requires.0.0 _ _ _ _ _ c.requires.0.1 _ (inside c.requires.0.0 c.requires.0.1)
