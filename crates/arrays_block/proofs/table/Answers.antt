use Rattle.model.specs.Kit.{subst, ℕ, ◌*◌, ◌<◌, arith}
use Rattle.model.specs.Problem.{Problem}
use Rattle.arrays_block.specs.Inner.Asked.{BlockRow}
use Rattle.arrays_block.proofs.{Moving.size_is, Moving.size_few, Filling.FilledTo, Filling.filled_none, Filling.filled_more, Filling.filled_all}
use Rattle.arrays_block.proofs.table.Goals as goal

pub loop-q-init : goal.loop-q-init
loop-q-init c = λ p b. (omega arith, filled_none p _ _ _)

pub loop-q-preserved : goal.loop-q-preserved
loop-q-preserved c =
    let inside : (p : Problem) → BlockRow p c.args.rows.now c.args.row c.args.first c.args.m c.args.numbers.now → c.loop-q.q < p.variables * p.values =
    λ p b. subst (λ (n : ℕ). c.loop-q.q < n) (size_is p _ _ _ _ _ b) (omega arith) in
    let small : c.loop-q.q < 192 = omega (arith, inside c.requires.0 c.requires.1, size_few c.requires.0 _ _ _ _ _ c.requires.1) in
    λ p b. let l = inside p b in (omega arith, filled_more p _ _ _ _ _ _ (c.loop-q.invariant p b).1 small (c.moved.ensures p b l).0)

pub returns : goal.returns
returns c = λ p b. let i = c.loop-q.invariant p b in filled_all p _ _ _ b.well_formed _
    (subst (FilledTo p _ _ _ _) (let s = size_is p _ _ _ _ _ b in omega (arith, s, i.0)) i.1)

pub overflow_mul-size : goal.overflow_mul-size
overflow_mul-size c = omega (arith, size_is c.requires.0 _ _ _ _ _ c.requires.1, size_few c.requires.0 _ _ _ _ _ c.requires.1)

pub moved-requires : goal.moved-requires
moved-requires c =
    let inside : (p : Problem) → BlockRow p c.args.rows.now c.args.row c.args.first c.args.m c.args.numbers.now → c.loop-q.q < p.variables * p.values =
    λ p b. subst (λ (n : ℕ). c.loop-q.q < n) (size_is p _ _ _ _ _ b) (omega arith) in
    (c.requires.0, c.requires.1, inside c.requires.0 c.requires.1)

pub overflow_cast-bytes : goal.overflow_cast-bytes
overflow_cast-bytes c =
    let inside : (p : Problem) → BlockRow p c.args.rows.now c.args.row c.args.first c.args.m c.args.numbers.now → c.loop-q.q < p.variables * p.values =
    λ p b. subst (λ (n : ℕ). c.loop-q.q < n) (size_is p _ _ _ _ _ b) (omega arith) in
    omega (arith, (c.moved.ensures c.requires.0 c.requires.1 (inside c.requires.0 c.requires.1)).1)

pub overflow_mul-bytes : goal.overflow_mul-bytes
overflow_mul-bytes c =
    let inside : (p : Problem) → BlockRow p c.args.rows.now c.args.row c.args.first c.args.m c.args.numbers.now → c.loop-q.q < p.variables * p.values =
    λ p b. subst (λ (n : ℕ). c.loop-q.q < n) (size_is p _ _ _ _ _ b) (omega arith) in
    let small : c.loop-q.q < 192 = omega (arith, inside c.requires.0 c.requires.1, size_few c.requires.0 _ _ _ _ _ c.requires.1) in
    omega (arith, small)

pub bounds-bytes-q : goal.bounds-bytes-q
bounds-bytes-q c =
    let inside : (p : Problem) → BlockRow p c.args.rows.now c.args.row c.args.first c.args.m c.args.numbers.now → c.loop-q.q < p.variables * p.values =
    λ p b. subst (λ (n : ℕ). c.loop-q.q < n) (size_is p _ _ _ _ _ b) (omega arith) in
    let small : c.loop-q.q < 192 = omega (arith, inside c.requires.0 c.requires.1, size_few c.requires.0 _ _ _ _ _ c.requires.1) in
    omega (arith, small)
