-- The loop: r is the key of the first x values.
use Rattle.model.specs.Kit.{◌≡◌, refl, sym, ap, ◌∙◌, ℕ, ◌+◌, ◌*◌, ◌<◌, arith}
use Rattle.model.specs.Lists.{at}
use Rattle.families.specs.Inner.Numbered.{key_of}
use Rattle.families.proofs.{Keys.key_next, Keys.key_small}
use Rattle.families.proofs.key.Goals as goal

pub loop-x-init : goal.loop-x-init
unfolding key_of
loop-x-init c = (omega arith, refl)

pub loop-x-preserved : goal.loop-x-preserved
unfolding at
loop-x-preserved c =
    (omega arith, ap (λ (r : ℕ). 16 * r + at c.args.rows.now (c.args.from + c.loop-x.x)) c.loop-x.invariant.1 ∙ sym (key_next c.loop-x.x (λ x. at c.args.rows.now (c.args.from + x))))

pub returns : goal.returns
returns c =
    c.loop-x.invariant.1 ∙ ap (λ (n : ℕ). key_of n (λ x. at c.args.rows.now (c.args.from + x))) (let z : c.loop-x.x ≡ c.args.variables = omega arith in z)

pub overflow_mul-r : goal.overflow_mul-r
overflow_mul-r c =
    let Short : Type 0 = key_of c.loop-x.x (λ x. at c.args.rows.now (c.args.from + x)) < 281474976710656 in
    let short : Short = key_small c.loop-x.x _ (omega arith) (λ x l. c.requires.2 x (omega arith)) in
    omega (arith, short)

pub overflow_cast-r : goal.overflow_cast-r
overflow_cast-r c = omega (arith, c.shared_slice_known-1.given (c.args.from + c.loop-x.x))

pub overflow_add-r-in-loop-x : goal.overflow_add-r-in-loop-x
overflow_add-r-in-loop-x c =
    let Short : Type 0 = key_of c.loop-x.x (λ x. at c.args.rows.now (c.args.from + x)) < 281474976710656 in
    let short : Short = key_small c.loop-x.x _ (omega arith) (λ x l. c.requires.2 x (omega arith)) in
    omega (arith, short, c.shared_slice_known-1.given (c.args.from + c.loop-x.x))
