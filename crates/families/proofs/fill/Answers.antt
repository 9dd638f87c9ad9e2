-- The loop: the first i rows are in their chains.
use Rattle.model.specs.Kit.{◌≡◌, ◌∙◌, subst, ◌%◌, ◌<◌, arith, length, length-set}
use Rattle.model.specs.{Lists.at}
use Rattle.families.specs.{Families.solutions_of, Inner.Numbered.Chained}
use Rattle.families.proofs.{Keys.key_small, Rows.listed_twelve, Rows.listed_place, Rows.listed_small, Chains.chained_begin, Chains.chained_link, Chains.chained_turn}
use Rattle.families.proofs.fill.Goals as goal

pub loop-i-init : goal.loop-i-init
loop-i-init c = (omega arith, c.requires.3, c.requires.4.size, λ p a e u. chained_begin u)

pub overflow_cast-keys : goal.overflow_cast-keys
unfolding at
overflow_cast-keys c =
    let m : c.loop-i.i < length (solutions_of c.requires.0) = omega arith in
    let bounds = listed_place c.requires.1 c.loop-i.i m in
    let link : at c.loop-i.heads (c.key-own.result % 1021) < 4096 =
    chained_link c.requires.1 c.loop-i.i m (c.loop-i.invariant.3 c.requires.0 c.requires.1 c.requires.2 c.requires.4) c.key-own.ensures in
    omega (arith, link)

pub overflow_add-keys : goal.overflow_add-keys
unfolding at
overflow_add-keys c =
    let m : c.loop-i.i < length (solutions_of c.requires.0) = omega arith in
    let bounds = listed_place c.requires.1 c.loop-i.i m in
    let short : c.key-own.result < 281474976710656 = let s = key_small c.args.variables _ (listed_twelve c.requires.1) (listed_small c.requires.1 c.loop-i.i m) in
    omega arith in
    let link : at c.loop-i.heads (c.key-own.result % 1021) < 4096 =
    chained_link c.requires.1 c.loop-i.i m (c.loop-i.invariant.3 c.requires.0 c.requires.1 c.requires.2 c.requires.4) c.key-own.ensures in
    omega (arith, short, link)

pub loop-i-preserved : goal.loop-i-preserved
unfolding at
loop-i-preserved c =
    let m : c.loop-i.i < length (solutions_of c.requires.0) = omega arith in
    let bounds = listed_place c.requires.1 c.loop-i.i m in (
      omega arith,
      length-set c.loop-i.keys c.loop-i.i _ ∙ c.loop-i.invariant.1,
      length-set c.loop-i.heads _ _ ∙ c.loop-i.invariant.2,
      λ p a e u.
          let b = bounds.0 in
          let z : c.loop-i.i < length (solutions_of p) = omega arith in
          chained_turn a c.loop-i.i z (c.loop-i.invariant.3 p a e u) c.key-own.ensures (omega arith) c.loop-i.invariant.2,
    )

pub returns : goal.returns
returns c =
    λ p a e u. subst (Chained p c.loop-i.keys c.loop-i.heads) (let z : c.loop-i.i ≡ c.args.solutions = omega arith in z) (c.loop-i.invariant.3 p a e u)

pub overflow_mul-i : goal.overflow_mul-i
overflow_mul-i c =
    let m : c.loop-i.i < length (solutions_of c.requires.0) = omega arith in
    let bounds = listed_place c.requires.1 c.loop-i.i m in
    omega (arith, bounds)

pub key-own-requires : goal.key-own-requires
key-own-requires c =
    let m : c.loop-i.i < length (solutions_of c.requires.0) = omega arith in
    let bounds = listed_place c.requires.1 c.loop-i.i m in
    (bounds.1, listed_twelve c.requires.1, listed_small c.requires.1 c.loop-i.i m)

pub overflow_mul-keys : goal.overflow_mul-keys
overflow_mul-keys c =
    let m : c.loop-i.i < length (solutions_of c.requires.0) = omega arith in
    let bounds = listed_place c.requires.1 c.loop-i.i m in
    let short : c.key-own.result < 281474976710656 = let s = key_small c.args.variables _ (listed_twelve c.requires.1) (listed_small c.requires.1 c.loop-i.i m) in
    omega arith in
    omega (arith, short)

pub offset_bounds-keys-i : goal.offset_bounds-keys-i
offset_bounds-keys-i c =
    let m : c.loop-i.i < length (solutions_of c.requires.0) = omega arith in
    let bounds = listed_place c.requires.1 c.loop-i.i m in
    omega (arith, bounds)

pub bounds-keys-i : goal.bounds-keys-i
bounds-keys-i c =
    let m : c.loop-i.i < length (solutions_of c.requires.0) = omega arith in
    let bounds = listed_place c.requires.1 c.loop-i.i m in
    bounds.0

pub overflow_add-heads : goal.overflow_add-heads
overflow_add-heads c =
    let m : c.loop-i.i < length (solutions_of c.requires.0) = omega arith in
    let bounds = listed_place c.requires.1 c.loop-i.i m in
    omega (arith, bounds)

pub overflow_cast-heads : goal.overflow_cast-heads
overflow_cast-heads c =
    let m : c.loop-i.i < length (solutions_of c.requires.0) = omega arith in
    let bounds = listed_place c.requires.1 c.loop-i.i m in
    omega (arith, bounds)
