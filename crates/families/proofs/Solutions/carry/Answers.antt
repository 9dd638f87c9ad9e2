-- The loop: the pairs of the variables below x are in the key where they go to.
use Rattle.model.specs.Kit.{◌≡◌, sym, subst, ℕ, ◌+◌, ◌-◌, ◌*◌, ◌/◌, ◌%◌, ◌^◌, ◌<◌, arith}
use Rattle.model.specs.{Lists.at}
use Rattle.families.proofs.Rows.{Carrying, sent, imaging_facts, imaging_bounds, carrying_begin, carrying_small, carrying_turn, carrying_end}
use Rattle.families.proofs.{Keys.digit_small}
use Rattle.families.proofs.Solutions.carry.Goals as goal

pub loop-x-init : goal.loop-x-init
loop-x-init c = λ p a w. carrying_begin a

pub overflow_cast-code : goal.overflow_cast-code
unfolding at
overflow_cast-code c =
    let facts = imaging_facts c.requires.1 c.loop-x.x (omega arith) in
    omega (arith, facts)

pub overflow_add-code-in-loop-x-2 : goal.overflow_add-code-in-loop-x-2
unfolding at
overflow_add-code-in-loop-x-2 c =
    let facts = imaging_facts c.requires.1 c.loop-x.x (omega arith) in
    omega (arith, facts)

pub bounds-self-base : goal.bounds-self-base
unfolding at
bounds-self-base c =
    let facts = imaging_facts c.requires.1 c.loop-x.x (omega arith) in
    facts.1

pub overflow_cast-r : goal.overflow_cast-r
unfolding at
overflow_cast-r c =
    let facts = imaging_facts c.requires.1 c.loop-x.x (omega arith) in
    omega (arith, facts)

pub offset_bounds-self-code : goal.offset_bounds-self-code
unfolding at
offset_bounds-self-code c =
    let facts = imaging_facts c.requires.1 c.loop-x.x (omega arith) in
    omega (arith, facts)

pub bounds-self-code : goal.bounds-self-code
unfolding at
bounds-self-code c =
    let facts = imaging_facts c.requires.1 c.loop-x.x (omega arith) in
    omega (arith, facts)

pub overflow_add-r : goal.overflow_add-r
unfolding at
overflow_add-r c =
    let code : ℕ = sent c.args.self.now.rows.now c.args.self.now.images.now c.args.self.now.variables c.args.i c.args.k c.loop-x.x in
    let facts = imaging_facts c.requires.1 c.loop-x.x (omega arith) in
    let so_far = carrying_small (c.loop-x.invariant c.requires.0 c.requires.1 c.requires.2) in
    let digit : ℕ = code % 16 * 2 ^ (4 * (c.args.self.now.variables - 1 - code / 16)) in
    let adds : at c.args.self.now.weights.now code ≡ digit = c.requires.2 code (omega (arith, facts)) in
    let small : digit < 281474976710656 = digit_small c.args.self.now.variables (code / 16) (code % 16) facts.3 (omega arith) in
    omega (arith, facts, so_far, adds, small)

pub loop-x-preserved : goal.loop-x-preserved
unfolding at
loop-x-preserved c =
    let code : ℕ = sent c.args.self.now.rows.now c.args.self.now.images.now c.args.self.now.variables c.args.i c.args.k c.loop-x.x in
    let facts = imaging_facts c.requires.1 c.loop-x.x (omega arith) in
    let digit : ℕ = code % 16 * 2 ^ (4 * (c.args.self.now.variables - 1 - code / 16)) in
    let adds : at c.args.self.now.weights.now code ≡ digit = c.requires.2 code (omega (arith, facts)) in
    λ p m w.
    subst (λ (d : ℕ). Carrying p c.args.self.now.rows.now c.args.self.now.images.now c.args.self.now.variables c.args.i c.args.k (c.loop-x.r + d) (c.loop-x.x + 1)) (sym adds)
    (carrying_turn (c.loop-x.invariant p m w) (omega arith))

pub returns : goal.returns
returns c = λ p a w. carrying_end (c.loop-x.invariant p a w) (omega arith)

pub overflow_mul-base : goal.overflow_mul-base
overflow_mul-base c = omega (arith, imaging_bounds c.requires.1)

pub overflow_mul-from : goal.overflow_mul-from
overflow_mul-from c = omega (arith, imaging_bounds c.requires.1)

pub overflow_mul-code : goal.overflow_mul-code
overflow_mul-code c = omega (arith, imaging_bounds c.requires.1)

pub overflow_add-code : goal.overflow_add-code
overflow_add-code c = omega (arith, imaging_bounds c.requires.1)

pub overflow_add-code-in-loop-x : goal.overflow_add-code-in-loop-x
overflow_add-code-in-loop-x c = omega (arith, imaging_bounds c.requires.1)

pub bounds-self-from : goal.bounds-self-from
bounds-self-from c = omega (arith, imaging_bounds c.requires.1)
