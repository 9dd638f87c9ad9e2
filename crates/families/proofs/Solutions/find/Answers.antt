-- The loop: the solution is in the chain, before the link.
use Rattle.model.specs.Kit.{◌≤◌, arith}
use Rattle.model.specs.{Lists.at}
use Rattle.families.proofs.{Chains.seeking_begin, Chains.seeking_bounds, Chains.seeking_turn, Chains.seeking_less, Chains.seeking_end}
use Rattle.families.proofs.Solutions.find.Goals as goal

pub overflow_cast-link : goal.overflow_cast-link
unfolding at
overflow_cast-link c = omega (arith, seeking_bounds c.requires.2 (seeking_begin c.requires.2))

pub loop-link-init : goal.loop-link-init
unfolding at
loop-link-init c = λ p s f. seeking_begin f

pub loop-link-smaller : goal.loop-link-smaller
unfolding at
loop-link-smaller c = seeking_less c.requires.2 (c.loop-link.invariant c.requires.0 c.requires.1 c.requires.2)

pub loop-link-preserved : goal.loop-link-preserved
unfolding at
loop-link-preserved c = λ p s f. seeking_turn f (c.loop-link.invariant p s f) c.loop-link-test.true

pub returns : goal.returns
unfolding at
returns c = λ p s f. seeking_end f (c.loop-link.invariant p s f) c.loop-link-test.false

pub overflow_sub-link : goal.overflow_sub-link
overflow_sub-link c =
    let bounds : (1 ≤ c.loop-link.link) × (c.loop-link.link ≤ 4096) = seeking_bounds c.requires.2 (c.loop-link.invariant c.requires.0 c.requires.1 c.requires.2) in
    bounds.0

pub offset_bounds-self-link : goal.offset_bounds-self-link
offset_bounds-self-link c =
    let bounds : (1 ≤ c.loop-link.link) × (c.loop-link.link ≤ 4096) = seeking_bounds c.requires.2 (c.loop-link.invariant c.requires.0 c.requires.1 c.requires.2) in
    omega (arith, bounds)

pub bounds-self-link : goal.bounds-self-link
bounds-self-link c =
    let bounds : (1 ≤ c.loop-link.link) × (c.loop-link.link ≤ 4096) = seeking_bounds c.requires.2 (c.loop-link.invariant c.requires.0 c.requires.1 c.requires.2) in
    omega (arith, bounds)

pub overflow_sub-link-in-loop-link : goal.overflow_sub-link-in-loop-link
overflow_sub-link-in-loop-link c =
    let bounds : (1 ≤ c.loop-link.link) × (c.loop-link.link ≤ 4096) = seeking_bounds c.requires.2 (c.loop-link.invariant c.requires.0 c.requires.1 c.requires.2) in
    bounds.0

pub offset_bounds-self-link-in-loop-link : goal.offset_bounds-self-link-in-loop-link
offset_bounds-self-link-in-loop-link c =
    let bounds : (1 ≤ c.loop-link.link) × (c.loop-link.link ≤ 4096) = seeking_bounds c.requires.2 (c.loop-link.invariant c.requires.0 c.requires.1 c.requires.2) in
    omega (arith, bounds)

pub bounds-self-link-in-loop-link : goal.bounds-self-link-in-loop-link
bounds-self-link-in-loop-link c =
    let bounds : (1 ≤ c.loop-link.link) × (c.loop-link.link ≤ 4096) = seeking_bounds c.requires.2 (c.loop-link.invariant c.requires.0 c.requires.1 c.requires.2) in
    omega (arith, bounds)

pub overflow_sub-result : goal.overflow_sub-result
overflow_sub-result c =
    let bounds : (1 ≤ c.loop-link.link) × (c.loop-link.link ≤ 4096) = seeking_bounds c.requires.2 (c.loop-link.invariant c.requires.0 c.requires.1 c.requires.2) in
    bounds.0
