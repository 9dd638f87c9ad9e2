use Rattle.model.specs.Kit.{refl}
use Rattle.sheet_carried.proofs.Beside.{beside_next, beside_triple, beside_stop, beside_rest, beside_over}
use Rattle.sheet_carried.proofs.two.pairs_blocked.Goals as goal

pub loop-v-init : goal.loop-v-init
loop-v-init c = rw (c.into_iter-v-iterator.ensures.into_iter_gives, c.members-v-items.ensures) (λ p s. (s, refl))

pub place-requires : goal.place-requires
place-requires c = beside_next (c.loop-v.invariant c.requires.0 c.requires.1).0 c.in-Some.ensures.steps

pub pair_blocked-requires : goal.pair_blocked-requires
pair_blocked-requires c = (c.requires.0, beside_triple (c.loop-v.invariant c.requires.0 c.requires.1).0 c.in-Some.ensures.steps c.place.ensures.0)

pub returns-then-not-pair_blocked : goal.returns-then-not-pair_blocked
returns-then-not-pair_blocked c =
    let step = c.in-Some.ensures.steps in
    λ p s.
    let i = c.loop-v.invariant p s in
    beside_stop i.0 step c.place.ensures.0 (c.pair_blocked.ensures p (beside_triple i.0 step c.place.ensures.0)) c.if-not-pair_blocked.true i.1

pub loop-v-preserved : goal.loop-v-preserved
loop-v-preserved c =
    let step = c.in-Some.ensures.steps in
    λ p s.
    let i = c.loop-v.invariant p s in
    beside_rest i.0 step c.place.ensures.0 (c.pair_blocked.ensures p (beside_triple i.0 step c.place.ensures.0)) c.if-not-pair_blocked.false i.1

pub returns : goal.returns
returns c = λ p s. let i = c.loop-v.invariant p s in beside_over i.0 c.in-None.ensures.steps i.1
