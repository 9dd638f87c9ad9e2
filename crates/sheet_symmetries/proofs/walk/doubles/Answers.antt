use Rattle.model.specs.Kit.{◌∙◌, arith}
use Rattle.sheet_symmetries.proofs.Doubles.{doubled_together, doubling_start, doubling_spot, doubling_beside, doubling_stop, doubling_rest, doubling_over}
use Rattle.sheet_symmetries.proofs.walk.doubles.Goals as goal

pub returns-then-place-ne15 : goal.returns-then-place-ne15
returns-then-place-ne15 c = λ p l h. doubled_together p _ _ _ _ _ l h (λ q. c.if-place-ne15.true (c.place.ensures.0 ∙ q))

pub loop-v-init : goal.loop-v-init
loop-v-init c = λ p l h. doubling_start p _ _ _ _ _ _ l h (c.members-values.ensures ∙ c.initial.ensures p l.ready.framed h)

pub place-e-requires : goal.place-e-requires
place-e-requires c = doubling_spot c.requires.1 c.requires.2 (c.loop-v.invariant c.requires.0 c.requires.1 c.requires.2) c.in-Some.ensures.steps

pub pairs_blocked-requires : goal.pairs_blocked-requires
pairs_blocked-requires c =
    let s = c.loop-v.invariant c.requires.0 c.requires.1 c.requires.2 in
    (c.requires.0, doubling_beside c.requires.1 c.requires.2 s c.in-Some.ensures.steps c.place-e.ensures.0)

pub returns-then-not-pairs_blocked : goal.returns-then-not-pairs_blocked
returns-then-not-pairs_blocked c =
    let step = c.in-Some.ensures.steps in
    let e = c.place-e.ensures.0 in
    λ p l h.
    let s = c.loop-v.invariant p l h in
    doubling_stop l h s step e (c.pairs_blocked.ensures p (doubling_beside l h s step e)) c.if-not-pairs_blocked.true

pub loop-v-preserved : goal.loop-v-preserved
loop-v-preserved c =
    let step = c.in-Some.ensures.steps in
    let e = c.place-e.ensures.0 in
    λ p l h.
    let s = c.loop-v.invariant p l h in
    doubling_rest l h s step e (c.pairs_blocked.ensures p (doubling_beside l h s step e)) c.if-not-pairs_blocked.false

pub returns : goal.returns
returns c = λ p l h. doubling_over (c.loop-v.invariant p l h) c.in_default.ensures.steps
