use Rattle.model.specs.Kit.{refl, sym, ◌∙◌}
use Rattle.sheet_carried.proofs.Surely.{sure_none}
use Rattle.sheet_carried.proofs.Beside.{beside_one, beside_one_is, beside_clash, beside_next, beside_pair, beside_small, beside_triple, beside_stop, beside_rest, beside_over}
use Rattle.sheet_symmetries.proofs.walk.all_blocked.Goals as goal

pub pairs_blocked-requires : goal.pairs_blocked-requires
pairs_blocked-requires c = (c.requires.0, beside_one c.requires.0 _ _ _ _ _ _ _ c.if-a-eq255.true c.requires.1)

pub returns-then-a-eq255 : goal.returns-then-a-eq255
returns-then-a-eq255 c = λ p s. beside_one_is p _ _ _ _ _ _ c.if-a-eq255.true (c.pairs_blocked.ensures p (beside_one p _ _ _ _ _ _ _ c.if-a-eq255.true s))

pub returns-then-clash : goal.returns-then-clash
returns-then-clash c = λ p s. beside_clash s (sym c.clash.ensures ∙ c.if-clash.true)

pub loop-v-init : goal.loop-v-init
loop-v-init c = rw (c.into_iter-v-iterator.ensures.into_iter_gives, c.members-v-items.ensures) (λ p s. (s, refl, sure_none p _ _ _))

pub place-e-requires : goal.place-e-requires
place-e-requires c = beside_next (c.loop-v.invariant c.requires.0 c.requires.1).0 c.in-Some.ensures.steps

pub surely_after-sure-requires : goal.surely_after-sure-requires
surely_after-sure-requires c =
    let s = c.requires.1 in
    (c.requires.0, s.ready, s.first, s.second, beside_small (c.loop-v.invariant c.requires.0 s).0 c.in-Some.ensures.steps c.place-e.ensures.0)

pub third_blocked-requires : goal.third_blocked-requires
third_blocked-requires c = (c.requires.0, beside_triple (c.loop-v.invariant c.requires.0 c.requires.1).0 c.in-Some.ensures.steps c.place-e.ensures.0)

pub returns-then-not-third_blocked : goal.returns-then-not-third_blocked
returns-then-not-third_blocked c =
    let step = c.in-Some.ensures.steps in
    let e = c.place-e.ensures.0 in
    λ p s.
    let i = c.loop-v.invariant p s in
    let k = c.surely_after-sure.ensures p s.ready s.first s.second i.2 in
    beside_stop i.0 step e (c.third_blocked.ensures p (beside_triple i.0 step e) (beside_pair i.0 step e) k) c.if-not-third_blocked.true i.1

pub loop-v-preserved : goal.loop-v-preserved
loop-v-preserved c =
    let step = c.in-Some.ensures.steps in
    let e = c.place-e.ensures.0 in
    λ p s.
    let i = c.loop-v.invariant p s in
    let k = c.surely_after-sure.ensures p s.ready s.first s.second i.2 in
    let t = beside_rest i.0 step e (c.third_blocked.ensures p (beside_triple i.0 step e) (beside_pair i.0 step e) k) c.if-not-third_blocked.false i.1 in
    (t.0, t.1, k)

pub returns : goal.returns
returns c = λ p s. let i = c.loop-v.invariant p s in beside_over i.0 c.in-None.ensures.steps i.1
