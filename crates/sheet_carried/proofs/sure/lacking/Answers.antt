use Rattle.model.specs.Kit.{sym, ap, ◌∙◌, subst, ℕ, ◌+◌, ◌*◌, ◌^◌, ◌<◌, arith}
use Rattle.model.specs.{declared.ValueSet.ValueSet, ValueSets.only_mask, ValueSets.union_mask}
use Rattle.model.proofs.Sets.{mask_lt}
use Rattle.sheet_table.specs.Inner.Forbidden.{Lacking}
use Rattle.sheet_carried.proofs.{Surely.lacking_place, Surely.lacking_none, Surely.lacking_same, Surely.lacking_more, Surely.lacking_all}
use Rattle.arrays.specs.Inner.Places.{SUPPORTS}
use Rattle.sheet_carried.proofs.sure.lacking.Goals as goal
use Rattle.sheet_carried.proofs.sure.lacking.Goals.{then-not-contains, else-not-contains}

pub loop-v-init : goal.loop-v-init
loop-v-init c = (omega arith, omega arith, lacking_none _ _ _ _)

pub loop-v-preserved : goal.loop-v-preserved
loop-v-preserved c =
    let r : (c.if-not-contains.set.bits < 2 ^ 16) × Lacking c.args.supports.now c.args.base c.args.step c.args.w (c.loop-v.v + 1) c.if-not-contains.set.bits =
    elim c.if-not-contains.branch [
      | then-not-contains u ↦
          let q = ap (λ (s : ValueSet). s.bits) u.set-is ∙ u.union-set.ensures ∙ ap (union_mask c.loop-v.set.bits)
          (u.only.ensures ∙ ap (λ (f : ℕ). only_mask f c.loop-v.v) u.full.ensures) in (
            subst (λ (s : ℕ). s < 2 ^ 16) (sym q) (mask_lt 16 _),
            lacking_more _ _ _ _ _ _ _ c.loop-v.invariant.2 c.support.ensures _ c.loop-v.invariant.1 (omega arith) q
                (sym c.contains.ensures ∙ u.if-not-contains.true),
          )
      | else-not-contains u ↦
          subst (λ (s : ValueSet). (s.bits < 2 ^ 16) × Lacking c.args.supports.now c.args.base c.args.step c.args.w (c.loop-v.v + 1) s.bits) (sym u.set-is)
          (c.loop-v.invariant.1, lacking_same _ _ _ _ _ _ _ c.loop-v.invariant.2 c.support.ensures (sym c.contains.ensures ∙ u.if-not-contains.false))
    ] in
    (omega arith, r.0, r.1)

pub returns : goal.returns
returns c = lacking_all _ _ _ _ _ _ (omega arith) c.loop-v.invariant.0 c.loop-v.invariant.2

pub overflow_mul-step : goal.overflow_mul-step
overflow_mul-step c =
    let place : c.args.base + c.args.step * c.loop-v.v < SUPPORTS = lacking_place _ _ _ c.requires.0 (omega arith) in
    omega (arith, place)

pub overflow_add-base : goal.overflow_add-base
overflow_add-base c =
    let place : c.args.base + c.args.step * c.loop-v.v < SUPPORTS = lacking_place _ _ _ c.requires.0 (omega arith) in
    omega (arith, place)

pub support-requires : goal.support-requires
support-requires c =
    let place : c.args.base + c.args.step * c.loop-v.v < SUPPORTS = lacking_place _ _ _ c.requires.0 (omega arith) in
    place
