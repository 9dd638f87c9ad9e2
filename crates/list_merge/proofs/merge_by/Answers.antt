-- `merge_by`: the questions, then the merged list. Assumes nothing.
use Rattle.model.specs.Kit.{◌≡◌, sym, ◌∙◌, subst, true, List, ℕ, ◌≤◌, leb, length, leb-true}
use Rattle.model.specs.Room.{rows_in}
use Rattle.model.proofs.Lists.{T_of}
use Rattle.list_merge.specs.{Merge.ascends, Merge.merged_by, Inner.Inner.Sorts}
use Rattle.list_merge.proofs.{Asking.no_25, Asking.no_26, Asking.no_27, Asking.wrote_all}
use Rattle.list_merge.proofs.merge_by.Goals as goal

pub returns-then-not-ascend : goal.returns-then-not-ascend
returns-then-not-ascend c = let r = no_25 c.args.n c.args.order.now c.args.first.now c.args.second.now c.args.room.now (sym c.ascend.ensures ∙ c.if-not-ascend.true) in
    record { result_value = r.0; room_after = r.1 }

pub returns-then-not-ascend-2 : goal.returns-then-not-ascend-2
returns-then-not-ascend-2 c =
    let first_ascends : ascends c.args.order.now (rows_in c.args.n c.args.first.now) ≡ true = sym c.ascend.ensures ∙ c.if-not-ascend.false in
    let r = no_26 c.args.n c.args.order.now c.args.first.now c.args.second.now c.args.room.now first_ascends
    (sym c.ascend-2.ensures ∙ c.if-not-ascend-2.true) in record { result_value = r.0; room_after = r.1 }

pub returns-then-not-fits : goal.returns-then-not-fits
returns-then-not-fits c =
    let first_ascends : ascends c.args.order.now (rows_in c.args.n c.args.first.now) ≡ true = sym c.ascend.ensures ∙ c.if-not-ascend.false in
    let second_ascends : ascends c.args.order.now (rows_in c.args.n c.args.second.now) ≡ true = sym c.ascend-2.ensures ∙ c.if-not-ascend-2.false in
    let r = no_27 c.args.n c.args.order.now c.args.first.now c.args.second.now c.args.room.now first_ascends
    second_ascends (sym c.fits.ensures.0 ∙ c.if-not-fits.true) in record { result_value = r.0; room_after = c.fits.ensures.1 ∙ r.1 }

pub walk-requires : goal.walk-requires
walk-requires c =
    let first_ascends : ascends c.args.order.now (rows_in c.args.n c.args.first.now) ≡ true = sym c.ascend.ensures ∙ c.if-not-ascend.false in
    let second_ascends : ascends c.args.order.now (rows_in c.args.n c.args.second.now) ≡ true = sym c.ascend-2.ensures ∙ c.if-not-ascend-2.false in
    let sorted : Sorts c.args.n c.args.order.now c.args.first.now c.args.second.now = record { rests = c.requires.0; first = T_of _ first_ascends; second = T_of _ second_ascends } in
    let fitting : leb (length (merged_by c.args.n c.args.order.now c.args.first.now c.args.second.now)) (length c.args.room.now) ≡ true = sym c.fits.ensures.0 ∙ c.if-not-fits.false in (
      sorted,
      c.by_place-plain.ensures,
      λ z. subst
          (λ (o : List ℕ). length (merged_by c.args.n c.args.order.now c.args.first.now c.args.second.now) ≤ length o) (sym c.fits.ensures.1)
          (leb-true (length (merged_by c.args.n c.args.order.now c.args.first.now c.args.second.now)) (length c.args.room.now) fitting),
    )

pub returns : goal.returns
returns c =
    let first_ascends : ascends c.args.order.now (rows_in c.args.n c.args.first.now) ≡ true = sym c.ascend.ensures ∙ c.if-not-ascend.false in
    let second_ascends : ascends c.args.order.now (rows_in c.args.n c.args.second.now) ≡ true = sym c.ascend-2.ensures ∙ c.if-not-ascend-2.false in
    let fitting : leb (length (merged_by c.args.n c.args.order.now c.args.first.now c.args.second.now)) (length c.args.room.now) ≡ true = sym c.fits.ensures.0 ∙ c.if-not-fits.false in
    let r = wrote_all c.args.n c.args.order.now c.args.first.now c.args.second.now c.args.room.now first_ascends
    second_ascends fitting _ _ _ c.fits.ensures.1 c.walk.ensures in
    record { result_value = r.0; room_after = r.1 }

pub fits-requires : goal.fits-requires
fits-requires c =
    let first_ascends : ascends c.args.order.now (rows_in c.args.n c.args.first.now) ≡ true = sym c.ascend.ensures ∙ c.if-not-ascend.false in
    let second_ascends : ascends c.args.order.now (rows_in c.args.n c.args.second.now) ≡ true = sym c.ascend-2.ensures ∙ c.if-not-ascend-2.false in
    let sorted : Sorts c.args.n c.args.order.now c.args.first.now c.args.second.now = record { rests = c.requires.0; first = T_of _ first_ascends; second = T_of _ second_ascends } in
    (sorted, c.by_place-plain.ensures)
