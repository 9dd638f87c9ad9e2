-- `walk`: the rows so far and those that are left are the whole. Assumes nothing.
use Rattle.model.specs.Kit.{◌≡◌, sym, ◌∙◌, subst, inl, inr, List, ℕ, ◌-◌, ◌≤◌, arith, rules, length, take, drop}
use Rattle.model.specs.{Written.Written}
use Rattle.list_merge.specs.{Merge.next_row, Inner.Inner.taken}
use Rattle.list_merge.proofs.Walking.{walking, Put, walked, has_room, width, lacks, on}
use Rattle.list_merge.proofs.{Turning.part_is, Turning.first_taken, Turning.second_taken, Turning.left, Turning.right, Turning.fewer}
use Rattle.list_merge.proofs.walk.Goals as goal
use Rattle.list_merge.proofs.walk.Goals.{then-writes, else-writes+else-out-at}

pub loop-a-init : goal.loop-a-init
loop-a-init c = walking c.args.n c.args.order.now c.args.writes c.args.out.now c.args.first.now c.args.second.now c.requires.0

pub returns-then-row-eq0 : goal.returns-then-row-eq0
returns-then-row-eq0 c =
    let row_is : c.next-row.result.now ≡ next_row c.args.n c.args.order.now c.loop-a.a.now c.loop-a.b.now = c.next-row.ensures.result_value in
    walked c.args.n c.args.order.now c.args.writes c.args.out.now _ c.loop-a.a.now c.loop-a.b.now c.loop-a.out c.loop-a.at c.loop-a.invariant c.next-row.result.now
    row_is c.if-row-eq0.true

pub put_row-requires : goal.put_row-requires
put_row-requires c =
    let row_is : c.next-row.result.now ≡ next_row c.args.n c.args.order.now c.loop-a.a.now c.loop-a.b.now = c.next-row.ensures.result_value in (
      has_room c.args.n c.args.order.now c.args.writes c.args.out.now _ c.loop-a.a.now c.loop-a.b.now c.loop-a.out c.loop-a.at c.loop-a.invariant c.next-row.result.now
          row_is c.if-row-eq0.false (c.requires.2 c.if-writes.true),
      omega (
        arith,
        width c.args.n c.args.order.now c.args.writes c.args.out.now _ c.loop-a.a.now c.loop-a.b.now c.loop-a.out c.loop-a.at c.loop-a.invariant
            c.next-row.result.now row_is c.if-row-eq0.false,
        c.requires.1.most,
      ),
    )

pub returns-then-out-at : goal.returns-then-out-at
returns-then-out-at c =
    let row_is : c.next-row.result.now ≡ next_row c.args.n c.args.order.now c.loop-a.a.now c.loop-a.b.now = c.next-row.ensures.result_value in
    lacks c.args.n c.args.order.now c.args.writes c.args.out.now _ c.loop-a.a.now c.loop-a.b.now c.loop-a.out c.loop-a.at c.loop-a.invariant
    c.next-row.result.now row_is c.if-row-eq0.false c.if-writes.false
    c.if-out-at.true

pub overflow_add-at : goal.overflow_add-at
overflow_add-at c =
    let row_is : c.next-row.result.now ≡ next_row c.args.n c.args.order.now c.loop-a.a.now c.loop-a.b.now = c.next-row.ensures.result_value in
    let of_first : c.past_first-i.result ≡ taken c.args.n c.loop-a.a.now c.next-row.result.now = c.past_first-i.ensures
    ∙ first_taken c.args.n c.args.order.now c.loop-a.a.now c.loop-a.b.now c.loop-a.invariant.rests.rests c.stand-way.result
    c.stand-way.ensures c.next-row.result.now row_is c.if-row-eq0.false in
    let of_second : c.past_second-j.result ≡ taken c.args.n c.loop-a.b.now c.next-row.result.now = c.past_second-j.ensures
    ∙ second_taken c.args.n c.args.order.now c.loop-a.a.now c.loop-a.b.now c.loop-a.invariant.rests.rests c.stand-way.result
    c.stand-way.ensures c.next-row.result.now row_is
    c.if-row-eq0.false in
    let put : Put c.args.n c.args.writes c.next-row.result.now c.loop-a.out c.loop-a.at c.if-writes.out = elim c.if-writes.branch [
      | then-writes w ↦ inl (
        w.if-writes.true,
        (w.put_row.result, subst (λ (o : List ℕ). Written c.loop-a.out c.loop-a.at c.next-row.result.now o w.put_row.result) (sym w.out-is) w.put_row.ensures),
      )
      | else-writes+else-out-at w ↦ inr (w.if-writes.false, w.out-is, w.if-out-at.false)
    ] in
    omega (
      arith,
      (on c.args.n c.args.order.now c.args.writes c.args.out.now _ c.loop-a.a.now c.loop-a.b.now c.loop-a.out c.loop-a.at c.loop-a.invariant
          c.next-row.result.now row_is c.if-row-eq0.false c.past_first-i.result c.past_second-j.result of_first of_second
          (take (length c.loop-a.a.now - c.past_first-i.result) (drop c.past_first-i.result c.loop-a.a.now))
          (take (length c.loop-a.b.now - c.past_second-j.result) (drop c.past_second-j.result c.loop-a.b.now)) (part_is c.loop-a.a.now c.past_first-i.result)
          (part_is c.loop-a.b.now c.past_second-j.result) c.requires.2 c.if-writes.out put).0,
    )

pub loop-a-smaller : goal.loop-a-smaller
loop-a-smaller c =
    let row_is : c.next-row.result.now ≡ next_row c.args.n c.args.order.now c.loop-a.a.now c.loop-a.b.now = c.next-row.ensures.result_value in
    let of_first : c.past_first-i.result ≡ taken c.args.n c.loop-a.a.now c.next-row.result.now = c.past_first-i.ensures
    ∙ first_taken c.args.n c.args.order.now c.loop-a.a.now c.loop-a.b.now c.loop-a.invariant.rests.rests c.stand-way.result
    c.stand-way.ensures c.next-row.result.now row_is c.if-row-eq0.false in
    let of_second : c.past_second-j.result ≡ taken c.args.n c.loop-a.b.now c.next-row.result.now = c.past_second-j.ensures
    ∙ second_taken c.args.n c.args.order.now c.loop-a.a.now c.loop-a.b.now c.loop-a.invariant.rests.rests c.stand-way.result
    c.stand-way.ensures c.next-row.result.now row_is
    c.if-row-eq0.false in
    fewer c.args.n c.args.order.now c.loop-a.a.now c.loop-a.b.now c.loop-a.invariant.rests c.next-row.result.now row_is
    c.if-row-eq0.false c.past_first-i.result c.past_second-j.result of_first of_second (take (length c.loop-a.a.now - c.past_first-i.result) (drop c.past_first-i.result c.loop-a.a.now))
    (take (length c.loop-a.b.now - c.past_second-j.result) (drop c.past_second-j.result c.loop-a.b.now)) (part_is c.loop-a.a.now c.past_first-i.result)
    (part_is c.loop-a.b.now c.past_second-j.result)

pub loop-a-preserved : goal.loop-a-preserved
loop-a-preserved c =
    let row_is : c.next-row.result.now ≡ next_row c.args.n c.args.order.now c.loop-a.a.now c.loop-a.b.now = c.next-row.ensures.result_value in
    let of_first : c.past_first-i.result ≡ taken c.args.n c.loop-a.a.now c.next-row.result.now = c.past_first-i.ensures
    ∙ first_taken c.args.n c.args.order.now c.loop-a.a.now c.loop-a.b.now c.loop-a.invariant.rests.rests c.stand-way.result
    c.stand-way.ensures c.next-row.result.now row_is c.if-row-eq0.false in
    let of_second : c.past_second-j.result ≡ taken c.args.n c.loop-a.b.now c.next-row.result.now = c.past_second-j.ensures
    ∙ second_taken c.args.n c.args.order.now c.loop-a.a.now c.loop-a.b.now c.loop-a.invariant.rests.rests c.stand-way.result
    c.stand-way.ensures c.next-row.result.now row_is
    c.if-row-eq0.false in
    let put : Put c.args.n c.args.writes c.next-row.result.now c.loop-a.out c.loop-a.at c.if-writes.out = elim c.if-writes.branch [
      | then-writes w ↦ inl (
        w.if-writes.true,
        (w.put_row.result, subst (λ (o : List ℕ). Written c.loop-a.out c.loop-a.at c.next-row.result.now o w.put_row.result) (sym w.out-is) w.put_row.ensures),
      )
      | else-writes+else-out-at w ↦ inr (w.if-writes.false, w.out-is, w.if-out-at.false)
    ] in
    (on c.args.n c.args.order.now c.args.writes c.args.out.now _ c.loop-a.a.now c.loop-a.b.now c.loop-a.out c.loop-a.at c.loop-a.invariant c.next-row.result.now
    row_is c.if-row-eq0.false c.past_first-i.result c.past_second-j.result of_first of_second (take (length c.loop-a.a.now - c.past_first-i.result) (drop c.past_first-i.result c.loop-a.a.now))
    (take (length c.loop-a.b.now - c.past_second-j.result) (drop c.past_second-j.result c.loop-a.b.now)) (part_is c.loop-a.a.now c.past_first-i.result) (part_is c.loop-a.b.now c.past_second-j.result)
    c.requires.2 c.if-writes.out put).1

pub stand-way-requires : goal.stand-way-requires
stand-way-requires c = (c.loop-a.invariant.rests.rests, c.requires.1)

pub next-row-requires : goal.next-row-requires
next-row-requires c = (c.loop-a.invariant.rests.rests, c.stand-way.ensures)

pub shape_of-out-then-row-eq0 : goal.shape_of-out-then-row-eq0
shape_of-out-then-row-eq0 c = c.loop-a.invariant.size

pub overflow_sub-out : goal.overflow_sub-out
overflow_sub-out c = omega (arith, c.loop-a.invariant.room, c.loop-a.invariant.size)

pub shape_of-out-then-out-at : goal.shape_of-out-then-out-at
shape_of-out-then-out-at c = c.loop-a.invariant.size

pub slice_bounds-a-count : goal.slice_bounds-a-count
slice_bounds-a-count c =
    let row_is : c.next-row.result.now ≡ next_row c.args.n c.args.order.now c.loop-a.a.now c.loop-a.b.now = c.next-row.ensures.result_value in
    let of_first : c.past_first-i.result ≡ taken c.args.n c.loop-a.a.now c.next-row.result.now = c.past_first-i.ensures
    ∙ first_taken c.args.n c.args.order.now c.loop-a.a.now c.loop-a.b.now c.loop-a.invariant.rests.rests c.stand-way.result
    c.stand-way.ensures c.next-row.result.now row_is c.if-row-eq0.false in
    let of_second : c.past_second-j.result ≡ taken c.args.n c.loop-a.b.now c.next-row.result.now = c.past_second-j.ensures
    ∙ second_taken c.args.n c.args.order.now c.loop-a.a.now c.loop-a.b.now c.loop-a.invariant.rests.rests c.stand-way.result
    c.stand-way.ensures c.next-row.result.now row_is
    c.if-row-eq0.false in
    let first_fits : c.past_first-i.result ≤ length c.loop-a.a.now = left c.args.n c.args.order.now c.loop-a.a.now c.loop-a.b.now c.loop-a.invariant.rests c.next-row.result.now
    row_is c.if-row-eq0.false c.past_first-i.result c.past_second-j.result of_first of_second in
    first_fits

pub slice_bounds-a-start : goal.slice_bounds-a-start
slice_bounds-a-start c =
    let row_is : c.next-row.result.now ≡ next_row c.args.n c.args.order.now c.loop-a.a.now c.loop-a.b.now = c.next-row.ensures.result_value in
    let of_first : c.past_first-i.result ≡ taken c.args.n c.loop-a.a.now c.next-row.result.now = c.past_first-i.ensures
    ∙ first_taken c.args.n c.args.order.now c.loop-a.a.now c.loop-a.b.now c.loop-a.invariant.rests.rests c.stand-way.result
    c.stand-way.ensures c.next-row.result.now row_is c.if-row-eq0.false in
    let of_second : c.past_second-j.result ≡ taken c.args.n c.loop-a.b.now c.next-row.result.now = c.past_second-j.ensures
    ∙ second_taken c.args.n c.args.order.now c.loop-a.a.now c.loop-a.b.now c.loop-a.invariant.rests.rests c.stand-way.result
    c.stand-way.ensures c.next-row.result.now row_is
    c.if-row-eq0.false in
    let first_fits : c.past_first-i.result ≤ length c.loop-a.a.now = left c.args.n c.args.order.now c.loop-a.a.now c.loop-a.b.now c.loop-a.invariant.rests c.next-row.result.now
    row_is c.if-row-eq0.false c.past_first-i.result c.past_second-j.result of_first of_second in
    let h = first_fits in search rules

pub slice_bounds-a-end : goal.slice_bounds-a-end
slice_bounds-a-end c =
    let row_is : c.next-row.result.now ≡ next_row c.args.n c.args.order.now c.loop-a.a.now c.loop-a.b.now = c.next-row.ensures.result_value in
    let of_first : c.past_first-i.result ≡ taken c.args.n c.loop-a.a.now c.next-row.result.now = c.past_first-i.ensures
    ∙ first_taken c.args.n c.args.order.now c.loop-a.a.now c.loop-a.b.now c.loop-a.invariant.rests.rests c.stand-way.result
    c.stand-way.ensures c.next-row.result.now row_is c.if-row-eq0.false in
    let of_second : c.past_second-j.result ≡ taken c.args.n c.loop-a.b.now c.next-row.result.now = c.past_second-j.ensures
    ∙ second_taken c.args.n c.args.order.now c.loop-a.a.now c.loop-a.b.now c.loop-a.invariant.rests.rests c.stand-way.result
    c.stand-way.ensures c.next-row.result.now row_is
    c.if-row-eq0.false in
    let first_fits : c.past_first-i.result ≤ length c.loop-a.a.now = left c.args.n c.args.order.now c.loop-a.a.now c.loop-a.b.now c.loop-a.invariant.rests c.next-row.result.now
    row_is c.if-row-eq0.false c.past_first-i.result c.past_second-j.result of_first of_second in
    let h = first_fits in search rules

pub slice_bounds-b-count : goal.slice_bounds-b-count
slice_bounds-b-count c =
    let row_is : c.next-row.result.now ≡ next_row c.args.n c.args.order.now c.loop-a.a.now c.loop-a.b.now = c.next-row.ensures.result_value in
    let of_first : c.past_first-i.result ≡ taken c.args.n c.loop-a.a.now c.next-row.result.now = c.past_first-i.ensures
    ∙ first_taken c.args.n c.args.order.now c.loop-a.a.now c.loop-a.b.now c.loop-a.invariant.rests.rests c.stand-way.result
    c.stand-way.ensures c.next-row.result.now row_is c.if-row-eq0.false in
    let of_second : c.past_second-j.result ≡ taken c.args.n c.loop-a.b.now c.next-row.result.now = c.past_second-j.ensures
    ∙ second_taken c.args.n c.args.order.now c.loop-a.a.now c.loop-a.b.now c.loop-a.invariant.rests.rests c.stand-way.result
    c.stand-way.ensures c.next-row.result.now row_is
    c.if-row-eq0.false in
    let second_fits : c.past_second-j.result ≤ length c.loop-a.b.now = right c.args.n c.args.order.now c.loop-a.a.now c.loop-a.b.now c.loop-a.invariant.rests c.next-row.result.now
    row_is c.if-row-eq0.false c.past_first-i.result c.past_second-j.result of_first of_second in
    second_fits

pub slice_bounds-b-start : goal.slice_bounds-b-start
slice_bounds-b-start c =
    let row_is : c.next-row.result.now ≡ next_row c.args.n c.args.order.now c.loop-a.a.now c.loop-a.b.now = c.next-row.ensures.result_value in
    let of_first : c.past_first-i.result ≡ taken c.args.n c.loop-a.a.now c.next-row.result.now = c.past_first-i.ensures
    ∙ first_taken c.args.n c.args.order.now c.loop-a.a.now c.loop-a.b.now c.loop-a.invariant.rests.rests c.stand-way.result
    c.stand-way.ensures c.next-row.result.now row_is c.if-row-eq0.false in
    let of_second : c.past_second-j.result ≡ taken c.args.n c.loop-a.b.now c.next-row.result.now = c.past_second-j.ensures
    ∙ second_taken c.args.n c.args.order.now c.loop-a.a.now c.loop-a.b.now c.loop-a.invariant.rests.rests c.stand-way.result
    c.stand-way.ensures c.next-row.result.now row_is
    c.if-row-eq0.false in
    let second_fits : c.past_second-j.result ≤ length c.loop-a.b.now = right c.args.n c.args.order.now c.loop-a.a.now c.loop-a.b.now c.loop-a.invariant.rests c.next-row.result.now
    row_is c.if-row-eq0.false c.past_first-i.result c.past_second-j.result of_first of_second in
    let h = second_fits in search rules

pub slice_bounds-b-end : goal.slice_bounds-b-end
slice_bounds-b-end c =
    let row_is : c.next-row.result.now ≡ next_row c.args.n c.args.order.now c.loop-a.a.now c.loop-a.b.now = c.next-row.ensures.result_value in
    let of_first : c.past_first-i.result ≡ taken c.args.n c.loop-a.a.now c.next-row.result.now = c.past_first-i.ensures
    ∙ first_taken c.args.n c.args.order.now c.loop-a.a.now c.loop-a.b.now c.loop-a.invariant.rests.rests c.stand-way.result
    c.stand-way.ensures c.next-row.result.now row_is c.if-row-eq0.false in
    let of_second : c.past_second-j.result ≡ taken c.args.n c.loop-a.b.now c.next-row.result.now = c.past_second-j.ensures
    ∙ second_taken c.args.n c.args.order.now c.loop-a.a.now c.loop-a.b.now c.loop-a.invariant.rests.rests c.stand-way.result
    c.stand-way.ensures c.next-row.result.now row_is
    c.if-row-eq0.false in
    let second_fits : c.past_second-j.result ≤ length c.loop-a.b.now = right c.args.n c.args.order.now c.loop-a.a.now c.loop-a.b.now c.loop-a.invariant.rests c.next-row.result.now
    row_is c.if-row-eq0.false c.past_first-i.result c.past_second-j.result of_first of_second in
    let h = second_fits in search rules
