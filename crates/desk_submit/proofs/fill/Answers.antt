-- `fill`: the head, and the sheet behind it. Assumes nothing.
use Rattle.model.specs.Kit.{ap, ◌∙◌, List, ℕ, ◌+◌, arith, length}
use Rattle.model.specs.{Bytes.four_bytes, Written.placed}
use Rattle.model.proofs.Written.{placed_then}
use Rattle.desk.specs.{Inner.Places.SHEET, Inner.Layout.head_bytes, Inner.Layout.slot_bytes}
use Rattle.desk_submit.proofs.fill.Goals as goal

pub returns : goal.returns
unfolding slot_bytes head_bytes four_bytes placed
returns c =
    let n = length c.args.sheet.now in
    c.place-2.ensures
    ∙ ap (λ (l : List ℕ). placed l (c.args.p + SHEET) c.args.sheet.now) (c.place.ensures ∙ ap (placed c.args.queue.now c.args.p) c.four.ensures.bytes)
    ∙ placed_then c.args.queue.now c.args.p (head_bytes n c.args.limit) (omega (arith, c.requires.0)) c.args.sheet.now
