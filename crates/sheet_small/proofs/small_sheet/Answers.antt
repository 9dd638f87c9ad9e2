-- `small_sheet`: what is answered goes by what `find` found. Assumes nothing.
use Rattle.model.specs.Kit.{sym, subst, List, ℕ, arith, length-take, length-take-le}
use Rattle.model.specs.Written.{Fronted}
use Rattle.sheet_small.proofs.{Answering.past_last, Answering.short_room, Answering.sheet_written}
use Rattle.sheet_small.proofs.small_sheet.Goals as goal

pub returns-then-size-eq0 : goal.returns-then-size-eq0
returns-then-size-eq0 c =
    past_last c.args.k c.args.room.now (c.find-d.ensures.past c.if-size-eq0.true)

pub returns-then-room-lt-SHEET_ROOM : goal.returns-then-room-lt-SHEET_ROOM
returns-then-room-lt-SHEET_ROOM c =
    short_room c.args.k c.args.room.now (c.find-d.ensures.here (λ e. omega (arith, e))).0 c.if-room-lt-SHEET_ROOM.true

pub slice_bounds-bytes-end : goal.slice_bounds-bytes-end
slice_bounds-bytes-end c =
    let d = (c.find-d.ensures.here c.if-size-eq0.false).1 in
    omega (arith, d.length_bytes, d.fits)

pub slice_bounds-copy-end : goal.slice_bounds-copy-end
slice_bounds-copy-end c =
    let d = (c.find-d.ensures.here c.if-size-eq0.false).1 in
    sym (length-take-le c.find-d.result.size c.find-d.result.bytes (omega (arith, d.length_bytes, d.fits)))

pub copy-requires : goal.copy-requires
copy-requires c =
    let d = (c.find-d.ensures.here c.if-size-eq0.false).1 in
    omega (arith, length-take c.find-d.result.size c.find-d.result.bytes, d.fits, c.if-room-lt-SHEET_ROOM.false)

pub returns : goal.returns
returns c =
    let h = c.find-d.ensures.here c.if-size-eq0.false in
    sheet_written c.args.k c.args.room.now h.0 _ c.copy.result c.if-room-lt-SHEET_ROOM.false
    (subst (λ (b : List ℕ). Fronted c.args.room.now b c.copy.new.room c.copy.result) h.1.is c.copy.ensures)
