-- `fill`: the head, and the table behind it. Assumes nothing.
use Rattle.model.specs.Kit.{ap, ◌∙◌, List, ◌∷◌, ℕ, ◌+◌, arith, length}
use Rattle.model.specs.{Bytes.two_bytes, Written.placed}
use Rattle.model.proofs.Written.{placed_then}
use Rattle.store.specs.Inner.Layout.{slot_bytes}
use Rattle.store.proofs.fill.Goals as goal

pub returns : goal.returns
unfolding slot_bytes
returns c =
    let n = length c.args.table.now in
    c.place-2.ensures ∙ ap (λ (l : List ℕ). placed l (c.args.p + 4) c.args.table.now) c.place.ensures
    ∙ placed_then c.args.store.now c.args.p (1 ∷ c.args.key ∷ two_bytes n) (omega (arith, c.requires.0)) c.args.table.now
