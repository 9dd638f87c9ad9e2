-- `serve`: the part of the run, and the bytes that say where it stands then. Assumes nothing.
use Rattle.model.specs.Kit.{refl, ap, ◌∙◌, arith, length, rules}
use Rattle.model.specs.Lists.{at}
use Rattle.desk.specs.Claims.{QueueBytes}
use Rattle.desk.proofs.Counts.{counts_length}
use Rattle.desk_turns.proofs.{Serving.within, Serving.fits_total, Serving.more_twelve, Serving.sums_fit, Serving.shows, Serving.done}
use Rattle.desk_turns.proofs.serve.serve.Goals as goal

pub share-more-requires : goal.share-more-requires
unfolding at
share-more-requires c =
    let d : QueueBytes c.args.queue.now = (c.requires.0, λ i. (c.slice_known-1.given i).fits) in
    let z = within c.args.queue.now c.args.k d c.requires.1 c.requires.2 c.args.turns c.requires.3 _ _ c.read_long-limit.ensures
    c.nodes_at-made.ensures in
    omega arith

pub overflow_add-nodes : goal.overflow_add-nodes
unfolding at
overflow_add-nodes c =
    let d : QueueBytes c.args.queue.now = (c.requires.0, λ i. (c.slice_known-1.given i).fits) in
    omega (
      arith,
      fits_total c.args.queue.now c.args.k d c.requires.1 c.requires.2 c.args.turns c.requires.3 _ _ _ c.read_long-limit.ensures c.nodes_at-made.ensures
          c.share-more.ensures _ _ _ _ c.go_on-part.ensures,
    )

pub run_bytes-requires : goal.run_bytes-requires
unfolding at
run_bytes-requires c =
    let d : QueueBytes c.args.queue.now = (c.requires.0, λ i. (c.slice_known-1.given i).fits) in (
      _,
      shows c.args.queue.now c.args.k d c.requires.1 c.requires.2 c.args.turns c.requires.3 _ _ _ c.read_long-limit.ensures
          c.nodes_at-made.ensures c.share-more.ensures _ _ _ _
          c.go_on-part.ensures _ c.standing_after-standing.ensures,
    )

pub put_counts-requires : goal.put_counts-requires
unfolding at
put_counts-requires c =
    let d : QueueBytes c.args.queue.now = (c.requires.0, λ i. (c.slice_known-1.given i).fits) in (
      search rules,
      ap length c.counts_at-before.ensures ∙ counts_length _ _,
      more_twelve c.args.queue.now c.args.k d c.requires.1 c.requires.2 c.args.turns c.requires.3 _ _ _
          c.read_long-limit.ensures c.nodes_at-made.ensures c.share-more.ensures _ _ _ _ c.go_on-part.ensures,
      sums_fit c.args.queue.now
          c.args.k d c.requires.1 c.requires.2 c.args.turns c.requires.3 _ _ _ c.read_long-limit.ensures c.nodes_at-made.ensures
          c.share-more.ensures _ _ _ _ c.go_on-part.ensures _ c.counts_at-before.ensures,
    )

pub returns : goal.returns
unfolding at
returns c =
    let d : QueueBytes c.args.queue.now = (c.requires.0, λ i. (c.slice_known-1.given i).fits) in
    let shown = shows c.args.queue.now c.args.k d c.requires.1 c.requires.2 c.args.turns c.requires.3 _ _ _ c.read_long-limit.ensures
    c.nodes_at-made.ensures c.share-more.ensures _ _ _ _ c.go_on-part.ensures _
    c.standing_after-standing.ensures in
    done c.args.queue.now c.args.k d c.requires.1 c.requires.2 c.args.turns c.requires.3 _ _ _ c.read_long-limit.ensures
    c.nodes_at-made.ensures c.share-more.ensures _ _ _ _ c.go_on-part.ensures _
    c.standing_after-standing.ensures _ _ _ _ _ _ (c.run_bytes.ensures _ shown)
    c.place.ensures c.counts_at-before.ensures c.put_counts.ensures refl
    c.turns_for.ensures
