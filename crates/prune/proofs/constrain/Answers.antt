-- The loop: only the constraints left and those by variable of the variables that moved may take something. Assumes nothing.
use Rattle.model.specs.Kit.{refl, lt_of_lt_of_le, rules}
use Rattle.std.proofs.lemmas.Option.{MatchOption-at_none, MatchOption-at_some}
use Rattle.prune_pairs.proofs.Settled.{none_settled}
use Rattle.prune.proofs.{Pending.pruned_none, Pending.ended_more, Pending.all_constrained_dead, Pending.all_constrained_live, Pending.nothing_due, Pending.arcs_pending, Pending.arcs_pruned}
use Rattle.prune.proofs.{Pending.arcs_size, Pending.arcs_turn, Pending.constraints_pending, Pending.pending_turn, Pending.pruned_turn, Pending.pending_less}
use Rattle.prune.proofs.constrain.Goals as goal

pub loop-cut-init : goal.loop-cut-init
loop-cut-init c = λ p s w. (pruned_none p _, w)

pub returns-in_default : goal.returns-in_default
returns-in_default c = λ p s w.
    let i = c.loop-cut.invariant p s w in
    all_constrained_dead p _ _ (ended_more p _ _ i.0 ((MatchOption-at_none _ _ c.in_default.is (c.arcs.ensures p (arcs_pending s i.1))).ended))

pub constrain-pruned-requires : goal.constrain-pruned-requires
unfolding Rattle.model.specs.Lists.at
constrain-pruned-requires c =
    let i = c.loop-cut.invariant c.requires.0 c.requires.1 c.requires.2 in (
      c.requires.0,
      constraints_pending c.requires.1 (arcs_turn c.requires.1 i.1 (MatchOption-at_some _ _ _ c.in-Some.is (c.arcs.ensures c.requires.0 (arcs_pending c.requires.1 i.1)))
          c.touched-left.ensures refl),
    )

pub returns-in_default-pruned : goal.returns-in_default-pruned
returns-in_default-pruned c = λ p s w.
    let i = c.loop-cut.invariant p s w in
    let l = MatchOption-at_some _ _ _ c.in-Some.is (c.arcs.ensures p (arcs_pending s i.1)) in
    let n = arcs_turn s i.1 l c.touched-left.ensures refl in
    all_constrained_dead p _ _ (ended_more p _ _ (arcs_pruned s i.1 l _ i.0) ((MatchOption-at_none _ _ c.in_default-pruned.is (c.constrain-pruned.ensures p (constraints_pending s n))).ended))

pub returns-then-moved-eq0 : goal.returns-then-moved-eq0
unfolding Rattle.model.specs.Lists.at
returns-then-moved-eq0 c = λ p s w.
    let i = c.loop-cut.invariant p s w in
    let l = MatchOption-at_some _ _ _ c.in-Some.is (c.arcs.ensures p (arcs_pending s i.1)) in
    let n = arcs_turn s i.1 l c.touched-left.ensures refl in
    let k = MatchOption-at_some _ _ _ c.in-Some-pruned.is (c.constrain-pruned.ensures p (constraints_pending s n)) in
    all_constrained_live p _ _
    (nothing_due s (pruned_turn s n k refl _ (arcs_pruned s i.1 l _ i.0)) (pending_turn s n k refl) refl
    c.if-moved-eq0.true)

pub loop-cut-smaller : goal.loop-cut-smaller
unfolding Rattle.model.specs.Lists.at
loop-cut-smaller c =
    let i = c.loop-cut.invariant c.requires.0 c.requires.1 c.requires.2 in
    let l = MatchOption-at_some _ _ _ c.in-Some.is (c.arcs.ensures c.requires.0 (arcs_pending c.requires.1 i.1)) in
    let n = arcs_turn c.requires.1 i.1 l c.touched-left.ensures refl in
    let k = MatchOption-at_some _ _ _ c.in-Some-pruned.is (c.constrain-pruned.ensures c.requires.0 (constraints_pending c.requires.1 n)) in
    lt_of_lt_of_le (pending_less c.requires.1 n k refl (search rules) c.if-moved-eq0.false)
    (arcs_size c.requires.1 i.1 l)

pub loop-cut-preserved : goal.loop-cut-preserved
unfolding Rattle.model.specs.Lists.at
loop-cut-preserved c = λ p s w.
    let i = c.loop-cut.invariant p s w in
    let l = MatchOption-at_some _ _ _ c.in-Some.is (c.arcs.ensures p (arcs_pending s i.1)) in
    let n = arcs_turn s i.1 l c.touched-left.ensures refl in
    let k = MatchOption-at_some _ _ _ c.in-Some-pruned.is (c.constrain-pruned.ensures p (constraints_pending s n)) in
    (pruned_turn s n k refl _ (arcs_pruned s i.1 l _ i.0), pending_turn s n k refl)

pub arcs-requires : goal.arcs-requires
arcs-requires c = record { settled = none_settled _ _; arcs_pending = (c.requires.0, arcs_pending c.requires.1 (c.loop-cut.invariant c.requires.0 c.requires.1 c.requires.2).1) }
