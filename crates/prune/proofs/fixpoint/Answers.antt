-- The look-ups and the cuts by variable, the constraints that are due then, and the rest from there. Assumes nothing.
use Rattle.model.specs.Kit.{refl, sym, subst, List, ℕ, ◌+◌, ◌-◌, ◌^◌, ◌<◌, arith, bit_and, bit_or, rules}
use Rattle.model.specs.{Lists.at, Problem.Problem}
use Rattle.std.proofs.lemmas.Option.{MatchOption-at_none, MatchOption-at_some}
use Rattle.arrays.specs.Inner.Places.{LINKED, LOOKS}
use Rattle.prune_constraints.specs.Inner.LookUps.{LookUpsPending}
use Rattle.prune_constraints.proofs.Touching.{touched_of}
use Rattle.prune.specs.Inner.Steps.{ArraysHold, Blocked, AllConstrained, BeforeFixpoint}
use Rattle.prune.proofs.FixpointLoop.{constrained_dead, constrained_done, looks_pending, looks_settled, looks_done, cuts_done, bare_end}
use Rattle.prune.proofs.{Pending.pruned_none, Pending.nothing_due, Pending.arcs_pending, Starts.some_one}
use Rattle.prune.proofs.fixpoint.Goals as goal
use Rattle.prune.proofs.fixpoint.Goals.{then-left-ne0+else-constrain, else-left-ne0}

pub look_ups-requires : goal.look_ups-requires
unfolding at
look_ups-requires c =
    let wide : c.args.todo < 2 ^ 64 = search rules in
    let looks : (p : Problem) (gs : List (List ℕ)) → ArraysHold p c.args.supports.now c.args.tables.now c.args.numbers.now → Blocked p gs c.args.numbers.now →
    BeforeFixpoint p gs c.args.work.now c.args.numbers.now c.args.sets.now c.args.k c.args.todo c.args.dirty →
    LookUpsPending p c.args.numbers.now c.args.supports.now c.args.sets.now c.args.work.now c.args.todo (bit_and c.args.todo (at c.args.numbers.now (LOOKS + c.args.k))) c.args.v =
    λ p gs s b n. looks_pending s b n wide c.requires.5 in
    (c.requires.0, _, looks c.requires.0 c.requires.1 c.requires.2 c.requires.3 c.requires.4)

pub returns-in_default : goal.returns-in_default
unfolding at
returns-in_default c =
    let wide : c.args.todo < 2 ^ 64 = search rules in
    let looks : (p : Problem) (gs : List (List ℕ)) → ArraysHold p c.args.supports.now c.args.tables.now c.args.numbers.now → Blocked p gs c.args.numbers.now →
    BeforeFixpoint p gs c.args.work.now c.args.numbers.now c.args.sets.now c.args.k c.args.todo c.args.dirty →
    LookUpsPending p c.args.numbers.now c.args.supports.now c.args.sets.now c.args.work.now c.args.todo (bit_and c.args.todo (at c.args.numbers.now (LOOKS + c.args.k))) c.args.v =
    λ p gs s b n. looks_pending s b n wide c.requires.5 in
    λ p gs s b n. constrained_dead s b n _ ((MatchOption-at_none _ _ c.in_default.is (c.look_ups.ensures p _ (looks p gs s b n))).ended)

pub arcs-requires : goal.arcs-requires
unfolding at
arcs-requires c =
    let wide : c.args.todo < 2 ^ 64 = search rules in
    let looks : (p : Problem) (gs : List (List ℕ)) → ArraysHold p c.args.supports.now c.args.tables.now c.args.numbers.now → Blocked p gs c.args.numbers.now →
    BeforeFixpoint p gs c.args.work.now c.args.numbers.now c.args.sets.now c.args.k c.args.todo c.args.dirty →
    LookUpsPending p c.args.numbers.now c.args.supports.now c.args.sets.now c.args.work.now c.args.todo (bit_and c.args.todo (at c.args.numbers.now (LOOKS + c.args.k))) c.args.v =
    λ p gs s b n. looks_pending s b n wide c.requires.5 in
    let looks_made : (p : Problem) (gs : List (List ℕ)) → ArraysHold p c.args.supports.now c.args.tables.now c.args.numbers.now → Blocked p gs c.args.numbers.now →
    BeforeFixpoint p gs c.args.work.now c.args.numbers.now c.args.sets.now c.args.k c.args.todo c.args.dirty →
    BeforeFixpoint p gs c.args.work.now c.args.numbers.now c.look_ups.new.sets c.args.k
    (bit_or (bit_and c.args.todo ((2 ^ 64 - 1) - bit_and c.args.todo (at c.args.numbers.now (LOOKS + c.args.k)))) (touched_of c.args.numbers.now c.in-Some.looked))
    (bit_or c.args.dirty (bit_and c.in-Some.looked (at c.args.numbers.now LINKED))) =
    λ p gs s b n. looks_done s b n (MatchOption-at_some _ _ _ c.in-Some.is (c.look_ups.ensures p _ (looks p gs s b n))) in
    record {
      settled = looks_settled c.requires.2 c.requires.3 c.requires.4 c.requires.5
          (MatchOption-at_some _ _ _ c.in-Some.is (c.look_ups.ensures c.requires.0 _ (looks c.requires.0 c.requires.1 c.requires.2 c.requires.3 c.requires.4)));
      arcs_pending = (c.requires.0, arcs_pending c.requires.2 (looks_made c.requires.0 c.requires.1 c.requires.2 c.requires.3 c.requires.4).startable.pending);
    }

pub returns-in_default-arcs : goal.returns-in_default-arcs
unfolding at
returns-in_default-arcs c =
    let wide : c.args.todo < 2 ^ 64 = search rules in
    let looks : (p : Problem) (gs : List (List ℕ)) → ArraysHold p c.args.supports.now c.args.tables.now c.args.numbers.now → Blocked p gs c.args.numbers.now →
    BeforeFixpoint p gs c.args.work.now c.args.numbers.now c.args.sets.now c.args.k c.args.todo c.args.dirty →
    LookUpsPending p c.args.numbers.now c.args.supports.now c.args.sets.now c.args.work.now c.args.todo (bit_and c.args.todo (at c.args.numbers.now (LOOKS + c.args.k))) c.args.v =
    λ p gs s b n. looks_pending s b n wide c.requires.5 in
    let looks_made : (p : Problem) (gs : List (List ℕ)) → ArraysHold p c.args.supports.now c.args.tables.now c.args.numbers.now → Blocked p gs c.args.numbers.now →
    BeforeFixpoint p gs c.args.work.now c.args.numbers.now c.args.sets.now c.args.k c.args.todo c.args.dirty →
    BeforeFixpoint p gs c.args.work.now c.args.numbers.now c.look_ups.new.sets c.args.k
    (bit_or (bit_and c.args.todo ((2 ^ 64 - 1) - bit_and c.args.todo (at c.args.numbers.now (LOOKS + c.args.k)))) (touched_of c.args.numbers.now c.in-Some.looked))
    (bit_or c.args.dirty (bit_and c.in-Some.looked (at c.args.numbers.now LINKED))) =
    λ p gs s b n. looks_done s b n (MatchOption-at_some _ _ _ c.in-Some.is (c.look_ups.ensures p _ (looks p gs s b n))) in
    λ p gs s b n. let m = looks_made p gs s b n in constrained_dead s b m _
    ((MatchOption-at_none _ _ c.in_default-arcs.is (c.arcs.ensures p (arcs_pending s m.startable.pending))).ended)

pub constrain-requires : goal.constrain-requires
unfolding at
constrain-requires c =
    let wide : c.args.todo < 2 ^ 64 = search rules in
    let looks : (p : Problem) (gs : List (List ℕ)) → ArraysHold p c.args.supports.now c.args.tables.now c.args.numbers.now → Blocked p gs c.args.numbers.now →
    BeforeFixpoint p gs c.args.work.now c.args.numbers.now c.args.sets.now c.args.k c.args.todo c.args.dirty →
    LookUpsPending p c.args.numbers.now c.args.supports.now c.args.sets.now c.args.work.now c.args.todo (bit_and c.args.todo (at c.args.numbers.now (LOOKS + c.args.k))) c.args.v =
    λ p gs s b n. looks_pending s b n wide c.requires.5 in
    let looks_made : (p : Problem) (gs : List (List ℕ)) → ArraysHold p c.args.supports.now c.args.tables.now c.args.numbers.now → Blocked p gs c.args.numbers.now →
    BeforeFixpoint p gs c.args.work.now c.args.numbers.now c.args.sets.now c.args.k c.args.todo c.args.dirty →
    BeforeFixpoint p gs c.args.work.now c.args.numbers.now c.look_ups.new.sets c.args.k
    (bit_or (bit_and c.args.todo ((2 ^ 64 - 1) - bit_and c.args.todo (at c.args.numbers.now (LOOKS + c.args.k)))) (touched_of c.args.numbers.now c.in-Some.looked))
    (bit_or c.args.dirty (bit_and c.in-Some.looked (at c.args.numbers.now LINKED))) =
    λ p gs s b n. looks_done s b n (MatchOption-at_some _ _ _ c.in-Some.is (c.look_ups.ensures p _ (looks p gs s b n))) in
    let cuts_made : (p : Problem) (gs : List (List ℕ)) → ArraysHold p c.args.supports.now c.args.tables.now c.args.numbers.now → Blocked p gs c.args.numbers.now →
    BeforeFixpoint p gs c.args.work.now c.args.numbers.now c.args.sets.now c.args.k c.args.todo c.args.dirty →
    BeforeFixpoint p gs c.args.work.now c.args.numbers.now c.arcs.new.sets c.args.k
    (bit_or (bit_and c.args.todo ((2 ^ 64 - 1) - bit_and c.args.todo (at c.args.numbers.now (LOOKS + c.args.k)))) c.touched.result) 0 = λ p gs s b n. let m = looks_made p gs s b n in
    cuts_done s b n wide (MatchOption-at_some _ _ _ c.in-Some.is (c.look_ups.ensures p _ (looks p gs s b n)))
    (MatchOption-at_some _ _ _ c.in-Some-arcs.is (c.arcs.ensures p (arcs_pending s m.startable.pending))) (search rules) c.touched.ensures in
    (c.requires.0, c.requires.2, (cuts_made c.requires.0 c.requires.1 c.requires.2 c.requires.3 c.requires.4).startable.pending)

pub returns-then-constrain : goal.returns-then-constrain
unfolding at
returns-then-constrain c =
    let wide : c.args.todo < 2 ^ 64 = search rules in
    let looks : (p : Problem) (gs : List (List ℕ)) → ArraysHold p c.args.supports.now c.args.tables.now c.args.numbers.now → Blocked p gs c.args.numbers.now →
    BeforeFixpoint p gs c.args.work.now c.args.numbers.now c.args.sets.now c.args.k c.args.todo c.args.dirty →
    LookUpsPending p c.args.numbers.now c.args.supports.now c.args.sets.now c.args.work.now c.args.todo (bit_and c.args.todo (at c.args.numbers.now (LOOKS + c.args.k))) c.args.v =
    λ p gs s b n. looks_pending s b n wide c.requires.5 in
    let looks_made : (p : Problem) (gs : List (List ℕ)) → ArraysHold p c.args.supports.now c.args.tables.now c.args.numbers.now → Blocked p gs c.args.numbers.now →
    BeforeFixpoint p gs c.args.work.now c.args.numbers.now c.args.sets.now c.args.k c.args.todo c.args.dirty →
    BeforeFixpoint p gs c.args.work.now c.args.numbers.now c.look_ups.new.sets c.args.k
    (bit_or (bit_and c.args.todo ((2 ^ 64 - 1) - bit_and c.args.todo (at c.args.numbers.now (LOOKS + c.args.k)))) (touched_of c.args.numbers.now c.in-Some.looked))
    (bit_or c.args.dirty (bit_and c.in-Some.looked (at c.args.numbers.now LINKED))) =
    λ p gs s b n. looks_done s b n (MatchOption-at_some _ _ _ c.in-Some.is (c.look_ups.ensures p _ (looks p gs s b n))) in
    let cuts_made : (p : Problem) (gs : List (List ℕ)) → ArraysHold p c.args.supports.now c.args.tables.now c.args.numbers.now → Blocked p gs c.args.numbers.now →
    BeforeFixpoint p gs c.args.work.now c.args.numbers.now c.args.sets.now c.args.k c.args.todo c.args.dirty →
    BeforeFixpoint p gs c.args.work.now c.args.numbers.now c.arcs.new.sets c.args.k
    (bit_or (bit_and c.args.todo ((2 ^ 64 - 1) - bit_and c.args.todo (at c.args.numbers.now (LOOKS + c.args.k)))) c.touched.result) 0 = λ p gs s b n. let m = looks_made p gs s b n in
    cuts_done s b n wide (MatchOption-at_some _ _ _ c.in-Some.is (c.look_ups.ensures p _ (looks p gs s b n)))
    (MatchOption-at_some _ _ _ c.in-Some-arcs.is (c.arcs.ensures p (arcs_pending s m.startable.pending))) (search rules) c.touched.ensures in
    λ p gs s b n. let m = cuts_made p gs s b n in constrained_dead s b m _
    ((c.constrain.ensures p s m.startable.pending).ended c.if-constrain.true)

pub returns-then-numbers-eq0 : goal.returns-then-numbers-eq0
unfolding at
returns-then-numbers-eq0 c =
    let wide : c.args.todo < 2 ^ 64 = search rules in
    let looks : (p : Problem) (gs : List (List ℕ)) → ArraysHold p c.args.supports.now c.args.tables.now c.args.numbers.now → Blocked p gs c.args.numbers.now →
    BeforeFixpoint p gs c.args.work.now c.args.numbers.now c.args.sets.now c.args.k c.args.todo c.args.dirty →
    LookUpsPending p c.args.numbers.now c.args.supports.now c.args.sets.now c.args.work.now c.args.todo (bit_and c.args.todo (at c.args.numbers.now (LOOKS + c.args.k))) c.args.v =
    λ p gs s b n. looks_pending s b n wide c.requires.5 in
    let looks_made : (p : Problem) (gs : List (List ℕ)) → ArraysHold p c.args.supports.now c.args.tables.now c.args.numbers.now → Blocked p gs c.args.numbers.now →
    BeforeFixpoint p gs c.args.work.now c.args.numbers.now c.args.sets.now c.args.k c.args.todo c.args.dirty →
    BeforeFixpoint p gs c.args.work.now c.args.numbers.now c.look_ups.new.sets c.args.k
    (bit_or (bit_and c.args.todo ((2 ^ 64 - 1) - bit_and c.args.todo (at c.args.numbers.now (LOOKS + c.args.k)))) (touched_of c.args.numbers.now c.in-Some.looked))
    (bit_or c.args.dirty (bit_and c.in-Some.looked (at c.args.numbers.now LINKED))) =
    λ p gs s b n. looks_done s b n (MatchOption-at_some _ _ _ c.in-Some.is (c.look_ups.ensures p _ (looks p gs s b n))) in
    let cuts_made : (p : Problem) (gs : List (List ℕ)) → ArraysHold p c.args.supports.now c.args.tables.now c.args.numbers.now → Blocked p gs c.args.numbers.now →
    BeforeFixpoint p gs c.args.work.now c.args.numbers.now c.args.sets.now c.args.k c.args.todo c.args.dirty →
    BeforeFixpoint p gs c.args.work.now c.args.numbers.now c.arcs.new.sets c.args.k
    (bit_or (bit_and c.args.todo ((2 ^ 64 - 1) - bit_and c.args.todo (at c.args.numbers.now (LOOKS + c.args.k)))) c.touched.result) 0 = λ p gs s b n. let m = looks_made p gs s b n in
    cuts_done s b n wide (MatchOption-at_some _ _ _ c.in-Some.is (c.look_ups.ensures p _ (looks p gs s b n)))
    (MatchOption-at_some _ _ _ c.in-Some-arcs.is (c.arcs.ensures p (arcs_pending s m.startable.pending))) (search rules) c.touched.ensures in
    let rested : (p : Problem) (gs : List (List ℕ)) → ArraysHold p c.args.supports.now c.args.tables.now c.args.numbers.now → Blocked p gs c.args.numbers.now →
    BeforeFixpoint p gs c.args.work.now c.args.numbers.now c.args.sets.now c.args.k c.args.todo c.args.dirty →
    BeforeFixpoint p gs c.args.work.now c.args.numbers.now c.if-left-ne0.sets c.args.k 0 0 = λ p gs s b n. let m = cuts_made p gs s b n in
    constrained_done s b m
    (elim c.if-left-ne0.branch [
      | then-left-ne0+else-constrain w ↦ subst (AllConstrained p _) (sym w.sets-is) ((w.constrain.ensures p s m.startable.pending).all_constrained w.if-constrain.false)
      | else-left-ne0 w ↦ subst (AllConstrained p _) (sym w.sets-is) (nothing_due s (pruned_none p _) m.startable.pending w.if-left-ne0.false refl)
    ]) in
    λ p gs s b n. bare_end s b (rested p gs s b n) c.if-numbers-eq0.true

pub alternate-requires : goal.alternate-requires
unfolding at
alternate-requires c =
    let wide : c.args.todo < 2 ^ 64 = search rules in
    let looks : (p : Problem) (gs : List (List ℕ)) → ArraysHold p c.args.supports.now c.args.tables.now c.args.numbers.now → Blocked p gs c.args.numbers.now →
    BeforeFixpoint p gs c.args.work.now c.args.numbers.now c.args.sets.now c.args.k c.args.todo c.args.dirty →
    LookUpsPending p c.args.numbers.now c.args.supports.now c.args.sets.now c.args.work.now c.args.todo (bit_and c.args.todo (at c.args.numbers.now (LOOKS + c.args.k))) c.args.v =
    λ p gs s b n. looks_pending s b n wide c.requires.5 in
    let looks_made : (p : Problem) (gs : List (List ℕ)) → ArraysHold p c.args.supports.now c.args.tables.now c.args.numbers.now → Blocked p gs c.args.numbers.now →
    BeforeFixpoint p gs c.args.work.now c.args.numbers.now c.args.sets.now c.args.k c.args.todo c.args.dirty →
    BeforeFixpoint p gs c.args.work.now c.args.numbers.now c.look_ups.new.sets c.args.k
    (bit_or (bit_and c.args.todo ((2 ^ 64 - 1) - bit_and c.args.todo (at c.args.numbers.now (LOOKS + c.args.k)))) (touched_of c.args.numbers.now c.in-Some.looked))
    (bit_or c.args.dirty (bit_and c.in-Some.looked (at c.args.numbers.now LINKED))) =
    λ p gs s b n. looks_done s b n (MatchOption-at_some _ _ _ c.in-Some.is (c.look_ups.ensures p _ (looks p gs s b n))) in
    let cuts_made : (p : Problem) (gs : List (List ℕ)) → ArraysHold p c.args.supports.now c.args.tables.now c.args.numbers.now → Blocked p gs c.args.numbers.now →
    BeforeFixpoint p gs c.args.work.now c.args.numbers.now c.args.sets.now c.args.k c.args.todo c.args.dirty →
    BeforeFixpoint p gs c.args.work.now c.args.numbers.now c.arcs.new.sets c.args.k
    (bit_or (bit_and c.args.todo ((2 ^ 64 - 1) - bit_and c.args.todo (at c.args.numbers.now (LOOKS + c.args.k)))) c.touched.result) 0 = λ p gs s b n. let m = looks_made p gs s b n in
    cuts_done s b n wide (MatchOption-at_some _ _ _ c.in-Some.is (c.look_ups.ensures p _ (looks p gs s b n)))
    (MatchOption-at_some _ _ _ c.in-Some-arcs.is (c.arcs.ensures p (arcs_pending s m.startable.pending))) (search rules) c.touched.ensures in
    let rested : (p : Problem) (gs : List (List ℕ)) → ArraysHold p c.args.supports.now c.args.tables.now c.args.numbers.now → Blocked p gs c.args.numbers.now →
    BeforeFixpoint p gs c.args.work.now c.args.numbers.now c.args.sets.now c.args.k c.args.todo c.args.dirty →
    BeforeFixpoint p gs c.args.work.now c.args.numbers.now c.if-left-ne0.sets c.args.k 0 0 = λ p gs s b n. let m = cuts_made p gs s b n in
    constrained_done s b m
    (elim c.if-left-ne0.branch [
      | then-left-ne0+else-constrain w ↦ subst (AllConstrained p _) (sym w.sets-is) ((w.constrain.ensures p s m.startable.pending).all_constrained w.if-constrain.false)
      | else-left-ne0 w ↦ subst (AllConstrained p _) (sym w.sets-is) (nothing_due s (pruned_none p _) m.startable.pending w.if-left-ne0.false refl)
    ]) in
    (c.requires.0, c.requires.1, c.requires.2, c.requires.3, rested c.requires.0 c.requires.1 c.requires.2 c.requires.3 c.requires.4)

pub returns : goal.returns
unfolding at
returns c =
    let wide : c.args.todo < 2 ^ 64 = search rules in
    let looks : (p : Problem) (gs : List (List ℕ)) → ArraysHold p c.args.supports.now c.args.tables.now c.args.numbers.now → Blocked p gs c.args.numbers.now →
    BeforeFixpoint p gs c.args.work.now c.args.numbers.now c.args.sets.now c.args.k c.args.todo c.args.dirty →
    LookUpsPending p c.args.numbers.now c.args.supports.now c.args.sets.now c.args.work.now c.args.todo (bit_and c.args.todo (at c.args.numbers.now (LOOKS + c.args.k))) c.args.v =
    λ p gs s b n. looks_pending s b n wide c.requires.5 in
    let looks_made : (p : Problem) (gs : List (List ℕ)) → ArraysHold p c.args.supports.now c.args.tables.now c.args.numbers.now → Blocked p gs c.args.numbers.now →
    BeforeFixpoint p gs c.args.work.now c.args.numbers.now c.args.sets.now c.args.k c.args.todo c.args.dirty →
    BeforeFixpoint p gs c.args.work.now c.args.numbers.now c.look_ups.new.sets c.args.k
    (bit_or (bit_and c.args.todo ((2 ^ 64 - 1) - bit_and c.args.todo (at c.args.numbers.now (LOOKS + c.args.k)))) (touched_of c.args.numbers.now c.in-Some.looked))
    (bit_or c.args.dirty (bit_and c.in-Some.looked (at c.args.numbers.now LINKED))) =
    λ p gs s b n. looks_done s b n (MatchOption-at_some _ _ _ c.in-Some.is (c.look_ups.ensures p _ (looks p gs s b n))) in
    let cuts_made : (p : Problem) (gs : List (List ℕ)) → ArraysHold p c.args.supports.now c.args.tables.now c.args.numbers.now → Blocked p gs c.args.numbers.now →
    BeforeFixpoint p gs c.args.work.now c.args.numbers.now c.args.sets.now c.args.k c.args.todo c.args.dirty →
    BeforeFixpoint p gs c.args.work.now c.args.numbers.now c.arcs.new.sets c.args.k
    (bit_or (bit_and c.args.todo ((2 ^ 64 - 1) - bit_and c.args.todo (at c.args.numbers.now (LOOKS + c.args.k)))) c.touched.result) 0 = λ p gs s b n. let m = looks_made p gs s b n in
    cuts_done s b n wide (MatchOption-at_some _ _ _ c.in-Some.is (c.look_ups.ensures p _ (looks p gs s b n)))
    (MatchOption-at_some _ _ _ c.in-Some-arcs.is (c.arcs.ensures p (arcs_pending s m.startable.pending))) (search rules) c.touched.ensures in
    let rested : (p : Problem) (gs : List (List ℕ)) → ArraysHold p c.args.supports.now c.args.tables.now c.args.numbers.now → Blocked p gs c.args.numbers.now →
    BeforeFixpoint p gs c.args.work.now c.args.numbers.now c.args.sets.now c.args.k c.args.todo c.args.dirty →
    BeforeFixpoint p gs c.args.work.now c.args.numbers.now c.if-left-ne0.sets c.args.k 0 0 = λ p gs s b n. let m = cuts_made p gs s b n in
    constrained_done s b m
    (elim c.if-left-ne0.branch [
      | then-left-ne0+else-constrain w ↦ subst (AllConstrained p _) (sym w.sets-is) ((w.constrain.ensures p s m.startable.pending).all_constrained w.if-constrain.false)
      | else-left-ne0 w ↦ subst (AllConstrained p _) (sym w.sets-is) (nothing_due s (pruned_none p _) m.startable.pending w.if-left-ne0.false refl)
    ]) in
    λ p gs s b n. c.alternate.ensures p gs s b (rested p gs s b n)

pub overflow_sub-k : goal.overflow_sub-k
overflow_sub-k c = c.requires.5.some

pub overflow_shl-k : goal.overflow_shl-k
overflow_shl-k c =
    let few : c.args.k < 64 = omega (arith, c.requires.4.startable.prefix_held.depth, c.requires.2.well_formed.few) in
    few

pub overflow_sub-k-then-left-ne0 : goal.overflow_sub-k-then-left-ne0
overflow_sub-k-then-left-ne0 c =
    let few : c.args.k < 64 = omega (arith, c.requires.4.startable.prefix_held.depth, c.requires.2.well_formed.few) in
    some_one _ few
