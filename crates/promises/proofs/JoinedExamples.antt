-- The examples of parts and their heads hold of the definitions. Assumes nothing.
use Rattle.model.specs.Kit.{◌≡◌, refl, sym, ap, ◌∙◌, subst, List, [], ◌∷◌, map, Memᴰ, Memᴰ-head, Memᴰ-tail, Memᴰ-not_nil, ℕ, ◌<◌, arith}
use Rattle.model.specs.{Bytes.four_bytes, Lists.at, Lists.tabulate, Lists.total, Run.counts_by, Run.tally_at, Examples.sheet_a, Examples.Each, Verdict.Verdict, Verdict.accepted}
use Rattle.model.proofs.{Examples.opened, Lists.at_tabulate, Lists.never}
use Rattle.order.specs.Order.{pairs_in, forerunners, can_follow, settled_first, settling_order, settles_all, order_verdict}
use Rattle.order.specs.Reordered.{position, read, write, value_of, scope_in, row_in, renamed, symmetry_in}
use Rattle.block.specs.Block.{tables_lent, block_lent}
use Rattle.run_input.specs.Lent.{verdict_lent}
use Rattle.run_cut.specs.{Parts.after, Parts.last_of, Between.nodes_between}
use Rattle.run_ranges.specs.{Ranges.result_part, Ranges.answer_part, Ranges.list_part, Ranges.tally_part, Ranges.last_part, Claims.Part, Claims.CallRange, Claims.Done}
use Rattle.wire.specs.Wire.{three_numbers}
use Rattle.export_counts.specs.Tallied.{numbers_of}
use Rattle.export_parts.specs.Head.{digest_from, digest, name_bytes, path_bytes, head_of}
use Rattle.run_join.specs.Join.{path_at, whole_heads, path_shaped, head_shaped, alike, join_verdict, count_of, comes, may_take, best_of, step_of, taken_from, taken, stand_after, nearest_of}
use Rattle.run_join.specs.{Calls.answer_for, Calls.figure_for, Calls.CallJoin, declared.Joining.Joining, declared.Missing.Missing}
use Rattle.std.specs.Prelude.{None, Some, Result, Ok}
use Rattle.model.specs.declared.refusals.Question.{Question}
use Rattle.promises.specs.JoinedExamples.{part_a, cut_a, spent_a, cuts_a, heads_a, joining_a, tests_joined, HeldA}
use Rattle.promises.specs.{JoinedHeads.taken_parts, JoinedHeads.part_at, JoinedClaims.JoinedHeld, JoinedClaims.ranges_of, JoinedClaims.CutHeld, JoinedClaims.Joins}
use Rattle.promises.proofs.{JoinedHeads.heads_held, JoinedHeld.joined_held, JoinedCut.cuts_joined}

-- every definition of parts and heads that computes
unfoldable pub opened_parts : ℕ
unfolding opened counts_by tally_at pairs_in forerunners can_follow settled_first settling_order settles_all order_verdict position read write value_of scope_in row_in renamed symmetry_in tables_lent
    block_lent
    verdict_lent after nodes_between last_of result_part answer_part list_part tally_part last_part three_numbers numbers_of four_bytes digest_from digest name_bytes path_bytes head_of path_at
    whole_heads
    path_shaped head_shaped alike join_verdict comes may_take best_of step_of taken_from taken stand_after nearest_of answer_for total
opened_parts = 0

pub examples_joined : Each tests_joined
unfolding opened_parts
examples_joined = (
  refl,
  (
    refl,
    (
      refl,
      (
        refl,
        (
          refl,
          (
            refl,
            (
              refl,
              (
                refl,
                (
                  refl,
                  (
                    refl,
                    (
                      refl,
                      (
                        refl,
                        (
                          refl,
                          (
                            refl,
                            (
                              refl,
                              (
                                refl,
                                (
                                  refl,
                                  (
                                    refl,
                                    (
                                      refl,
                                      (
                                        refl,
                                        (
                                          refl,
                                          (refl, (refl, (refl, (refl, (refl, (refl, (refl, (refl, (refl, (refl, (refl, (refl, tt)))))))))))),
                                        ),
                                      ),
                                    ),
                                  ),
                                ),
                              ),
                            ),
                          ),
                        ),
                      ),
                    ),
                  ),
                ),
              ),
            ),
          ),
        ),
      ),
    ),
  ),
)

-- ---- what is supposed of joined heads is met
own : (from upto : List ℕ) (limit room : ℕ) → CallRange sheet_a [] [] (part_a from upto limit room)
own from upto limit room = record { answers = refl; leaves = refl; counts = refl; stands = refl }

own_all : (cs : List Part) → Each (map (λ c. CallRange sheet_a [] [] c) cs) → (c : Part) → Memᴰ c cs → CallRange sheet_a [] [] c
own_all [] h c m = absurd (Memᴰ-not_nil m)
own_all (d ∷ cs) h c (Memᴰ-head e) = subst (CallRange sheet_a [] []) (sym e) h.0
own_all (d ∷ cs) h c (Memᴰ-tail m) = own_all cs h.1 c m

counted : (l : List ℕ) → join_verdict l ≡ accepted → (x : ℕ) → x < 12 → at (tabulate 12 (count_of l)) x ≡ figure_for (join_verdict l) (count_of l x)
counted l v x h = at_tabulate 12 (count_of l) x h ∙ sym (ap (λ (w : Verdict). figure_for w (count_of l x)) v)

no_missing : (i j : Joining) (m : Missing) → i.missing ≡ None → ◌≡◌ {A = Result Joining Question} (Ok i) (Ok j) → j.missing ≡ Some m → ⊥
no_missing i j m n q e = let k : i ≡ j = cc in let s : None ≡ Some m = sym n ∙ ap (λ (x : Joining). x.missing) k ∙ e in never (cc)

pub cut_held : HeldA cut_a
unfolding opened_parts
cut_held = (
  record { lent = refl; calls = own_all cut_a (own (0 ∷ 2 ∷ []) (255 ∷ []) 1000000 18, (own [] (0 ∷ 2 ∷ []) 1000000 18, (own (0 ∷ 2 ∷ []) (255 ∷ []) 1000000 18, tt))); bytes = refl },
  record { answers = refl; inside = λ j m q n. absurd (no_missing (joining_a cut_a) j m refl q n); plans = refl; nodes = refl; counts = λ x h. counted (heads_a cut_a) refl x h },
)

pub spent_held : HeldA spent_a
unfolding opened_parts
spent_held = (
  record { lent = refl; calls = own_all spent_a (own (0 ∷ 1 ∷ []) (255 ∷ []) 1000000 18, (own [] (255 ∷ []) 2 18, tt)); bytes = refl },
  record { answers = refl; inside = λ j m q n. absurd (no_missing (joining_a spent_a) j m refl q n); plans = refl; nodes = refl; counts = λ x h. counted (heads_a spent_a) refl x h },
)

-- so the holder of these heads has the run
pub cut_joined : JoinedHeld sheet_a [] [] (taken_parts (heads_a cut_a) (part_at sheet_a [] [] cut_a)) (joining_a cut_a)
cut_joined = joined_held sheet_a [] [] (heads_a cut_a) (part_at sheet_a [] [] cut_a) (heads_held sheet_a [] [] cut_a (heads_a cut_a) cut_held.0).0 (joining_a cut_a) cut_held.1 refl

-- and so do those of the cuts, by CutsJoined
cut_all : CutHeld cuts_a cut_a
unfolding opened_parts
cut_all = record { each = each; all = every }
  where
    first : Part
    first = part_a [] (0 ∷ 2 ∷ []) 1000000 18

    second : Part
    second = part_a (0 ∷ 2 ∷ []) (255 ∷ []) 1000000 18

    each : (c : Part) → Memᴰ c cut_a → Done c.answer × Memᴰ (c.from, c.upto) (ranges_of [] cuts_a)
    each c (Memᴰ-head e) = subst (λ (c : Part). Done c.answer × Memᴰ (c.from, c.upto) (ranges_of [] cuts_a)) (sym e) (tt, Memᴰ-tail (Memᴰ-head refl))
    each c (Memᴰ-tail (Memᴰ-head e)) = subst (λ (c : Part). Done c.answer × Memᴰ (c.from, c.upto) (ranges_of [] cuts_a)) (sym e) (tt, Memᴰ-head refl)
    each c (Memᴰ-tail (Memᴰ-tail (Memᴰ-head e))) =
        subst (λ (c : Part). Done c.answer × Memᴰ (c.from, c.upto) (ranges_of [] cuts_a)) (sym e) (tt, Memᴰ-tail (Memᴰ-head refl))
    each c (Memᴰ-tail (Memᴰ-tail (Memᴰ-tail m))) = absurd (Memᴰ-not_nil m)

    every : (from upto : List ℕ) → Memᴰ (from, upto) (ranges_of [] cuts_a) → (c : Part) × Memᴰ c cut_a × (c.from ≡ from) × (c.upto ≡ upto)
    every from upto (Memᴰ-head e) = (first, Memᴰ-tail (Memᴰ-head refl), sym (ap (λ (x : List ℕ × List ℕ). x.0) e), sym (ap (λ (x : List ℕ × List ℕ). x.1) e))
    every from upto (Memᴰ-tail (Memᴰ-head e)) = (second, Memᴰ-head refl, sym (ap (λ (x : List ℕ × List ℕ). x.0) e), sym (ap (λ (x : List ℕ × List ℕ). x.1) e))
    every from upto (Memᴰ-tail (Memᴰ-tail m)) = absurd (Memᴰ-not_nil m)

pub cut_answers : (r : Result Joining Question) → CallJoin (heads_a cut_a) r → Joins r
unfolding after last_of
cut_answers = cuts_joined sheet_a [] [] cuts_a cut_a (heads_a cut_a) cut_held.0 (omega arith) (λ t. t, (λ t. t, tt)) refl cut_all
