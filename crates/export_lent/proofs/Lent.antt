-- What `planner_question_lent` and `planner_run_lent` answer, by what they called; the item of a refusal of pairs or a block is below 256 too.
-- Assumes nothing.
use Rattle.model.specs.Kit.{◌≡◌, refl, sym, ap, ◌∙◌, subst, Bool, List, [], ◌∷◌, ℕ, ◌%◌, ◌^◌, ◌<◌, ◌≤◌, arith, leb, ltb, eqb, length, eq-eqb, ne_eqb}
use Rattle.model.specs.{Lists.all, Lists.at, Lists.both, Lists.choose, Problem.Problem, Verdict.Verdict, Verdict.accepted, Verdict.refused, Verdict.ask, Sheet.problem_of, Sheet.verdict_of}
use Rattle.model.specs.{Sheet.symmetries_verdict, Run.Answer, Run.refusal, Run.ended, Run.Ending, Run.nodes_in, Run.Tally}
use Rattle.model.proofs.{Tally.at_total, Demands.reply_refused, Lists.T_of, Lists.length_below, Accepted.symmetries_are, Accepted.passed, Accepted.is_accepted_lem}
use Rattle.order.specs.{Order.settles_all, Order.order_verdict, RunBy.result_by, RunBy.place_counts, RunBy.answer_by}
use Rattle.order.proofs.Demanded.{ran_by}
use Rattle.sheet.specs.Meaning.{and_then}
use Rattle.run_input.specs.Lent.{verdict_lent, problem_with, order_lent, problem_lent, lent_input, answer_lent, list_lent, tally_lent}
use Rattle.run_input.proofs.Lent.{demanded_lent}
use Rattle.wire.specs.Wire.{wrong_length}
use Rattle.export_run.specs.{Run.answer_code, Inner.Inner.Counted}
use Rattle.export_lent.specs.Lent.{placed_bytes, lent_run_code, lent_run_list, lent_run_answer}
use Rattle.export_counts.specs.Inner.Inner.{Twelve}
use Rattle.wire.proofs.Codes.{Small, ask_small, verdict_small, symmetries_small}
use Rattle.export_run.proofs.Ran.{plans_most}
use Rattle.block.specs.Block.{factorial, ordering_table, block_tables, is_block_at, block_verdict, block_lent}
use Rattle.block.proofs.{Orderings.factorial_le, Block.block_is}

-- a block's items count on from at most sixteen, 120 of them
block_small : (p : Problem) (block : List ℕ) → length p.symmetries ≤ 16 → Small (block_lent p block)
unfolding block_lent block_verdict block_tables
block_small p [] h = tt
block_small p (first ∷ []) h = omega arith
block_small p (first ∷ m ∷ []) h =
    ask_small (is_block_at p first m) 36 0 (symmetries_verdict p (length p.symmetries) (block_tables p first m)) (omega arith)
    (λ e. let n = length_below (ordering_table p first m) (factorial m) in
    let f = factorial_le m (block_is p first m (T_of (is_block_at p first m) e)).0 in
    symmetries_small p (length p.symmetries) (block_tables p first m) (omega arith))
block_small p (first ∷ m ∷ x ∷ block) h = omega arith

order_small : (n : ℕ) (pairs : List ℕ) (later : Verdict) → Small later → Small (order_verdict n pairs later)
unfolding order_verdict
order_small n pairs later s =
    let z : 0 < 256 = omega arith in
    let v30 = ask (settles_all n pairs) 30 0 later in
    let c29 = all (λ x. ltb x n) pairs in
    ask_small (both (leb (length pairs) 128) (eqb (length pairs % 2) 0)) 28 0 (ask c29 29 0 v30) z (λ e. ask_small c29 29 0 v30 z (λ e. ask_small (settles_all n pairs) 30 0 later z (λ e. s)))

and_small : (v u : Verdict) → Small v → (v ≡ accepted → Small u) → Small (and_then v u)
and_small accepted u s t = t refl
and_small (refused number item) u s t = s

few_symmetries : (b : List ℕ) → verdict_of b ≡ accepted → length (problem_of b).symmetries ≤ 16
few_symmetries b e = let l = symmetries_are b in let f = (passed b (is_accepted_lem (verdict_of b) e)).header.symmetries in omega arith

pub lent_small : (b pairs block : List ℕ) → Small (verdict_lent b pairs block)
unfolding verdict_lent
lent_small b pairs block =
    and_small (verdict_of b) (order_verdict (problem_of b).variables pairs (block_lent (problem_of b) block)) (verdict_small b)
    (λ e. order_small (problem_of b).variables pairs (block_lent (problem_of b) block) (block_small (problem_of b) block (few_symmetries b e)))

-- ---- planner_run_lent
pub refusal_lent_of : (b pairs block : List ℕ) (limit : ℕ) (out : List ℕ) (number item : ℕ) → answer_lent b pairs block limit out ≡ refusal number item →
    verdict_lent b pairs block ≡ refused number item
unfolding answer_by
refusal_lent_of b pairs block limit out number item e = reply_refused (verdict_lent b pairs block) (result_by (order_lent b pairs) (problem_with b block) limit (length out)).ending number item e

module _ (b pairs block : List ℕ) (limit : ℕ) (list : List ℕ) where
  pub counted_lent : (e : Ending) → limit < 2 ^ 32 → answer_lent b pairs block limit list ≡ ended e → Counted e
  unfolding result_by
  counted_lent e l h =
      let k = (demanded_lent b pairs block).counts limit list e h in
      record { plans = omega (arith, plans_most (problem_lent b pairs block) limit (length list) e (ran_by (lent_input b pairs block) limit list e h).so, k.0); made = omega (arith, k.0) }

  module _ (e : Ending) (tally after : Tally) (so : answer_lent b pairs block limit list ≡ ended e) (is : after ≡ tally_lent b pairs block limit list tally) where
    -- the counts of a run that ended
    pub counts_of : after.counts ≡ place_counts (order_lent b pairs) (problem_with b block) (nodes_in e)
    counts_of = ap (λ (t : Tally). t.counts) is ∙ ((demanded_lent b pairs block).tallied limit list tally e so).counts

    -- they add up to the nodes made, which are at most the limit
    pub counts_fit : limit < 2 ^ 32 → Twelve after.counts
    unfolding at
    counts_fit l =
        let t = (demanded_lent b pairs block).tallied limit list tally e so in
        let c = ap (λ (u : Tally). u.counts) is in
        subst Twelve (sym c) record {
          long = t.twelve;
          small = λ i. omega (arith, at_total (tally_lent b pairs block limit list tally).counts i, t.sum, (counted_lent e l so).made);
        }

  module _ (answer : List ℕ) where
    pub wrong_answer : (length answer ≡ 60 → ⊥) →
        (wrong_length ≡ lent_run_code b pairs block limit list answer) × ((list ≡ lent_run_list b pairs block limit list answer) × (answer ≡ lent_run_answer b pairs block limit list answer))
    unfolding lent_run_code lent_run_list lent_run_answer
    wrong_answer h =
        let e = ne_eqb (length answer) 60 h in (
          sym (ap {B = ℕ} (λ (t : Bool). choose t (answer_code (answer_lent b pairs block limit list)) wrong_length) e),
          (
            sym (ap {B = List ℕ} (λ (t : Bool). choose t (list_lent b pairs block limit list) list) e),
            sym (ap {B = List ℕ} (λ (t : Bool). choose t (placed_bytes b pairs block (answer_lent b pairs block limit list) answer) answer) e),
          ),
        )

    pub right_answer : (r : ℕ) (after bytes : List ℕ) (a : Answer) → length answer ≡ 60 → answer_lent b pairs block limit list ≡ a → r ≡ answer_code a → after ≡ list_lent b pairs block limit list →
        bytes ≡ placed_bytes b pairs block a answer →
        (r ≡ lent_run_code b pairs block limit list answer) × ((after ≡ lent_run_list b pairs block limit list answer) × (bytes ≡ lent_run_answer b pairs block limit list answer))
    unfolding lent_run_code lent_run_list lent_run_answer
    right_answer r after bytes a h so c l w =
        let e = eq-eqb (length answer) 60 h in (
          c ∙ ap answer_code (sym so) ∙ sym (ap {B = ℕ} (λ (t : Bool). choose t (answer_code (answer_lent b pairs block limit list)) wrong_length) e),
          (
            l ∙ sym (ap {B = List ℕ} (λ (t : Bool). choose t (list_lent b pairs block limit list) list) e),
            w ∙ ap (λ (x : Answer). placed_bytes b pairs block x answer) (sym so) ∙ sym (ap {B = List ℕ}
                (λ (t : Bool). choose t (placed_bytes b pairs block (answer_lent b pairs block limit list) answer) answer) e),
          ),
        )
