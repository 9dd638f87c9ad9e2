-- What `run_part` answers, by what it called: the figures fit, and the pieces fill the head. Assumes nothing.
use Rattle.model.specs.Kit.{◌≡◌, sym, ap, ap₂, ◌∙◌, subst, Bool, List, [], ◌++◌, ℕ, ◌^◌, ◌≤◌, ◌<◌, arith, length, take, length-take, eq-eqb, ne_eqb}
use Rattle.model.specs.Run.{Ending, finished, spent, full, plans_in, nodes_in, search, Answer, refusal, ended, settled_by, counts_by}
use Rattle.model.specs.{Lists.at, Lists.choose, Lists.keep, Problem.Problem, Verdict.refused, Search.is_plan, Written.Written}
use Rattle.model.proofs.{Runs.Ended, Runs.walk, Tally.length_counts, Tally.count_most, Written.written_then, Demands.reply_so, Demands.reply_refused}
use Rattle.families.proofs.FamilyCount.{keep_length}
use Rattle.run_input.specs.Lent.{verdict_lent, problem_lent, order_lent}
use Rattle.wire.specs.Wire.{wrong_length}
use Rattle.wire.proofs.Numbers.{whole}
use Rattle.run_ranges.specs.Ranges.{part_nodes, result_part, answer_part, list_part, made_by, tally_part, last_part}
use Rattle.export_run.specs.{Run.ending_bytes, Run.answer_code, Inner.Inner.Counted}
use Rattle.export_counts.specs.{Tallied.numbers_of, Inner.Inner.Twelve}
use Rattle.export_parts.specs.{Head.name_bytes, Head.path_bytes, Head.head_of, Head.head_for, Parts.part_of, Parts.part_code, Parts.part_list, Parts.part_answer, Parts.CallPartBytes}

-- ---- figures that fit
-- a walk lists no more plans than it makes nodes, and makes no more than the limit
module _ (p : Problem) (limit room : ℕ) (ts : List (List ℕ)) where
  figures : (e : Ending) → (search p limit room ts 0 []).ending ≡ e → (plans_in e ≤ nodes_in e) × (nodes_in e ≤ limit)
  figures e h =
      let w = walk p limit room ts 0 [] in
      let k : plans_in e ≡ length (keep (is_plan p) (take w.passed ts)) = sym (ap plans_in h) ∙ w.counted ∙ ap length w.listed in
      let l = keep_length (is_plan p) (take w.passed ts) in
      let n = length-take w.passed ts in
      (fewer e w.passed (omega arith) (subst (Ended p limit room ts 0 w.passed) h w.ended), subst (λ (x : Ending). nodes_in x ≤ limit) h (w.allowed (omega arith)))
    where
      fewer : (x : Ending) (k : ℕ) → plans_in x ≤ k → Ended p limit room ts 0 k x → plans_in x ≤ nodes_in x
      fewer (finished plans made) k l q = omega (arith, q.1)
      fewer (spent plans made) k l q = omega (arith, q.1)
      fewer (full plans made) k l q = omega (arith, q.0)

module _ (b pairs block from upto : List ℕ) (limit : ℕ) (list : List ℕ) where
  pub refusal_of : (number item : ℕ) → answer_part b pairs block from upto limit list ≡ refusal number item → verdict_lent b pairs block ≡ refused number item
  unfolding answer_part
  refusal_of number item e = reply_refused (verdict_lent b pairs block) (result_part b pairs block from upto limit (length list)).ending number item e

  ended_of : (e : Ending) → answer_part b pairs block from upto limit list ≡ ended e → (search (problem_lent b pairs block) limit (length list) (part_nodes b pairs block from upto) 0 []).ending ≡ e
  unfolding answer_part result_part
  ended_of e h = (reply_so (verdict_lent b pairs block) (result_part b pairs block from upto limit (length list)).ending e h).1

  module _ (e : Ending) (so : answer_part b pairs block from upto limit list ≡ ended e) (fits : limit < 2 ^ 32) where
    pub counted : Counted e
    counted = let f = figures (problem_lent b pairs block) limit (length list) (part_nodes b pairs block from upto) e (ended_of e so) in record
        { plans = omega (arith, f.0, f.1); made = omega (arith, f.1) }

    pub counts_fit : (counts : List ℕ) → counts ≡ (tally_part b pairs block from upto limit list).counts → Twelve counts
    unfolding tally_part at
    counts_fit counts q =
        let f = figures (problem_lent b pairs block) limit (length list) (part_nodes b pairs block from upto) e (ended_of e so) in
        let place : List ℕ → ℕ = λ t. at (order_lent b pairs) (settled_by t) in
        let made = take (nodes_in e) (part_nodes b pairs block from upto) in
        let is : counts ≡ counts_by place made = q ∙ ap (λ (a : Answer). counts_by place (made_by a b pairs block from upto)) so in
        subst Twelve (sym is) record {
          long = length_counts place made;
          small = λ i. omega (arith, count_most place made i, length-take (nodes_in e) (part_nodes b pairs block from upto), f.1);
        }

  -- ---- the code and the bytes
  module _ (answer : List ℕ) where
    abbrev Said : ℕ → List ℕ → List ℕ → Type 0
    Said r after bytes = CallPartBytes b pairs block from upto limit list answer r after bytes

    pub wrong_answer : (length answer ≡ 115 → ⊥) → Said wrong_length list answer
    unfolding part_code part_list part_answer
    wrong_answer h =
        let e = ne_eqb (length answer) 115 h in
        let c = part_of b pairs block from upto limit list in
        record {
          returns = sym (ap {B = ℕ} (λ (t : Bool). choose t (answer_code (answer_part b pairs block from upto limit list)) wrong_length) e);
          leaves = sym (ap {B = List ℕ} (λ (t : Bool). choose t (list_part b pairs block from upto limit list) list) e);
          tells = sym (ap {B = List ℕ} (λ (t : Bool). choose t (head_for b pairs block c c.answer answer) answer) e);
        }

    pub right_answer : (r : ℕ) (after bytes : List ℕ) (a : Answer) → length answer ≡ 115 → answer_part b pairs block from upto limit list ≡ a → r ≡ answer_code a
        → after ≡ list_part b pairs block from upto limit list →
        bytes ≡ head_for b pairs block (part_of b pairs block from upto limit list) a answer → Said r after bytes
    unfolding part_code part_list part_answer
    right_answer r after bytes a h so k l w =
        let e = eq-eqb (length answer) 115 h in
        let c = part_of b pairs block from upto limit list in
        record {
          returns = k ∙ ap answer_code (sym so) ∙ sym (ap {B = ℕ} (λ (t : Bool). choose t (answer_code (answer_part b pairs block from upto limit list)) wrong_length) e);
          leaves = l ∙ sym (ap {B = List ℕ} (λ (t : Bool). choose t (list_part b pairs block from upto limit list) list) e);
          tells = w ∙ ap (λ (x : Answer). head_for b pairs block c x answer) (sym so) ∙ sym (ap {B = List ℕ} (λ (t : Bool). choose t (head_for b pairs block c c.answer answer) answer) e);
        }

    -- the three pieces are the head
    pub pieces : (x y z : List ℕ) (e : Ending) (counts last : List ℕ) → length answer ≡ 115 → counts ≡ (tally_part b pairs block from upto limit list).counts
        → last ≡ last_part b pairs block from upto limit list →
        Written answer 0 (ending_bytes e ++ numbers_of counts) x 60 → Written x 60 (name_bytes b pairs block) y 76 → Written y 76 (path_bytes from ++ path_bytes upto ++ path_bytes last) z 115 →
        z ≡ head_of b pairs block (part_of b pairs block from upto limit list) e
    unfolding head_of
    pieces x y z e counts last l q s u v w =
        let all = written_then (omega arith) (written_then (omega arith) u v) w in
        whole (omega (arith, all.ends)) all
        ∙ ap₂ (λ (ks t : List ℕ). (ending_bytes e ++ numbers_of ks) ++ name_bytes b pairs block ++ (path_bytes from ++ path_bytes upto ++ path_bytes t)) q s
