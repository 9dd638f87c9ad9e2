-- What a run's answer says of its counts, and `run`'s code and bytes. Assumes nothing.
use Rattle.model.specs.Kit.{◌≡◌, sym, ap, ◌∙◌, subst, Bool, List, ℕ, ◌^◌, ◌≤◌, ◌<◌, arith, length, take, length-take, eq-eqb, ne_eqb}
use Rattle.model.specs.Run.{Ending, finished, spent, full, plans_in, nodes_in, result_of, Answer, refusal, ended, answer_of, list_of}
use Rattle.model.specs.{Lists.choose, Problem.Problem, Verdict.refused, Sheet.problem_of, Sheet.verdict_of, Search.nodes, Search.is_plan, Claims.plans_among, Claims.CountsAt}
use Rattle.model.proofs.{Demands.reply_so, Demands.reply_refused, Runs.nodes_allowed, Runs.counts, Lists.keep_most}
use Rattle.wire.specs.Wire.{wrong_length}
use Rattle.export_run.specs.{Run.answer_code, Run.answer_bytes, Run.run_code, Run.run_list, Run.run_answer, Inner.Inner.Counted, Calls.CallExported}

-- ---- refusals
pub refusal_of : (b : List ℕ) (limit : ℕ) (out : List ℕ) (number item : ℕ) → answer_of b limit out ≡ refusal number item → verdict_of b ≡ refused number item
unfolding answer_of
refusal_of b limit out number item e = reply_refused (verdict_of b) (result_of (problem_of b) limit (length out)).ending number item e

-- ---- counts
among_most : (p : Problem) (k : ℕ) → plans_among p k ≤ k
among_most p k = omega (arith, keep_most (is_plan p) (take k (nodes p)), length-take k (nodes p))

-- there are no more plans than nodes
pub plans_most : (p : Problem) (limit room' : ℕ) (e : Ending) → (result_of p limit room').ending ≡ e → plans_in e ≤ nodes_in e
plans_most p limit room' e h = go e (counts p limit room' e h)
  where
    go : (x : Ending) → CountsAt p limit room' x → plans_in x ≤ nodes_in x
    go (finished plans made) k = omega (arith, k.1, among_most p made)
    go (spent plans made) k = omega (arith, k.2, among_most p made)
    go (full plans made) k = omega (arith, k.1, among_most p made)

pub counted : (b : List ℕ) (limit : ℕ) (out : List ℕ) (e : Ending) → limit < 2 ^ 32 → answer_of b limit out ≡ ended e → Counted e
unfolding answer_of
counted b limit out e l h =
    let so = (reply_so (verdict_of b) (result_of (problem_of b) limit (length out)).ending e h).1 in
    let made : nodes_in e ≤ limit = subst (λ (x : Ending). nodes_in x ≤ limit) so (nodes_allowed (problem_of b) limit (length out)) in
    record { plans = omega (arith, plans_most (problem_of b) limit (length out) e so); made = omega arith }

-- ---- the run for callers
module _ (b : List ℕ) (limit : ℕ) (list answer : List ℕ) where
  pub wrong_answer : (length answer ≡ 12 → ⊥) → CallExported b limit list answer wrong_length list answer
  unfolding run_code run_list run_answer
  wrong_answer h =
      let e = ne_eqb (length answer) 12 h in
      record {
        returns = sym (ap {B = ℕ} (λ (t : Bool). choose t (answer_code (answer_of b limit list)) wrong_length) e);
        leaves = sym (ap {B = List ℕ} (λ (t : Bool). choose t (list_of b limit list) list) e);
        tells = sym (ap {B = List ℕ} (λ (t : Bool). choose t (answer_bytes (answer_of b limit list) answer) answer) e);
      }

  pub right_answer : (r : ℕ) (after bytes : List ℕ) (a : Answer) → length answer ≡ 12 → answer_of b limit list ≡ a → r ≡ answer_code a → after ≡ list_of b limit list → bytes ≡ answer_bytes a answer →
      CallExported b limit list answer r after bytes
  unfolding run_code run_list run_answer
  right_answer r after bytes a h so c l w =
      let e = eq-eqb (length answer) 12 h in
      record {
        returns = c ∙ ap answer_code (sym so) ∙ sym (ap {B = ℕ} (λ (t : Bool). choose t (answer_code (answer_of b limit list)) wrong_length) e);
        leaves = l ∙ sym (ap {B = List ℕ} (λ (t : Bool). choose t (list_of b limit list) list) e);
        tells = w ∙ ap (λ (x : Answer). answer_bytes x answer) (sym so) ∙ sym (ap {B = List ℕ} (λ (t : Bool). choose t (answer_bytes (answer_of b limit list) answer) answer) e);
      }
