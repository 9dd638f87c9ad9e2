-- Two callers whose sheets differ only in the order of their exchanges hold the same (paper 02, #109). Assumes nothing.
use Rattle.model.specs.{Refusals.number_of, declared.refusals.Refusal.Refusal}
use Rattle.model.proofs.Numbering.{refusal_known}
use Rattle.std.specs.Prelude.{Result, Ok, Err}
use Rattle.model.specs.Kit.{◌≡◌, sym, ap, ◌∙◌, List, ℕ, length}
use Rattle.model.specs.{Run.plans_in, Run.listed_plans, Run.ended, Run.Answer as Told, Run.Tally as Counts, Run.tally_for, Sheet.problem_of, Verdict.reply}
use Rattle.order.specs.RunBy.{result_by, place_tally, answer_by, tallied_by}
use Rattle.run_input.specs.Lent.{verdict_lent, problem_with, order_lent, answer_lent, list_lent, tally_lent}
use Rattle.run_input.proofs.Lent.{lent_passed}
use Rattle.run_retyped.proofs.{Retyped.same_symmetries, LentRetyped.retyped_lent, LentRetyped.retyped_accepted_lent}
use Rattle.run_state.specs.{Meaning.tally_in, Meaning.ending_of, declared.Ending.Ending, declared.Ending.TheVariants.Finished, declared.Ending.TheVariants.Spent, declared.Ending.TheVariants.Full}
use Rattle.run.specs.{Meaning.means, Calls.CallLent}
use Rattle.promises.specs.RetypedCalls.{RetypedCalls}
use Rattle.promises.proofs.Demands.{demands_lent}
use Rattle.model.proofs.{Accepted.is_accepted_lem, Lists.never}

-- an answer is known by what it means
ending_known : (d e : Ending) → ending_of d ≡ ending_of e → d ≡ e
ending_known (Finished a b) (Finished x y) h = cc
ending_known (Finished a b) (Spent x y) h = never (cc)
ending_known (Finished a b) (Full x y) h = never (cc)
ending_known (Spent a b) (Finished x y) h = never (cc)
ending_known (Spent a b) (Spent x y) h = cc
ending_known (Spent a b) (Full x y) h = never (cc)
ending_known (Full a b) (Finished x y) h = never (cc)
ending_known (Full a b) (Spent x y) h = never (cc)
ending_known (Full a b) (Full x y) h = cc

pub answer_known : (q r : Result Ending Refusal) → means q ≡ means r → q ≡ r
answer_known (Err a) (Err b) h = refusal_known {A = Ending} a b (let n : number_of a.question ≡ number_of b.question = cc in n) (let i : a.item ≡ b.item = cc in i)
answer_known (Err a) (Ok y) h = never (cc)
answer_known (Ok d) (Err b) h = never (cc)
answer_known (Ok d) (Ok e) h = let k : ending_of d ≡ ending_of e = cc in ap Ok (ending_known d e k)

-- what a run answers depends on the list's length alone, and its tally on the answer, once it has ended
room_alone : (b pairs block : List ℕ) (limit : ℕ) (out out₂ : List ℕ) → length out₂ ≡ length out → answer_lent b pairs block limit out₂ ≡ answer_lent b pairs block limit out
unfolding answer_by
room_alone b pairs block limit out out₂ l = ap (λ (n : ℕ). reply (verdict_lent b pairs block) (result_by (order_lent b pairs) (problem_with b block) limit n).ending) l

tally_alone : (b pairs block : List ℕ) (limit : ℕ) (out out₂ : List ℕ) (e : Ending) (t t₂ : Counts) → answer_lent b pairs block limit out ≡ ended (ending_of e)
    → answer_lent b pairs block limit out₂ ≡ ended (ending_of e)
    → tally_lent b pairs block limit out₂ t₂ ≡ tally_lent b pairs block limit out t
unfolding tallied_by
tally_alone b pairs block limit out out₂ e t t₂ h h₂ =
    let made = place_tally (order_lent b pairs) (problem_with b block) in
    ap (λ (a : Told). tally_for a made t₂) h₂ ∙ sym (ap (λ (a : Told). tally_for a made t) h)

pub retyped_calls : RetypedCalls
retyped_calls b c pairs block v s limit out tally r after tally' x out₂ tally₂ r₂ after₂ tally₂' y l = record {
  answer = same_answer;
  plans = λ e q. ap (λ (n : ℕ). listed n (plans_in (ending_of e))) width ∙ ((demands_lent b pairs block limit out₂ tally₂ r₂ after₂ tally₂' z).0.at_end e (same_answer ∙ q)).plans
      ∙ sym ((demands_lent b pairs block limit out tally r after tally' x).0.at_end e q).plans;
  rest = λ e q. ((demands_lent c pairs block limit out₂ tally₂ r₂ after₂ tally₂' y).0.at_end e (same_answer ∙ q)).rest;
  whole = λ e. z.leaves ∙ ap (list_lent b pairs block limit) e ∙ sym x.leaves;
  nodes = ap (λ (t : Counts). t.nodes) same_tally;
  counts = ap (λ (t : Counts). t.counts) same_tally;
}
  where
    -- the second caller's, as a call with the first sheet
    z : CallLent b pairs block limit out₂ tally₂ r₂ after₂ tally₂'
    z =
        let same = retyped_lent b c pairs block v (retyped_accepted_lent b c pairs block v s) s in
        record { answers = y.answers ∙ same.answers limit out₂; leaves = y.leaves ∙ same.lists limit out₂; counts = y.counts ∙ same.tallies limit out₂ (tally_in tally₂) }

    width : (problem_of c).variables ≡ (problem_of b).variables
    width = (same_symmetries b c (lent_passed b pairs block (is_accepted_lem (verdict_lent b pairs block) v)).sheet s).variables

    same_answer : r₂ ≡ r
    same_answer = answer_known r₂ r (z.answers ∙ room_alone b pairs block limit out out₂ l ∙ sym x.answers)

    same_tally : tally_in tally₂' ≡ tally_in tally'
    same_tally =
        let e = (demands_lent b pairs block limit out tally r after tally' x).0.ends v in
        let h = sym x.answers ∙ ap means e.1 in
        z.counts ∙ tally_alone b pairs block limit out out₂ e.0 (tally_in tally) (tally_in tally₂) h (room_alone b pairs block limit out out₂ l ∙ h) ∙ sym x.counts

    listed : ℕ → ℕ → List (List ℕ)
    listed n k = listed_plans n k after₂
