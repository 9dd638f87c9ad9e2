-- A whole run: its answer, list and tally, of what the search leaves. Assumes nothing.
use Rattle.model.specs.Kit.{◌≡◌, refl, sym, ap, ap₂, ◌∙◌, Bool, true, false, List, [], map, ℕ, zero, suc, ◌*◌, ◌-◌, ◌≤◌, ◌<◌, arith, eqb, eqb-true, eqb-false, length, set, replicate, length-set}
use Rattle.model.specs.Run.{finished, spent, full, refusal, ended, Result, result_of, written, Tally, tally_for, plans_in, nodes_in}
use Rattle.model.specs.{Lists.flat, Lists.at, Lists.choose, Problem.Problem, Search.nodes, Verdict.Verdict, Verdict.accepted, Verdict.refused, Verdict.reply, Sheet.problem_of}
use Rattle.model.proofs.{Lists.length_none, Lists.at_set, Lists.at_set_other, Lists.never, Runs.rows_fit, Accepted.is_accepted_lem}
use Rattle.order.specs.{Reordered.write, RunBy.result_by, RunBy.place_counts, RunBy.place_tally, RunBy.answer_by, RunBy.list_by, RunBy.tallied_by}
use Rattle.run_input.specs.Lent.{verdict_lent, order_lent, problem_with, problem_lent, answer_lent, list_lent, tally_lent}
use Rattle.run_input.proofs.Lent.{well_sheet}
use Rattle.arrays.specs.Inner.Places.{PLANS, ALL, SPENT, NUMBERS, STACK, SUPPORTS, TABLES, WORK, WANTED}
use Rattle.sheet.proofs.Whole.{zeros}
use Rattle.run_state.specs.Inner.Walk.{all_noted, stop_in, tally_by}
use Rattle.run.specs.{Meaning.means, Inner.Whole.Answered, Inner.Whole.Wanted}
use Rattle.run_search.specs.{Inner.Prepared.bytes_for, Inner.Prepared.Blank, Inner.Prepared.Refuses, Inner.Explored.result_for, Inner.Explored.Explored}
use Rattle.run_state.proofs.Outcome.{noted_all_none, noted_all_over}
use Rattle.model.specs.Verdict as model
use Rattle.model.specs.Run as Run
use Rattle.std.specs.Prelude as R
use Rattle.std.specs.Prelude.{Ok, Err}
use Rattle.model.specs.declared.refusals.Refusal.{Refusal}
use Rattle.run_state.specs.Meaning.{ending_of}
use Rattle.run_state.specs.declared.Ending as S

-- ---- the answer
-- an ending is known by its figures and how it stopped
abbrev ending_by : ℕ → ℕ → ℕ → Run.Ending
ending_by plans made stop = choose (eqb stop ALL) (finished plans made) (choose (eqb stop SPENT) (spent plans made) (full plans made))

ending_by_lem : (e : Run.Ending) → ending_by (plans_in e) (nodes_in e) (stop_in e) ≡ e
ending_by_lem (finished k u) = refl
ending_by_lem (spent k u) = refl
ending_by_lem (full k u) = refl

pub ended_same : (e x : Run.Ending) → plans_in e ≡ plans_in x → nodes_in e ≡ nodes_in x → stop_in e ≡ stop_in x → e ≡ x
ended_same e x p n s = sym (ending_by_lem e) ∙ ap₂ (λ (i j : ℕ). ending_by i j (stop_in e)) p n ∙ ap (ending_by (plans_in x) (nodes_in x)) s ∙ ending_by_lem x

-- a verdict is one
refused_not : {number item : ℕ} → refused number item ≡ accepted → ⊥
refused_not e = never (cc)

refused_same : {number item number' item' : ℕ} → refused number item ≡ refused number' item' → (number ≡ number') × (item ≡ item')
refused_same e = (cc, cc)

-- what is known of a run that carried out a task
pub record Ran (task b pairs block : List ℕ) (limit : ℕ) (list : List ℕ) (tally : Tally) (list' : List ℕ) (tally' : Tally) (r : R.Result S.Ending Refusal) : Type 0 where
  pub refused : (number item : ℕ) → verdict_lent b pairs block ≡ refused number item → (means r ≡ refusal number item) × (list' ≡ list) × (tally' ≡ tally)
  pub ended : verdict_lent b pairs block ≡ accepted →
      (means r ≡ ended (result_for task b pairs block limit (length list)).ending)
      × (list' ≡ all_noted (map (write (order_lent b pairs)) (result_for task b pairs block limit (length list)).rows) list)
      × (tally' ≡ tally_by (order_lent b pairs) (nodes (problem_lent b pairs block)) (nodes_in (result_for task b pairs block limit (length list)).ending))

module _ (task b pairs block : List ℕ) (limit : ℕ) (list : List ℕ) (tally : Tally) where
  pub ran_refused : (by : Refusal) → Refuses b pairs block by → (list' : List ℕ) (tally' : Tally) → list' ≡ list → tally' ≡ tally → Ran task b pairs block limit list tally list' tally' (Err by)
  ran_refused by h list' tally' l t = record {
    refused = λ number item v. let w = refused_same (sym h ∙ v) in (ap₂ refusal w.0 w.1, l, t);
    ended = λ v. absurd (refused_not (sym h ∙ v));
  }

  pub ran_ended : (work' list' : List ℕ) (tally' : Tally) (stop : ℕ) → Explored task b pairs block limit list work' list' tally' stop → (made : ℕ) → made ≡ tally'.nodes → (e : S.Ending) →
      Answered work' made stop (ending_of e) → Ran task b pairs block limit list tally list' tally' (Ok e)
  unfolding tally_by
  ran_ended work' list' tally' stop h made is e a =
      let x : Result = result_for task b pairs block limit (length list) in
      record {
        refused = λ number item v. absurd (refused_not (sym v ∙ h.accepted));
        ended = λ v. (
          ap ended (ended_same (ending_of e) x.ending (a.plans ∙ h.ended.plans) (a.nodes ∙ is ∙ ap (λ (t : Tally). t.nodes) h.ended.tally) (a.stopped ∙ h.ended.stopped)),
          h.ended.wrote,
          h.ended.tally,
        );
      }

-- ---- a run that lists
-- what its contract says
pub record Said (b pairs block : List ℕ) (limit : ℕ) (list : List ℕ) (tally : Tally) (list' : List ℕ) (tally' : Tally) (r : R.Result S.Ending Refusal) : Type 0 where
  pub answer : means r ≡ answer_lent b pairs block limit list
  pub lists : list' ≡ list_lent b pairs block limit list
  pub counts : tally' ≡ tally_lent b pairs block limit list tally

-- no row of some variables fits into nothing
pub nothing_of : (n k : ℕ) → 0 < n → k * n ≤ 0 → k ≡ 0
nothing_of n zero s l = refl
nothing_of n (suc k) s l = absurd (omega arith)

-- in a list of no byte there are no rows
no_rows : (p : Problem) (limit : ℕ) → 0 < p.variables → (result_of p limit 0).rows ≡ []
no_rows p limit s = length_none (result_of p limit 0).rows (nothing_of p.variables (length (result_of p limit 0).rows) s (rows_fit p limit 0))

pub kept_listed : (p : Problem) (order : List ℕ) (limit : ℕ) (list : List ℕ) → 0 < p.variables →
    all_noted (map (write order) (result_of p limit (length list)).rows) list ≡ written (map (write order) (result_of p limit (length list)).rows) list
unfolding written flat
kept_listed p order limit list s = go (eqb (length list) 0) refl
  where
    go : (c : Bool) → eqb (length list) 0 ≡ c → all_noted (map (write order) (result_of p limit (length list)).rows) list ≡ written (map (write order) (result_of p limit (length list)).rows) list
    go true e =
        let z = eqb-true (length list) 0 e in
        noted_all_none (map (write order) (result_of p limit (length list)).rows) list z
        ∙ sym (ap (λ (rows : List (List ℕ)). written (map (write order) rows) list) (ap (λ (k : ℕ). (result_of p limit k).rows) z ∙ no_rows p limit s))
    go false e = noted_all_over (map (write order) (result_of p limit (length list)).rows) list (eqb-false (length list) 0 e)

module _ (task b pairs block : List ℕ) (limit : ℕ) (list : List ℕ) (tally : Tally) (list' : List ℕ) (tally' : Tally) (r : R.Result S.Ending Refusal)
    (h : Ran task b pairs block limit list tally list' tally' r)
    (lists : at task WANTED ≡ 0) where
  abbrev y : Result
  y = result_of (problem_lent b pairs block) limit (length list)

  same_result : result_for task b pairs block limit (length list) ≡ y
  same_result = ap (λ (j : ℕ). result_of (problem_lent b pairs block) limit (bytes_for j (problem_of b).variables (length list))) lists

  abbrev Told : Verdict → Type 0
  Told v =
      let z = result_by (order_lent b pairs) (problem_with b block) limit (length list) in
      (means r ≡ reply v z.ending) × (list' ≡ model.kept v list (written z.rows list)) × (tally' ≡ tally_for (reply v z.ending) (place_tally (order_lent b pairs) (problem_with b block)) tally)

  told : (v : Verdict) → verdict_lent b pairs block ≡ v → Told v
  unfolding result_by place_counts tally_by
  told (refused number item) v = h.refused number item v
  told accepted v =
      let f = h.ended v in
      let some = (well_sheet b pairs block (is_accepted_lem (verdict_lent b pairs block) v)).some in (
        f.0 ∙ ap (λ (z : Result). ended z.ending) same_result,
        f.1 ∙ ap (λ (z : Result). all_noted (map (write (order_lent b pairs)) z.rows) list) same_result ∙ kept_listed (problem_lent b pairs block) (order_lent b pairs) limit list some,
        f.2 ∙ ap (λ (z : Result). tally_by (order_lent b pairs) (nodes (problem_lent b pairs block)) (nodes_in z.ending)) same_result,
      )

  pub said : Said b pairs block limit list tally list' tally' r
  unfolding answer_by list_by tallied_by
  said = let t = told (verdict_lent b pairs block) refl in record { answer = t.0; lists = t.1; counts = t.2 }

-- ---- a run that counts up to one plan less than are asked for
module _ (wanted : ℕ) (some : wanted ≡ 0 → ⊥) where
  abbrev task : List ℕ
  task = set (replicate WORK 0) WANTED wanted

  at_wanted : at (set (replicate WORK 0) WANTED wanted) WANTED ≡ wanted
  at_wanted = at_set (replicate WORK 0) WANTED wanted (let l = (zeros WORK).sized in omega arith)

  pub wanted_blank : Blank (replicate STACK 0) (set (replicate WORK 0) WANTED wanted) (replicate SUPPORTS 0) (replicate TABLES 0) (replicate NUMBERS 0) 0
  wanted_blank = record {
    stack_length = (zeros STACK).sized;
    work_length = length-set (replicate WORK 0) WANTED wanted ∙ (zeros WORK).sized;
    none_listed = at_set_other (replicate WORK 0) WANTED wanted PLANS (λ e. omega arith) ∙ (zeros WORK).blank PLANS;
    supports_blank = zeros SUPPORTS;
    tables_length = (zeros TABLES).sized;
    numbers_blank = zeros NUMBERS;
    unlisted = λ n. refl;
  }

  pub wanted_so : (b pairs block : List ℕ) (limit : ℕ) (list : List ℕ) (tally : Tally) (list' : List ℕ) (tally' : Tally) (r : R.Result S.Ending Refusal) → Ran
      (set (replicate WORK 0) WANTED wanted) b pairs block limit list tally list' tally' r → Wanted wanted b pairs block limit r
  wanted_so b pairs block limit list tally list' tally' r h = record {
    refused = λ number item v. (h.refused number item v).0;
    ended = λ v. (h.ended v).0 ∙ ap (λ (k : ℕ). ended (result_of (problem_lent b pairs block) limit k).ending)
        (bytes (eqb (at task WANTED) 0) refl ∙ ap (λ (w : ℕ). (w - 1) * (problem_of b).variables) at_wanted);
  }
    where
      bytes : (c : Bool) → eqb (at (set (replicate WORK 0) WANTED wanted) WANTED) 0 ≡ c → choose c (length list) ((at (set (replicate WORK 0) WANTED wanted) WANTED - 1) * (problem_of b).variables) ≡
          (at (set (replicate WORK 0) WANTED wanted) WANTED - 1) * (problem_of b).variables
      bytes true e = absurd (some (sym at_wanted ∙ eqb-true (at task WANTED) 0 e))
      bytes false e = refl
