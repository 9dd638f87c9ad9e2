-- What a caller of `run` or `run_with` may rely on (paper 01's demands, and the counts of paper 02, #107), in terms of what it holds: what it lent, the answer, and the list and
-- the tally as they came and at the end. It is said once, of how a run reads: paper 01's reads a sheet's rows as they stand (`of_sheet`), and `DemandsLent` has the run that is
-- lent pairs and a block besides. proofs/Demands has the theorems.
use Rattle.std.specs.Prelude.{◌≡◌, ◌↔◌, Bool, List, map, ℕ, ◌*◌, ◌≤◌, length, take, drop, T, Result, Ok, Err}
use Rattle.model.specs.Kit.{Memᴰ}
use Rattle.model.specs.Claims.{Leader, leaders, Chain, CountsAt, Largest, OneMore}
use Rattle.model.specs.{Lists.at, Lists.total, Lists.earlier, Lists.rows_ascend, Problem.Problem, Problem.is_solution, Verdict.Verdict, Verdict.accepted, Verdict.refused, Sheet.verdict_of}
use Rattle.model.specs.{Sheet.problem_of, Run.listed_plans, Run.plans_in, Run.nodes_in, Run.tally_at, Search.sets_at, Search.is_live}
use mathlib.Core.List.{Sublistᴰ}
use Rattle.run_state.specs.{Meaning.ending_of, declared.Tally.Tally, declared.Ending.Ending, declared.Ending.TheVariants.Finished}
use Rattle.run.specs.{Calls.CallRun, Calls.CallWith}
use Rattle.model.specs.{Refusals.IsRefusal, declared.refusals.Refusal.Refusal}

-- ---- how a run reads: the verdict of its questions, its problem, a row as it reads, the leaders in reading order; the problem whose tree it walks, and of the tree's first k
-- nodes those that settle each of twelve variables; which variable a prefix gives its value j to, whether the prefix is live, and the sets there
pub record Reading : Type 0 where
  pub verdict : Verdict
  pub problem : Problem
  pub reads : List ℕ → List ℕ
  pub led : List (List ℕ)
  pub tree : Problem
  pub counted : ℕ → List ℕ
  pub named : ℕ → ℕ
  pub live : List ℕ → Bool
  pub sets : List ℕ → List ℕ

-- paper 01's run of a sheet
abbrev pub of_sheet : List ℕ → Reading
of_sheet b =
    let p = problem_of b in
    record {
      verdict = verdict_of b;
      problem = p;
      reads = λ s. s;
      led = leaders p;
      tree = p;
      counted = λ k. (tally_at p k).counts;
      named = λ x. x;
      live = is_live p;
      sets = sets_at p;
    }

-- s reads earlier than t
abbrev pub earlier_in : Reading → List ℕ → List ℕ → Bool
earlier_in i s t = earlier (i.reads s) (i.reads t)

-- ---- demand 2, of every run that ends: the listed plans are a first part of the leaders in reading order and ascend strictly, so each
-- stands there once; the bytes after them are unchanged, the nodes are within the limit, and the counts are those of the tree up to where the run
-- ended
pub record AtEnd (i : Reading) (limit : ℕ) (out : List ℕ) (e : Ending) (after : List ℕ) : Type 0 where
  pub plans : listed_plans i.problem.variables (plans_in (ending_of e)) after ≡ take (plans_in (ending_of e)) i.led
  pub ascend : T (rows_ascend (map i.reads (listed_plans i.problem.variables (plans_in (ending_of e)) after)))
  pub rest : drop (plans_in (ending_of e) * i.problem.variables) after ≡ drop (plans_in (ending_of e) * i.problem.variables) out
  pub allowed : nodes_in (ending_of e) ≤ limit
  pub counts : CountsAt i.tree limit (length out) (ending_of e)

-- ---- demands 2 and 3, of a finished run: the listed plans are the leaders, all of them; s is a solution exactly when some listed plan becomes s
-- by symmetries, one after another, each giving a solution that reads later; and nothing is listed exactly when there is no solution
pub record AtFinish (i : Reading) (plans : ℕ) (after : List ℕ) : Type 0 where
  pub all_leaders : listed_plans i.problem.variables plans after ≡ i.led
  pub chains : (s : List ℕ) → length s ≡ i.problem.variables →
      T (is_solution i.problem s) ↔ ∥ ((l : List ℕ) × Memᴰ l (listed_plans i.problem.variables plans after) × Chain (earlier_in i) i.problem l s) ∥₁
  pub nothing : (plans ≡ 0) ↔ ((s : List ℕ) → T (is_solution i.problem s) → ⊥)

-- a run that was given a limit and a list `out`, answered r and left `after`
pub record Demands (i : Reading) (limit : ℕ) (out : List ℕ) (r : Result Ending Refusal) (after : List ℕ) : Type 0 where
  -- a refusal: the number and item of the first "no", and no byte written
  pub refuses : (number item : ℕ) → i.verdict ≡ refused number item → IsRefusal r number item × (after ≡ out)
  -- else the run ends, whatever limit and list it is given
  pub ends : i.verdict ≡ accepted → (e : Ending) × (r ≡ Ok e)
  -- `led` says what it should: it ascends strictly as it reads, and holds exactly the leaders
  pub leaders_are : i.verdict ≡ accepted → T (rows_ascend (map i.reads i.led)) × ((s : List ℕ) → Memᴰ s i.led ↔ Leader (earlier_in i) i.problem s)
  -- the sets at a prefix are the largest such sets
  pub sets_largest : i.verdict ≡ accepted → (prefix : List ℕ) → length prefix ≤ i.problem.variables → Largest i.named i.problem prefix (i.live prefix) (i.sets prefix)
  pub at_end : (e : Ending) → r ≡ Ok e → AtEnd i limit out e after
  pub at_finish : (plans nodes : ℕ) → r ≡ Ok (Finished plans nodes) → AtFinish i plans after

-- the tally of a run that ended: the nodes that the ending carries, and of these, the first of the tree, those that settle each of twelve variables; they add up to the nodes,
-- and a variable that the problem has not has none
pub record Tallied (i : Reading) (e : Ending) (tally : Tally) : Type 0 where
  pub made : tally.nodes ≡ nodes_in (ending_of e)
  pub counts : tally.counts ≡ i.counted (nodes_in (ending_of e))
  pub twelve : length tally.counts ≡ 12
  pub sum : total tally.counts ≡ nodes_in (ending_of e)
  pub unused : (x : ℕ) → i.problem.variables ≤ x → at tally.counts x ≡ 0

-- the lent tally: all thirteen numbers as they came after a refusal
pub record TallyHeld (i : Reading) (tally : Tally) (r : Result Ending Refusal) (tally' : Tally) : Type 0 where
  pub kept : (by : Refusal) → r ≡ Err by → (tally'.nodes ≡ tally.nodes) × (tally'.counts ≡ tally.counts)
  pub tallied : (e : Ending) → r ≡ Ok e → Tallied i e tally'

-- two runs, of which the second was given one exchange more
pub record MoreHeld (i j : Reading) (limit : ℕ) (out : List ℕ) (r : Result Ending Refusal) (after : List ℕ) (limit₂ : ℕ) (out₂ : List ℕ) (r₂ : Result Ending Refusal) (after₂ : List ℕ) : Type 0 where
  -- where both finish, the second lists no other plan and makes no more nodes ..
  pub fewer : (plans nodes plans₂ nodes₂ : ℕ) → r ≡ Ok (Finished plans nodes) → r₂ ≡ Ok (Finished plans₂ nodes₂) →
      Sublistᴰ (listed_plans j.problem.variables plans₂ after₂) (listed_plans i.problem.variables plans after) × (nodes₂ ≤ nodes)
  -- .. and under the first one's limit and room the second, if nothing is refused, finishes too
  pub finishes_too : limit₂ ≡ limit → length out₂ ≡ length out → (plans nodes : ℕ) → r ≡ Ok (Finished plans nodes) → (e : Ending) → r₂ ≡ Ok e →
      (plans₂ : ℕ) × (nodes₂ : ℕ) × (e ≡ Finished plans₂ nodes₂)

-- ---- of calls
abbrev pub RunDemands : Type 0
RunDemands = (b : List ℕ) (limit : ℕ) (out : List ℕ) (r : Result Ending Refusal) (after : List ℕ) → CallRun b limit out r after → Demands (of_sheet b) limit out r after

abbrev pub TallyDemands : Type 0
TallyDemands =
    (b : List ℕ) (limit : ℕ) (out : List ℕ) (tally : Tally) (r : Result Ending Refusal) (after : List ℕ) (tally' : Tally) → CallWith b limit out tally r after tally' →
    TallyHeld (of_sheet b) tally r tally'

abbrev pub MoreDemands : Type 0
MoreDemands =
    (b c t : List ℕ) (k : ℕ) → OneMore b c k t →
    (limit : ℕ) (out : List ℕ) (r : Result Ending Refusal) (after : List ℕ) → CallRun b limit out r after →
    (limit₂ : ℕ) (out₂ : List ℕ) (r₂ : Result Ending Refusal) (after₂ : List ℕ) → CallRun c limit₂ out₂ r₂ after₂ →
    MoreHeld (of_sheet b) (of_sheet c) limit out r after limit₂ out₂ r₂ after₂
