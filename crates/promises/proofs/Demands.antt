-- The demands, of what `run`, `run_with` and `run_lent` answer, write and count: from their contracts and order's theorems about the definitions. Assumes nothing.
use Rattle.model.specs.{Refusals.number_of, Refusals.IsRefusal, declared.refusals.Refusal.Refusal}
use Rattle.model.proofs.Numbering.{refusal_is}
use Rattle.std.specs.Prelude.{Result, Ok, Err}
use Rattle.model.specs.Kit.{◌≡◌, refl, sym, ap, ◌∙◌, subst, subst₂, ◌↔◌, List, [], ◌∷◌, map, Memᴰ, ℕ, ◌*◌, T, length, take, drop}
use Rattle.model.specs.{Lists.at, Lists.below, Lists.total, Lists.earlier, Lists.rows_ascend, Problem.Problem, Problem.is_solution, Problem.assignments, Verdict.accepted, Sheet.verdict_of}
use Rattle.model.specs.{Sheet.problem_of, Run.ended, Run.refusal, Run.plans_in, Run.nodes_in, Run.listed_plans, Run.tally_at, Claims.Leader, Claims.is_leader, Claims.leaders, Claims.Chain}
use Rattle.model.specs.{Claims.CountsAt}
use mathlib.Core.List.{Sublistᴰ}
use Rattle.model.proofs.Lists.{rows_ascend_take, rows_ascend_of, sorted_keep, keep_i, keep_e, never}
use Rattle.model.proofs.{Assignments.assignments_sorted, Leaders.sol_drawn, Leaders.leader_i, Leaders.leader_e, Chains.chains, Demands.sets_largest}
use Rattle.order.specs.RunBy.{Input, sheet_input, place_tally, leaders_by, answer_by, list_by, tallied_by}
use Rattle.order.specs.{Reordered.read, Reordered.earlier_by, Inner.Demanded.Demanded, Inner.Demanded.Fewer}
use Rattle.order.proofs.{RunBy.take_map, RunBy.same_counts, Demanded.Sound, Demanded.ran_by, Demanded.sound_sheet, Demanded.demanded_sheet, Demanded.fewer_sheet, Demanded.sheet_run}
use Rattle.run_input.specs.Lent.{lent_input}
use Rattle.run_input.proofs.Lent.{demanded_lent, fewer_lent}
use Rattle.run_state.specs.declared.Ending.TheVariants.{Finished, Spent, Full}
use Rattle.run_state.specs.{Meaning.tally_in, Meaning.ending_of, declared.Tally.Tally, declared.Ending.Ending}
use Rattle.run.specs.{Meaning.means, Calls.CallRun}
use Rattle.promises.specs.Demands.{of_sheet, AtEnd, AtFinish, Demands, Tallied, TallyHeld, MoreHeld, RunDemands, TallyDemands, MoreDemands}
use Rattle.promises.specs.DemandsLent.{of_input, LentDemands, MoreDemandsLent}
use Rattle.model.specs.Run as Run

-- ---- an answer is known by what it means
pub is_refused : (r : Result Ending Refusal) (number item : ℕ) → means r ≡ refusal number item → IsRefusal r number item
is_refused (Ok x) number item e = never (cc)
is_refused (Err by) number item e = refusal_is by number item (let n : number_of by.question ≡ number = cc in n) (let i : by.item ≡ item = cc in i)

pub is_ended : (r : Result Ending Refusal) (x : Run.Ending) → means r ≡ ended x → (e : Ending) × (r ≡ Ok e)
is_ended (Err by) x e = never (cc)
is_ended (Ok y) x e = (y, refl)

pub is_finished : (e : Ending) (plans nodes : ℕ) → ending_of e ≡ Run.finished plans nodes → e ≡ Finished plans nodes
is_finished (Finished a b) plans nodes h = cc
is_finished (Spent a b) plans nodes h = never (cc)
is_finished (Full a b) plans nodes h = never (cc)

-- ---- a run that was given i
-- an answer that refuses leaves the tally
tally_kept : (i : Input) (limit : ℕ) (out : List ℕ) (tally : Run.Tally) (number item : ℕ) → answer_by i limit out ≡ refusal number item → tallied_by i limit out tally ≡ tally
unfolding tallied_by
tally_kept i limit out tally number item h = ap (λ (a : Run.Answer). Run.tally_for a (place_tally i.order i.problem) tally) h

module _ (i : Input) (d : Demanded i) (limit : ℕ) (out : List ℕ) (r : Result Ending Refusal) (after : List ℕ) (answers : means r ≡ answer_by i limit out) (leaves : after ≡ list_by i limit out) where
  said : (e : Ending) → r ≡ Ok e → answer_by i limit out ≡ ended (ending_of e)
  said e q = sym answers ∙ ap means q

  listed : (plans : ℕ) → listed_plans i.problem.variables plans (list_by i limit out) ≡ listed_plans i.problem.variables plans after
  listed plans = ap (listed_plans i.problem.variables plans) (sym leaves)

  at_end : (e : Ending) → r ≡ Ok e → AtEnd (of_input i) limit out e after
  at_end e q =
      let a = said e q in
      let n = d.counts limit out (ending_of e) a in
      let k = plans_in (ending_of e) in
      let f = sym (listed k) ∙ d.first_part limit out (ending_of e) a in
      let all = leaders_by i.order i.problem in
      record {
        plans = f;
        ascend = subst (λ (l : List (List ℕ)). T (rows_ascend l)) (take_map (read i.order) k all ∙ ap (map (read i.order)) (sym f))
            (rows_ascend_take k (map (read i.order) all) (d.leaders_ascend (ran_by i limit out (ending_of e) a).good).0);
        rest = ap (drop (k * i.problem.variables)) leaves ∙ d.rest limit out (ending_of e) a;
        allowed = n.0;
        counts = n.1;
      }

  at_finish : (plans nodes : ℕ) → r ≡ Ok (Finished plans nodes) → AtFinish (of_input i) plans after
  at_finish plans nodes q =
      let a = said (Finished plans nodes) q in
      record {
        all_leaders = sym (listed plans) ∙ d.lists_leaders limit out plans nodes a;
        chains = λ s l.
            subst (λ (ls : List (List ℕ)). T (is_solution i.problem s) ↔ ∥ ((x : List ℕ) × Memᴰ x ls × Chain (earlier_by i.order) i.problem x s) ∥₁) (listed plans)
            (d.chains limit out plans nodes a s l);
        nothing = d.nothing_listed limit out plans nodes a;
      }

  held : Demands (of_input i) limit out r after
  held = record {
    refuses = λ number item v. (let q = d.refuses number item v limit out record { nodes = 0; counts = [] } in (is_refused r number item (answers ∙ q.0), leaves ∙ q.1));
    ends = λ v. (let x = d.ends v limit out in is_ended r x.0 (answers ∙ x.1));
    leaders_are = d.leaders_ascend;
    sets_largest = d.sets_largest;
    at_end = at_end;
    at_finish = at_finish;
  }

  -- the lent tally goes by the answer
  tally_held : (tally tally' : Tally) → tally_in tally' ≡ tallied_by i limit out (tally_in tally) → TallyHeld (of_input i) tally r tally'
  tally_held tally tally' c = record {
    kept = λ by q. (let e = c ∙ kept_so by q in (ap (λ (t : Run.Tally). t.nodes) e, ap (λ (t : Run.Tally). t.counts) e));
    tallied = λ e q.
        let t = d.tallied limit out (tally_in tally) (ending_of e) (said e q) in
        let n = ap (λ (t : Run.Tally). t.nodes) c in
        let l = ap (λ (t : Run.Tally). t.counts) c in
        record { made = n ∙ t.made; counts = l ∙ t.counts; twelve = ap length l ∙ t.twelve; sum = ap total l ∙ t.sum; unused = λ x h. ap (λ (k : List ℕ). at k x) l ∙ t.unused x h };
  }
    where
      kept_so : (by : Refusal) → r ≡ Err by → tallied_by i limit out (tally_in tally) ≡ tally_in tally
      kept_so by q = tally_kept i limit out (tally_in tally) (number_of by.question) by.item (sym answers ∙ ap means q)

-- two runs
more_held : (i j : Input) → Fewer i j → (limit : ℕ) (out : List ℕ) (r : Result Ending Refusal) (after : List ℕ) → means r ≡ answer_by i limit out → after ≡ list_by i limit out →
    (limit₂ : ℕ) (out₂ : List ℕ) (r₂ : Result Ending Refusal) (after₂ : List ℕ) → means r₂ ≡ answer_by j limit₂ out₂ → after₂ ≡ list_by j limit₂ out₂ →
    MoreHeld (of_input i) (of_input j) limit out r after limit₂ out₂ r₂ after₂
more_held i j f limit out r after a l limit₂ out₂ r₂ after₂ a₂ l₂ = record {
  fewer = λ plans nodes plans₂ nodes₂ q q₂.
      let x = f.lists limit out plans nodes (sym a ∙ ap means q) limit₂ out₂ plans₂ nodes₂ (sym a₂ ∙ ap means q₂) in
      (subst₂ Sublistᴰ (ap (listed_plans j.problem.variables plans₂) (sym l₂)) (ap (listed_plans i.problem.variables plans) (sym l)) x.0, x.1);
  finishes_too = λ same n plans nodes q e q₂.
      let x = f.finishes limit out plans nodes (sym a ∙ ap means q) out₂ n (ending_of e) (ap (λ (k : ℕ). answer_by j k out₂) (sym same) ∙ sym a₂ ∙ ap means q₂) in
      (x.0, x.1, is_finished e x.0 x.1 x.2);
}

-- ---- a sheet's run: read in the order 0, 1, .. rows stand as they are
map_self : {A : Type 0} (l : List A) → map (λ (x : A). x) l ≡ l
map_self [] = refl
map_self {A} (x ∷ l) = ap (λ (r : List A). x ∷ r) (map_self l)

module _ (b : List ℕ) (good : verdict_of b ≡ accepted) where
  abbrev p : Problem
  p = problem_of b

  known : Sound (sheet_input b)
  known = sound_sheet b good

  pub sheet_leaders : leaders_by (below (problem_of b).variables) (problem_of b) ≡ leaders (problem_of b)
  sheet_leaders = (sheet_run b).leading good

  leaders_ascend : T (rows_ascend (leaders (problem_of b)))
  leaders_ascend = rows_ascend_of (leaders p) (sorted_keep (λ (x y : List ℕ). T (earlier x y)) (is_leader earlier p) (assignments p.initial) (assignments_sorted p.initial))

  leaders_hold : (s : List ℕ) → Memᴰ s (leaders (problem_of b)) ↔ Leader earlier (problem_of b) s
  leaders_hold s = (
    λ m. leader_e earlier p known.well s (keep_e (is_leader earlier p) (assignments p.initial) s m).1,
    λ l. keep_i (is_leader earlier p) (assignments p.initial) s (sol_drawn p known.well s l.solves) (leader_i earlier p known.well s l),
  )

  pub sheet_chains : (s : List ℕ) → length s ≡ (problem_of b).variables →
      T (is_solution (problem_of b) s) ↔ ∥ ((l : List ℕ) × Memᴰ l (leaders (problem_of b)) × Chain earlier (problem_of b) l s) ∥₁
  sheet_chains = chains p known.well (leaders p) refl

  sheet_end : (limit : ℕ) (out : List ℕ) (e : Ending) (after : List ℕ) → AtEnd (of_input (sheet_input b)) limit out e after → AtEnd (of_sheet b) limit out e after
  sheet_end limit out e after x =
      let k = plans_in (ending_of e) in
      let f = x.plans ∙ ap (take k) sheet_leaders in
      record {
        plans = f;
        ascend = subst (λ (l : List (List ℕ)). T (rows_ascend l)) (sym (map_self (listed_plans p.variables k after) ∙ f)) (rows_ascend_take k (leaders p) leaders_ascend);
        rest = x.rest;
        allowed = x.allowed;
        counts = subst (λ (q : Problem). CountsAt q limit (length out) (ending_of e)) ((sheet_run b).tree good) x.counts;
      }

  sheet_finish : (plans : ℕ) (after : List ℕ) → AtFinish (of_input (sheet_input b)) plans after → AtFinish (of_sheet b) plans after
  sheet_finish plans after x =
      let f = x.all_leaders ∙ sheet_leaders in
      record {
        all_leaders = f;
        chains = λ s n. subst (λ (ls : List (List ℕ)). T (is_solution p s) ↔ ∥ ((l : List ℕ) × Memᴰ l ls × Chain earlier p l s) ∥₁) (sym f) (sheet_chains s n);
        nothing = x.nothing;
      }

  sheet_tallied : (e : Ending) (tally : Tally) → Tallied (of_input (sheet_input b)) e tally → Tallied (of_sheet b) e tally
  unfolding tally_at
  sheet_tallied e tally x = record {
    made = x.made;
    counts = x.counts ∙ same_counts p known.well (nodes_in (ending_of e));
    twelve = x.twelve;
    sum = x.sum;
    unused = x.unused;
  }

module _ (b : List ℕ) (limit : ℕ) (out : List ℕ) (r : Result Ending Refusal) (after : List ℕ) (c : CallRun b limit out r after) where
  abbrev i : Input
  i = sheet_input b

  answers : means r ≡ answer_by (sheet_input b) limit out
  answers = c.answers ∙ sym ((sheet_run b).answer limit out)

  leaves : after ≡ list_by (sheet_input b) limit out
  leaves = c.leaves ∙ sym ((sheet_run b).list limit out)

  good_at : (e : Ending) → r ≡ Ok e → verdict_of b ≡ accepted
  good_at e q = (ran_by i limit out (ending_of e) (sym answers ∙ ap means q)).good

  of_sheet_lem : Demands (of_sheet b) limit out r after
  of_sheet_lem =
      let d = held i (demanded_sheet b) limit out r after answers leaves in
      record {
        refuses = d.refuses;
        ends = d.ends;
        leaders_are = λ v. (subst (λ (l : List (List ℕ)). T (rows_ascend l)) (sym (map_self (leaders (problem_of b)))) (leaders_ascend b v), leaders_hold b v);
        sets_largest = λ v prefix short. sets_largest b prefix v;
        at_end = λ e q. sheet_end b (good_at e q) limit out e after (d.at_end e q);
        at_finish = λ plans nodes q. sheet_finish b (good_at (Finished plans nodes) q) plans after (d.at_finish plans nodes q);
      }

  of_tally : (tally tally' : Tally) → tally_in tally' ≡ Run.tally_of b limit out (tally_in tally) → TallyHeld (of_sheet b) tally r tally'
  of_tally tally tally' k =
      let t = tally_held i (demanded_sheet b) limit out r after answers leaves tally tally' (k ∙ sym ((sheet_run b).tally limit out (tally_in tally))) in
      record { kept = t.kept; tallied = λ e q. sheet_tallied b (good_at e q) e tally' (t.tallied e q) }

-- ---- of calls
pub demands : RunDemands
demands b limit out r after c = of_sheet_lem b limit out r after c

pub tally_demands : TallyDemands
tally_demands b limit out tally r after tally' c = of_tally b limit out r after c.call tally tally' c.counts

pub demands_lent : LentDemands
demands_lent b pairs block limit out tally r after tally' c =
    let i = lent_input b pairs block in
    let d = demanded_lent b pairs block in
    (held i d limit out r after c.answers c.leaves, tally_held i d limit out r after c.answers c.leaves tally tally' c.counts)

pub more_demands : MoreDemands
more_demands b c t k more limit out r after x limit₂ out₂ r₂ after₂ y =
    let m = more_held (sheet_input b) (sheet_input c) (fewer_sheet b c t k more) limit out r after (answers b limit out r after x) (leaves b limit out r after x)
    limit₂ out₂ r₂ after₂ (answers c limit₂ out₂ r₂ after₂ y) (leaves c limit₂ out₂ r₂ after₂ y) in
    record { fewer = m.fewer; finishes_too = m.finishes_too }

pub more_demands_lent : MoreDemandsLent
more_demands_lent b c t pairs block k more limit out tally r after tally' x limit₂ out₂ tally₂ r₂ after₂ tally₂' y =
    more_held (lent_input b pairs block) (lent_input c pairs block) (fewer_lent b c t pairs block k more) limit out r after x.answers x.leaves limit₂ out₂ r₂ after₂ y.answers y.leaves
