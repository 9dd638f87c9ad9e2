-- What callers hold of families (specs/FamilyCalls). Assumes nothing.
use Rattle.model.specs.{Refusals.IsRefusal, declared.refusals.Refusal.Refusal}
use Rattle.model.proofs.Numbering.{is_refusal}
use Rattle.std.specs.Prelude.{Option, None, Some, Result, Ok, Err}
use Rattle.model.specs.Kit.{◌≡◌, refl, sym, ap, ◌∙◌, subst, inr, List, [], ℕ, ◌*◌, length}
use Rattle.model.specs.{Verdict.Verdict, Verdict.accepted, Verdict.refused, Verdict.reply, Sheet.problem_of, Run.Ending, Run.finished, Run.spent, Run.full, Run.ended, Run.listed_plans}
use Rattle.run_state.specs.{Meaning.ending_of, declared.Tally.Tally, declared.Ending.TheVariants.Finished as Done}
use Rattle.run_state.specs.declared.Ending as S
use Rattle.model.proofs.Lists.{never}
use Rattle.run_input.specs.Lent.{verdict_lent, problem_with}
use Rattle.families.specs.Families.{FamilyCount, families_of}
use Rattle.families_figure.specs.Figure.{Figure, number, dash, figure_for, bare_sheet, families_lent}
use Rattle.families_figure.specs.{Inner.FigureClaims.ran_with, Inner.FigureClaims.ran_bare, Inner.FigureClaims.Finished, FigureClaims.OneListedEach}
use Rattle.families_figure.proofs.FamiliesLent.{families_lent_lem, bare_run, one_of_each_lent, block_alone_one_each}
use Rattle.run.specs.{Calls.CallLent}
use Rattle.promises.proofs.Demands.{is_ended, is_finished}
use Rattle.families_count.specs.Told.{refusal, told, counted_lent, means}
use Rattle.promises.specs.FamilyCalls.{FamiliesCalls, OneOfEachCalls, BlockCalls}
use Rattle.run.specs.Meaning as M

-- ---- families
dash_is : (r : Result (Option ℕ) Refusal) → means r ≡ told dash → r ≡ Ok None
dash_is (Ok (Some k)) e = absurd (let f : number k ≡ dash = cc in never (cc))
dash_is (Ok None) e = refl
dash_is (Err by) e = never (cc)

number_told : (r : Result (Option ℕ) Refusal) (k : ℕ) → means r ≡ told (number k) → r ≡ Ok (Some k)
number_told (Ok (Some m)) k e = let f : number m ≡ number k = cc in let g : m ≡ k = cc in cc
number_told (Ok None) k e = absurd (let f : dash ≡ number k = cc in never (cc))
number_told (Err by) k e = never (cc)

-- an ending that means finished
ended_finished : (a : Result S.Ending Refusal) (plans nodes : ℕ) → M.means a ≡ ended (finished plans nodes) → a ≡ Ok (Done plans nodes)
ended_finished a plans nodes h = let e = is_ended a (finished plans nodes) h in
    e.1 ∙ ap Ok (is_finished e.0 plans nodes (let q : ended (ending_of e.0) ≡ ended (finished plans nodes) = sym (ap M.means e.1) ∙ h in let y : ending_of
    e.0 ≡ finished plans nodes = cc in y))

refused_is : (r : Result (Option ℕ) Refusal) (n i : ℕ) → means r ≡ refusal n i → IsRefusal r n i
refused_is r n i e = is_refusal _ r n i e

-- a number is that of the families
number_is : (e f : Ending) (m k : ℕ) → figure_for e f m ≡ number k → k ≡ m
number_is (finished plans made) (finished plans' made') m k h = cc
number_is (finished plans made) (spent plans' made') m k h = never (cc)
number_is (finished plans made) (full plans' made') m k h = never (cc)
number_is (spent plans made) f m k h = never (cc)
number_is (full plans made) f m k h = never (cc)

pub families_calls : FamiliesCalls
unfolding counted_lent families_lent
families_calls b pairs block limit r call = record {
  refuses = λ n i v. refused_is r n i (call ∙ ap (λ (u : Verdict). reply u figure) v);
  counts = λ k e. counted k (sym (ap means e) ∙ call) (verdict_lent b pairs block) refl;
  numbered = λ v out tally a after tally' c l plans nodes e. number_told r (families_of (problem_with b block)) (so v ∙ ap told (counts_so v (done v out tally a after tally' c l plans nodes e)));
  dashed = λ v out tally a after tally' c l. (
    λ e plans nodes q. (let z : told dash ≡ told (number (families_of (problem_with b block))) = sym (ap means e) ∙ so v ∙ ap told (counts_so v (done v out tally a after tally' c l plans nodes q)) in
        never (cc)),
    λ n. dash_is r (so v ∙ ap told ((families_lent_lem b pairs block limit room v).dashed (inr (λ d. n d.0 d.1 (undone v out tally a after tally' c l d))))),
  );
}
  where
    room : ℕ
    room = 4096 * (problem_of b).variables

    figure : Figure
    figure = families_lent b pairs block limit (4096 * (problem_of b).variables)

    so : verdict_lent b pairs block ≡ accepted → means r ≡ told figure
    so v = call ∙ ap (λ (u : Verdict). reply u figure) v

    counts_so : verdict_lent b pairs block ≡ accepted → Finished (ran_bare b pairs limit room) → figure ≡ number (families_of (problem_with b block))
    counts_so v d = let f = families_lent_lem b pairs block limit room v in f.counted (f.bare_enough d) d

    -- the run without exchanges, of what its caller holds
    bare : verdict_lent b pairs block ≡ accepted → (out : List ℕ) (tally : Tally) (a : Result S.Ending Refusal) (after : List ℕ) (tally' : Tally) →
        CallLent (bare_sheet b) pairs [] limit out tally a after tally' →
        length out ≡ room → M.means a ≡ ended (ran_bare b pairs limit room)
    bare v out tally a after tally' c l = c.answers ∙ (bare_run b pairs block limit out v).0 ∙ ap (λ (k : ℕ). ended (ran_bare b pairs limit k)) l

    done : (v : verdict_lent b pairs block ≡ accepted) (out : List ℕ) (tally : Tally) (a : Result S.Ending Refusal) (after : List ℕ) (tally' : Tally) → CallLent
        (bare_sheet b) pairs [] limit out tally a after tally' →
        length out ≡ room → (plans nodes : ℕ) → a ≡ Ok (Done plans nodes) → Finished (ran_bare b pairs limit room)
    done v out tally a after tally' c l plans nodes e =
        let z : ended (ran_bare b pairs limit room) ≡ ended (finished plans nodes) = sym (bare v out tally a after tally' c l) ∙ ap M.means e in
        (plans, nodes, let y : ran_bare b pairs limit room ≡ finished plans nodes = cc in y)

    undone : (v : verdict_lent b pairs block ≡ accepted) (out : List ℕ) (tally : Tally) (a : Result S.Ending Refusal) (after : List ℕ) (tally' : Tally) → CallLent
        (bare_sheet b) pairs [] limit out tally a after tally' →
        length out ≡ room → (d : Finished (ran_bare b pairs limit room)) → a ≡ Ok (Done d.0 d.1)
    undone v out tally a after tally' c l d = ended_finished a d.0 d.1 (bare v out tally a after tally' c l ∙ ap ended d.2)

    counted : (k : ℕ) → told (number k) ≡ counted_lent b pairs block limit → (v : Verdict) → verdict_lent b pairs block ≡ v → (k ≡ families_of (problem_with b block))
        × FamilyCount (problem_with b block)
    counted k q accepted v =
        let z : told (number k) ≡ told figure = q ∙ ap (λ (u : Verdict). reply u figure) v in (
          number_is (ran_with b pairs block limit room) (ran_bare b pairs limit room) (families_of (problem_with b block)) k (let y : figure ≡ number k = cc in y),
          (families_lent_lem b pairs block limit room v).count,
        )
    counted k q (refused n i) v = absurd (let z : told (number k) ≡ refusal n i = q ∙ ap (λ (u : Verdict). reply u figure) v in never (cc))

-- ---- one of each family
pub one_of_each_calls : OneOfEachCalls
one_of_each_calls b pairs block limit out tally r after tally' x plans nodes e closed =
    subst (λ (l : List ℕ). OneListedEach b pairs block plans (listed_plans (problem_of b).variables plans l)) (sym x.leaves)
    (one_of_each_lent b pairs block limit out plans nodes closed (sym x.answers ∙ ap M.means e))

pub block_calls : BlockCalls
block_calls b pairs block limit out tally r after tally' x plans nodes e alone =
    subst (λ (l : List ℕ). OneListedEach b pairs block plans (listed_plans (problem_of b).variables plans l)) (sym x.leaves)
    (block_alone_one_each b pairs block limit out plans nodes alone (sym x.answers ∙ ap M.means e))
