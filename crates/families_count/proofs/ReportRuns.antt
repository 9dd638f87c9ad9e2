-- The run of a report on the arrays of its sheet (specs/Held). Assumes nothing.
use Rattle.model.specs.Kit.{◌≡◌, refl, sym, ap, ◌∙◌, subst, subst₂, List, ◌++◌, ℕ, ◌*◌, ◌≤◌, arith, T, length, take, drop, replicate}
use Rattle.model.specs.Run.{Ending, ended, plans_in, result_of, answer_of, written, list_of, Tally}
use Rattle.model.specs.{Lists.at, Verdict.Verdict, Verdict.accepted, Verdict.refused, Verdict.is_accepted, Verdict.reply, Verdict.kept, Sheet.verdict_of, Sheet.problem_of}
use lib.Seq.{take_at}
use Rattle.model.proofs.{Accepted.passed, Accepted.well_formed_lem, Accepted.symmetries_are, Lists.never}
use Rattle.arrays.specs.Inner.Places.{VARIABLES, PLANS, STACK, TABLES, WORK}
use Rattle.families_figure.specs.Figure.{report_figure}
use Rattle.std.specs.Prelude.{Option, Result, Ok, Err}
use Rattle.model.specs.{Refusals.number_of, declared.refusals.Refusal.Refusal}
use Rattle.sheet.specs.Inner.Form.{Compilation}
use Rattle.sheet.proofs.Whole.{zeros}
use Rattle.run_state.specs.Inner.Walk.{stop_in}
use Rattle.run_search.proofs.{Begun.numbers_kept}
use Rattle.run_state.specs.Meaning.{ending_of}
use Rattle.run_state.specs.declared.Ending as S
use Rattle.run.specs.{Calls.CallRun, Inner.Whole.Answered}
use Rattle.run.proofs.Whole.{ended_same}
use Rattle.families_count.specs.{Told.told, Told.figure_of, Inner.Held.Runs, Inner.Held.Ran, Inner.Held.Fresh, Inner.Held.Listed, Inner.Held.RunTold}

module _ (b : List ℕ) (limit : ℕ) (numbers supports images : List ℕ) (c : Compilation b numbers supports images (Ok tt)) where
  verdict : verdict_of b ≡ accepted
  verdict = sym c.answers

  good : T (is_accepted (verdict_of b))
  good = subst (λ (u : Verdict). T (is_accepted u)) (sym verdict) tt

  pub report_few : at numbers VARIABLES ≤ 12
  report_few = let e = (c.compiled refl).numbered.variables in let f = (well_formed_lem b good).few in omega arith

  module _ (stack work tables : List ℕ) (fresh : Fresh stack work tables) (list : List ℕ) (long : length list ≡ 4096 * at numbers VARIABLES) where
    room_is : length list ≡ 4096 * (problem_of b).variables
    room_is = long ∙ ap (λ (k : ℕ). 4096 * k) (c.compiled refl).numbered.variables

    pub report_runs : Runs (problem_of b) stack work supports tables numbers images list
    report_runs = record {
      compiled = c.compiled refl;
      limits = record {
        well_formed = well_formed_lem b good;
        symmetries = let l = symmetries_are b in let f = (passed b good).header.symmetries in
            omega arith;
      };
      respected = (passed b good).respected;
      long = (c.sizes refl).numbers_length;
      writable = fresh.writable;
      begun = fresh.begun;
      lent = room_is;
    }

    module _ (stack' work' tables' numbers' list' : List ℕ) (tally' : Tally) (stop : ℕ) (a : Ran (problem_of b) limit numbers list stack' work' tables' numbers' list' tally' stop) where
      abbrev e : Ending
      e = (result_of (problem_of b) limit (length list)).ending

      pub report_listed : Listed b limit stack' work' supports tables' numbers' images stop
      report_listed = record {
        verdict = verdict;
        compiled = record {
          numbered = numbers_kept (problem_of b) numbers numbers' (well_formed_lem b good).few (well_formed_lem b good).most (λ i l. a.same i l)
              (c.compiled refl).numbered;
          supported = (c.compiled refl).supported;
          imaged = (c.compiled refl).imaged;
        };
        room = let l = symmetries_are b in let f = (passed b good).header.symmetries in let s = (c.sizes refl).images_length in omega arith;
        long = a.long;
        writable = a.writable;
        plans = a.plans ∙ ap (λ (k : ℕ). plans_in (result_of (problem_of b) limit k).ending) room_is;
        stopped = a.stopped ∙ ap (λ (k : ℕ). stop_in (result_of (problem_of b) limit k).ending) room_is;
      }

      -- the list was the front of one that is lent whole
      pub report_told_so : (made : ℕ) → made ≡ tally'.nodes → (x : S.Ending) → Answered work' made stop (ending_of x) → (f : Option ℕ) → told (figure_of f) ≡ told (report_figure b limit) →
          (whole : List ℕ) → list ≡ take (4096 * at numbers VARIABLES) whole → length list' ≡ length list → RunTold b limit whole
          (record { answer = Ok x; figure = f; variables = at numbers VARIABLES }) (list' ++ drop (4096 * at numbers VARIABLES) whole)
      unfolding answer_of list_of
      report_told_so made m x q f g whole w y =
          record {
            sized = record { most = report_few; true_of = λ z. (c.compiled refl).numbered.variables };
            call = subst₂ (λ (i j : List ℕ). CallRun b limit i (Ok x) j) w (sym (take_at list' (drop (4096 * at numbers VARIABLES) whole) (4096 * at numbers VARIABLES) (y ∙ long))) record {
              answers = ap ended (ended_same (ending_of x) e (q.plans ∙ a.plans) (q.nodes ∙ m ∙ a.nodes) (q.stopped ∙ a.stopped)) ∙ ap (λ (u : Verdict). reply u e) (sym verdict);
              leaves = a.wrote ∙ ap (λ (u : Verdict). kept u list (written (result_of (problem_of b) limit (length list)).rows list)) (sym verdict);
            };
            figure = λ z. g;
          }

pub new_arrays : Fresh (replicate STACK 0) (replicate WORK 0) (replicate TABLES 0)
new_arrays = record { writable = record { stack_length = (zeros STACK).sized; work_length = (zeros WORK).sized; tables_length = (zeros TABLES).sized }; begun = (zeros WORK).blank PLANS }

pub accepted_so : (b numbers supports images : List ℕ) (v : Result Unit Refusal) → v ≡ Ok tt → Compilation b numbers supports images v → Compilation b numbers supports images (Ok tt)
accepted_so b numbers supports images v e c = subst (Compilation b numbers supports images) e c

-- a refusal, of which no byte of the list counts
pub report_refused : (b : List ℕ) (limit : ℕ) (list : List ℕ) (refused_by : Refusal) (f : Option ℕ) → refused (number_of refused_by.question) refused_by.item ≡ verdict_of b → RunTold b limit list
    (record { answer = Err refused_by; figure = f; variables = 0 }) list
unfolding answer_of list_of
report_refused b limit list refused_by f v = record {
  sized = record { most = omega arith; true_of = λ z. absurd (never_so z) };
  call = record {
    answers = ap (λ (u : Verdict). reply u (result_of (problem_of b) limit (length (take 0 list))).ending) v;
    leaves = ap (λ (u : Verdict). kept u (take 0 list) (written (result_of (problem_of b) limit (length (take 0 list))).rows (take 0 list))) v;
  };
  figure = λ z. absurd (never_so z);
}
  where
    never_so : verdict_of b ≡ accepted → ⊥
    never_so z = let y : refused (number_of refused_by.question) refused_by.item ≡ accepted = v ∙ z in never (cc)
