-- The figure from a bare run on the arrays (specs/Held). Assumes nothing.
use Rattle.model.specs.Kit.{◌≡◌, refl, sym, ap, ◌∙◌, subst, inl, ⊎_elim, List, [], ◌∷◌, Memᴰ-not_nil, ℕ, ◌*◌, ◌≤◌, arith, T, length, set, replicate, length-set, length-replicate}
use Rattle.std.specs.Prelude.{Bool, true, false, Result, Ok, Err}
use Rattle.std.specs.Result.{is_err}
use Rattle.run_state.specs.Inner.Cut.{stop_of}
use Rattle.run_state.specs.declared.Cut.{Cut}
use Rattle.run_state.specs.declared.Cut.TheVariants as cut
use Rattle.model.specs.Run.{Ending, finished, spent, full, plans_in, nodes_in, result_of, Tally}
use Rattle.model.specs.{Lists.at, Problem.Problem, Inner.WellFormed.WellFormed, Verdict.Verdict, Verdict.accepted, Verdict.refused, Verdict.is_accepted, Verdict.reply, Sheet.problem_of}
use Rattle.model.specs.{Sheet.verdict_of}
use types.Run.{OneOf}
use denote.Enum.Declared.{tag_of}
use Rattle.model.proofs.{Accepted.passed, Accepted.symmetries_are, Accepted.is_accepted_lem, Asked.well_formed_with, Lists.at_set, Lists.never}
use Rattle.order.specs.RunBy.{Input, result_by}
use Rattle.order.proofs.Reordered.{well_reordered}
use Rattle.arrays.specs.Inner.{Places.VARIABLES, Places.SYMMETRIES, Places.PLANS, Places.ALL, Places.SPENT, Places.FULL, Places.STACK, Places.TABLES, Places.WORK, Layout.Compiled}
use Rattle.run_input.specs.Lent.{verdict_lent, problem_with, order_lent, problem_lent}
use Rattle.run_input.proofs.Lent.{well_lent, ordering_lent, nothing_lent}
use Rattle.families.specs.{Families.families_of, Inner.Numbered.Counted}
use Rattle.families_figure.specs.Figure.{number, dash, families_lent, report_figure}
use Rattle.families_figure.proofs.{FamiliesLent.families_lent_lem, Counting.bare_lent, Counting.figure_counted, Counting.figure_number, Counting.figure_none, Counting.figure_dash, Counting.figure_few}
use Rattle.sheet.proofs.Whole.{zeros}
use Rattle.run_state.specs.{Inner.Walk.stop_in, Meaning.ending_of, declared.Ending.TheVariants.Finished, declared.Ending.TheVariants.Spent, declared.Ending.TheVariants.Full}
use Rattle.run_state.specs.contracts.Ending.{the_type}
use Rattle.families_count.specs.{Told.Told, Told.told, Told.counted_lent, Inner.Held.Roomy, Inner.Held.Runs, Inner.Held.Ran, Inner.Held.Put, Inner.Held.Whole}
use Rattle.families_count.specs.Inner.Held.{Listed}
use Rattle.families_count.proofs.Images.{numbers_with}
use Rattle.run_state.specs.declared.Ending as S
use Rattle.families_count.specs.Told as T

-- room for the plans
pub room_long : (r : List ℕ) → r ≡ replicate 49152 0 → 49152 ≡ length r
room_long r e = sym (ap length e ∙ length-replicate {A = ℕ} 49152 0)

-- ---- how a run stopped
pub cut_short : (stop : Result Unit Cut) (t : Bool) → t ≡ is_err stop → t ≡ true → stop_of stop ≡ ALL → ⊥
cut_short (Ok done) t e f z = never (let y : true ≡ false = sym f ∙ e in cc)
cut_short (Err cut.Spent) t e f z = let y : SPENT ≡ ALL = z in omega arith
cut_short (Err cut.Full) t e f z = let y : FULL ≡ ALL = z in omega arith

pub not_cut : (stop : Result Unit Cut) (t : Bool) → t ≡ is_err stop → t ≡ false → stop_of stop ≡ ALL
not_cut (Ok done) t e f = refl
not_cut (Err by) t e f = never (let y : false ≡ true = sym f ∙ e in cc)

-- ---- the count
-- a run that stopped so is finished
finished_of : (e : Ending) → stop_in e ≡ ALL → e ≡ finished (plans_in e) (nodes_in e)
finished_of (finished k u) s = refl
finished_of (spent k u) s = absurd (let z : SPENT ≡ ALL = s in omega arith)
finished_of (full k u) s = absurd (let z : FULL ≡ ALL = s in omega arith)

module _ (b pairs block : List ℕ) (symmetries : ℕ) (stack work supports tables numbers images : List ℕ) (h : Whole b pairs block symmetries stack work supports tables numbers images) where
  abbrev p : Problem
  p = problem_lent b pairs block

  good : T (is_accepted (verdict_lent b pairs block))
  good = is_accepted_lem (verdict_lent b pairs block) h.put.verdict

  well : WellFormed (problem_lent b pairs block)
  well = well_reordered (problem_with b block) (order_lent b pairs) (ordering_lent b pairs block good) (well_lent b pairs block good)

  pub whole_few : at numbers VARIABLES ≤ 12
  whole_few = let e = h.put.compiled.numbered.variables in let f = well.few in omega arith

  pub whole_roomy : (list : List ℕ) → length list ≡ 4096 * at numbers VARIABLES → Roomy b (at numbers VARIABLES) list
  whole_roomy list l = record { named = h.put.compiled.numbered.variables; long = l }

  module _ (n : ℕ) (list : List ℕ) (room : Roomy b n list) where
    -- so the bare run may be made, on any images
    pub bare_runs : (none : List ℕ) → Runs (bare_lent b pairs block) stack (set work PLANS 0) supports tables (set numbers SYMMETRIES 0) none list
    bare_runs none = record {
      compiled = record {
        numbered = numbers_with p [] numbers 0 well.few well.most h.put.long refl
            h.put.compiled.numbered;
        supported = h.put.compiled.supported;
        imaged = λ e x v l. absurd (omega arith);
      };
      limits = record { well_formed = well_formed_with p [] well (λ g m. absurd (Memᴰ-not_nil m)); symmetries = omega arith };
      respected = record { respectful = λ g m. absurd (Memᴰ-not_nil m) };
      long = length-set numbers SYMMETRIES 0 ∙ h.put.long;
      writable = record { stack_length = h.writable.stack_length; work_length = length-set work PLANS 0 ∙ h.writable.work_length; tables_length = h.writable.tables_length };
      begun = at_set work PLANS 0 (let l = h.writable.work_length in omega arith);
      lent = room.long ∙ ap (λ (k : ℕ). 4096 * k) room.named;
    }

    module _ (limit : ℕ) (numbers₀ stack' work' tables' numbers' list' : List ℕ) (tally' : Tally) (stop : ℕ)
        (a : Ran (bare_lent b pairs block) limit numbers₀ list stack' work' tables' numbers' list' tally' stop) where
      abbrev e : Ending
      e = (result_of (bare_lent b pairs block) limit (length list)).ending

      pub bare_dash : (stop ≡ ALL → ⊥) → told dash ≡ told (families_lent b pairs block limit (length list))
      bare_dash k = ap told (sym (figure_dash b pairs block limit (length list) h.put.verdict (λ f. k (a.stopped ∙ ap stop_in f.2))))

      module _ (s : stop ≡ ALL) where
        done : (result_of (bare_lent b pairs block) limit (length list)).ending ≡ finished (plans_in e) (nodes_in e)
        done = finished_of e (sym a.stopped ∙ s)

        -- what `families::families` is lent
        pub bare_counted : Counted (problem_lent b pairs block) list' images n symmetries (at work' PLANS)
        bare_counted =
            subst (λ (k : ℕ). Counted p list' images k symmetries (at work' PLANS)) (sym room.named)
            (subst (λ (k : ℕ). Counted p list' images p.variables k (at work' PLANS)) (sym h.put.all)
            (subst (λ (k : ℕ). Counted p list' images p.variables (length p.symmetries) k) (sym a.plans)
            (subst (λ (l : List ℕ). Counted p l images p.variables (length p.symmetries) (plans_in e)) (sym a.wrote)
            (figure_counted b pairs block limit (length list) h.put.verdict (plans_in e) (nodes_in e) done images list (let q = room.named in let r = room.long in omega arith)
            h.put.compiled.imaged (let q = h.put.all in let l = h.put.few in omega arith) (let q = h.put.all in let l = h.put.room in omega arith)))))

        pub bare_number : (k : ℕ) → k ≡ families_of (problem_lent b pairs block) → told (number k) ≡ told (families_lent b pairs block limit (length list))
        bare_number k q = ap told (sym (figure_number b pairs block limit (length list) h.put.verdict (plans_in e) (nodes_in e) done k q))

    pub counted_so : (limit : ℕ) (t : Told) → t ≡ told (families_lent b pairs block limit (length list)) → t ≡ counted_lent b pairs block limit
    unfolding counted_lent
    counted_so limit t q =
        q ∙ ap (λ (k : ℕ). told (families_lent b pairs block limit k)) (room.long ∙ ap (λ (k : ℕ). 4096 * k) room.named)
        ∙ ap (λ (v : Verdict). reply v (families_lent b pairs block limit (4096 * (problem_of b).variables))) (sym h.put.verdict)

-- new arrays to write on
pub new_whole : (b pairs block numbers supports images : List ℕ) (n : ℕ) → Put b pairs block numbers supports images n → Whole b pairs block n (replicate STACK 0) (replicate WORK 0) supports
    (replicate TABLES 0) numbers images
new_whole b pairs block numbers supports images n h =
    record { put = h; writable = record { stack_length = (zeros STACK).sized; work_length = (zeros WORK).sized; tables_length = (zeros TABLES).sized } }

-- a refusal is that of the run
pub counted_refused : (b pairs block : List ℕ) (limit i j : ℕ) → refused i j ≡ verdict_lent b pairs block → T.refusal i j ≡ counted_lent b pairs block limit
unfolding counted_lent
counted_refused b pairs block limit i j v = ap (λ (u : Verdict). reply u (families_lent b pairs block limit (4096 * (problem_of b).variables))) v

-- an ending whose tag is that of the second or the third case is not a finished run
pub stopped : (e : S.Ending) → OneOf (1 ∷ 2 ∷ []) (tag_of the_type e) → (plans nodes : ℕ) → ending_of e ≡ finished plans nodes → ⊥
stopped (Finished plans nodes) k p m q = ⊎_elim {C = ⊥} (λ z. omega arith) (λ z. omega arith) k
stopped (Spent plans nodes) k p m q = never (cc)
stopped (Full plans nodes) k p m q = never (cc)

-- ---- the figure of a report
module _ (b : List ℕ) (limit : ℕ) (verdict : verdict_of b ≡ accepted) where
  accepts : verdict_lent b [] [] ≡ accepted
  accepts = ap (λ (i : Input). i.verdict) (nothing_lent b).input ∙ verdict

  so_lent : (result_by (order_lent b []) (problem_with b []) limit (4096 * (problem_of b).variables)).ending ≡ (result_of (problem_of b) limit (4096 * (problem_of b).variables)).ending
  unfolding result_by
  so_lent = ap (λ (q : Problem). (result_of q limit (4096 * (problem_of b).variables)).ending) ((nothing_lent b).tree verdict)

  pub report_told : (t : Told) → t ≡ counted_lent b [] [] limit → t ≡ told (report_figure b limit)
  unfolding counted_lent
  report_told t q = q ∙ ap (λ (v : Verdict). reply v (report_figure b limit)) accepts

  -- a run that isn't finished
  pub report_dash : ((plans nodes : ℕ) → (result_of (problem_of b) limit (4096 * (problem_of b).variables)).ending ≡ finished plans nodes → ⊥) → report_figure b limit ≡ dash
  report_dash k = (families_lent_lem b [] [] limit (4096 * (problem_of b).variables) accepts).dashed (inl (λ r. k r.0 r.1 (sym so_lent ∙ r.2)))

  -- without symmetries each plan is a family
  report_plans : (plans nodes : ℕ) → (problem_of b).symmetries ≡ [] → (result_of (problem_of b) limit (4096 * (problem_of b).variables)).ending ≡ finished plans nodes → told (number plans) ≡ told
      (report_figure b limit)
  report_plans plans nodes none e =
      ap told (sym (figure_none b [] [] limit (4096 * (problem_of b).variables) accepts plans nodes (ap (λ (i : Input). i.problem.symmetries) (nothing_lent b).input ∙ none) (so_lent ∙ e)))

module _ (b : List ℕ) (limit : ℕ) (stack work supports tables numbers images : List ℕ) (stop : ℕ) (h : Listed b limit stack work supports tables numbers images stop) where
  abbrev ending : Ending
  ending = (result_of (problem_of b) limit (4096 * (problem_of b).variables)).ending

  pub listed_dash : (stop ≡ ALL → ⊥) → told dash ≡ told (report_figure b limit)
  listed_dash k = ap told (sym (report_dash b limit h.verdict (λ plans nodes e. k (h.stopped ∙ ap stop_in e))))

  pub listed_plans : stop ≡ ALL → at numbers SYMMETRIES ≡ 0 → told (number (at work PLANS)) ≡ told (report_figure b limit)
  listed_plans s z =
      ap (λ (k : ℕ). told (number k)) h.plans
      ∙ report_plans b limit h.verdict (plans_in ending) (nodes_in ending) (none (problem_of b).symmetries (sym h.compiled.numbered.symmetries ∙ z)) (finished_of ending (sym h.stopped ∙ s))
    where
      none : (l : List (List ℕ)) → length l ≡ 0 → l ≡ []
      none [] z = refl
      none (x ∷ l) z = absurd (omega arith)

  -- so its families may be counted
  pub listed_whole : Whole b [] [] (at numbers SYMMETRIES) stack work supports tables numbers images
  listed_whole =
      let t = (nothing_lent b).tree h.verdict in
      let s = h.compiled.numbered.symmetries in
      record {
        put = record {
          verdict = accepts b limit h.verdict;
          compiled = subst (λ (q : Problem). Compiled q numbers supports images) (sym t) h.compiled;
          long = h.long;
          all = s ∙ ap (λ (q : Problem). length q.symmetries) (sym t);
          few = let e = symmetries_are b in let f = (passed b (is_accepted_lem (verdict_of b) h.verdict)).header.symmetries in omega arith;
          room = let l = h.room in omega arith;
        };
        writable = h.writable;
      }

-- ---- its number is at most 4,096
pub told_few : (b pairs block : List ℕ) (limit k : ℕ) → told (number k) ≡ counted_lent b pairs block limit → k ≤ 4096
unfolding counted_lent
told_few b pairs block limit k e = go (verdict_lent b pairs block) refl e
  where
    go : (v : Verdict) → verdict_lent b pairs block ≡ v → told (number k) ≡ reply v (families_lent b pairs block limit (4096 * (problem_of b).variables)) → k ≤ 4096
    go accepted q t = figure_few b pairs block limit (4096 * (problem_of b).variables) q k (omega arith) (let z : families_lent b pairs block limit (4096 * (problem_of b).variables) ≡ number k =
        cc in z)
    go (refused i j) q t = never (cc)
