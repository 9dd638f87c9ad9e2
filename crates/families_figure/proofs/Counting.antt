-- How the figure is got: a bare run in the settling order, and the count over its rows. Assumes nothing.
use Rattle.model.specs.Kit.{◌≡◌, refl, sym, ap, ◌∙◌, subst, inr, List, [], ◌++◌, map, Memᴰ-not_nil, ℕ, ◌*◌, ◌≤◌, arith, T, length, drop}
use Rattle.model.specs.Run.{Ending, finished, spent, full, result_of, written}
use Rattle.model.specs.{Lists.flat, Problem.Problem, Problem.with_symmetries, Verdict.accepted, Verdict.is_accepted, Sheet.problem_of, Inner.WellFormed.WellFormed, Inner.WellFormed.Respected}
use native.Mathlib.Nat.{le_of_mul-le-mul_right}
use Rattle.model.proofs.{Tree.plans_of_tree, Runs.finished_rows, Runs.finished_fits, Demands.same_test, Accepted.is_accepted_lem, Asked.well_formed_with, Lists.never}
use Rattle.arrays.specs.Inner.Layout.{Images}
use Rattle.order.specs.{Order.Ordering, Reordered.symmetry_in, RunBy.result_by}
use Rattle.order.proofs.Reordered.{well_reordered, respected_reordered}
use Rattle.run_input.specs.Lent.{verdict_lent, problem_with, order_lent, problem_lent}
use Rattle.run_input.proofs.Lent.{well_lent, respected_lent, ordering_lent}
use Rattle.families.specs.{Families.solutions_of, Families.families_of, Inner.Numbered.Listed, Inner.Numbered.Counted}
use Rattle.families.proofs.{FewerFamilies.solutions_same, FewerFamilies.families_more, FewerFamilies.families_none, FewerFamilies.leaders_without, JoinedBy.families_reordered, Rows.listed_solutions}
use Rattle.families_figure.specs.{Figure.problem_bare, Figure.number, Figure.dash, Figure.figure_for, Figure.families_lent, Inner.FigureClaims.ran_with, Inner.FigureClaims.ran_bare}
use Rattle.families_figure.specs.Inner.FigureClaims.{Finished}
use Rattle.families_figure.proofs.FamiliesLent.{families_lent_lem}

-- the problem that the bare run walks
abbrev pub bare_lent : List ℕ → List ℕ → List ℕ → Problem
bare_lent b pairs block = with_symmetries (problem_lent b pairs block) []

module _ (b pairs block : List ℕ) (limit room : ℕ) (h : verdict_lent b pairs block ≡ accepted) where
  -- the problem whose families are counted
  abbrev p : Problem
  p = problem_lent b pairs block

  abbrev q : Problem
  q = bare_lent b pairs block

  abbrev order : List ℕ
  order = order_lent b pairs

  good : T (is_accepted (verdict_lent b pairs block))
  good = is_accepted_lem (verdict_lent b pairs block) h

  o : Ordering (problem_of b).variables (order_lent b pairs)
  o = ordering_lent b pairs block good

  v : WellFormed (problem_with b block)
  v = well_lent b pairs block good

  s : Respected (problem_with b block)
  s = respected_lent b pairs block good

  w : WellFormed (problem_lent b pairs block)
  w = well_reordered (problem_with b block) order o v

  r : Respected (problem_lent b pairs block)
  r = respected_reordered (problem_with b block) order o v s

  wq : WellFormed (bare_lent b pairs block)
  wq = well_formed_with p [] w (λ g m. absurd (Memᴰ-not_nil m))

  rq : Respected (bare_lent b pairs block)
  rq = record { respectful = λ g m. absurd (Memᴰ-not_nil m) }

  -- a finished one lists the solutions of the problem in the order, ascending
  module _ (plans made : ℕ) (e : (result_of (bare_lent b pairs block) limit room).ending ≡ finished plans made) where
    bare_rows : (result_of (bare_lent b pairs block) limit room).rows ≡ solutions_of (problem_lent b pairs block)
    bare_rows = (finished_rows q limit room plans made e).0 ∙ plans_of_tree q wq ∙ same_test q wq rq ∙ leaders_without p

    bare_plans : plans ≡ length (solutions_of (problem_lent b pairs block))
    bare_plans = (finished_rows q limit room plans made e).1 ∙ ap length bare_rows

    few : room ≤ 4096 * (problem_lent b pairs block).variables → length (solutions_of (problem_lent b pairs block)) ≤ 4096
    few l =
        let a = (finished_fits q limit room plans made e).1 in
        let c : length (solutions_of p) * p.variables ≤ room = subst (λ (rows : List (List ℕ)). length rows * p.variables ≤ room) (plans_of_tree q wq ∙ same_test q wq rq ∙ leaders_without p) a in
        le_of_mul-le-mul_right (let z : length (solutions_of p) * p.variables ≤ 4096 * p.variables = omega arith in z) w.some

    -- so what `families::families` is lent is right, where the images of all symmetries are in the order too
    pub figure_counted : (images out : List ℕ) → room ≤ 4096 * (problem_lent b pairs block).variables → Images (problem_lent b pairs block) images →
        length (problem_lent b pairs block).symmetries ≤ 136 →
        192 * length (problem_lent b pairs block).symmetries ≤ length images →
        Counted (problem_lent b pairs block) (written (result_of (bare_lent b pairs block) limit room).rows out) images (problem_lent b pairs block).variables
        (length (problem_lent b pairs block).symmetries) plans
    unfolding written
    figure_counted images out l i some long = record {
      lent = record {
        listed = subst (λ (rows : List (List ℕ)). Listed p (flat rows ++ drop (length (flat rows)) out) p.variables) (sym bare_rows)
            (listed_solutions p w r (few l) (drop (length (flat (solutions_of p))) out));
        some = some;
        imaged = i;
        room = long;
      };
      every = bare_plans;
      each = refl;
    }

    -- and what it answers is the figure
    pub figure_number : (k : ℕ) → k ≡ families_of (problem_lent b pairs block) → families_lent b pairs block limit room ≡ number k
    unfolding result_by
    figure_number k a =
        let f = families_lent_lem b pairs block limit room h in
        let bare : Finished (result_by (order_lent b pairs) (problem_bare b) limit room).ending = (plans, made, e) in
        f.counted (f.bare_enough bare) bare ∙ ap number (sym (a ∙ families_reordered (problem_with b block) v s order o))

  -- without symmetries the run is the bare run, and each of its plans is a family
  pub figure_none : (plans made : ℕ) → (problem_with b block).symmetries ≡ [] → (result_by (order_lent b pairs) (problem_with b block) limit room).ending ≡ finished plans made
      → families_lent b pairs block limit room ≡ number plans
  unfolding result_by
  figure_none plans made none e =
      let e' : (result_of (bare_lent b pairs block) limit room).ending ≡ finished plans made = sym ((families_lent_lem b pairs block limit room h).none none) ∙ e in
      figure_number plans made e' plans (bare_plans plans made e' ∙ sym (families_none p w r (ap (map (symmetry_in (order_lent b pairs) (problem_with b block))) none)))

  -- a dash where it isn't finished
  pub figure_dash : (Finished (result_of (bare_lent b pairs block) limit room).ending → ⊥) → families_lent b pairs block limit room ≡ dash
  unfolding result_by
  figure_dash n = (families_lent_lem b pairs block limit room h).dashed (inr n)

  -- there are no more families than solutions, so at most 4,096
  pub figure_few : (k : ℕ) → room ≤ 4096 * (problem_lent b pairs block).variables → families_lent b pairs block limit room ≡ number k → k ≤ 4096
  unfolding families_lent result_by
  figure_few k l = go (ran_with b pairs block limit room) (ran_bare b pairs limit room) refl
    where
      go : (e f : Ending) → (result_of (bare_lent b pairs block) limit room).ending ≡ f → figure_for e f (families_of (problem_with b block)) ≡ number k → k ≤ 4096
      go (finished plans made) (finished plans' made') q z =
          let a = families_more (bare_lent b pairs block) p.symmetries wq rq w r (λ g m. absurd (Memᴰ-not_nil m)) in
          let c = families_none (bare_lent b pairs block) wq rq refl in
          let d : length (solutions_of (bare_lent b pairs block)) ≡ length (solutions_of p) = ap length (solutions_same p []) in
          let m = few plans' made' q l in
          let n = families_reordered (problem_with b block) v s order o in
          let t : families_of (problem_with b block) ≡ k = cc in
          omega arith
      go (finished plans made) (spent plans' made') q z = never (cc)
      go (finished plans made) (full plans' made') q z = never (cc)
      go (spent plans made) f q z = never (cc)
      go (full plans made) f q z = never (cc)
