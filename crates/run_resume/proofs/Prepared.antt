-- What is made of a sheet's bytes again, for a run that goes on (specs/Resume): the arrays hold its problem, with no block, and the variables in their order.
-- Assumes nothing.
use Rattle.model.specs.Kit.{◌≡◌, refl, sym, ap, ◌∙◌, subst, Bool, true, false, List, [], ℕ, ◌*◌, ◌/◌, ◌^◌, ◌≤◌, ◌<◌, arith, T, eqb, length, set, length-set, eqb-true, eqb-false}
use Rattle.model.specs.{Lists.at, Lists.below, Lists.choose, Problem.Problem, Search.nodes, Sheet.problem_of, Inner.WellFormed.WellFormed}
use native.Mathlib.Nat.{div-mul-le_self, div-le_self, le-div_iff_mul-le}
use Rattle.model.proofs.{Accepted.symmetries_are, Accepted.no_nodes_lem, Lists.T_of, Lists.at_set, Lists.at_set_other}
use Rattle.run_input.specs.Inner.Compile.{WithinLimits}
use Rattle.arrays.specs.Inner.{Places.VARIABLES, Places.LIMIT, Places.ROOM, Places.PLANS, Places.ALL, Places.DEEPER, Places.NUMBERS, Layout.Compiled}
use Rattle.sheet.specs.{Meaning.compilable, Inner.Form.Recompilation}
use Rattle.sheet.proofs.Compilable.{compilable_fits, compilable_well}
use Rattle.run_state.specs.Inner.Pair.{ListRoom}
use Rattle.run_tree.proofs.Laws.{dead_below}
use Rattle.run_search.specs.Inner.Begun.{Laid, Begun}
use Rattle.run_search.proofs.Begun.{numbers_kept, laid_alone}
use Rattle.run_resume.specs.Inner.Resume.{PreparedAgain}

-- the bytes are refused
pub again_refused : (b : List ℕ) (more size : ℕ) (work stack' supports' tables' numbers' images : List ℕ) (r : Bool) → Recompilation b numbers' supports' images r → r ≡ false
    → PreparedAgain b more size work stack' work supports' tables' numbers' ALL
again_refused b more size work stack' supports' tables' numbers' images r left e = record {
  none = λ n. (refl, ap (λ (c : Bool). nodes (problem_of (choose c b []))) (sym left.answers ∙ e) ∙ no_nodes_lem);
  compiled = λ z. absurd (omega arith);
  bounded = λ z. absurd (omega arith);
  roomy = λ z. absurd (omega arith);
  order = λ z. absurd (omega arith);
  live = λ z. absurd (omega arith);
  same = λ i l. refl;
}

module _ (b numbers supports images : List ℕ) (r : Bool) (left : Recompilation b numbers supports images r) (is : r ≡ true) where
  abbrev p : Problem
  p = problem_of b

  good : T (compilable b)
  good = T_of (compilable b) (sym left.answers ∙ is)

  well : WellFormed p
  well = compilable_well b good

  abbrev h₀ : Compiled p numbers supports images
  h₀ = left.compiled is

  fits : WithinLimits p
  fits = record {
    well_formed = well;
    symmetries = let l = symmetries_are b in let f = (compilable_fits b good).symmetries in omega arith;
  }

  same_variables : at numbers VARIABLES ≡ p.variables
  same_variables = h₀.numbered.variables

  pub some_variables : 0 < at numbers VARIABLES
  some_variables = let w = well.some in let e = same_variables in omega arith

  module _ (more size : ℕ) (bounded : List ℕ) (put : bounded ≡ set (set numbers LIMIT more) ROOM (size / at numbers VARIABLES)) where
    abbrev room : ℕ
    room = size / at numbers VARIABLES

    long : length numbers ≡ NUMBERS
    long = (left.sizes is).numbers_length

    at_limit : at bounded LIMIT ≡ more
    at_limit = ap (λ (l : List ℕ). at l LIMIT) put ∙ at_set_other (set numbers LIMIT more) ROOM room LIMIT (λ e. omega arith) ∙ at_set numbers LIMIT more (let l = long in omega arith)

    at_room : at bounded ROOM ≡ room
    at_room = ap (λ (l : List ℕ). at l ROOM) put ∙ at_set (set numbers LIMIT more) ROOM room (let l = length-set numbers LIMIT more in let e = long in omega arith)

    bounded_length : length bounded ≡ NUMBERS
    bounded_length = ap length put ∙ length-set (set numbers LIMIT more) ROOM room ∙ length-set numbers LIMIT more ∙ long

    compiled : Compiled p bounded supports images
    compiled = record {
      numbered = numbers_kept p numbers bounded well.few well.most (λ i l. ap (λ (l : List ℕ). at l i) put ∙ at_set_other (set numbers LIMIT more) ROOM room i (λ e. omega arith)
          ∙ at_set_other numbers LIMIT more i (λ e. omega arith)) h₀.numbered;
      supported = h₀.supported;
      imaged = h₀.imaged;
    }

    -- what stands in the arrays then
    pub laid : (bytes : List ℕ) → (length bytes ≡ 16) × ((k : ℕ) → k < 16 → at bytes k ≡ k) → Laid p p (below p.variables) bounded supports images bytes 0 0
    laid bytes placed = laid_alone p bounded supports images bytes compiled fits 0 (λ n. absurd (n refl)) bounded_length placed

    module _ (work stack' work' tables' numbers' : List ℕ) (step : ℕ) (h : Begun (problem_of b) (below (problem_of b).variables) bounded work stack' work' supports tables' numbers' step) where
      few_plans : (k : ℕ) → k * p.variables ≤ size → k ≤ room
      few_plans k l = (le-div_iff_mul-le some_variables).1 (subst (λ (v : ℕ). k * v ≤ size) (sym same_variables) l)

      dead_so : (step ≡ DEEPER → ⊥) → step ≡ ALL
      dead_so n = go (eqb step ALL) refl
        where
          go : (c : Bool) → eqb step ALL ≡ c → step ≡ ALL
          go true c = eqb-true step ALL c
          go false c = absurd (n (h.known (eqb-false step ALL c)))

      pub again : more < 2 ^ 32 → size < 2 ^ 64 → PreparedAgain b more size work stack' work' supports tables' numbers' step
      unfolding nodes
      again small narrow = record {
        none = λ n. let e = dead_so n in (e, ap (λ (c : Bool). nodes (problem_of (choose c b []))) (sym left.answers ∙ is) ∙ dead_below p p.variables [] (h.dead e));
        compiled = λ z. good;
        bounded = λ z. h.first LIMIT (omega arith) ∙ at_limit;
        roomy = λ z. h.first ROOM (omega arith) ∙ at_room ∙ ap (λ (n : ℕ). size / n) same_variables;
        order = λ z. h.order_is;
        live = λ z list sized plans. h.live z (subst (λ (k : ℕ). k < 2 ^ 32) (sym at_limit) small) list (subst (λ (r : ℕ). ListRoom p.variables r list (at work PLANS)) (sym at_room)
            record {
              some = well.some;
              fits = λ o. subst (λ (n : ℕ). room * n ≤ length list) same_variables (let d = div-mul-le_self size (at numbers VARIABLES) in omega arith);
              listed = few_plans (at work PLANS) plans;
              small = let d = div-le_self size (at numbers VARIABLES) in omega arith;
            });
        same = h.same;
      }
