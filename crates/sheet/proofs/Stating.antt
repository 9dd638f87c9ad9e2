-- The problem that a sheet states once it passed questions 1 to 14, as questions 15 and 16 want it. Assumes nothing.
use Rattle.model.specs.Kit.{◌≡◌, refl, sym, ◌∙◌, subst, List, ℕ, ◌+◌, ◌*◌, ◌^◌, ◌<◌, arith, T, eqb→eq, length}
use Rattle.model.specs.{Lists.at, Lists.below, Verdict.Verdict, Verdict.accepted, Verdict.ask, Verdict.is_accepted, Sheet.header_of, Sheet.problem_of, Sheet.tables_fit, Sheet.form_verdict}
use Rattle.model.specs.{Inner.WellFormed.Stated}
use Rattle.model.proofs.{Lists.below_i, Accepted.asked, Accepted.at_words, Accepted.sets_e, Accepted.constraints_e, Accepted.is_accepted_lem, Accepted.length_constraints}
use Rattle.sheet.specs.{Inner.Parts.sets_asked, Inner.Parts.Fit, Inner.Steps.constraints_asked}
use Rattle.sheet.proofs.Passed.{fit}

-- what passing questions 1 to 14 leaves
pub record FormPassed (b : List ℕ) : Type 0 where
  pub fits : Fit b
  pub states : Stated (problem_of b)
  pub nonempty : (x : ℕ) → x < (header_of b).variables → 0 < at (problem_of b).initial x
  pub filled : length b ≡ (header_of b).third + 2 * ((header_of b).symmetries * ((header_of b).variables * (header_of b).values))

-- and so is what is asked after them
pub form_e : (b : List ℕ) (later : Verdict) → T (is_accepted (form_verdict b later)) → FormPassed b × T (is_accepted later)
unfolding form_verdict problem_of
form_e b later t =
    let h = header_of b in
    let ends = ask (tables_fit h) 14 0 later in
    let q1 = fit b (sets_asked b (constraints_asked b ends)) t in
    let q8 = sets_e b h (below h.variables) (constraints_asked b ends) q1.1 in
    let q9 = constraints_e (problem_of b) b h refl refl h.constraints 0 h.second ends q8.1 in
    let q14 = asked (tables_fit h) 14 0 later q9.1 in
    let f = q1.0 in
    let r : FormPassed b = record {
      fits = f;
      states = record {
        few = f.few;
        one = f.one;
        sixteen = f.sixteen;
        narrow = λ x l. subst (λ (s : ℕ). s < 2 ^ h.values) (sym (at_words b 16 h.variables x l)) (q8.0 x (below_i h.variables x l)).0;
        most = (let z = length_constraints b h.constraints h.second in omega (arith, f.constraints));
        constrained = q9.0;
      };
      nonempty = λ x l. subst (λ (s : ℕ). 0 < s) (sym (at_words b 16 h.variables x l)) (q8.0 x (below_i h.variables x l)).1;
      filled = sym f.whole ∙ eqb→eq h.size (h.third + 2 * (h.symmetries * (h.variables * h.values))) q14.0;
    } in
    (r, q14.1)

pub form_passed : (b : List ℕ) → form_verdict b accepted ≡ accepted → FormPassed b
form_passed b e = (form_e b accepted (is_accepted_lem (form_verdict b accepted) e)).0
