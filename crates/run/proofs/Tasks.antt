-- What a run that counted up to one plan less than are asked for says. Assumes nothing.
use Rattle.model.specs.Kit.{◌≡◌, refl, sym, ap, ◌∙◌, Bool, true, false, List, ℕ, zero, suc, ◌*◌, ◌-◌, ◌≤◌, arith, leb, length}
use Rattle.model.specs.Run.{Ending, finished, spent, full, ended, result_of}
use Rattle.model.specs.{Problem.Problem, Search.nodes, Verdict.Verdict, Verdict.accepted, Verdict.refused, Verdict.reply, Sheet.problem_of, Claims.plans_among}
use Rattle.run_input.specs.Lent.{verdict_lent, problem_lent}
use Rattle.run_input.proofs.Lent.{well_sheet}
use Rattle.run_enough.specs.{AtLeast.Enough, AtLeast.enough, AtLeast.too_few, AtLeast.unknown, AtLeast.enough_of, AtLeast.nodes_to, Lent.answered, Lent.enough_lent}
use Rattle.run_enough.proofs.AtLeast.{enough_none_lem, says, enough_run}
use Rattle.run.specs.{Meaning.means, Inner.Whole.Wanted, Inner.Tasks.enough_none, Inner.Tasks.enough_for}
use Rattle.model.proofs.Accepted.{is_accepted_lem}
use Rattle.model.specs.Run as Run
use Rattle.std.specs.Prelude.{Result}
use Rattle.model.specs.declared.refusals.Refusal.{Refusal}
use Rattle.run_state.specs.declared.Ending as S

pub none_asked : (b pairs block : List ℕ) (limit : ℕ) → enough_none b pairs block ≡ enough_lent b pairs block limit 0
unfolding enough_none enough_lent
none_asked b pairs block limit = ap (λ (x : Enough). reply (verdict_lent b pairs block) x) (sym (enough_none_lem (problem_lent b pairs block) limit))

-- yes says m
abbrev yes_for : Enough → ℕ → ℕ
yes_for (enough plans made) m = plans
yes_for (too_few plans made) m = m
yes_for (unknown plans made) m = m

yes_exactly : (p : Problem) (limit m : ℕ) → yes_for (enough_of p limit m) m ≡ m
unfolding enough_of
yes_exactly p limit m = go (leb m (plans_among p limit)) (leb (length (nodes p)) limit)
  where
    go : (c d : Bool) → yes_for (elim c [
      | true ↦ enough m (nodes_to p m)
      | false ↦ elim d [ true ↦ too_few (plans_among p limit) (length (nodes p)) | false ↦ unknown (plans_among p limit) limit ]
    ]) m ≡ m
    go true d = refl
    go false true = refl
    go false false = refl

module _ (p : Problem) (limit m : ℕ) (some : 1 ≤ p.variables) where
  said_ending : (e : Ending) → (result_of p limit (m * p.variables)).ending ≡ e → enough_for (ended e) (suc m) ≡ answered (enough_of p limit (suc m))
  said_ending e z = go e (enough_run p limit m some ∙ ap says z)
    where
      go : (e : Ending) → enough_of p limit (suc m) ≡ says e → enough_for (ended e) (suc m) ≡ answered (enough_of p limit (suc m))
      go (finished plans made) s = ap answered (sym s)
      go (spent plans made) s = ap answered (sym s)
      go (full plans made) s = ap answered (ap (λ (k : ℕ). enough k made) (sym (yes_exactly p limit (suc m)) ∙ ap (λ (y : Enough). yes_for y (suc m)) s) ∙ sym s)

module _ (b pairs block : List ℕ) (limit : ℕ) (r : Result S.Ending Refusal) where
  said_more : (m : ℕ) → Wanted (suc m) b pairs block limit r → enough_for (means r) (suc m) ≡ enough_lent b pairs block limit (suc m)
  unfolding enough_lent
  said_more m h = go (verdict_lent b pairs block) refl
    where
      go : (v : Verdict) → verdict_lent b pairs block ≡ v → enough_for (means r) (suc m) ≡ reply v (enough_of (problem_lent b pairs block) limit (suc m))
      go (refused number item) v = ap (λ (x : Run.Answer). enough_for x (suc m)) (h.refused number item v)
      go accepted v =
          let some = (well_sheet b pairs block (is_accepted_lem (verdict_lent b pairs block) v)).some in
          let e : suc m - 1 ≡ m = omega arith in
          ap (λ (x : Run.Answer). enough_for x (suc m)) (h.ended v ∙ ap (λ (k : ℕ). ended (result_of (problem_lent b pairs block) limit (k * (problem_of b).variables)).ending) e)
          ∙ said_ending (problem_lent b pairs block) limit m some (result_of (problem_lent b pairs block) limit (m * (problem_of b).variables)).ending refl

  pub said_enough : (m : ℕ) → (m ≡ 0 → ⊥) → Wanted m b pairs block limit r → enough_for (means r) m ≡ enough_lent b pairs block limit m
  said_enough zero n h = absurd (n refl)
  said_enough (suc m) n h = said_more m h
