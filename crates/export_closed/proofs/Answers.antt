-- What `planner_closed` answers, by what it called. Assumes nothing.
use Rattle.model.specs.Kit.{◌≡◌, sym, ap, ◌∙◌, Bool, List, ℕ, length, eq-eqb, ne_eqb}
use Rattle.model.specs.{Lists.choose, Verdict.refused}
use Rattle.run_input.specs.Lent.{verdict_lent, problem_with}
use Rattle.model.proofs.Demands.{reply_refused}
use Rattle.families_closed.specs.{Open.first_open, Lent.Told, Lent.refusal, Lent.closed_lent}
use Rattle.wire.specs.Wire.{wrong_length}
use Rattle.export_closed.specs.Closed.{told_code, told_bytes, closed_code, closed_answer}

module _ (b pairs block answer : List ℕ) where
  abbrev Tested : ℕ → List ℕ → Type 0
  Tested r bytes = (r ≡ closed_code b pairs block answer) × (bytes ≡ closed_answer b pairs block answer)

  pub wrong_answer : (length answer ≡ 12 → ⊥) → Tested wrong_length answer
  unfolding closed_code closed_answer
  wrong_answer h =
      let e = ne_eqb (length answer) 12 h in (
        sym (ap {B = ℕ} (λ (t : Bool). choose t (told_code (closed_lent b pairs block)) wrong_length) e),
        sym (ap {B = List ℕ} (λ (t : Bool). choose t (told_bytes (closed_lent b pairs block) answer) answer) e),
      )

  pub right_answer : (o : Told) (r : ℕ) (bytes : List ℕ) → length answer ≡ 12 → o ≡ closed_lent b pairs block → r ≡ told_code o → bytes ≡ told_bytes o answer → Tested r bytes
  unfolding closed_code closed_answer
  right_answer o r bytes h so code w =
      let e = eq-eqb (length answer) 12 h in (
        code ∙ ap told_code so ∙ sym (ap {B = ℕ} (λ (t : Bool). choose t (told_code (closed_lent b pairs block)) wrong_length) e),
        w ∙ ap (λ (q : Told). told_bytes q answer) so ∙ sym (ap {B = List ℕ} (λ (t : Bool). choose t (told_bytes (closed_lent b pairs block) answer) answer) e),
      )

pub refusal_told : (b pairs block : List ℕ) (number item : ℕ) → refusal number item ≡ closed_lent b pairs block → verdict_lent b pairs block ≡ refused number item
unfolding closed_lent
refusal_told b pairs block number item e = reply_refused (verdict_lent b pairs block) (first_open (problem_with b block)) number item (sym e)
