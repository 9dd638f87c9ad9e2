-- What `families` answers, by what it called. Assumes nothing.
use Rattle.model.specs.Kit.{◌≡◌, sym, ap, ◌∙◌, Bool, List, ℕ, ◌*◌, length, eq-eqb, ne_eqb}
use Rattle.model.specs.{Lists.choose, Verdict.refused, Sheet.problem_of}
use Rattle.model.proofs.Demands.{reply_refused}
use Rattle.run_input.specs.Lent.{verdict_lent}
use Rattle.families_figure.specs.Figure.{families_lent}
use Rattle.families_count.specs.Told.{Told, refusal, counted_lent}
use Rattle.wire.specs.Wire.{wrong_length}
use Rattle.export_families.specs.Families.{figure_code, counted_bytes, families_code, families_answer, CallFigured}

module _ (b pairs block : List ℕ) (limit : ℕ) (answer : List ℕ) where
  pub wrong_answer : (length answer ≡ 12 → ⊥) → CallFigured b pairs block limit answer wrong_length answer
  unfolding families_code families_answer
  wrong_answer h =
      let e = ne_eqb (length answer) 12 h in
      record {
        returns = sym (ap {B = ℕ} (λ (t : Bool). choose t (figure_code (counted_lent b pairs block limit)) wrong_length) e);
        tells = sym (ap {B = List ℕ} (λ (t : Bool). choose t (counted_bytes (counted_lent b pairs block limit) answer) answer) e);
      }

  pub right_answer : (o : Told) (r : ℕ) (bytes : List ℕ) → length answer ≡ 12 → o ≡ counted_lent b pairs block limit → r ≡ figure_code o → bytes ≡ counted_bytes o answer
      → CallFigured b pairs block limit answer r bytes
  unfolding families_code families_answer
  right_answer o r bytes h so code w =
      let e = eq-eqb (length answer) 12 h in
      record {
        returns = code ∙ ap figure_code so ∙ sym (ap {B = ℕ} (λ (t : Bool). choose t (figure_code (counted_lent b pairs block limit)) wrong_length) e);
        tells = w ∙ ap (λ (q : Told). counted_bytes q answer) so ∙ sym (ap {B = List ℕ} (λ (t : Bool). choose t (counted_bytes (counted_lent b pairs block limit) answer) answer) e);
      }

pub refusal_counted : (b pairs block : List ℕ) (limit n i : ℕ) → refusal n i ≡ counted_lent b pairs block limit → verdict_lent b pairs block ≡ refused n i
unfolding counted_lent
refusal_counted b pairs block limit n i e = reply_refused (verdict_lent b pairs block) (families_lent b pairs block limit (4096 * (problem_of b).variables)) n i (sym e)
