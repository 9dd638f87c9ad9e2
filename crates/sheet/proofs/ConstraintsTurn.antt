-- The turns of the loop over the constraints. Assumes nothing.
use Rattle.model.specs.Kit.{◌≡◌, refl, sym, ap, ap₂, ◌∙◌, subst, Bool, List, ℕ, suc, ◌+◌, ◌-◌, ◌≤◌, ◌<◌, arith, eqb, eq-eqb, ne_eqb}
use Rattle.model.specs.{Verdict.Verdict, Verdict.refused, Verdict.ask, Sheet.header_of, Sheet.after_at, Sheet.constraint_verdict, Sheet.constraints_verdict}
use Rattle.model.proofs.Lists.{never}
use Rattle.sheet.specs.Inner.Steps.{step_then, ConstraintAsked, offset_at, numbers_to, supports_to, ConstraintsAsked}
use Rattle.std.specs.Prelude.{Result, Ok, Err}
use Rattle.model.specs.{Refusals.number_of, declared.refusals.Question.Question, declared.refusals.Question.TheVariants.ConstraintEnd}
use Rattle.sheet.specs.{Inner.Fill.numbers_with, Inner.Fill.supports_with}

-- k constraints were asked, and the next stands at an offset
pub record ConstraintsTo (b : List ℕ) (c : ℕ) (numbers supports : List ℕ) (k o : ℕ) (numbers' supports' : List ℕ) : Type 0 where
  pub here : o ≡ offset_at b (header_of b).second k
  pub inside : o ≤ (header_of b).third
  pub scoped : numbers' ≡ numbers_to b (header_of b).second k numbers
  pub supported : supports' ≡ supports_to b (header_of b).second k supports
  pub passed : (later : Verdict) → constraints_verdict b (header_of b) c 0 (header_of b).second later ≡ constraints_verdict b (header_of b) (c - k) k o later

pub constraints_none : (b : List ℕ) (c o : ℕ) (numbers supports : List ℕ) → o ≡ (header_of b).second → (header_of b).second ≤ (header_of b).third →
    ConstraintsTo b c numbers supports 0 o numbers supports
unfolding offset_at numbers_to supports_to
constraints_none b c o numbers supports e l =
    record {
      here = e;
      inside = omega arith;
      scoped = refl;
      supported = refl;
      passed = λ later. ap₂ (λ (m : ℕ) (q : ℕ). constraints_verdict b (header_of b) m 0 q later) (let z : c ≡ c - 0 = omega arith in z) (sym e);
    }

module _ (b : List ℕ) (c : ℕ) (numbers supports : List ℕ) (k o : ℕ) (numbers' supports' : List ℕ) (t : ConstraintsTo b c numbers supports k o numbers' supports') (l : k < c) where
  open_one : (later : Verdict) → constraints_verdict b (header_of b) c 0 (header_of b).second later
      ≡ constraint_verdict b (header_of b) k o (constraints_verdict b (header_of b) (c - (k + 1)) (suc k) (after_at b o) later)
  unfolding constraints_verdict
  open_one later = t.passed later ∙ ap (λ (m : ℕ). constraints_verdict b (header_of b) m k o later) (let z : c - k ≡ suc (c - (k + 1)) = omega arith in z)

  pub constraints_no : (asked : Question) (n s : List ℕ) (w : Result ℕ Question) → c ≡ (header_of b).constraints → w ≡ Err asked → ConstraintAsked b o k numbers' supports' n s w
      → ConstraintsAsked b numbers supports n s (Err (record { question = asked; item = k }))
  constraints_no asked n s w e f a' =
      let a = subst (λ (x : Result ℕ Question). ConstraintAsked b o k numbers' supports' n s x) f a' in
      record {
        answers = λ later. (let q = open_one later ∙ a.answers _ in subst (λ (m : ℕ). constraints_verdict b (header_of b) m 0 (header_of b).second later ≡ refused (number_of asked) k) e q);
        scoped = λ q. never (cc);
        supported = λ q. never (cc);
      }

  pub constraints_more : (o' : ℕ) (n s : List ℕ) (w : Result ℕ Question) → w ≡ Ok o' → ConstraintAsked b o k numbers' supports' n s w → ConstraintsTo b c numbers supports (k + 1) o' n s
  unfolding offset_at numbers_to supports_to
  constraints_more o' n s w f a =
      let z : suc k ≡ k + 1 = omega arith in
      let e : o' ≡ after_at b o = a.next o' f in
      record {
        here = e ∙ ap (after_at b) t.here ∙ ap (offset_at b (header_of b).second) z;
        inside = a.inside o' f;
        scoped = a.scoped o' f ∙ ap₂ (λ (q : ℕ) (m : List ℕ). numbers_with b q k m) t.here t.scoped ∙ ap (λ (j : ℕ). numbers_to b (header_of b).second j numbers) z;
        supported = a.supported o' f ∙ ap₂ (λ (q : ℕ) (m : List ℕ). supports_with b q k m) t.here t.supported ∙ ap (λ (j : ℕ). supports_to b (header_of b).second j supports) z;
        passed = λ later. open_one later ∙ a.answers _ ∙ ap (λ (x : Result ℕ Question). step_then x k (constraints_verdict b (header_of b) (c - (k + 1)) (suc k) (after_at b o) later)) f ∙ ap₂
            (λ (j q : ℕ). constraints_verdict b (header_of b) (c - (k + 1)) j q later) z (sym e);
      }

module _ (b : List ℕ) (c : ℕ) (numbers supports : List ℕ) (k o : ℕ) (numbers' supports' : List ℕ) (t : ConstraintsTo b c numbers supports k o numbers' supports') (l : c ≤ k) (m : k ≤ c)
    (e : c ≡ (header_of b).constraints) where
  ended : (later : Verdict) → constraints_verdict b (header_of b) (header_of b).constraints 0 (header_of b).second later ≡ ask (eqb o (header_of b).third) 9 k later
  unfolding constraints_verdict
  ended later =
      ap (λ (j : ℕ). constraints_verdict b (header_of b) j 0 (header_of b).second later) (sym e) ∙ t.passed later
      ∙ ap (λ (j : ℕ). constraints_verdict b (header_of b) j k o later) (let z : c - k ≡ 0 = omega arith in z)

  pub constraints_short : (third : ℕ) → third ≡ (header_of b).third → (o ≡ third → ⊥) → ConstraintsAsked b numbers supports numbers' supports' (Err (record { question = ConstraintEnd; item = c }))
  constraints_short third q h =
      record {
        answers = λ later. ended later ∙ ap (λ (s : Bool). ask s 9 k later) (ne_eqb o (header_of b).third (λ z. h (z ∙ sym q))) ∙ ap (refused 9) (let z : k ≡ c = omega arith in z);
        scoped = λ q. never (cc);
        supported = λ q. never (cc);
      }

  pub constraints_end : (third : ℕ) → third ≡ (header_of b).third → o ≡ third → ConstraintsAsked b numbers supports numbers' supports' (Ok tt)
  constraints_end third q h =
      let z : k ≡ (header_of b).constraints = omega arith in
      record {
        answers = λ later. ended later ∙ ap (λ (s : Bool). ask s 9 k later) (eq-eqb o (header_of b).third (h ∙ q));
        scoped = λ _. t.scoped ∙ ap (λ (j : ℕ). numbers_to b (header_of b).second j numbers) z;
        supported = λ _. t.supported ∙ ap (λ (j : ℕ). supports_to b (header_of b).second j supports) z;
      }
