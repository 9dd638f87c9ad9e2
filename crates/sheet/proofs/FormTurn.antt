-- The answer to questions 1 to 14 from those of the parts. Assumes nothing.
use Rattle.model.specs.Kit.{◌≡◌, refl, sym, ap, ap₂, ◌∙◌, subst, Bool, true, false, List, ℕ, ◌*◌, ◌≤◌, ◌<◌, mul-le-mul, length, lt-leb}
use Rattle.model.specs.{Verdict.Verdict, Verdict.accepted, Verdict.ask, Sheet.Header as Numbers', Sheet.header_of, Sheet.problem_of, Sheet.header_verdict, Sheet.tables_fit, Sheet.form_verdict}
use Rattle.arrays.specs.{Inner.Layout.Numbers, Inner.Layout.Supports, Inner.Places.SUPPORTS, Inner.Places.NUMBERS}
use Rattle.sheet.specs.Inner.Parts.{header_asked, sets_asked, Fit, AllSets, SetsAsked}
use Rattle.sheet.specs.Inner.Form.{Zeros, counted, FormAsked, FormRead}
use Rattle.std.specs.Prelude.{Result, Ok, Err}
use Rattle.model.specs.{Refusals.verdict_from, Refusals.verdict_from_question, declared.refusals.Question.Question, declared.refusals.Refusal.Refusal}
use Rattle.model.specs.declared.refusals.Question.TheVariants.{Header as HeaderAsked, TableLength}
use Rattle.sheet.specs.{Meaning.and_then, Meaning.Answers, Inner.Steps.constraints_asked, Inner.Steps.ConstraintsAsked, Inner.Steps.numbers_to}
use Rattle.reader.specs.{Inner.Read.stated, declared.Header.Header}
use Rattle.sheet.proofs.{Asking.stop, Passed.fit, Passed.good, Numbered.numbered, Numbered.numbered_length, Numbered.supports_length, Numbered.supports_hold}
use Rattle.model.proofs.{Accepted.is_accepted_lem, Lists.never}

-- counts multiplied
pub pair_room : (n d : ℕ) → n ≤ 12 → d ≤ 16 → n * d ≤ 192
pair_room n d hn hd = mul-le-mul hn hd

pub tables_room : (g n d : ℕ) → g ≤ 16 → n ≤ 12 → d ≤ 16 → g * (n * d) ≤ 3072
tables_room g n d hg hn hd = mul-le-mul hg (mul-le-mul hn hd)

pub same_size : (n d m v : ℕ) → n ≡ m → d ≡ v → n * d ≡ m * v
same_size n d m v en ed = ap₂ (λ (x y : ℕ). x * y) en ed

-- without a "no" the rest decides
no_no : (p : Verdict → Verdict) (v : Verdict) → v ≡ accepted → Answers p v → (later : Verdict) → p later ≡ later
no_no p v e a later = a later ∙ ap (λ (x : Verdict). and_then x later) e

refusal : (b numbers supports : List ℕ) (by : Refusal) → Answers (form_verdict b) (verdict_from (Err by)) → FormAsked b numbers supports (Err by)
refusal b numbers supports by a = record { answers = a; formed = λ q. never (cc) }

pub fit_of : (b : List ℕ) (v : Verdict) → v ≡ accepted → Answers (header_asked b) v → Fit b
fit_of b v e a = (fit b accepted (is_accepted_lem (header_asked b accepted) (no_no (header_asked b) v e a accepted))).0

module _ (b : List ℕ) where
  abbrev ends : Verdict → Verdict
  ends later = ask (tables_fit (header_of b)) 14 0 later

  -- by a question of the header, which is asked once
  pub form_heading : (numbers supports : List ℕ) (r : Result Unit Question) (q : Question) (by : Refusal) → r ≡ Err q → by ≡ record { question = q; item = 0 } →
      Answers (header_asked b) (verdict_from_question r) → FormAsked b numbers supports (Err by)
  unfolding form_verdict
  form_heading numbers supports r q by e s a =
      refusal b numbers supports by
      (λ later. a _ ∙ ap (λ (x : Result Unit Question). and_then (verdict_from_question x) (sets_asked b (constraints_asked b (ends later)))) e ∙ ap (λ (x : Refusal). verdict_from (Err x)) (sym s))

  module _ (v₁ : Verdict) (e₁ : v₁ ≡ accepted) (a₁ : Answers (header_asked b) v₁) where
    pub form_sets : (numbers supports old new : List ℕ) (m : ℕ) (r : Result Unit Refusal) (by : Refusal) → r ≡ Err by → SetsAsked b m old new r → FormAsked b numbers supports (Err by)
    unfolding form_verdict
    form_sets numbers supports old new m r by e a =
        refusal b numbers supports by
        (λ later. no_no (header_asked b) v₁ e₁ a₁ _ ∙ a.answers _ ∙ ap (λ (x : Result Unit Refusal). and_then (verdict_from x) (constraints_asked b (ends later))) e)

    module _ (m : ℕ) (old mid : List ℕ) (r₂ : Result Unit Refusal) (e₂ : r₂ ≡ Ok tt) (a₂ : SetsAsked b m old mid r₂) where
      sets_passed : (later : Verdict) → sets_asked b later ≡ later
      sets_passed = no_no (sets_asked b) (verdict_from r₂) (ap verdict_from e₂) a₂.answers

      pub form_constraints : (sup numbers supports : List ℕ) (r : Result Unit Refusal) (by : Refusal) → r ≡ Err by → ConstraintsAsked b mid sup numbers supports r →
          FormAsked b numbers supports (Err by)
      unfolding form_verdict
      form_constraints sup numbers supports r by e a =
          refusal b numbers supports by
          (λ later. no_no (header_asked b) v₁ e₁ a₁ _ ∙ sets_passed _ ∙ a.answers _ ∙ ap (λ (x : Result Unit Refusal). and_then (verdict_from x) (ends later)) e)

      module _ (sup numbers supports : List ℕ) (r₃ : Result Unit Refusal) (e₃ : r₃ ≡ Ok tt) (a₃ : ConstraintsAsked b mid sup numbers supports r₃) (h : Header) (eh : stated h ≡ header_of b) (t : Bool)
          (et : t ≡ tables_fit (stated h)) where
        constraints_passed : (later : Verdict) → constraints_asked b later ≡ later
        constraints_passed = no_no (constraints_asked b) (verdict_from r₃) (ap verdict_from e₃) a₃.answers

        asked : (v : Bool) → t ≡ v → (later : Verdict) → form_verdict b later ≡ ask v 14 0 later
        unfolding form_verdict
        asked v q later =
            no_no (header_asked b) v₁ e₁ a₁ _ ∙ sets_passed _ ∙ constraints_passed _
            ∙ ap (λ (x : Bool). ask x 14 0 later) (ap tables_fit (sym eh) ∙ sym et ∙ q)

        pub form_length : (by : Refusal) → by ≡ record { question = TableLength; item = 0 } → t ≡ false → FormAsked b numbers supports (Err by)
        form_length by s q = refusal b numbers supports by (λ later. asked false q later ∙ ap (λ (x : Refusal). verdict_from (Err x)) (sym s))

        pub form_whole : (last : List ℕ) → t ≡ true → m ≡ (header_of b).variables → Zeros NUMBERS old → Zeros SUPPORTS sup → last ≡ counted h.variables h.values h.constraints
            h.symmetries numbers → FormAsked b last supports (Ok tt)
        form_whole last q em zn zs el =
            let f = fit_of b v₁ e₁ a₁ in
            let gs = (good b (header_of b) (header_of b).constraints 0 (header_of b).second accepted
            (is_accepted_lem (constraints_asked b accepted) (constraints_passed accepted))).0 in
            let sets = subst (λ (x : ℕ). AllSets b x old mid) em (a₂.filled e₂) in
            record {
              answers = asked true q;
              formed = λ _. record {
                passed = asked true q accepted;
                numbered = subst (Numbers (problem_of b)) (sym (el ∙ whole)) (numbered b f gs old mid zn.sized zn.blank sets);
                supported = subst (Supports (problem_of b)) (sym (a₃.supported e₃)) (supports_hold b f gs sup zs.sized zs.blank);
                numbers_length = ap length (el ∙ whole) ∙ numbered_length b f gs old mid zn.sized zn.blank sets;
                supports_length = ap length (a₃.supported e₃) ∙ supports_length b f gs sup zs.sized zs.blank;
              };
            }
          where
            whole : counted h.variables h.values h.constraints h.symmetries numbers
                ≡ counted (header_of b).variables (header_of b).values (header_of b).constraints (header_of b).symmetries (numbers_to b (header_of b).second (header_of b).constraints mid)
            whole =
                ap (λ (x : Numbers'). counted x.variables x.values x.constraints x.symmetries numbers) eh
                ∙ ap (counted (header_of b).variables (header_of b).values (header_of b).constraints (header_of b).symmetries) (a₃.scoped e₃)

-- ---- with question 1 and the header as read
pub read_no : (b numbers supports : List ℕ) (r : Result Unit Refusal) (by : Refusal) → r ≡ Err by → FormAsked b numbers supports r → FormRead b numbers supports (Err by)
read_no b numbers supports r by e a = record { asked = subst (FormAsked b numbers supports) e a; headed = λ h q. never (cc) }

pub read_yes : (b numbers supports : List ℕ) (h : Header) (r : Result Unit Refusal) → stated h ≡ header_of b → r ≡ Ok tt → FormAsked b numbers supports r → FormRead b numbers supports (Ok h)
read_yes b numbers supports h r eh e a = record { asked = subst (FormAsked b numbers supports) e a; headed = λ k q. subst (λ (x : Header). stated x ≡ header_of b) (same k q) eh }
  where
    same : (k : Header) → ◌≡◌ {A = Result Header Refusal} (Ok h) (Ok k) → h ≡ k
    same k q = cc

pub read_short : (b numbers supports : List ℕ) (by : Refusal) → by ≡ record { question = HeaderAsked; item = 0 } → length b < 16 → FormRead b numbers supports (Err by)
unfolding header_verdict
read_short b numbers supports by s l =
    record {
      asked = form_heading b numbers supports (Err HeaderAsked) HeaderAsked by refl s (λ later. stop _ _ _ _ (lt-leb _ _ l));
      headed = λ h q. never (cc);
    }
