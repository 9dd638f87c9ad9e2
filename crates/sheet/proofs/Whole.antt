-- The answer to all questions from those of the two parts. Assumes nothing.
use Rattle.model.specs.Kit.{Bool, true, false, ◌≡◌, refl, sym, ap, ◌∙◌, List, ℕ, replicate, length-replicate}
use Rattle.model.specs.{Verdict.Verdict, Verdict.accepted, Verdict.ask, Verdict.is_accepted, Sheet.problem_of, Sheet.permutes_pairs, Sheet.form_verdict, Sheet.symmetries_verdict, Sheet.verdict_of}
use mathlib.Core.Bool.{false≢true}
use Rattle.model.proofs.{Lists.at_replicate, Lists.all_i, Lists.of_T, Lists.never, Accepted.symmetries_e, Accepted.is_accepted_lem}
use Rattle.arrays.specs.Inner.Layout.{Compiled}
use Rattle.reader.specs.declared.Header.{Header}
use Rattle.std.specs.Prelude.{Result, Ok, Err}
use Rattle.model.specs.{Refusals.verdict_from, declared.refusals.Refusal.Refusal}
use Rattle.sheet.specs.{Meaning.and_then, Meaning.compilable, Inner.Decoding.permuting, Inner.Decoding.Tabled, Inner.Decoding.TablesDecoded, Inner.Form.Zeros, Inner.Form.Formed}
use Rattle.sheet.specs.{Inner.Form.without_header, Inner.Form.FormRead, Inner.Form.Sized, Inner.Form.Compilation, Inner.Form.Recompilation}
use Rattle.sheet.proofs.Compilable.{asked_last}

pub zeros : (n : ℕ) → Zeros n (replicate n 0)
zeros n = record { sized = length-replicate n 0; blank = at_replicate n }

-- the tables' questions come after the others
parts : (b : List ℕ) → verdict_of b ≡ form_verdict b (symmetries_verdict (problem_of b) 0 (problem_of b).symmetries)
unfolding verdict_of
parts b = refl

module _ (b numbers supports : List ℕ) (r : Result Header Refusal) (o : FormRead b numbers supports r) where
  form_verdict_lem : (s : Result Header Refusal) (later : Verdict) → r ≡ s → form_verdict b later ≡ and_then (verdict_from (without_header s)) later
  form_verdict_lem s later e = o.asked.answers later ∙ ap (λ (x : Result Header Refusal). and_then (verdict_from (without_header x)) later) e

  pub whole_no : (by : Refusal) → r ≡ Err by → verdict_from (Err by) ≡ verdict_of b
  whole_no by e = sym (parts b ∙ form_verdict_lem (Err by) _ e)

  pub whole_yes : (h : Header) (t : Result Unit Refusal) → r ≡ Ok h → verdict_from t ≡ symmetries_verdict (problem_of b) 0 (problem_of b).symmetries → verdict_from t ≡ verdict_of b
  whole_yes h t e q = q ∙ sym (parts b ∙ form_verdict_lem (Ok h) _ e)

  pub formed : (h : Header) → r ≡ Ok h → Formed b numbers supports
  formed h e = o.asked.formed (ap without_header e)

-- a refusal leaves the arrays free
pub compile_no : (b numbers supports images : List ℕ) (by : Refusal) → verdict_from (Err by) ≡ verdict_of b → Compilation b numbers supports images (Err by)
compile_no b numbers supports images by a = record { answers = a; compiled = λ q. never (cc); sizes = λ q. never (cc) }

-- ---- the tables
-- question 15 was asked with the verdict on the tables, or was not asked yet
pub tables_asked : (b numbers supports : List ℕ) (r : Result Unit Refusal) → Formed b numbers supports → r ≡ Ok tt → verdict_from r ≡ symmetries_verdict (problem_of b) 0 (problem_of b).symmetries →
    Tabled b numbers true
tables_asked b numbers supports r f e q =
    let p = problem_of b in
    record {
      passed = f.passed;
      numbered = f.numbered;
      known = λ _. of_T (permuting b) (all_i (permutes_pairs p) p.symmetries (λ g m. (symmetries_e p 0 p.symmetries (is_accepted_lem _ (sym q ∙ ap verdict_from e)) g m).0));
    }

pub tables_new : (b numbers supports : List ℕ) → Formed b numbers supports → Tabled b numbers false
tables_new b numbers supports f = record { passed = f.passed; numbered = f.numbered; known = λ q. absurd (false≢true q) }

compiled : (b numbers supports images : List ℕ) (t : Bool) → Formed b numbers supports → TablesDecoded b images t → t ≡ true → Compiled (problem_of b) numbers supports images
compiled b numbers supports images t f d e = record { numbered = f.numbered; supported = f.supported; imaged = d.imaged e }

sizes : (b numbers supports images : List ℕ) (t : Bool) → Formed b numbers supports → TablesDecoded b images t → Sized numbers supports images
sizes b numbers supports images t f d = record { numbers_length = f.numbers_length; supports_length = f.supports_length; images_length = d.sized }

pub compile_yes : (b numbers supports images : List ℕ) (t : Bool) → Formed b numbers supports → verdict_of b ≡ accepted → Tabled b numbers true → TablesDecoded b images t
    → Compilation b numbers supports images (Ok tt)
compile_yes b numbers supports images t f v k d =
    record { answers = sym v; compiled = λ _. compiled b numbers supports images t f d (d.answers ∙ k.known refl); sizes = λ _. sizes b numbers supports images t f d }

-- ---- without question 16
module _ (b numbers supports images : List ℕ) (r : Result Header Refusal) (o : FormRead b numbers supports r) where
  pub recompile_no : (by : Refusal) → r ≡ Err by → Recompilation b numbers supports images false
  unfolding compilable
  recompile_no by e =
      record {
        answers = sym (ap is_accepted (form_verdict_lem b numbers supports r o (Err by) (ask (permuting b) 15 0 accepted) e));
        compiled = λ q. absurd (false≢true q);
        sizes = λ q. absurd (false≢true q);
      }

  pub recompile_yes : (h : Header) (t : Bool) → r ≡ Ok h → TablesDecoded b images t → Recompilation b numbers supports images t
  unfolding compilable
  recompile_yes h t e d =
      let f = formed b numbers supports r o h e in
      record {
        answers = d.answers ∙ sym (ap is_accepted (form_verdict_lem b numbers supports r o (Ok h) (ask (permuting b) 15 0 accepted) e) ∙ asked_last (permuting b));
        compiled = compiled b numbers supports images t f d;
        sizes = λ _. sizes b numbers supports images t f d;
      }
