-- The turns of the loop over the tables. Assumes nothing.
use Rattle.model.specs.Kit.{◌≡◌, refl, sym, ap, ap₂, ◌∙◌, subst, Bool, true, false, List, map, ℕ, suc, ◌+◌, ◌-◌, ◌*◌, ◌≤◌, ◌<◌, arith, mul-le-mul_right, suc-mul, add-one, length}
use Rattle.model.specs.Sheet.{header_of, words, table_at, problem_of, permutes_pairs, form_verdict, symmetries_verdict}
use Rattle.model.specs.{Lists.up_from, Lists.below, Verdict.Verdict, Verdict.accepted, Verdict.refused, Verdict.ask, Problem.respects}
use Rattle.arrays.specs.Inner.Layout.{Numbers}
use Rattle.sheet_table.specs.Inner.Table.{TableAt, Asked, table_of, answer_of, table_answer}
use Rattle.std.specs.Prelude.{Result, Ok, Err}
use Rattle.model.specs.{Refusals.number_of, declared.refusals.Question.Question, declared.refusals.Question.TheVariants.PairsPermuted, declared.refusals.Question.TheVariants.Respected}
use Rattle.model.proofs.Lists.{never}
use Rattle.sheet.specs.{Inner.Form.Formed}
use Rattle.sheet.proofs.Stating.{form_passed}

-- the offset of a table
abbrev pub table_offset : List ℕ → ℕ → ℕ
table_offset b e = (header_of b).third + 2 * (e * ((header_of b).variables * (header_of b).values))

-- the verdict on the tables from e on
abbrev from : List ℕ → ℕ → ℕ → Verdict
from b e k = symmetries_verdict (problem_of b) e (map (table_at b (header_of b)) (up_from e k))

pub record TablesTo (b : List ℕ) (e o : ℕ) : Type 0 where
  pub here : o ≡ table_offset b e
  pub passed : symmetries_verdict (problem_of b) 0 (problem_of b).symmetries ≡ from b e ((header_of b).symmetries - e)

pub tables_none : (b : List ℕ) (o : ℕ) → o ≡ (header_of b).third → TablesTo b 0 o
unfolding problem_of below
tables_none b o q =
    record {
      here = (let z : table_offset b 0 ≡ (header_of b).third = omega arith in q ∙ sym z);
      passed = ap (from b 0) (let z : (header_of b).symmetries ≡ (header_of b).symmetries - 0 = omega arith in z);
    }

-- each table stands whole before the end
pub table_room : (b : List ℕ) (e : ℕ) → length b ≡ table_offset b (header_of b).symmetries → e < (header_of b).symmetries →
    table_offset b e + 2 * ((header_of b).variables * (header_of b).values) ≤ length b
table_room b e f l =
    let nd = (header_of b).variables * (header_of b).values in
    let h : suc e * nd ≤ (header_of b).symmetries * nd = mul-le-mul_right nd l in
    let z : suc e * nd ≡ e * nd + nd = suc-mul e nd in
    omega arith

-- the table at its offset
pub table_is : (b : List ℕ) (e o : ℕ) → o ≡ table_offset b e → table_of (problem_of b) b o ≡ table_at b (header_of b) e
unfolding problem_of table_at
table_is b e o q = ap (λ (x : ℕ). words b x ((header_of b).variables * (header_of b).values)) q

asked_both : (s t : Bool) (e : ℕ) (later : Verdict) → answer_of s t ≡ Ok tt → ask s 15 e (ask t 16 e later) ≡ later
asked_both true true e later q = refl
asked_both true false e later q = never (cc)
asked_both false t e later q = never (cc)

asked_no : (s t : Bool) (e : ℕ) (asked : Question) (later : Verdict) → answer_of s t ≡ Err asked → ask s 15 e (ask t 16 e later) ≡ refused (number_of asked) e
asked_no true true e asked later q = never (cc)
asked_no true false e asked later q = ap (λ (x : Question). refused (number_of x) e) (let z : Respected ≡ asked = cc in z)
asked_no false t e asked later q = ap (λ (x : Question). refused (number_of x) e) (let z : PairsPermuted ≡ asked = cc in z)

-- what question 15 asks, and what both do
pub table_framed : (b numbers : List ℕ) (e o : ℕ) → form_verdict b accepted ≡ accepted → Numbers (problem_of b) numbers → o ≡ table_offset b e → e < (header_of b).symmetries → TableAt
    (problem_of b) b o numbers
unfolding problem_of
table_framed b numbers e o f n t l =
    let r = form_passed b f in
    record {
      framed = record { stated = r.states; numbered = n };
      whole = subst (λ (x : ℕ). x + 2 * ((header_of b).variables * (header_of b).values) ≤ length b) (sym t) (table_room b e r.filled l);
    }

pub table_asked : (b numbers supports : List ℕ) (e o : ℕ) → Formed b numbers supports → TablesTo b e o → e < (header_of b).symmetries → Asked (problem_of b) b o numbers supports
table_asked b numbers supports e o f t l =
    let r = table_framed b numbers e o f.passed f.numbered t.here l in
    record { ready = record { framed = r.framed; supported = f.supported }; whole = r.whole }

module _ (b : List ℕ) (e o : ℕ) (t : TablesTo b e o) (l : e < (header_of b).symmetries) (k : Result Unit Question) (q : k ≡ table_answer (problem_of b) b o) where
  rest : (header_of b).symmetries - e ≡ suc ((header_of b).symmetries - (e + 1))
  rest = omega arith

  open_one : symmetries_verdict (problem_of b) 0 (problem_of b).symmetries
      ≡ ask (permutes_pairs (problem_of b) (table_at b (header_of b) e)) 15 e (ask (respects (problem_of b) (table_at b (header_of b) e)) 16 e (from b (suc e) ((header_of b).symmetries - (e + 1))))
  unfolding symmetries_verdict up_from
  open_one = t.passed ∙ ap (from b e) rest

  answer_is : k ≡ answer_of (permutes_pairs (problem_of b) (table_at b (header_of b) e)) (respects (problem_of b) (table_at b (header_of b) e))
  answer_is = q ∙ ap (λ (x : List ℕ). answer_of (permutes_pairs (problem_of b) x) (respects (problem_of b) x)) (table_is b e o t.here)

  pub tables_no : (asked : Question) → k ≡ Err asked → refused (number_of asked) e ≡ symmetries_verdict (problem_of b) 0 (problem_of b).symmetries
  tables_no asked z =
      sym (open_one ∙ asked_no (permutes_pairs (problem_of b) (table_at b (header_of b) e)) (respects (problem_of b) (table_at b (header_of b) e)) e asked _ (sym answer_is ∙ z))

  pub tables_more : (n d : ℕ) → n ≡ (header_of b).variables → d ≡ (header_of b).values → k ≡ Ok tt → TablesTo b (e + 1) (o + 2 * (n * d))
  tables_more n d en ed z =
      let nd = (header_of b).variables * (header_of b).values in
      let w : suc e * nd ≡ e * nd + nd = suc-mul e nd in
      let v : (e + 1) * nd ≡ e * nd + nd = ap (λ (x : ℕ). x * nd) (add-one e) ∙ w in
      let u : n * d ≡ nd = ap₂ (λ (x y : ℕ). x * y) en ed in
      record {
        here = omega (arith, t.here);
        passed = open_one ∙ asked_both (permutes_pairs (problem_of b) (table_at b (header_of b) e)) (respects (problem_of b) (table_at b (header_of b) e)) e _ (sym answer_is ∙ z)
            ∙ ap (λ (x : ℕ). from b x ((header_of b).symmetries - (e + 1))) (sym (add-one e));
      }

pub tables_end : (b : List ℕ) (e o : ℕ) → TablesTo b e o → (header_of b).symmetries ≤ e → accepted ≡ symmetries_verdict (problem_of b) 0 (problem_of b).symmetries
unfolding symmetries_verdict up_from
tables_end b e o t l = sym (t.passed ∙ ap (from b e) (let z : (header_of b).symmetries - e ≡ 0 = omega arith in z))
