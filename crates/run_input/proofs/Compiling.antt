-- The answers to the questions from those of the parts, and the compiled problem in the settling order. Assumes nothing.
use Rattle.model.specs.Kit.{◌≡◌, refl, sym, ap, ◌∙◌, subst, List, [], ◌∷◌, ℕ, ◌≤◌, arith, T, length, take, length-map}
use Rattle.model.specs.{Lists.at, Problem.Problem, Verdict.Verdict, Verdict.accepted, Verdict.is_accepted, Sheet.verdict_of, Sheet.problem_of}
use Rattle.model.proofs.{Accepted.stated, Accepted.symmetries_are, Accepted.passed, Accepted.is_accepted_lem, Lists.never}
use Rattle.order.specs.{Order.settling_order, Order.order_verdict, Order.Ordering, Reordered.symmetry_in, Reordered.reordered, Inner.Settled.Ordered, Inner.Settled.followed}
use Rattle.order.proofs.{Order.no_pairs, Reordered.well_reordered, LeadersBy.reordered_below}
use Rattle.arrays.specs.{Inner.Layout.Compiled, Inner.Places.VARIABLES}
use Rattle.arrays_order.specs.Inner.Reorder.{Movable, Moved}
use Rattle.std.specs.Prelude.{Result, Ok, Err}
use Rattle.std.specs.Result.{is_ok}
use Rattle.model.specs.{Refusals.verdict_from, Refusals.verdict_from_question, declared.refusals.Question.Question, declared.refusals.Refusal.Refusal}
use Rattle.sheet.specs.{Inner.Form.Sized, Inner.Form.Compilation, Meaning.and_then}
use Rattle.block.specs.Block.{block_lent}
use Rattle.arrays_block.specs.Inner.Asked.{Held}
use Rattle.run_input.specs.{Lent.verdict_lent, Lent.order_lent, Inner.Compile.WithinLimits, Inner.Compile.CompiledLent, Inner.Compile.Lendings, Inner.Compile.AskedLent}
use Rattle.run_input.proofs.Lent.{lent_passed, well_sheet, ordering_lent}

-- ---- the pairs' and the block's questions
module _ (n : ℕ) (pairs old new : List ℕ) (r : Result Unit Question) (o : Ordered n pairs old new r) (long : length old ≡ 16) (block : List ℕ) (p : Problem) (same : n ≡ p.variables) where
  asked : (s : Result Unit Question) → r ≡ s → order_verdict p.variables pairs (block_lent p block) ≡ followed (verdict_from_question s) (block_lent p block)
  asked s e =
      ap (λ (k : ℕ). order_verdict k pairs (block_lent p block)) (sym same) ∙ o.answer (block_lent p block)
      ∙ ap (λ (x : Result Unit Question). followed (verdict_from_question x) (block_lent p block)) e

  pub pairs_refused : (q : Question) → r ≡ Err q → Lendings p pairs block new (Err (record { question = q; item = 0 }))
  pairs_refused q e = record { answers = sym (asked (Err q) e); order_is = λ q. never (cc); order_length = o.size ∙ long }

  pub block_answers : r ≡ Ok tt → (t : Result Unit Refusal) → verdict_from t ≡ block_lent p block → Lendings p pairs block new t
  block_answers none t e = record {
    answers = e ∙ sym (asked (Ok tt) none);
    order_is = λ q. ap (λ (k : ℕ). take k new) (sym same) ∙ o.settled (ap is_ok none) ∙ ap (λ (k : ℕ). settling_order k pairs) same;
    order_length = o.size ∙ long;
  }

-- what the block's questions are lent
pub variables_are : (p : Problem) (numbers supports : List ℕ) → Held p numbers supports → at numbers VARIABLES ≡ p.variables
variables_are p numbers supports h = h.ready.framed.numbered.variables

pub variables_few : (p : Problem) (numbers supports : List ℕ) → Held p numbers supports → at numbers VARIABLES ≤ 12
variables_few p numbers supports h = subst (λ (k : ℕ). k ≤ 12) (sym (variables_are p numbers supports h)) h.well_formed.few

-- ---- the sheet's questions first
module _ (b numbers supports images : List ℕ) (r : Result Unit Refusal) (c : Compilation b numbers supports images r) where
  pub sheet_refused : (pairs block order : List ℕ) (by : Refusal) → r ≡ Err by → length order ≡ 16 → AskedLent b pairs block numbers supports images order (Err by)
  unfolding verdict_lent
  sheet_refused pairs block order by e long = record {
    answers = sym (ap (λ (v : Verdict). and_then v (order_verdict (problem_of b).variables pairs (block_lent (problem_of b) block))) (sym c.answers ∙ ap verdict_from e));
    compiled = λ q. never (cc);
    sizes = λ q. never (cc);
    order_is = λ q. never (cc);
    order_length = long;
  }

  module _ (e : r ≡ Ok tt) where
    accepts : verdict_of b ≡ accepted
    accepts = sym c.answers ∙ ap verdict_from e

    pub held : Held (problem_of b) numbers supports
    held =
        let x = passed b (is_accepted_lem (verdict_of b) accepts) in
        let w = x.well in
        let m = symmetries_are b in
        let g = x.header.symmetries in
        record {
          well_formed = w;
          ready = record {
            framed = record {
              stated = stated w;
              numbered = (c.compiled e).numbered;
            };
            supported = (c.compiled e).supported;
          };
          symmetries = omega arith;
        }

    pub sheet_accepted : (pairs block order : List ℕ) (t : Result Unit Refusal) → Lendings (problem_of b) pairs block order t → AskedLent b pairs block numbers supports images order t
    unfolding verdict_lent
    sheet_accepted pairs block order t l = record {
      answers = l.answers ∙ sym (ap (λ (v : Verdict). and_then v (order_verdict (problem_of b).variables pairs (block_lent (problem_of b) block))) accepts);
      compiled = λ q. c.compiled e;
      sizes = λ q. c.sizes e;
      order_is = l.order_is;
      order_length = l.order_length;
    }

-- ---- the compiled problem in the order
pub compiled_refused : (b pairs block numbers supports images order : List ℕ) (r : Result Unit Refusal) (by : Refusal) → r ≡ Err by →
    AskedLent b pairs block numbers supports images order r → CompiledLent b pairs block numbers supports images order (Err by)
compiled_refused b pairs block numbers supports images order r by e a = record {
  answers = sym (ap verdict_from e) ∙ a.answers;
  compiled = λ q. never (cc);
  limits = λ q. never (cc);
  sizes = λ q. never (cc);
  order_is = λ q. never (cc);
  ordering = λ q. never (cc);
  order_length = a.order_length;
}

module _ (b pairs block numbers supports images order : List ℕ) (r : Result Unit Refusal) (e : r ≡ Ok tt) (a : AskedLent b pairs block numbers supports images order r) where
  abbrev p : Problem
  p = problem_of b

  good : T (is_accepted (verdict_lent b pairs block))
  good = is_accepted_lem (verdict_lent b pairs block) (sym a.answers ∙ ap verdict_from e)

  ordered : Ordering (problem_of b).variables (order_lent b pairs)
  ordered = ordering_lent b pairs block good

  few_symmetries : length (problem_of b).symmetries ≤ 16
  few_symmetries = let l = symmetries_are b in let f = (lent_passed b pairs block good).sheet.header.symmetries in omega arith

  limits : WithinLimits (reordered (order_lent b pairs) (problem_of b))
  limits = record {
    well_formed = well_reordered p (order_lent b pairs) ordered (well_sheet b pairs block good);
    symmetries = let l = length-map p.symmetries (symmetry_in (order_lent b pairs) p) in let f = few_symmetries in omega arith;
  }

  whole : (numbers' supports' images' : List ℕ) → Compiled (reordered (order_lent b pairs) (problem_of b)) numbers' supports' images' → Sized numbers' supports' images'
      → CompiledLent b pairs block numbers' supports' images' order (Ok tt)
  whole numbers' supports' images' c s = record {
    answers = sym (ap verdict_from e) ∙ a.answers;
    compiled = λ q. c;
    limits = λ q. limits;
    sizes = λ q. s;
    order_is = λ q. a.order_is e;
    ordering = λ q. ordered;
    order_length = a.order_length;
  }

  pub movable : Movable (problem_of b) order numbers supports images
  movable = record {
    compiled = a.compiled e;
    well_formed = well_sheet b pairs block good;
    ordering = subst (Ordering p.variables) (sym (a.order_is e)) ordered;
    numbers_length = (a.sizes e).numbers_length;
    supports_length = (a.sizes e).supports_length;
    images_length = let f = few_symmetries in let l = (a.sizes e).images_length in omega arith;
  }

  pub compiled_moved : (numbers' supports' images' : List ℕ) → Moved (problem_of b) order numbers supports images numbers' supports' images'
      → CompiledLent b pairs block numbers' supports' images' order (Ok tt)
  compiled_moved numbers' supports' images' m =
      whole numbers' supports' images' (subst (λ (o : List ℕ). Compiled (reordered o p) numbers' supports' images') (a.order_is e) m.compiled)
      (record {
        numbers_length = m.numbers_length ∙ (a.sizes e).numbers_length;
        supports_length = m.supports_length ∙ (a.sizes e).supports_length;
        images_length = m.images_length
            ∙ (a.sizes e).images_length;
      })

  -- without pairs the order is 0, 1, .., and the problem is the sheet's own
  pub compiled_same : length pairs ≡ 0 → CompiledLent b pairs block numbers supports images order (Ok tt)
  compiled_same h =
      whole numbers supports images
      (subst (λ (q : Problem). Compiled q numbers supports images)
      (sym (ap (λ (l : List ℕ). reordered (settling_order p.variables l) p) (none pairs h) ∙ ap (λ (o : List ℕ). reordered o p) (no_pairs p.variables) ∙ reordered_below p
      (well_sheet b pairs block good))) (a.compiled e))
      (a.sizes e)
    where
      none : (l : List ℕ) → length l ≡ 0 → l ≡ []
      none [] h = refl
      none (x ∷ l) h = absurd (omega arith)
