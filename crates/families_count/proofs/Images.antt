-- The images under all symmetries of a run, its variables in the settling order. Assumes nothing.
use Rattle.model.specs.Kit.{◌≡◌, refl, sym, ap, ◌∙◌, subst, List, [], ◌∷◌, ℕ, suc, ◌+◌, ◌/◌, ◌%◌, ◌^◌, ◌≤◌, ◌<◌, arith, T, eqb, length, set, length-map, length-set}
use Rattle.model.specs.{Lists.any, Lists.at, ValueSets.has, Problem.Problem, Problem.with_symmetries, Problem.constraint_at, Verdict.accepted, Verdict.is_accepted, Sheet.problem_of}
use Rattle.model.proofs.{Lists.at_set, Lists.at_set_other, Accepted.is_accepted_lem}
use Rattle.arrays.specs.Inner.{Places.INITIAL, Places.SCOPES, Places.VARIABLES, Places.VALUES, Places.CONSTRAINTS, Places.SYMMETRIES, Places.NUMBERS, Places.WIDE, Layout.Numbers, Layout.Compiled}
use Rattle.order.specs.{Order.Ordering, Order.settling_order, Reordered.reordered, Reordered.symmetry_in}
use Rattle.order.proofs.{Order.no_pairs, LeadersBy.reordered_below}
use Rattle.arrays_order.specs.Inner.Reorder.{Movable, Moved}
use Rattle.std.specs.Prelude.{Result, Ok}
use Rattle.model.specs.declared.refusals.Refusal.{Refusal}
use Rattle.block.specs.Block.{block_lent}
use Rattle.arrays_block.specs.Inner.Asked.{Widened, Imaged, Put}
use Rattle.run_input.specs.{Lent.verdict_lent, Lent.problem_with, Lent.order_lent, Lent.problem_lent, Inner.Compile.AskedLent}
use Rattle.run_input.proofs.Lent.{well_lent, ordering_lent}
use Rattle.families_closed.proofs.Testing.{imaged_of, block_passed, passed_of}
use Rattle.families_count.specs.Inner.Held as Held

-- with the number of symmetries put they hold the problem with other symmetries
pub numbers_with : (p : Problem) (gs : List (List ℕ)) (numbers : List ℕ) (n : ℕ) → p.variables ≤ 12 → length p.constraints ≤ 32 → length numbers ≡ NUMBERS → n ≡ length gs → Numbers p numbers
    → Numbers (with_symmetries p gs) (set numbers SYMMETRIES n)
numbers_with p gs numbers n f few long e c = record {
  touching = λ x k l h. subst (λ (s : ℕ). has s k ≡ any (eqb x) (constraint_at p k).scope) (sym (same x (λ e. omega arith))) (c.touching x k l h);
  touching_few = λ x l. subst (λ (s : ℕ). s < 2 ^ length p.constraints) (sym (same x (λ e. omega arith))) (c.touching_few x l);
  initial = λ x l. same (INITIAL + x) (λ e. omega arith) ∙ c.initial x l;
  unused = λ x l h. same (INITIAL + x) (λ e. omega arith) ∙ c.unused x l h;
  arity = λ k l. ap (λ (s : ℕ). s % 256) (same (SCOPES + k) (λ e. omega arith)) ∙ c.arity k l;
  scope = λ k i l h. ap (λ (s : ℕ). s / 256 ^ suc i % 256) (same (SCOPES + k) (λ e. omega arith)) ∙ c.scope k i l h;
  variables = same VARIABLES (λ e. omega arith) ∙ c.variables;
  values = same VALUES (λ e. omega arith) ∙ c.values;
  constraints = same CONSTRAINTS (λ e. omega arith) ∙ c.constraints;
  symmetries = at_set numbers SYMMETRIES n (omega arith) ∙ e;
}
  where
    same : (i : ℕ) → (i ≡ SYMMETRIES → ⊥) → at (set numbers SYMMETRIES n) i ≡ at numbers i
    same i h = at_set_other numbers SYMMETRIES n i h

-- ---- the images and the order
pub asked_so : (b pairs block numbers supports images order : List ℕ) (r : Result Unit Refusal) → r ≡ Ok tt → AskedLent b pairs block numbers supports images order r
    → AskedLent b pairs block numbers supports images order (Ok tt)
asked_so b pairs block numbers supports images order r e a = subst (AskedLent b pairs block numbers supports images order) e a

module _ (b pairs block numbers supports images order : List ℕ) (a : AskedLent b pairs block numbers supports images order (Ok tt)) where
  -- so `arrays_block::put_images` may be called
  pub lent_images : (old wide : List ℕ) → Widened images old wide → length old ≡ WIDE → Imaged (problem_of b) numbers wide
  lent_images = imaged_of b pairs block numbers images (passed_of b pairs block numbers supports images order (Ok tt) a refl)

  pub lent_block : block_lent (problem_of b) block ≡ accepted
  lent_block = block_passed b pairs block numbers images (passed_of b pairs block numbers supports images order (Ok tt) a refl)

  good : T (is_accepted (verdict_lent b pairs block))
  good = is_accepted_lem (verdict_lent b pairs block) (sym a.answers)

  module _ (images' : List ℕ) (n : ℕ) (put : Put (problem_with b block) images' n) where
    pub movable : Movable (problem_with b block) order (set numbers SYMMETRIES n) supports images'
    movable =
        let s = a.sizes refl in
        let c = a.compiled refl in
        let w = well_lent b pairs block good in
        let m = put.few in
        let e = put.all in
        record {
          compiled = record {
            numbered = numbers_with (problem_of b) (problem_with b block).symmetries numbers n w.few w.most s.numbers_length e
                c.numbered;
            supported = c.supported;
            imaged = put.imaged;
          };
          well_formed = w;
          ordering = subst (Ordering (problem_of b).variables) (sym (a.order_is refl)) (ordering_lent b pairs block good);
          numbers_length = length-set numbers SYMMETRIES n ∙ s.numbers_length;
          supports_length = s.supports_length;
          images_length = let l = put.sized in omega arith;
        }

    pub put_moved : (numbers'' supports'' images'' : List ℕ) → Moved (problem_with b block) order (set numbers SYMMETRIES n) supports images' numbers'' supports'' images''
        → Held.Put b pairs block numbers'' supports'' images'' n
    put_moved numbers'' supports'' images'' m = record {
      verdict = sym a.answers;
      compiled = subst (λ (o : List ℕ). Compiled (reordered o (problem_with b block)) numbers'' supports'' images'') (a.order_is refl) m.compiled;
      long = m.numbers_length ∙ movable.numbers_length;
      all = put.all ∙ sym (length-map (problem_with b block).symmetries (symmetry_in (order_lent b pairs) (problem_with b block)));
      few = put.few;
      room = let l = put.few in let s = put.sized in let k = m.images_length in omega arith;
    }

    -- without pairs the order is 0, 1, ..
    pub put_same : length pairs ≡ 0 → Held.Put b pairs block (set numbers SYMMETRIES n) supports images' n
    put_same z = record {
      verdict = sym a.answers;
      compiled = subst (λ (q : Problem). Compiled q (set numbers SYMMETRIES n) supports images') (sym same) movable.compiled;
      long = movable.numbers_length;
      all = put.all ∙ ap (λ (q : Problem). length q.symmetries) (sym same);
      few = put.few;
      room = let l = put.few in let s = put.sized in omega arith;
    }
      where
        none : (l : List ℕ) → length l ≡ 0 → l ≡ []
        none [] z = refl
        none (x ∷ l) z = absurd (omega arith)

        same : problem_lent b pairs block ≡ problem_with b block
        same = ap (λ (l : List ℕ). reordered (settling_order (problem_of b).variables l) (problem_with b block)) (none pairs z) ∙ ap (λ (o : List ℕ). reordered o (problem_with b block))
            (no_pairs (problem_of b).variables) ∙ reordered_below (problem_with b block) (well_lent b pairs block good)
