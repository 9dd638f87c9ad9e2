-- The test of a run that is lent a sheet, pairs and a block: its arrays, and its answer. Assumes nothing.
use Rattle.model.specs.Kit.{◌≡◌, refl, sym, ap, ap₂, ◌∙◌, subst₂, Bool, true, false, List, [], ◌∷◌, ℕ, ◌+◌, ◌*◌, ◌/◌, ◌%◌, ◌≤◌, ◌<◌, arith, T, length, get_or, length-append, lt-ltb, le-ltb}
use Rattle.model.specs.{Lists.at, Problem.Problem, Verdict.Verdict, Verdict.accepted, Verdict.refused, Verdict.is_accepted, Verdict.reply, Sheet.problem_of, Inner.WellFormed.WellFormed}
use Rattle.model.proofs.{Lists.length_below, Lists.never, Accepted.stated, Accepted.symmetries_are, Accepted.accepted_is, Accepted.is_accepted_lem}
use Rattle.std.specs.Prelude.{Result, Ok}
use Rattle.model.specs.{Refusals.verdict_from, declared.refusals.Refusal.Refusal}
use Rattle.block.specs.Block.{factorial, ordering_table, block_tables, tables_lent, block_lent, with_lent}
use Rattle.block.proofs.{Orderings.factorial_le, Block.block_e}
use Rattle.arrays.specs.Inner.Places.{WIDE}
use Rattle.arrays_block.specs.Inner.Asked.{Widened, Imaged, PutOn}
use Rattle.run_input.specs.{Lent.verdict_lent, Lent.problem_with, Inner.Compile.AskedLent}
use Rattle.run_input.proofs.Lent.{lent_passed, well_sheet, well_lent}
use Rattle.families_closed.specs.{Open.first_missing, Open.none, Open.two, Open.first_open, Inner.Held.Held, Inner.Held.Passed, Lent.Told, Lent.told, Lent.closed_lent}
use Rattle.families_closed.proofs.Open.{open_first}

-- ---- the first two from their number
module _ (p : Problem) (n k : ℕ) (e : n ≡ length p.symmetries) (f : k ≡ first_missing p) where
  pub open_two : k < n * n → two (k / n) (k % n) ≡ first_open p
  unfolding first_open
  open_two l =
      let g = length p.symmetries in
      let h : first_missing p < g * g = subst₂ (λ (i j : ℕ). i < j * j) f e l in
      ap₂ (λ (i j : ℕ). two (j / i) (j % i)) e f ∙ sym (ap (λ (t : Bool). elim t [ true ↦ two (first_missing p / g) (first_missing p % g) | false ↦ none ])
      (lt-ltb (first_missing p) (g * g) h))

  pub open_no : n * n ≤ k → none ≡ first_open p
  unfolding first_open
  open_no l =
      let g = length p.symmetries in
      let h : g * g ≤ first_missing p = subst₂ (λ (i j : ℕ). j * j ≤ i) f e l in
      sym (ap (λ (t : Bool). elim t [ true ↦ two (first_missing p / g) (first_missing p % g) | false ↦ none ]) (le-ltb (first_missing p) (g * g) h))

-- ---- the arrays
module _ (b pairs block numbers images : List ℕ) (h : Passed b pairs block numbers images) where
  good : T (is_accepted (verdict_lent b pairs block))
  good = is_accepted_lem (verdict_lent b pairs block) h.verdict

  -- once they are copied the block's may be put after them
  pub imaged_of : (old wide : List ℕ) → Widened images old wide → length old ≡ WIDE → Imaged (problem_of b) numbers wide
  imaged_of old wide t long =
      let w = well_sheet b pairs block good in
      let x = (lent_passed b pairs block good).sheet.header in
      let m = symmetries_are b in
      let g = x.symmetries in
      record {
        well_formed = w;
        framed = record {
          stated = stated w;
          numbered = h.numbered;
        };
        symmetries = omega arith;
        imaged = λ e x v i j k. t.here (192 * e + 16 * x + v) (omega (arith, w.few, w.sixteen)) ∙ h.imaged e x v i j k;
        sized = t.size ∙ long;
      }

  pub block_passed : block_lent (problem_of b) block ≡ accepted
  block_passed = accepted_is (block_lent (problem_of b) block) (lent_passed b pairs block good).blocked

  pub held_of : (old images' : List ℕ) (n : ℕ) → PutOn (with_lent block (problem_of b)) old images' n → Held (problem_with b block) images' (get_or numbers 64 0) (get_or numbers 65 0)
  unfolding at
  held_of old images' n t = record {
    good = well_lent b pairs block good;
    some = let e = t.put.all in let l = t.put.few in omega arith;
    imaged = t.put.imaged;
    variables_is = h.numbered.variables;
    values_is = h.numbered.values;
  }

-- ---- the answer
module _ (b pairs block numbers supports images order : List ℕ) (r : Result Unit Refusal) (a : AskedLent b pairs block numbers supports images order r) where
  pub passed_of : r ≡ Ok tt → Passed b pairs block numbers images
  passed_of e = record { verdict = sym a.answers ∙ ap verdict_from e; numbered = (a.compiled e).numbered; imaged = (a.compiled e).imaged; sized = (a.sizes e).images_length }

  pub told_for : (v : Verdict) (t : Told) → verdict_from r ≡ v → t ≡ reply v (first_open (problem_with b block)) → t ≡ closed_lent b pairs block
  unfolding closed_lent
  told_for v t e q = q ∙ ap (λ (u : Verdict). reply u (first_open (problem_with b block))) (sym e ∙ a.answers)

-- ---- its numbers are below 136
tables_few : (p : Problem) → WellFormed p → (block : List ℕ) → block_lent p block ≡ accepted → length (tables_lent p block) ≤ 120
unfolding tables_lent block_lent block_tables
tables_few p w [] e = omega arith
tables_few p w (first ∷ []) e = omega arith
tables_few p w (first ∷ m ∷ []) e = let n = length_below (ordering_table p first m) (factorial m) in let l = factorial_le m (block_e p w first m e).few in omega arith
tables_few p w (first ∷ m ∷ x ∷ more) e = omega arith

pub told_few : (b pairs block : List ℕ) (first second : ℕ) → told (two first second) ≡ closed_lent b pairs block → (first < 136) × (second < 136)
unfolding closed_lent
told_few b pairs block first second e = go (verdict_lent b pairs block) refl e
  where
    go : (v : Verdict) → verdict_lent b pairs block ≡ v → told (two first second) ≡ reply v (first_open (problem_with b block)) → (first < 136) × (second < 136)
    go accepted q t =
        let good = is_accepted_lem (verdict_lent b pairs block) q in
        let x = lent_passed b pairs block good in
        let o = open_first (problem_with b block) first second (let z : first_open (problem_with b block) ≡ two first second = cc in z) in
        let l = length-append (problem_of b).symmetries (tables_lent (problem_of b) block) in
        let m = symmetries_are b in
        let g = x.sheet.header.symmetries in
        let n = tables_few (problem_of b) (well_sheet b pairs block good) block (accepted_is (block_lent (problem_of b) block) x.blocked) in
        (omega (arith, o.first), omega (arith, o.second))
    go (refused number item) q t = never (cc)
