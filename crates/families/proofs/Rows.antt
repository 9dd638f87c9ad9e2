-- The rows' keys, and the key of an image made pair by pair. Assumes nothing.
use Rattle.model.specs.Kit.{◌≡◌, refl, sym, ap, ap₂, ◌∙◌, subst, List, ◌++◌, ℕ, suc, ◌+◌, ◌-◌, ◌*◌, ◌/◌, ◌%◌, ◌^◌, ◌≤◌, ◌<◌, mul-le-mul_right, ℕ_discrete, arith, length, set, length-set}
use Rattle.model.specs.Kit.{length-append, replicate, length-replicate}
use Rattle.model.specs.{Lists.at, Lists.flat, Problem.Problem, Problem.pair, Problem.symmetry_at, Inner.WellFormed.WellFormed, Inner.WellFormed.Respected}
use Rattle.model.proofs.{Lists.at_set, Lists.at_set_other, Lists.at_replicate, Lists.set_each, Tree.solution_e}
use Rattle.families.specs.{Families.solutions_of, Inner.Walk.solution_at, Inner.Walk.image_at, Inner.Numbered.key_of, Inner.Numbered.Listed, Inner.Numbered.Imaging}
use Rattle.families.specs.Inner.Numbered.{Finding, Numbering}
use Rattle.families.proofs.Numbers.{rows_length, at_solution, at_solutions, same_number, symmetry_among, image_good, image_pair, image_onto}
use Rattle.families.proofs.{FamilyCount.in_solution, Keys.Digits, Keys.key_ext, Keys.key_none, Keys.key_small, Keys.key_put}
use Rattle.model.proofs.Pairs as P
use Rattle.model.proofs.Symmetry as S

-- ---- the keys of the rows
module _ {p : Problem} {rows : List ℕ} {variables : ℕ} (a : Listed p rows variables) where
  pub listed_twelve : variables ≤ 12
  listed_twelve = let e = a.named in let f = a.good.few in omega arith

  pub listed_digits : (i : ℕ) → i < length (solutions_of p) → Digits p.variables (at (solution_at p i))
  listed_digits i l x h =
      let b = P.sol_lt p a.good (solution_at p i) (at_solution p a.good a.respected i l) x h in
      let c = a.good.sixteen in
      omega arith

  module _ (i : ℕ) (l : i < length (solutions_of p)) where
    pub listed_row : i * variables + variables ≤ length rows
    listed_row =
        let b : suc i * variables ≤ length (solutions_of p) * variables = mul-le-mul_right variables l in
        let c = a.whole in
        omega arith

    -- its number and its place, as the code computes them
    pub listed_place : (i < 4096) × (i * variables + variables ≤ length rows) × (variables ≤ 12)
    listed_place = let b = a.few in (omega arith, listed_row, listed_twelve)

    pub listed_small : (x : ℕ) → x < variables → at rows (i * variables + x) < 16
    listed_small x h =
        let e = a.row i x l h in
        let b = listed_digits i l x (subst (λ (z : ℕ). x < z) a.named h) in
        omega arith

    pub listed_key : {k : ℕ} → k ≡ key_of variables (λ x. at rows (i * variables + x)) → k ≡ key_of p.variables (at (solution_at p i))
    listed_key e = e ∙ key_ext variables (λ x. at rows (i * variables + x)) (at (solution_at p i)) (λ x h. a.row i x l h) ∙ ap (λ (n : ℕ). key_of n (at (solution_at p i))) a.named

-- a list that begins with the solutions
pub listed_solutions : (p : Problem) → WellFormed p → Respected p → length (solutions_of p) ≤ 4096 → (rest : List ℕ) → Listed p (flat (solutions_of p) ++ rest) p.variables
listed_solutions p w respected few rest = record {
  good = w;
  respected = respected;
  named = refl;
  few = few;
  whole =
      let a = length-append (flat (solutions_of p)) rest in
      let b = rows_length p.variables (solutions_of p) (λ s m. (solution_e p s (in_solution p w respected s m)).sized) in
      omega arith;
  row = λ i x l h. at_solutions p w respected rest i x l h;
}

-- ---- the image
-- the code of the pair that the pair of variable x goes to, where the code finds it
abbrev pub sent : List ℕ → List ℕ → ℕ → ℕ → ℕ → ℕ → ℕ
sent rows images variables i k x = at images (192 * k + 16 * x + at rows (i * variables + x))

module _ {p : Problem} {rows images : List ℕ} {variables i k : ℕ} (a : Imaging p rows images variables i k) where
  abbrev good : WellFormed p
  good = a.lent.listed.good

  abbrev respected : Respected p
  respected = a.lent.listed.respected

  abbrev row : List ℕ
  row = solution_at p i

  abbrev image : List ℕ
  image = solution_at p (image_at p k i)

  abbrev goes : ℕ → ℕ
  goes x = at (symmetry_at p k) (pair p x (at (solution_at p i) x))

  number : image_at p k i < length (solutions_of p)
  number = (image_good p good respected k i a.symmetry a.solution).0

  pub imaging_bounds : (variables ≤ 12) × (k < 136) × (i * variables + variables ≤ length rows)
  imaging_bounds = let s = a.symmetry in let t = a.lent.some in (listed_twelve a.lent.listed, omega arith, listed_row a.lent.listed i a.solution)

  module _ (x : ℕ) (l : x < variables) where
    lx : x < p.variables
    lx = subst (λ (z : ℕ). x < z) a.lent.listed.named l

    value_lt : at (solution_at p i) x < p.values
    value_lt = P.sol_lt p good (solution_at p i) (at_solution p good respected i a.solution) x lx

    pub imaging_value : at rows (i * variables + x) < 16
    imaging_value = listed_small a.lent.listed i a.solution x l

    pub imaging_index : 192 * k + 16 * x + at rows (i * variables + x) < length images
    imaging_index = let b = imaging_value in let c = imaging_bounds in let s = a.symmetry in let r = a.lent.room in omega arith

    coded : sent rows images variables i k x ≡ 16 * (goes x / p.values) + goes x % p.values
    coded =
        ap (λ (v : ℕ). at images (192 * k + 16 * x + v)) (a.lent.listed.row i x a.solution l)
        ∙ a.lent.imaged k x (at (solution_at p i) x) a.symmetry lx value_lt

    digit : goes x % p.values < 16
    digit = let b = P.mod_small p good (goes x) in let c = good.sixteen in omega arith

    -- its variable and its value
    sent_variable : sent rows images variables i k x / 16 ≡ goes x / p.values
    sent_variable = let e = coded in let b = digit in omega arith

    sent_value : sent rows images variables i k x % 16 ≡ goes x % p.values
    sent_value = let e = coded in let b = digit in omega arith

    pub imaging_variable : sent rows images variables i k x / 16 < variables
    imaging_variable =
        let e = sent_variable in
        let b = (image_pair p good respected k i a.symmetry a.solution x lx).1 in
        let c = a.lent.listed.named in
        omega arith

    -- all that the code's sums and indices ask
    pub imaging_facts : (at rows (i * variables + x) < 16) × (192 * k + 16 * x + at rows (i * variables + x) < length images) × (sent rows images variables i k x / 16 < variables)
        × (variables ≤ 12)
    imaging_facts = (imaging_value, imaging_index, imaging_variable, imaging_bounds.0)

    pub imaging_same : at (solution_at p (image_at p k i)) (sent rows images variables i k x / 16) ≡ sent rows images variables i k x % 16
    imaging_same = ap (at (solution_at p (image_at p k i))) sent_variable ∙ (image_pair p good respected k i a.symmetry a.solution x lx).2 ∙ sym sent_value

  -- two variables go to two
  pub imaging_apart : (x h : ℕ) → x < variables → h < variables → sent rows images variables i k x / 16 ≡ sent rows images variables i k h / 16 → x ≡ h
  imaging_apart x h l m e =
      let v : goes x / p.values ≡ goes h / p.values = sym (sent_variable x l) ∙ e ∙ sent_variable h m in
      let w : goes x % p.values ≡ goes h % p.values = sym (sent_value x l) ∙ sym (imaging_same x l) ∙ ap (at (solution_at p (image_at p k i))) e ∙ imaging_same h m ∙ sent_value h m in
      let g : goes x ≡ goes h = sym (P.pair_of p (goes x)) ∙ ap₂ (pair p) v w ∙ P.pair_of p (goes h) in
      let q = S.injective p good (symmetry_at p k) (good.symmetric (symmetry_at p k) (symmetry_among p good respected k a.symmetry))
      (pair p x (at (solution_at p i) x)) (pair p h (at (solution_at p i) h)) (P.pair_lt p x (at (solution_at p i) x) (lx x l) (value_lt x l))
      (P.pair_lt p h (at (solution_at p i) h) (lx h m) (value_lt h m)) g in
      sym (P.pair_div p x (at (solution_at p i) x) (value_lt x l)) ∙ ap (λ (z : ℕ). z / p.values) q ∙ P.pair_div p h (at (solution_at p i) h) (value_lt h m)

  -- every variable of the image is gone to
  pub imaging_onto : (y : ℕ) → y < variables → (x : ℕ) × (x < variables) × (sent rows images variables i k x / 16 ≡ y)
  imaging_onto y l =
      let r = image_onto p good respected k i a.symmetry a.solution y (subst (λ (z : ℕ). y < z) a.lent.listed.named l) in
      let b : r.0 < variables = subst (λ (z : ℕ). r.0 < z) (sym a.lent.listed.named) r.1 in
      (r.0, b, sent_variable r.0 b ∙ r.2)

-- the pairs of the variables below x were put where they go to, and r is the key of that row
pub record Carrying (p : Problem) (rows images : List ℕ) (variables i k r x : ℕ) : Type 0 where
  pub asked : Imaging p rows images variables i k
  pub out : List ℕ
  pub size : length out ≡ 12
  pub digits : (y : ℕ) → at out y < 16
  pub put : (h : ℕ) → h < x → h < variables → at out (sent rows images variables i k h / 16) ≡ at (solution_at p (image_at p k i)) (sent rows images variables i k h / 16)
  pub rest : (y : ℕ) → ((h : ℕ) → h < x → h < variables → sent rows images variables i k h / 16 ≡ y → ⊥) → at out y ≡ 0
  pub key : r ≡ key_of variables (at out)

pub carrying_begin : {p : Problem} {rows images : List ℕ} {variables i k : ℕ} → Imaging p rows images variables i k → Carrying p rows images variables i k 0 0
carrying_begin {p} {rows} {images} {variables} a = record {
  asked = a;
  out = replicate 12 0;
  size = length-replicate {A = ℕ} 12 0;
  digits = λ y. (let e = at_replicate 12 y in omega arith);
  put = λ h l. absurd (omega arith);
  rest = λ y n. at_replicate 12 y;
  key = sym (key_ext variables (at (replicate 12 0)) (λ y. 0) (λ y l. at_replicate 12 y) ∙ key_none variables);
}

module _ {p : Problem} {rows images : List ℕ} {variables i k r x : ℕ} (c : Carrying p rows images variables i k r x) where
  pub carrying_small : r < 281474976710656
  carrying_small = let b = key_small variables (at c.out) (imaging_bounds c.asked).0 (λ y l. c.digits y) in let e = c.key in omega arith

  pub carrying_turn : x < variables → Carrying p rows images variables i k (r + sent rows images variables i k x % 16 * 2 ^ (4 * (variables - 1 - sent rows images variables i k x / 16))) (x + 1)
  carrying_turn l = record {
    asked = c.asked;
    out = out';
    size = length-set c.out y v ∙ c.size;
    digits = λ z. set_each (λ (z u : ℕ). u < 16) c.out y v z inside (omega arith) (λ n. c.digits z);
    put = λ h b m. set_each (λ (z u : ℕ). u ≡ at (solution_at p (image_at p k i)) z) c.out y v (sent rows images variables i k h / 16) inside (sym (imaging_same c.asked x l))
        (λ n. old h b m n (ℕ_discrete h x));
    rest = λ z n. at_set_other c.out y v z (λ e. n x (omega arith) l (sym e)) ∙ c.rest z (λ h b m e. n h (omega arith) m e);
    key = ap₂ (λ (s t : ℕ). s + t * 2 ^ (4 * (variables - 1 - y))) c.key (sym here) ∙ sym (key_put variables (at c.out) (at out') y small free (λ z n. at_set_other c.out y v z n));
  }
    where
      y : ℕ
      y = sent rows images variables i k x / 16

      v : ℕ
      v = sent rows images variables i k x % 16

      out' : List ℕ
      out' = set c.out y v

      small : y < variables
      small = imaging_variable c.asked x l

      inside : y < length c.out
      inside = let b = small in let d = (imaging_bounds c.asked).0 in let e = c.size in omega arith

      here : at out' y ≡ v
      here = at_set c.out y v inside

      old : (h : ℕ) → h < x + 1 → h < variables → (sent rows images variables i k h / 16 ≡ y → ⊥) → Dec (h ≡ x) → at c.out (sent rows images variables i k h / 16) ≡ at
          (solution_at p (image_at p k i)) (sent rows images variables i k h / 16)
      old h b m n (yes e) = absurd (n (ap (λ (z : ℕ). sent rows images variables i k z / 16) e))
      old h b m n (no e) = c.put h (omega arith) m

      free : at c.out y ≡ 0
      free = c.rest y (λ h b m e. let q = imaging_apart c.asked h x m l e in omega arith)

  pub carrying_end : variables ≤ x → r ≡ key_of variables (at (solution_at p (image_at p k i)))
  carrying_end l = c.key ∙ key_ext variables (at c.out) (at (solution_at p (image_at p k i))) each
    where
      each : (y : ℕ) → y < variables → at c.out y ≡ at (solution_at p (image_at p k i)) y
      each y h =
          let b = imaging_onto c.asked y h in
          let d = b.1 in
          subst (λ (z : ℕ). at c.out z ≡ at (solution_at p (image_at p k i)) z) b.2 (c.put b.0 (omega arith) d)

-- ---- the image's number
module _ {p : Problem} {rows images keys heads weights : List ℕ} {variables i k : ℕ} (n : Numbering p rows images keys heads weights variables i k) where
  abbrev g : WellFormed p
  g = n.imaging.lent.listed.good

  abbrev rg : Respected p
  rg = n.imaging.lent.listed.respected

  numbering_small : image_at p k i < length (solutions_of p)
  numbering_small = (image_good p g rg k i n.imaging.symmetry n.imaging.solution).0

  pub numbering_finding : {key : ℕ} → key ≡ key_of variables (at (solution_at p (image_at p k i))) → Finding p (solution_at p (image_at p k i)) keys heads key
  numbering_finding e = record {
    good = g;
    respected = rg;
    few = n.imaging.lent.listed.few;
    chained = n.finder.chained;
    solves = at_solution p g rg (image_at p k i) numbering_small;
    sought = e ∙ ap (λ (m : ℕ). key_of m (at (solution_at p (image_at p k i)))) n.imaging.lent.listed.named;
  }

  pub numbering_end : {j : ℕ} → (j < length (solutions_of p)) × (solution_at p j ≡ solution_at p (image_at p k i)) → j ≡ image_at p k i
  numbering_end {j} r = same_number p g rg j (image_at p k i) r.0 numbering_small r.1
