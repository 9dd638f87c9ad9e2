-- Rows of the table of orderings, and where the table of a row takes a number. Assumes nothing.
use Rattle.model.specs.Kit.{◌≡◌, sym, ap, ap₂, ◌∙◌, subst, true, false, List, ◌⊎◌, ℕ, ◌+◌, ◌-◌, ◌*◌, ◌/◌, ◌%◌, ◌≤◌, ◌<◌, mul-le-mul, arith, get_or}
use Rattle.model.specs.{Lists.at, Problem.Problem, Problem.pair, Problem.is_pair, Inner.WellFormed.WellFormed}
use Rattle.block.specs.Block.{ordering, image_of, ordering_table}
use Rattle.arrays_block.specs.Inner.Asked.{Row, BlockRow}
use Rattle.model.proofs.Lists.{T_of, of_not}
use Rattle.block.proofs.Orderings.{Few, factorial_le, moves, moves_small, moves_high}
use Rattle.block.proofs.{Table.table_at_lem, Tables.moved_pair, Tables.unmoved, Block.image_at, Block.image_outside, Block.image_variable}
use Rattle.model.proofs.Pairs as P

module _ (rows : List ℕ) (row m : ℕ) (r : Row rows row m) where
  pub few : Few m
  few = (r.some, r.few)

  pub row_lt : row < 120
  row_lt = let u = r.used in omega (arith, factorial_le m few)

  -- the entry that a variable of the block uses is one of the last m numbers
  abbrev pub entry : ℕ → ℕ
  entry i = get_or rows (5 * row + (5 - m + i)) 0

  pub entry_at : (i : ℕ) → i < m → (entry i ≡ at (ordering row) (5 - m + i)) × (5 - m ≤ entry i) × (entry i < 5)
  unfolding at
  entry_at i h =
      let c = 5 - m + i in
      let l = few.1 in
      let u : c < 5 = omega arith in
      let o = moves m row few r.used in
      let e : entry i ≡ at (ordering row) c = ap (λ (t : List ℕ). at t (5 * row + c)) r.table ∙ table_at_lem row c row_lt u in
      (e, subst (λ (x : ℕ). 5 - m ≤ x) (sym e) (moves_high m (ordering row) o c (omega arith) u), subst (λ (x : ℕ). x < 5) (sym e) (moves_small m (ordering row) o c u))

  pub image_is : (first i : ℕ) → i < m → first + entry i - (5 - m) ≡ image_of first m (ordering row) (first + i)
  image_is first i h = ap (λ (x : ℕ). first + x - (5 - m)) (entry_at i h).0 ∙ sym (image_at first m few (ordering row) i h)

-- ---- a row of a block of the problem
module _ (p : Problem) (rows : List ℕ) (row first m : ℕ) (numbers : List ℕ) (b : BlockRow p rows row first m numbers) where
  w : WellFormed p
  w = b.well_formed

  few_of : Few m
  few_of = few rows row m b.uses

  pub values_are : get_or numbers 65 0 ≡ p.values
  unfolding at
  values_are = b.framed.numbered.values

  pub size_is : get_or numbers 64 0 * get_or numbers 65 0 ≡ p.variables * p.values
  unfolding at
  size_is = ap₂ (λ (n d : ℕ). n * d) b.framed.numbered.variables values_are

  pub values_some : 0 < get_or numbers 65 0
  values_some = let e = values_are in let l = w.one in omega arith

  pub size_few : p.variables * p.values ≤ 192
  size_few = mul-le-mul w.few w.sixteen

  module _ (q : ℕ) (h : q < p.variables * p.values) where
    abbrev to : ℕ
    to = at (ordering_table p first m row) q

    small : q < 192
    small = let l = size_few in omega arith

    -- a number that is no pair stays
    pub stays_no : is_pair p q ≡ false → (q ≡ to) × (q < 192)
    unfolding ordering_table
    stays_no e = (sym (unmoved p w (image_of first m (ordering row)) q h (of_not (is_pair p q) e)), small)

    -- and so does a pair of a variable outside the block
    pub stays_out : is_pair p q ≡ true → (q / get_or numbers 65 0 < first) ⊎ (first + m ≤ q / get_or numbers 65 0) → (q ≡ to) × (q < 192)
    unfolding ordering_table
    stays_out t o =
        let o' : (q / p.values < first) ⊎ (first + m ≤ q / p.values) = subst (λ (d : ℕ). (q / d < first) ⊎ (first + m ≤ q / d)) values_are o in (
          sym (moved_pair p w (image_of first m (ordering row)) q (T_of (is_pair p q) t) ∙ ap (λ (x : ℕ). pair p x (q % p.values)) (image_outside first m few_of (ordering row) (q / p.values) o')
              ∙ P.pair_of p q),
          small,
        )

    -- a pair of the block goes to the pair of the image and the same value
    module _ (l : first ≤ q / get_or numbers 65 0) (u : (first + m ≤ q / get_or numbers 65 0) → ⊥) (y : ℕ) (e : y ≡ image_of first m (ordering row) (first + (q / get_or numbers 65 0 - first))) where
      image_of_lem : y ≡ image_of first m (ordering row) (q / p.values)
      image_of_lem =
          let z : first + (q / get_or numbers 65 0 - first) ≡ q / get_or numbers 65 0 = omega arith in
          e ∙ ap (image_of first m (ordering row)) (z ∙ ap (λ (d : ℕ). q / d) values_are)

      pub goes_small : is_pair p q ≡ true → y * get_or numbers 65 0 + q % get_or numbers 65 0 < 192
      unfolding pair
      goes_small t =
          let x< : y < p.variables = subst (λ (x : ℕ). x < p.variables) (sym image_of_lem) (image_variable p w first m few_of b.inside row b.uses.used (q / p.values)
          (P.is_pair_var p w q (T_of (is_pair p q) t))) in
          let k = P.pair_lt p y (q % p.values) x< (P.mod_small p w q) in
          let s = size_few in
          subst (λ (d : ℕ). y * d + q % d < 192) (sym values_are) (omega arith)

      pub goes : is_pair p q ≡ true → (y * get_or numbers 65 0 + q % get_or numbers 65 0 ≡ to) × (y * get_or numbers 65 0 + q % get_or numbers 65 0 < 192)
      unfolding ordering_table pair
      goes t = (
        ap (λ (d : ℕ). y * d + q % d) values_are ∙ ap (λ (x : ℕ). x * p.values + q % p.values) image_of_lem ∙ sym (moved_pair p w (image_of first m (ordering row)) q (T_of (is_pair p q) t)),
        goes_small t,
      )
