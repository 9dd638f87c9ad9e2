-- The images of a block's tables, row by row, after the problem's own. Assumes nothing.
use Rattle.model.specs.Kit.{◌≡◌, refl, sym, ap, ap₂, ◌∙◌, subst, Bool, true, false, List, [], ◌∷◌, ◌++◌, append-nil, ℕ, ◌+◌, ◌*◌, ◌/◌, ◌%◌, ◌≤◌, ◌<◌, mul-le-mul_right, dec_lt, arith, T, length}
use Rattle.model.specs.Kit.{get_or}
use Rattle.model.specs.Kit.{set, length-append}
use Rattle.model.specs.{Lists.at, Lists.flat, Problem.Problem, Problem.pair, Problem.is_pair, Problem.with_symmetries, Problem.symmetry_at, Inner.Filling.Filled, Verdict.accepted}
use native.Mathlib.Nat.{div-lt_iff_lt-mul}
use lib.ListN.{get_or-append}
use lib.Seq.{get_or-append-add}
use Rattle.arrays.specs.{Inner.Layout.pair_code_of, Inner.Layout.image_code, Inner.Places.WIDE}
use Rattle.block.specs.Block.{orderings, ordering, factorial, variable_table, image_of, ordering_table, block_tables, with_block, is_block_at, tables_lent, block_lent, with_lent}
use Rattle.arrays_block.specs.Inner.Asked.{BlockRow, RowPut, Imaged, PutOn}
use Rattle.model.proofs.{Lists.T_of, Lists.of_not, Lists.length_below, Filling.filled_turn}
use Rattle.sheet_table.proofs.Codes.{code_inj}
use Rattle.sheet.proofs.Any.{get_d_below}
use Rattle.block.proofs.{Orderings.factorial_le, Tables.moved_pair, Tables.unmoved, Block.image_variable, Block.block_is, Block.is_block, Block.block_e, BlockLent.lent_two}
use Rattle.arrays_block.proofs.Moving.{values_are, few}
use Rattle.model.proofs.Pairs as P

-- ---- one row
module _ (p : Problem) (rows : List ℕ) (row first m : ℕ) (numbers : List ℕ) (b : BlockRow p rows row first m numbers) where
  abbrev to : ℕ → ℕ
  to q = at (ordering_table p first m row) q

  -- the table has numbers of the problem
  pub to_lt : (q : ℕ) → q < p.variables * p.values → to q < p.variables * p.values
  unfolding ordering_table
  to_lt q h = go (is_pair p q) refl
    where
      go : (t : Bool) → is_pair p q ≡ t → at (variable_table p (image_of first m (ordering row))) q < p.variables * p.values
      go true e =
          let w = b.well_formed in
          let t = T_of (is_pair p q) e in
          subst (λ (k : ℕ). k < p.variables * p.values) (sym (moved_pair p w (image_of first m (ordering row)) q t))
          (P.pair_lt p (image_of first m (ordering row) (q / p.values)) (q % p.values)
          (image_variable p w first m (few rows row m b.uses) b.inside row b.uses.used (q / p.values) (P.is_pair_var p w q t)) (P.mod_small p w q))
      go false e = subst (λ (k : ℕ). k < p.variables * p.values) (sym (unmoved p b.well_formed (image_of first m (ordering row)) q h (of_not (is_pair p q) e))) h

  -- what `pair_code` is lent
  pub coded : (q : ℕ) → q < p.variables * p.values → (1 ≤ get_or numbers 65 0) × (get_or numbers 65 0 ≤ 16) × (q < 12 * get_or numbers 65 0)
  coded q h =
      let w = b.well_formed in
      let e = values_are p rows row first m numbers b in
      let l = mul-le-mul_right p.values w.few in
      (omega (arith, w.one), omega (arith, w.sixteen), subst (λ (d : ℕ). q < 12 * d) (sym e) (omega arith))

  abbrev pub RowTo : ℕ → ℕ → List ℕ → List ℕ → Type 0
  RowTo base k old new = Filled (λ q. base + pair_code_of p.values q) (λ q c. c ≡ pair_code_of p.values (to q)) k old new

  pub row_more : (base k y slot code : ℕ) (old new : List ℕ) → base + 192 ≤ WIDE → length old ≡ WIDE → y ≡ to k →
      (slot ≡ pair_code_of (get_or numbers 65 0) k) × (slot < 192) → code ≡ pair_code_of (get_or numbers 65 0) y → RowTo base k old new → RowTo base (k + 1) old (set new (base + slot) code)
  row_more base k y slot code old new room sized ey es ec t =
      let w = b.well_formed in
      let e = values_are p rows row first m numbers b in
      filled_turn (λ q. base + pair_code_of p.values q) _ old new k (base + slot) code t (ap (λ (x : ℕ). base + x) (es.0 ∙ ap (λ (d : ℕ). pair_code_of d k) e)) (omega (arith, es.1))
      (λ v l q. let z : v ≡ k = code_inj v k p.values w.one w.sixteen (let u : pair_code_of p.values v ≡ pair_code_of p.values k = omega arith in u) in omega arith) (ec ∙ ap₂ pair_code_of e ey)

-- ---- all rows
module _ (p : Problem) (first m : ℕ) where
  abbrev g : ℕ
  g = length p.symmetries

  -- the first n symmetries of the problem with the block have their images, and nothing else changed
  pub record PutTo (n : ℕ) (start images : List ℕ) : Type 0 where
    pub sized : length images ≡ WIDE
    pub others : (j : ℕ) → ((e x v : ℕ) → e < n → x < p.variables → v < p.values → 192 * e + 16 * x + v ≡ j → ⊥) → at images j ≡ at start j
    pub imaged : (e x v : ℕ) → e < n → x < p.variables → v < p.values → at images (192 * e + 16 * x + v) ≡ image_code p (symmetry_at (with_block first m p) e) x v

  pub put_to : (n k : ℕ) (start images : List ℕ) → n ≡ k → PutTo n start images → PutTo k start images
  put_to n k start images e t = subst (λ (i : ℕ). PutTo i start images) e t

  pub put_own : (numbers images : List ℕ) → Imaged p numbers images → PutTo g images images
  put_own numbers images i = record {
    sized = i.sized;
    others = λ j h. refl;
    imaged = λ e x v l h k. i.imaged e x v l h k ∙ ap (λ (t : List ℕ). image_code p t x v) (sym (get_or-append p.symmetries (block_tables p first m) [] e l));
  }

  module _ (numbers images₀ : List ℕ) (i : Imaged p numbers images₀) (is : T (is_block_at p first m)) where
    pub row_of : (rows : List ℕ) (row : ℕ) → rows ≡ flat orderings → row < factorial m → BlockRow p rows row first m numbers
    row_of rows row t u = record {
      well_formed = i.well_formed;
      framed = i.framed;
      uses = record { table = t; some = (block_is p first m is).0.0; few = (block_is p first m is).0.1; used = u };
      inside = (block_is p first m is).1;
    }

    pub own_are : get_or numbers 67 0 ≡ length p.symmetries
    unfolding at
    own_are = i.framed.numbered.symmetries

    pub row_room : (row : ℕ) → row < factorial m → g + row < 136
    row_room row u = let l = factorial_le m (block_is p first m is).0 in let s = i.symmetries in omega arith

    table_is : (row : ℕ) → row < factorial m → symmetry_at (with_block first m p) (g + row) ≡ ordering_table p first m row
    unfolding block_tables
    table_is row u = get_or-append-add p.symmetries (block_tables p first m) row [] ∙ get_d_below (ordering_table p first m) (factorial m) row [] u

    pub put_more : (n row : ℕ) (old new : List ℕ) → n ≡ g + row → row < factorial m → PutTo n images₀ old → RowPut p first m row (192 * n) old new → PutTo (n + 1) images₀ new
    put_more n row old new en u t r = record {
      sized = r.size ∙ t.sized;
      others = λ j h. r.other j (λ q l z. row_slot j q h l z) ∙ t.others j (λ e x v l. h e x v (omega arith));
      imaged = λ e x v l h k. go e x v l h k (dec_lt e n);
    }
      where
        row_slot : (j q : ℕ) → ((e x v : ℕ) → e < n + 1 → x < p.variables → v < p.values → 192 * e + 16 * x + v ≡ j → ⊥) → q < p.variables * p.values → 192 * n + pair_code_of p.values q ≡ j → ⊥
        row_slot j q h l z = h n (q / p.values) (q % p.values) (omega arith) ((div-lt_iff_lt-mul i.well_formed.one).1 l) (P.mod_small p i.well_formed q) (omega arith)

        go : (e x v : ℕ) → e < n + 1 → x < p.variables → v < p.values → Dec (e < n) → at new (192 * e + 16 * x + v) ≡ image_code p (symmetry_at (with_block first m p) e) x v
        go e x v l h k (yes s) =
            let a = i.well_formed.few in
            let d = i.well_formed.sixteen in
            r.other (192 * e + 16 * x + v) (λ q j z. omega arith) ∙ t.imaged e x v s h k
        go e x v l h k (no s) =
            let w = i.well_formed in
            let y : e ≡ n = omega arith in
            let c : pair_code_of p.values (pair p x v) ≡ 16 * x + v = ap₂ (λ (i j : ℕ). 16 * i + j) (P.pair_div p x v k) (P.pair_mod p x v k) in
            ap (at new) (let z : 192 * e + 16 * x + v ≡ 192 * n + pair_code_of p.values (pair p x v) = omega arith in z)
            ∙ r.here (pair p x v) (P.pair_lt p x v h k)
            ∙ ap (λ (t : List ℕ). image_code p t x v) (sym (ap (symmetry_at (with_block first m p)) (y ∙ en) ∙ table_is row u))

    tables_count : length (block_tables p first m) ≡ factorial m
    unfolding block_tables
    tables_count = length_below (ordering_table p first m) (factorial m)

    pub put_all : (n : ℕ) (images : List ℕ) → n ≡ g + factorial m → PutTo n images₀ images → PutOn (with_block first m p) images₀ images n
    unfolding pair
    put_all n images e t =
        let all : n ≡ length (with_block first m p).symmetries = e ∙ sym (length-append p.symmetries (block_tables p first m) ∙ ap (λ (k : ℕ). g + k) tables_count) in
        record {
          put = record {
            imaged = λ f x v l h k. t.imaged f x v (omega arith) h k;
            sized = t.sized;
            all = all;
            few = let l = factorial_le m (block_is p first m is).0 in let s = i.symmetries in omega arith;
          };
          others = t.others;
        }

-- ---- as it is lent
-- other than two bytes add nothing
none_lent : (p : Problem) (block : List ℕ) → (length block ≡ 2 → ⊥) → p.symmetries ++ tables_lent p block ≡ p.symmetries
unfolding tables_lent
none_lent p [] n = append-nil p.symmetries
none_lent p (x ∷ []) n = append-nil p.symmetries
none_lent p (x ∷ y ∷ []) n = absurd (n refl)
none_lent p (x ∷ y ∷ z ∷ l) n = append-nil p.symmetries

pub put_none : (p : Problem) (numbers images block : List ℕ) → Imaged p numbers images → (length block ≡ 2 → ⊥) → PutOn (with_lent block p) images images (get_or numbers 67 0)
unfolding at
put_none p numbers images block i n =
    let s : length p.symmetries ≤ 16 = i.symmetries in
    let e : get_or numbers 67 0 ≡ length p.symmetries = i.framed.numbered.symmetries in
    subst (λ (gs : List (List ℕ)). PutOn (with_symmetries p gs) images images (get_or numbers 67 0)) (sym (none_lent p block n))
    (record { put = record { imaged = i.imaged; sized = i.sized; all = e; few = omega arith }; others = λ j h. refl })

-- two are those of a block
pub two_is : (p : Problem) (numbers images block : List ℕ) → Imaged p numbers images → length block ≡ 2 → block_lent p block ≡ accepted → T (is_block_at p (get_or block 0 0) (get_or block 1 0))
two_is p numbers images block i e h =
    let first = get_or block 0 0 in
    let m = get_or block 1 0 in
    let q = block_e p i.well_formed first m (lent_two p block e ∙ h) in
    is_block p first m q.few q.inside

pub put_two : (p : Problem) (old images block : List ℕ) (n : ℕ) → length block ≡ 2 → PutOn (with_block (get_or block 0 0) (get_or block 1 0) p) old images n → PutOn (with_lent block p) old images n
unfolding tables_lent
put_two p old images [] n e t = absurd (omega arith)
put_two p old images (x ∷ []) n e t = absurd (omega arith)
put_two p old images (x ∷ y ∷ []) n e t = t
put_two p old images (x ∷ y ∷ z ∷ l) n e t = absurd (omega arith)
