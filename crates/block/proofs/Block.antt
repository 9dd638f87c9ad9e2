-- A block's symmetries: what an ordering does to pairs, that trades of neighbours are enough to ask, that its variables have equal initial sets, and that two of them make one. Assumes nothing.
use Rattle.model.specs.Kit.{◌≡◌, sym, ap, ap₂, ◌∙◌, subst, Bool, false, List, [], ◌∷◌, ◌++◌, map, Memᴰ, Memᴰ-cast, Memᴰ-map, Memᴰ-of_map, ◌⊎◌, inl, inr, ℕ, zero, suc, ◌+◌, ◌-◌, ◌*◌, ◌≤◌, ◌<◌}
use Rattle.model.specs.Kit.{arith, ℕ_discrete, dec_lt, T, leb, ltb, leb→le, ltb→lt, length, le-leb, lt-ltb}
use Rattle.model.specs.{Lists.both, Lists.up_from, Lists.below, Lists.at, ValueSets.has, Problem.Problem, Problem.pair, Problem.respects, Verdict.Verdict, Verdict.accepted, Verdict.refused}
use Rattle.model.specs.{Verdict.ask, Verdict.is_accepted, Sheet.permutes_pairs, Sheet.symmetries_verdict, Inner.WellFormed.WellFormed, Inner.WellFormed.GoodSymmetry}
use Rattle.block.specs.Block.{ordering, factorial, composed, in_block, image_of, ordering_table, block_tables, with_block, is_block_at, block_verdict}
use Rattle.block.specs.Inner.Claims.{TradePasses}
use Rattle.model.proofs.Lists.{both_l, both_r, T_of, of_T, not_of, TExt, map_append, below_i, below_e, up_from_add, length_below}
use Rattle.model.proofs.{Asked.symmetries_i, Asked.symmetries_first, Sets.mask_ext, Accepted.asked, Accepted.symmetries_e}
use Rattle.block.proofs.Orderings.{Few, factorial_up, Moves, moves, moves_small, moves_high, at_composed, product_row, generated, trade_at, row_zero}
use Rattle.block.proofs.Tables as B

-- ---- where an ordering takes a variable
module _ (first m : ℕ) (few : Few m) where
  pub image_at : (e : List ℕ) (i : ℕ) → i < m → image_of first m e (first + i) ≡ first + at e (5 - m + i) - (5 - m)
  unfolding image_of in_block
  image_at e i h =
      let l : first ≤ first + i = omega arith in
      let u : first + i < first + m = omega arith in
      let q : first + i - first ≡ i = omega arith in
      B.choose_yes (in_block first m (first + i)) (first + at e (5 - m + (first + i - first)) - (5 - m)) (first + i) (ap₂ both (le-leb first (first + i) l) (lt-ltb (first + i) (first + m) u))
      ∙ ap (λ (n : ℕ). first + at e (5 - m + n) - (5 - m)) q

  pub image_outside : (e : List ℕ) (x : ℕ) → (x < first) ⊎ (first + m ≤ x) → image_of first m e x ≡ x
  unfolding image_of in_block
  image_outside e x h = B.choose_no (in_block first m x) (first + at e (5 - m + (x - first)) - (5 - m)) x (not_of (in_block first m x) (out h))
    where
      out : (x < first) ⊎ (first + m ≤ x) → T (in_block first m x) → ⊥
      out (inl a) t = let l = leb→le first x (both_l (leb first x) (ltb x (first + m)) t) in omega arith
      out (inr a) t = let l = ltb→lt x (first + m) (both_r (leb first x) (ltb x (first + m)) t) in omega arith

  -- a variable of the block, or not
  which : (x : ℕ) → ((i : ℕ) × (i < m) × (x ≡ first + i)) ⊎ ((x < first) ⊎ (first + m ≤ x))
  which x = go (dec_lt x first) (dec_lt x (first + m))
    where
      go : Dec (x < first) → Dec (x < first + m) → ((i : ℕ) × (i < m) × (x ≡ first + i)) ⊎ ((x < first) ⊎ (first + m ≤ x))
      go (yes a) b = inr (inl a)
      go (no a) (yes b) = inl (x - first, omega arith, omega arith)
      go (no a) (no b) = inr (inr (omega arith))

  -- the block's variables stay in the block
  pub image_block : (e : List ℕ) → Moves m e → (i : ℕ) → i < m → (j : ℕ) × (j < m) × (image_of first m e (first + i) ≡ first + j) × (5 - m + j ≡ at e (5 - m + i))
  image_block e o i h =
      let c = 5 - m + i in
      let l2 = few.0 in
      let l5 = few.1 in
      let low : 5 - m ≤ at e c = moves_high m e o c (omega arith) (omega arith) in
      let high : at e c < 5 = moves_small m e o c (omega arith) in
      (at e c - (5 - m), omega arith, image_at e i h ∙ omega arith, omega arith)

  pub image_composed : (e f : List ℕ) → Moves m e → Moves m f → (x : ℕ) → image_of first m f (image_of first m e x) ≡ image_of first m (composed e f) x
  image_composed e f o u x = go (which x)
    where
      go : ((i : ℕ) × (i < m) × (x ≡ first + i)) ⊎ ((x < first) ⊎ (first + m ≤ x)) → image_of first m f (image_of first m e x) ≡ image_of first m (composed e f) x
      go (inl (i, h, q)) =
          let l2 = few.0 in
          let l5 = few.1 in
          let b = image_block e o i h in
          let c : 5 - m + i < length e = omega (arith, o.ordered.sized) in
          ap (λ (y : ℕ). image_of first m f (image_of first m e y)) q ∙ ap (image_of first m f) b.2 ∙ image_at f b.0 b.1
          ∙ ap (λ (n : ℕ). first + n - (5 - m)) (ap (at f) b.3 ∙ sym (at_composed e f (5 - m + i) c)) ∙ sym (ap (image_of first m (composed e f)) q ∙ image_at (composed e f) i h)
      go (inr h) = ap (image_of first m f) (image_outside e x h) ∙ image_outside f x h ∙ sym (image_outside (composed e f) x h)

  -- no two variables go to one
  pub image_injective : (e : List ℕ) → Moves m e → (x y : ℕ) → image_of first m e x ≡ image_of first m e y → x ≡ y
  image_injective e o x y q = go (which x) (which y)
    where
      apart : (i : ℕ) → i < m → (z : ℕ) → (z < first) ⊎ (first + m ≤ z) → image_of first m e (first + i) ≡ image_of first m e z → ⊥
      apart i h z b r = let c = image_block e o i h in far c.0 c.1 (sym c.2 ∙ r ∙ image_outside e z b) b
        where
          far : (j : ℕ) → j < m → first + j ≡ z → (z < first) ⊎ (first + m ≤ z) → ⊥
          far j l s (inl b) = omega arith
          far j l s (inr b) = omega arith

      go : ((i : ℕ) × (i < m) × (x ≡ first + i)) ⊎ ((x < first) ⊎ (first + m ≤ x)) → ((i : ℕ) × (i < m) × (y ≡ first + i)) ⊎ ((y < first) ⊎ (first + m ≤ y)) → x ≡ y
      go (inl (i, h, a)) (inl (j, k, b)) =
          let l2 = few.0 in
          let l5 = few.1 in
          let c = image_block e o i h in
          let d = image_block e o j k in
          let same_place : c.0 ≡ d.0 = omega (arith, sym c.2 ∙ ap (image_of first m e) (sym a) ∙ q ∙ ap (image_of first m e) b ∙ d.2) in
          let z : 5 - m + i ≡ 5 - m + j = o.ordered.once (5 - m + i) (5 - m + j) (omega arith) (omega arith) (sym c.3 ∙ ap (λ (n : ℕ). 5 - m + n) same_place ∙ d.3) in
          omega arith
      go (inl (i, h, a)) (inr b) = absurd (apart i h y b (sym (ap (image_of first m e) a) ∙ q))
      go (inr a) (inl (j, k, b)) = absurd (apart j k x a (sym (ap (image_of first m e) b) ∙ sym q))
      go (inr a) (inr b) = sym (image_outside e x a) ∙ q ∙ image_outside e y b

  -- the first row moves nothing
  pub image_zero : (x : ℕ) → image_of first m (ordering 0) x ≡ x
  image_zero x = go (which x)
    where
      go : ((i : ℕ) × (i < m) × (x ≡ first + i)) ⊎ ((x < first) ⊎ (first + m ≤ x)) → image_of first m (ordering 0) x ≡ x
      go (inl (i, h, q)) =
          let l2 = few.0 in
          let l5 = few.1 in
          ap (image_of first m (ordering 0)) q ∙ image_at (ordering 0) i h ∙ ap (λ (n : ℕ). first + n - (5 - m)) (row_zero (5 - m + i) (omega arith)) ∙ omega arith
      go (inr h) = image_outside (ordering 0) x h

  -- row k! trades the neighbours first + (m - 1 - k) and first + (m - k)
  pub trade_there : (k : ℕ) → 1 ≤ k → k < m → image_of first m (ordering (factorial k)) (first + (m - suc k)) ≡ first + (m - k)
  trade_there k l h =
      let l5 = few.1 in
      let e : 5 - m + (m - suc k) ≡ 4 - k = omega arith in
      image_at (ordering (factorial k)) (m - suc k) (omega arith) ∙ ap (λ (n : ℕ). first + n - (5 - m)) (ap (at (ordering (factorial k))) e ∙ (trade_at k l (omega arith)).0) ∙ omega arith

  pub trade_back : (k : ℕ) → 1 ≤ k → k < m → image_of first m (ordering (factorial k)) (first + (m - k)) ≡ first + (m - suc k)
  trade_back k l h =
      let l5 = few.1 in
      let e : 5 - m + (m - k) ≡ 5 - k = omega arith in
      image_at (ordering (factorial k)) (m - k) (omega arith) ∙ ap (λ (n : ℕ). first + n - (5 - m)) (ap (at (ordering (factorial k))) e ∙ (trade_at k l (omega arith)).1) ∙ omega arith

-- ---- the tables
module _ (p : Problem) (w : WellFormed p) (first m : ℕ) (few : Few m) (inside : first + m ≤ p.variables) where
  abbrev table : ℕ → List ℕ
  table row = ordering_table p first m row

  pub length_table : (row : ℕ) → length (table row) ≡ p.variables * p.values
  unfolding ordering_table
  length_table row = B.length_variable_table p w (image_of first m (ordering row))

  -- the table of a product of orderings is the product of their tables
  pub table_composed : (r s t : ℕ) → r < factorial m → s < factorial m → ordering t ≡ composed (ordering r) (ordering s) → T (permutes_pairs p (table r)) → composed (table r) (table s) ≡ table t
  unfolding ordering_table
  table_composed r s t h k e o =
      B.variable_table_composed p w (image_of first m (ordering r)) o (image_of first m (ordering s))
      ∙ B.variable_table_ext p w (λ x. image_of first m (ordering s) (image_of first m (ordering r) x)) (image_of first m (ordering t))
      (λ x l. image_composed first m few (ordering r) (ordering s) (moves m r few h) (moves m s few k) x ∙ ap (λ (f : List ℕ). image_of first m f x) (sym e))

  -- row 0 passes both questions
  pub zero_passes : B.Passes p (table 0)
  unfolding ordering_table
  zero_passes = B.passes_unmoved p w (image_of first m (ordering 0)) (λ x l. image_zero first m few x)

  good_row : (row : ℕ) → T (permutes_pairs p (table row)) → GoodSymmetry p (table row)
  good_row row t = record { sized = length_table row; permutes = t }

  -- a row passes where the trades of neighbours up to it do
  passes_row : (n row : ℕ) → row < n → row < factorial m → ((k : ℕ) → 1 ≤ k → k < m → factorial k ≤ row → B.Passes p (table (factorial k))) → B.Passes p (table row)
  passes_row zero row l h trades = absurd (omega arith)
  passes_row (suc n) zero l h trades = zero_passes
  passes_row (suc n) (suc row) l h trades =
      let g = generated m (suc row) few (omega arith) h in
      let k = g.0 in
      let s = g.1 in
      let low : factorial k ≤ suc row = g.4 in
      let less : s < suc row = g.5 in
      let big : s < factorial m = omega arith in
      let a = trades k g.2 g.3 low in
      subst (B.Passes p) (table_composed (factorial k) s (suc row) (omega arith) big g.6 a.good.permutes)
      (B.passes_composed p w (table (factorial k)) (table s) a (passes_row n s (omega arith) big (λ j i u v. trades j i u (omega arith))))

  trade_passes : (k : ℕ) → TradePasses p first m k → B.Passes p (table (factorial k))
  trade_passes k t = record { good = good_row (factorial k) t.0; respectful = t.1 }

  -- where the m - 1 trades of neighbours pass 15 and 16, all m! rows do
  pub trades_enough : ((k : ℕ) → 1 ≤ k → k < m → TradePasses p first m k) → (row : ℕ) → row < factorial m → B.Passes p (table row)
  trades_enough t row h = passes_row (suc row) row (omega arith) h (λ k l j u. trade_passes k (t k l j))

  -- where the trades before the k-th do, the rows before row k! do
  pub trades_before : (k : ℕ) → 1 ≤ k → k < m → ((j : ℕ) → 1 ≤ j → j < k → TradePasses p first m j) → (row : ℕ) → row < factorial k → B.Passes p (table row)
  trades_before k o h t row l =
      passes_row (suc row) row (omega arith) (let z = factorial_up k m o h in omega arith) (λ j i u v. trade_passes j (t j i (before j v (dec_lt j k) (ℕ_discrete k j))))
    where
      before : (j : ℕ) → factorial j ≤ row → Dec (j < k) → Dec (k ≡ j) → j < k
      before j v (yes a) b = a
      before j v (no a) (yes b) = absurd (let z : factorial k ≡ factorial j = ap factorial b in omega arith)
      before j v (no a) (no b) = absurd (let z = factorial_up k j o (omega arith) in omega arith)

  -- ---- equal initial sets
  module _ (passed : (k : ℕ) → 1 ≤ k → k < m → T (permutes_pairs p (table (factorial k)))) where
    neighbours : (k : ℕ) → 1 ≤ k → k < m → at p.initial (first + (m - suc k)) ≡ at p.initial (first + (m - k))
    unfolding ordering_table
    neighbours k l h =
        let x = first + (m - suc k) in
        let y = first + (m - k) in
        let f = image_of first m (ordering (factorial k)) in
        let lx : x < p.variables = omega arith in
        let ly : y < p.variables = omega arith in
        let there : (v : ℕ) → T (has (at p.initial x) v) → T (has (at p.initial y) v) = λ v t. subst (λ (z : ℕ). T (has (at p.initial z) v)) (trade_there first m few k l h)
        (B.moved_has p w f (passed k l h) x v lx t) in
        let back : (v : ℕ) → T (has (at p.initial y) v) → T (has (at p.initial x) v) = λ v t. subst (λ (z : ℕ). T (has (at p.initial z) v)) (trade_back first m few k l h)
        (B.moved_has p w f (passed k l h) y v ly t) in
        mask_ext p.values (at p.initial x) (at p.initial y) (w.narrow x lx) (w.narrow y ly) (λ v u. TExt (has (at p.initial x) v) (has (at p.initial y) v) (there v) (back v))

    as_first : (i : ℕ) → i < m → at p.initial (first + i) ≡ at p.initial first
    as_first zero h = ap (at p.initial) (omega arith)
    as_first (suc i) h =
        let a : m - suc (m - suc i) ≡ i = omega arith in
        let b : m - (m - suc i) ≡ suc i = omega arith in
        ap (λ (n : ℕ). at p.initial (first + n)) (sym b) ∙ sym (neighbours (m - suc i) (omega arith) (omega arith)) ∙ ap (λ (n : ℕ). at p.initial (first + n)) a ∙ as_first i (omega arith)

    -- where the block's tables pass 15 (the trades are enough), its variables have equal initial sets
    pub equal_sets : (i j : ℕ) → i < m → j < m → at p.initial (first + i) ≡ at p.initial (first + j)
    equal_sets i j h k = as_first i h ∙ sym (as_first j k)

  pub image_variable : (row : ℕ) → row < factorial m → (x : ℕ) → x < p.variables → image_of first m (ordering row) x < p.variables
  image_variable row h x l = go (which first m few x)
    where
      go : ((i : ℕ) × (i < m) × (x ≡ first + i)) ⊎ ((x < first) ⊎ (first + m ≤ x)) → image_of first m (ordering row) x < p.variables
      go (inl (i, k, q)) =
          let c = image_block first m few (ordering row) (moves m row few h) i k in
          subst (λ (y : ℕ). y < p.variables) (sym (ap (image_of first m (ordering row)) q ∙ c.2)) (let j = c.1 in omega arith)
      go (inr b) = subst (λ (y : ℕ). y < p.variables) (sym (image_outside first m few (ordering row) x b)) l

  -- the pair of x and v goes to the pair of that variable and v
  pub row_pair : (row x v : ℕ) → x < p.variables → T (has (at p.initial x) v) → at (table row) (pair p x v) ≡ pair p (image_of first m (ordering row) x) v
  unfolding ordering_table
  row_pair row x v l t = B.moved p w (image_of first m (ordering row)) x v l t

  -- ---- two of a block's tables, one after the other, are one of them
  pub block_closed : ((row : ℕ) → row < factorial m → T (permutes_pairs p (table row))) → (g h : List ℕ) → Memᴰ g (block_tables p first m) → Memᴰ h (block_tables p first m) → Memᴰ
      (composed g h) (block_tables p first m)
  unfolding block_tables
  block_closed o g h i j =
      let a = Memᴰ-of_map table (below (factorial m)) i in
      let b = Memᴰ-of_map table (below (factorial m)) j in
      let l = below_e (factorial m) a.0 a.1 in
      let k = below_e (factorial m) b.0 b.1 in
      let t = product_row m a.0 b.0 few l k in
      Memᴰ-cast (ap₂ composed (sym a.2) (sym b.2) ∙ table_composed a.0 b.0 t.0 l k t.2 (o a.0 l)) (Memᴰ-map table (below_i (factorial m) t.0 t.1))

-- ---- the questions
-- what the block's questions show
pub record Block (p : Problem) (first m : ℕ) : Type 0 where
  pub few : Few m
  pub inside : first + m ≤ p.variables
  pub rows : (row : ℕ) → row < factorial m → B.Passes p (ordering_table p first m row)

-- question 36
pub block_is : (p : Problem) (first m : ℕ) → T (is_block_at p first m) → Few m × (first + m ≤ p.variables)
unfolding is_block_at
block_is p first m t =
    let a = both_l (both (leb 2 m) (leb m 5)) (leb (first + m) p.variables) t in
    ((leb→le 2 m (both_l (leb 2 m) (leb m 5) a), leb→le m 5 (both_r (leb 2 m) (leb m 5) a)), leb→le (first + m) p.variables (both_r (both (leb 2 m) (leb m 5)) (leb (first + m) p.variables) t))

pub is_block : (p : Problem) (first m : ℕ) → Few m → first + m ≤ p.variables → T (is_block_at p first m)
unfolding is_block_at
is_block p first m f l = T_of (is_block_at p first m) (ap₂ both (ap₂ both (le-leb 2 m f.0) (le-leb m 5 f.1)) (le-leb (first + m) p.variables l))

module _ (p : Problem) (w : WellFormed p) (first m : ℕ) where
  pub block_e : block_verdict p first m ≡ accepted → Block p first m
  unfolding block_verdict block_tables
  block_e e =
      let q = asked (is_block_at p first m) 36 0 (symmetries_verdict p (length p.symmetries) (block_tables p first m)) (subst (λ (v : Verdict). T (is_accepted v)) (sym e) tt) in
      let b = block_is p first m q.0 in
      record {
        few = b.0;
        inside = b.1;
        rows = λ row h.
            (let r = symmetries_e p (length p.symmetries) (block_tables p first m) q.1 (ordering_table p first m row) (Memᴰ-map (ordering_table p first m) (below_i (factorial m) row h)) in
            record { good = good_row p w first m b.0 b.1 row r.0; respectful = r.1 });
      }

  -- a block whose m - 1 trades of neighbours pass 15 and 16 is accepted
  pub block_i : T (is_block_at p first m) → ((k : ℕ) → 1 ≤ k → k < m → TradePasses p first m k) → block_verdict p first m ≡ accepted
  unfolding block_verdict block_tables
  block_i is t =
      let b = block_is p first m is in
      ap (λ (c : Bool). ask c 36 0 (symmetries_verdict p (length p.symmetries) (block_tables p first m))) (of_T (is_block_at p first m) is)
      ∙ symmetries_i p (length p.symmetries) (block_tables p first m)
      (λ g i. let r = Memᴰ-of_map (ordering_table p first m) (below (factorial m)) i in
      let o = trades_enough p w first m b.0 b.1 t r.0 (below_e (factorial m) r.0 r.1) in
      subst (λ (f : List ℕ). T (permutes_pairs p f) × T (respects p f)) r.2 (o.good.permutes, o.respectful))

  -- not 2 to 5 neighbouring variables of the problem
  pub block_refused : is_block_at p first m ≡ false → block_verdict p first m ≡ refused 36 0
  unfolding block_verdict
  block_refused e = ap (λ (b : Bool). ask b 36 0 (symmetries_verdict p (length p.symmetries) (block_tables p first m))) e

  -- where all rows before one pass, and that one fails: its number counts on from the problem's own symmetries
  module _ (is : T (is_block_at p first m)) (row : ℕ) (h : row < factorial m)
      (before : (r : ℕ) → r < row → T (permutes_pairs p (ordering_table p first m r)) × T (respects p (ordering_table p first m r))) where
    verdict_at : (rest : Verdict)
        × (block_verdict p first m ≡ ask (permutes_pairs p (ordering_table p first m row)) 15 (length p.symmetries + row)
        (ask (respects p (ordering_table p first m row)) 16 (length p.symmetries + row) rest))
    unfolding block_verdict block_tables below up_from
    verdict_at =
        let table = ordering_table p first m in
        let g = length p.symmetries in
        let k = factorial m - suc row in
        let split : map table (up_from 0 (factorial m)) ≡ map table (up_from 0 row) ++ (table row ∷ map table (up_from (suc row) k)) = (let e : factorial m ≡ row + suc k = omega arith in
        ap (λ (n : ℕ). map table (up_from 0 n)) e ∙ ap (map table) (up_from_add 0 row (suc k)) ∙ map_append table (up_from 0 row) (up_from (0 + row) (suc k))
        ∙ ap (λ (n : ℕ). map table (up_from 0 row) ++ map table (up_from n (suc k))) (let z : 0 + row ≡ row = omega arith in z)) in
        let n : g + length (map table (up_from 0 row)) ≡ g + row = ap (λ (a : ℕ). g + a) (length_below table row) in
        let rest : ℕ → Verdict = λ a. ask (permutes_pairs p (table row)) 15 a (ask (respects p (table row)) 16 a (symmetries_verdict p (suc a) (map table (up_from (suc row) k)))) in (
          symmetries_verdict p (suc (g + row)) (map table (up_from (suc row) k)),
          ap (λ (b : Bool). ask b 36 0 (symmetries_verdict p g (block_tables p first m))) (of_T (is_block_at p first m) is) ∙ ap (symmetries_verdict p g) split
              ∙ symmetries_first p (map table (up_from 0 row)) g (table row) (map table (up_from (suc row) k))
              (λ f i. let r = Memᴰ-of_map table (below row) i in subst (λ (l : List ℕ). T (permutes_pairs p l) × T (respects p l)) r.2 (before r.0 (below_e row r.0 r.1)))
              ∙ ap rest n,
        )

    row_refused_15 : permutes_pairs p (ordering_table p first m row) ≡ false → block_verdict p first m ≡ refused 15 (length p.symmetries + row)
    row_refused_15 e = verdict_at.1 ∙ ap (λ (b : Bool). ask b 15 (length p.symmetries + row) (ask (respects p (ordering_table p first m row)) 16 (length p.symmetries + row) verdict_at.0)) e

    row_refused_16 : T (permutes_pairs p (ordering_table p first m row)) → respects p (ordering_table p first m row) ≡ false → block_verdict p first m ≡ refused 16 (length p.symmetries + row)
    row_refused_16 t e =
        verdict_at.1
        ∙ ap₂ (λ (b c : Bool). ask b 15 (length p.symmetries + row) (ask c 16 (length p.symmetries + row) verdict_at.0)) (of_T (permutes_pairs p (ordering_table p first m row)) t) e

  -- the first trade of neighbours that is refused decides: the rows before it pass
  module _ (is : T (is_block_at p first m)) (k : ℕ) (l : 1 ≤ k) (h : k < m) (before : (j : ℕ) → 1 ≤ j → j < k → TradePasses p first m j) where
    rows_before : (r : ℕ) → r < factorial k → T (permutes_pairs p (ordering_table p first m r)) × T (respects p (ordering_table p first m r))
    rows_before r i = let a = trades_before p w first m (block_is p first m is).0 (block_is p first m is).1 k l h before r i in (a.good.permutes, a.respectful)

    pub trade_refused_15 : permutes_pairs p (ordering_table p first m (factorial k)) ≡ false → block_verdict p first m ≡ refused 15 (length p.symmetries + factorial k)
    trade_refused_15 = row_refused_15 is (factorial k) (factorial_up k m l h) rows_before

    pub trade_refused_16 : T (permutes_pairs p (ordering_table p first m (factorial k))) → respects p (ordering_table p first m (factorial k)) ≡ false → block_verdict p first m ≡ refused 16
        (length p.symmetries + factorial k)
    trade_refused_16 = row_refused_16 is (factorial k) (factorial_up k m l h) rows_before

  -- the tables of an accepted block pass both questions
  pub row_passes : block_verdict p first m ≡ accepted → (g : List ℕ) → Memᴰ g (block_tables p first m) → B.Passes p g
  unfolding block_tables
  row_passes e g i = let r = Memᴰ-of_map (ordering_table p first m) (below (factorial m)) i in subst (B.Passes p) r.2 ((block_e e).rows r.0 (below_e (factorial m) r.0 r.1))

  -- a block's orderings, used with no other symmetries: any two of them, one after the other, agree with one of them on all numbers
  pub alone_closed : p.symmetries ≡ [] → block_verdict p first m ≡ accepted → (g h : List ℕ) → Memᴰ g (with_block first m p).symmetries → Memᴰ h (with_block first m p).symmetries →
      (k : List ℕ) × Memᴰ k (with_block first m p).symmetries × ((q : ℕ) → q < p.variables * p.values → at h (at g q) ≡ at k q)
  alone_closed none e g h i j =
      let b = block_e e in
      let only : p.symmetries ++ block_tables p first m ≡ block_tables p first m = ap (λ (l : List (List ℕ)). l ++ block_tables p first m) none in
      let i' = subst (Memᴰ g) only i in
      let n : length g ≡ p.variables * p.values = (row_passes e g i').good.sized in (
        composed g h,
        subst (Memᴰ (composed g h)) (sym only) (block_closed p w first m b.few b.inside (λ row l. (b.rows row l).good.permutes) g h i' (subst (Memᴰ h) only j)),
        λ q l. sym (at_composed g h q (subst (λ (k : ℕ). q < k) (sym n) l)),
      )
