-- The orderings of a block of neighbouring variables contain every trade of two: so they only say that its variables ascend. Assumes nothing.
use Rattle.model.specs.Kit.{◌≡◌, refl, sym, ap, ◌∙◌, subst, true, false, List, ◌++◌, map, Memᴰ, Memᴰ-append_left, Memᴰ-map, Memᴰ-of_map, ◌⊎◌, inl, inr, ⊎_elim, ℕ, ◌+◌, ◌-◌, ◌≤◌, ◌<◌, ℕ_discrete}
use Rattle.model.specs.Kit.{arith, T, eqb, leb, ltb, leb→le, ltb→lt, eq-eqb, ne_eqb, le-leb, lt-ltb}
use Rattle.model.specs.{Lists.below, Lists.at, Problem.Problem, Problem.pair, Verdict.accepted, Inner.WellFormed.WellFormed}
use mathlib.Core.List.Memᴰ
use Rattle.block.specs.{Block.ordering, Block.factorial, Block.in_block, Block.image_of, Block.ordering_table, Block.block_tables, Block.block_verdict, Inner.BlockSets.Reorders}
use Rattle.block.specs.Inner.BlockSets.{Trades, BlockIn}
use Rattle.model.proofs.{Lists.T_of, Lists.TDec, Lists.not_of, Lists.both_i, Lists.both_l, Lists.both_r, Lists.below_i, Lists.below_e, Lists.at_below, Lists.length_below, Counting.distinct_below}
use Rattle.block.proofs.Orderings.{Few, Moves, factorial_up, ordering_of, moves, moves_row}
use Rattle.block.proofs.Block.{image_at, image_block, image_injective, image_variable, row_pair, equal_sets, block_e}
use Rattle.block.proofs.Tables as B

-- ---- the trade of two numbers
swap : ℕ → ℕ → ℕ → ℕ
swap a b k = elim (eqb k a) [ true ↦ b | false ↦ elim (eqb k b) [ true ↦ a | false ↦ k ] ]

swap_first : (a b : ℕ) → swap a b a ≡ b
unfolding swap
swap_first a b = B.choose_yes (eqb a a) b (elim (eqb a b) [ true ↦ a | false ↦ a ]) (eq-eqb a a refl)

swap_other : (a b k : ℕ) → (k ≡ a → ⊥) → (k ≡ b → ⊥) → swap a b k ≡ k
unfolding swap
swap_other a b k f g = B.choose_no (eqb k a) b (elim (eqb k b) [ true ↦ a | false ↦ k ]) (ne_eqb k a f) ∙ B.choose_no (eqb k b) a k (ne_eqb k b g)

swap_second : (a b : ℕ) → (a ≡ b → ⊥) → swap a b b ≡ a
unfolding swap
swap_second a b f = B.choose_no (eqb b a) b (elim (eqb b b) [ true ↦ a | false ↦ b ]) (ne_eqb b a (λ e. f (sym e))) ∙ B.choose_yes (eqb b b) a b (eq-eqb b b refl)

swap_twice : (a b k : ℕ) → (a ≡ b → ⊥) → swap a b (swap a b k) ≡ k
swap_twice a b k f = go (ℕ_discrete k a) (ℕ_discrete k b)
  where
    go : Dec (k ≡ a) → Dec (k ≡ b) → swap a b (swap a b k) ≡ k
    go (yes e) d = ap (λ (z : ℕ). swap a b (swap a b z)) e ∙ ap (swap a b) (swap_first a b) ∙ swap_second a b f ∙ sym e
    go (no c) (yes e) = ap (λ (z : ℕ). swap a b (swap a b z)) e ∙ ap (swap a b) (swap_second a b f) ∙ swap_first a b ∙ sym e
    go (no c) (no d) = ap (swap a b) (swap_other a b k c d) ∙ swap_other a b k c d

swap_small : (a b k n : ℕ) → a < n → b < n → k < n → (a ≡ b → ⊥) → swap a b k < n
swap_small a b k n h i l f = go (ℕ_discrete k a) (ℕ_discrete k b)
  where
    go : Dec (k ≡ a) → Dec (k ≡ b) → swap a b k < n
    go (yes e) d = subst (λ (z : ℕ). z < n) (sym (ap (swap a b) e ∙ swap_first a b)) i
    go (no c) (yes e) = subst (λ (z : ℕ). z < n) (sym (ap (swap a b) e ∙ swap_second a b f)) h
    go (no c) (no d) = subst (λ (z : ℕ). z < n) (sym (swap_other a b k c d)) l

-- as an ordering of the last m of five
swap_moves : (m a b : ℕ) → 5 - m ≤ a → a < 5 → 5 - m ≤ b → b < 5 → (a ≡ b → ⊥) → Moves m (map (swap a b) (below 5))
swap_moves m a b al au bl bu f = record {
  ordered = ordering_of 5 (map (swap a b) (below 5)) (length_below (swap a b) 5)
      (λ x i. let r = Memᴰ-of_map (swap a b) (below 5) i in subst (λ (z : ℕ). z < 5) r.2 (swap_small a b r.0 5 au bu (below_e 5 r.0 r.1) f))
      (distinct_below (swap a b) 5 (λ i j h k e. sym (swap_twice a b i f) ∙ ap (swap a b) e ∙ swap_twice a b j f));
  still = λ i h. at_below (swap a b) 5 i (omega arith) ∙ swap_other a b i (λ e. omega arith) (λ e. omega arith);
}

-- ---- the block's variables
module _ (first m : ℕ) where
  pub in_block_lem : (x : ℕ) → T (in_block first m x) → (i : ℕ) × (i < m) × (x ≡ first + i)
  unfolding in_block
  in_block_lem x t =
      let l = leb→le first x (both_l (leb first x) (ltb x (first + m)) t) in
      let u = ltb→lt x (first + m) (both_r (leb first x) (ltb x (first + m)) t) in
      (x - first, omega arith, omega arith)

  pub block_in : (i : ℕ) → i < m → T (in_block first m (first + i))
  unfolding in_block
  block_in i h =
      let a : first ≤ first + i = omega arith in
      let b : first + i < first + m = omega arith in
      both_i (leb first (first + i)) (ltb (first + i) (first + m)) (T_of (leb first (first + i)) (le-leb first (first + i) a)) (T_of (ltb (first + i) (first + m)) (lt-ltb (first + i) (first + m) b))

  out_block : (e : List ℕ) (x : ℕ) → (T (in_block first m x) → ⊥) → image_of first m e x ≡ x
  unfolding image_of
  out_block e x f = B.choose_no (in_block first m x) (first + at e (5 - m + (x - first)) - (5 - m)) x (not_of (in_block first m x) f)

module _ (p : Problem) (w : WellFormed p) (first m : ℕ) (few : Few m) (inside : first + m ≤ p.variables) where
  -- each row only reorders the block
  pub row_reorders : (row : ℕ) → row < factorial m → Reorders p (in_block first m) (ordering_table p first m row)
  row_reorders row h = record {
    image = image_of first m (ordering row);
    moved = row_pair p w first m few inside row;
    variable = image_variable p w first m few inside row h;
    injective = λ x y a b e. image_injective first m few (ordering row) (moves m row few h) x y e;
    only = λ x l f. go x f (TDec (in_block first m x));
  }
    where
      go : (x : ℕ) → (image_of first m (ordering row) x ≡ x → ⊥) → T (in_block first m x) ⊎ (T (in_block first m x) → ⊥) → T (in_block first m x)
          × T (in_block first m (image_of first m (ordering row) x))
      go x f (inl t) =
          let i = in_block_lem first m x t in
          let c = image_block first m few (ordering row) (moves m row few h) i.0 i.1 in
          (t, subst (λ (z : ℕ). T (in_block first m z)) (sym (ap (image_of first m (ordering row)) i.2 ∙ c.2)) (block_in first m c.0 c.1))
      go x f (inr t) = absurd (f (out_block first m (ordering row) x t))

  -- some row trades first + i and first + j
  pub trade_row_of : (i j : ℕ) → i < m → j < m → (i ≡ j → ⊥) → (row : ℕ) × (row < factorial m) × Trades p (first + i) (first + j) (ordering_table p first m row)
  trade_row_of i j h k f = (
    row,
    r.1,
    record {
      there = λ v t. row_pair p w first m few inside row (first + i) v (omega arith) t ∙ ap (λ (z : ℕ). pair p z v) to;
      rest = λ z v l c d t. row_pair p w first m few inside row z v l t ∙ ap (λ (y : ℕ). pair p y v) (stay z c d (TDec (in_block first m z)));
    },
  )
    where
      a : ℕ
      a = 5 - m + i

      b : ℕ
      b = 5 - m + j

      m5 : m ≤ 5
      m5 = few.1

      different : a ≡ b → ⊥
      different e = f (omega arith)

      e : List ℕ
      e = map (swap a b) (below 5)

      r : (row : ℕ) × (row < factorial m) × (ordering row ≡ e)
      r = moves_row m e few (swap_moves m a b (omega arith) (omega (arith, m5)) (omega arith) (omega (arith, m5)) different)

      row : ℕ
      row = r.0

      goes : (c : ℕ) → c < m → image_of first m (ordering row) (first + c) ≡ first + swap a b (5 - m + c) - (5 - m)
      goes c l =
          image_at first m few (ordering row) c l ∙ ap (λ (z : ℕ). first + z - (5 - m)) (ap (λ (l : List ℕ). at l (5 - m + c)) r.2 ∙ at_below (swap a b) 5 (5 - m + c) (omega (arith, m5)))

      to : image_of first m (ordering row) (first + i) ≡ first + j
      to = goes i h ∙ ap (λ (z : ℕ). first + z - (5 - m)) (swap_first a b) ∙ omega arith

      stay : (z : ℕ) → (z ≡ first + i → ⊥) → (z ≡ first + j → ⊥) → T (in_block first m z) ⊎ (T (in_block first m z) → ⊥) → image_of first m (ordering row) z ≡ z
      stay z c d (inl t) =
          let q = in_block_lem first m z t in
          let s = q.2 in
          ap (image_of first m (ordering row)) q.2 ∙ goes q.0 q.1 ∙ ap (λ (y : ℕ). first + y - (5 - m)) (swap_other a b (5 - m + q.0) (λ u. c (omega arith)) (λ u. d (omega arith)))
          ∙ omega arith
      stay z c d (inr t) = out_block first m (ordering row) z t

  -- D: the problem's own symmetries with the block's after them
  pub orderings_block : ((i j : ℕ) → i < m → j < m → at p.initial (first + i) ≡ at p.initial (first + j)) → BlockIn p (in_block first m) (p.symmetries ++ block_tables p first m)
  unfolding block_tables
  orderings_block equal = record {
    equal = λ x y l k s t. let i = in_block_lem first m x s in let j = in_block_lem first m y t in ap (at p.initial) i.2 ∙ equal i.0 j.0 i.1 j.1 ∙ ap (at p.initial) (sym j.2);
    own = λ g i. Memᴰ-append_left (block_tables p first m) i;
    each = λ g i. ⊎_elim {C = Memᴰ g p.symmetries ⊎ Reorders p (in_block first m) g} inl
        (λ j. let r = Memᴰ-of_map (ordering_table p first m) (below (factorial m)) j in inr (subst (Reorders p (in_block first m)) r.2 (row_reorders r.0 (below_e (factorial m) r.0 r.1))))
        (Memᴰ.append_cases p.symmetries i);
    trade = λ x y l k f s t.
        let i = in_block_lem first m x s in
        let j = in_block_lem first m y t in
        let r = trade_row_of i.0 j.0 i.1 j.1 (λ e. f (i.2 ∙ ap (λ (z : ℕ). first + z) e ∙ sym j.2)) in (
          ordering_table p first m r.0,
          Memᴰ.append_right p.symmetries (Memᴰ-map (ordering_table p first m) (below_i (factorial m) r.0 r.1)),
          subst (λ (z : ℕ). Trades p z y (ordering_table p first m r.0)) (sym i.2) (subst (λ (z : ℕ). Trades p (first + i.0) z (ordering_table p first m r.0)) (sym j.2) r.2),
        );
  }

-- an accepted block is one
pub accepted_block : (p : Problem) → WellFormed p → (first m : ℕ) → block_verdict p first m ≡ accepted → BlockIn p (in_block first m) (p.symmetries ++ block_tables p first m)
accepted_block p w first m e =
    let b = block_e p w first m e in
    orderings_block p w first m b.few b.inside (equal_sets p w first m b.few b.inside (λ k l h. (b.rows (factorial k) (factorial_up k m l h)).good.permutes))
