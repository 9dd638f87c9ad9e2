-- A block of a problem whose variables are settled in another order: the reordered problem has a block too, of the positions of the block's variables. Assumes nothing.
use Rattle.model.specs.Kit.{◌≡◌, sym, ap, ap₂, ◌∙◌, subst, Bool, false, List, ◌++◌, map, Memᴰ, Memᴰ-map, Memᴰ-of_map, ◌⊎◌, inl, inr, ◌↔◌, ℕ, ◌*◌, ◌≤◌, ◌<◌, T}
use Rattle.model.specs.{Lists.at, ValueSets.has, ValueSets.any_empty, Problem.Problem, Problem.pair, Verdict.accepted, Search.is_plan, Claims.Consistent, Inner.WellFormed.WellFormed}
use Rattle.block.specs.{Block.in_block, Block.block_tables, Block.with_block, Block.block_verdict, Inner.BlockSets.Reorders, Inner.BlockSets.Trades, Inner.BlockSets.BlockIn, Inner.Claims.Ascends}
use Rattle.order.specs.{Order.Ordering, Reordered.position, Reordered.read, Reordered.renamed, Reordered.symmetry_in, Reordered.reordered}
use Rattle.model.proofs.Lists.{at_below}
use Rattle.block.proofs.BlockOrderings.{accepted_block}
use Rattle.model.proofs.Pairs as P
use Rattle.order.proofs.Reordered as R
use Rattle.block.proofs.BlockSets as S

module _ (p : Problem) (w : WellFormed p) (order : List ℕ) (o : Ordering p.variables order) where
  -- a set of the reordered problem is the set of the variable that stands there
  has_in : (i v : ℕ) → i < p.variables → T (has (at (read order p.initial) i) v) → T (has (at p.initial (at order i)) v)
  has_in i v l t = subst (λ (s : ℕ). T (has s v)) (R.set_at p order o w i l) t

  -- a symmetry that takes (order[i], v) to (y, v) takes (i, v) to (the position of y, v)
  pub moved_in : (g : List ℕ) (i y v : ℕ) → i < p.variables → T (has (at (read order p.initial) i) v) → at g (pair p (at order i) v) ≡ pair p y v →
      at (symmetry_in order p g) (pair (reordered order p) i v) ≡ pair (reordered order p) (position order y) v
  unfolding symmetry_in renamed
  moved_in g i y v l t e =
      let small = P.init_lt p w.narrow (at order i) v (R.place_lt p order o i l) (has_in i v l t) in
      ap (at (symmetry_in order p g)) (R.pair_same p order o w i v) ∙ at_below (λ q. renamed p (position order) (at g (renamed p (at order) q))) (p.variables * p.values) (pair p i v)
      (P.pair_lt p i v l small)
      ∙ ap (λ (q : ℕ). renamed p (position order) (at g q)) (R.from_pair p order o w i v small) ∙ ap (renamed p (position order)) e
      ∙ ap₂ (λ (a b : ℕ). pair p (position order a) b) (P.pair_div p y v small) (P.pair_mod p y v small) ∙ sym (R.pair_same p order o w (position order y) v)

  module _ (block : ℕ → Bool) where
    abbrev pub block_in : ℕ → Bool
    block_in i = block (at order i)

    pub reorders_in : (g : List ℕ) → Reorders p block g → Reorders (reordered order p) block_in (symmetry_in order p g)
    reorders_in g r = record {
      image = λ i. position order (r.image (at order i));
      moved = λ i v l t. moved_in g i (r.image (at order i)) v l t (r.moved (at order i) v (place i l) (has_in i v l t));
      variable = λ i l. R.stand_lt p order o (r.image (at order i)) (image i l);
      injective = λ i j l k e.
          o.once i j l k (r.injective (at order i) (at order j) (place i l) (place j k)
          (sym (R.place_stand p order o (r.image (at order i)) (image i l)) ∙ ap (at order) e ∙ R.place_stand p order o (r.image (at order j)) (image j k)));
      only = λ i l f.
          let q = r.only (at order i) (place i l) (λ e. f (ap (position order) e ∙ R.stand_place p order o i l)) in
          (q.0, subst (λ (z : ℕ). T (block z)) (sym (R.place_stand p order o (r.image (at order i)) (image i l))) q.1);
    }
      where
        place : (i : ℕ) → i < p.variables → at order i < p.variables
        place i l = R.place_lt p order o i l

        image : (i : ℕ) → i < p.variables → r.image (at order i) < p.variables
        image i l = r.variable (at order i) (place i l)

    pub trades_in : (g : List ℕ) (i j : ℕ) → i < p.variables → j < p.variables → Trades p (at order i) (at order j) g → Trades (reordered order p) i j (symmetry_in order p g)
    trades_in g i j l k r = record {
      there = λ v t. moved_in g i (at order j) v l t (r.there v (has_in i v l t)) ∙ ap (λ (z : ℕ). pair (reordered order p) z v) (R.stand_place p order o j k);
      rest = λ z v h a b t.
          moved_in g z (at order z) v h t (r.rest (at order z) v (R.place_lt p order o z h) (λ e. a (o.once z i h l e)) (λ e. b (o.once z j h k e)) (has_in z v h t))
          ∙ ap (λ (y : ℕ). pair (reordered order p) y v) (R.stand_place p order o z h);
    }

    -- D: the block's positions are a block of the reordered problem
    pub block_reordered : (gs : List (List ℕ)) → BlockIn p block gs → BlockIn (reordered order p) block_in (map (symmetry_in order p) gs)
    block_reordered gs b = record {
      equal = λ i j l k s t. R.set_at p order o w i l ∙ b.equal (at order i) (at order j) (R.place_lt p order o i l) (R.place_lt p order o j k) s t ∙ sym (R.set_at p order o w j k);
      own = λ f m.
          let r = Memᴰ-of_map (symmetry_in order p) p.symmetries m in
          subst (λ (h : List ℕ). Memᴰ h (map (symmetry_in order p) gs)) r.2 (Memᴰ-map (symmetry_in order p) (b.own r.0 r.1));
      each = λ f m. let r = Memᴰ-of_map (symmetry_in order p) gs m in subst Own r.2 (one r.0 (b.each r.0 r.1));
      trade = λ i j l k f s t.
          let r = b.trade (at order i) (at order j) (R.place_lt p order o i l) (R.place_lt p order o j k) (λ e. f (o.once i j l k e)) s t in
          (symmetry_in order p r.0, Memᴰ-map (symmetry_in order p) r.1, trades_in r.0 i j l k r.2);
    }
      where
        Own : List ℕ → Type 0
        Own f = Memᴰ f (map (symmetry_in order p) p.symmetries) ⊎ Reorders (reordered order p) block_in f

        one : (g : List ℕ) → Memᴰ g p.symmetries ⊎ Reorders p block g → Own (symmetry_in order p g)
        one g (inl m) = inl (Memᴰ-map (symmetry_in order p) m)
        one g (inr r) = inr (reorders_in g r)

  -- an accepted block of p, in the order
  pub accepted_reordered : (first m : ℕ) → block_verdict p first m ≡ accepted → BlockIn (reordered order p) (λ i. in_block first m (at order i))
      (map (symmetry_in order p) (p.symmetries ++ block_tables p first m))
  accepted_reordered first m e = block_reordered (in_block first m) (p.symmetries ++ block_tables p first m) (accepted_block p w first m e)

  -- the sets of a run with an accepted block, its variables settled in the order: variable i is place order[i]
  pub reordered_consistent : (first m : ℕ) → block_verdict p first m ≡ accepted → (prefix ds : List ℕ) → any_empty ds ≡ false →
      Consistent (λ x. x) (reordered order (with_block first m p)) prefix ds ↔ (Consistent (λ x. x) (reordered order p) prefix ds × Ascends (λ i. in_block first m (at order i)) prefix ds)
  unfolding symmetry_in renamed pair
  reordered_consistent first m e prefix =
      S.consistent_block (reordered order p) (R.well_reordered p order o w) (λ i. in_block first m (at order i)) (map (symmetry_in order p) (p.symmetries ++ block_tables p first m))
      (accepted_reordered first m e) prefix

  -- and its plans
  pub reordered_plans : (first m : ℕ) → block_verdict p first m ≡ accepted → (a : List ℕ) →
      T (is_plan (reordered order (with_block first m p)) a)
      ↔ (T (is_plan (reordered order p) a) × ((x y : ℕ) → T (in_block first m (at order x)) → T (in_block first m (at order y)) → x < y → y < p.variables → at a x ≤ at a y))
  unfolding symmetry_in renamed pair
  reordered_plans first m e =
      S.plan_block (reordered order p) (R.well_reordered p order o w) (λ i. in_block first m (at order i)) (map (symmetry_in order p) (p.symmetries ++ block_tables p first m))
      (accepted_reordered first m e)
