-- A block as it is lent: by the number of bytes, the tables of an accepted one, and its variables in an order. Assumes nothing.
use Rattle.model.specs.Kit.{◌≡◌, refl, sym, subst, Bool, false, List, [], ◌∷◌, ◌++◌, map, append-nil, Memᴰ, Memᴰ-not_nil, inl, inr, ⊎_elim, ℕ, ◌<◌, arith, T, length, get_or}
use Rattle.model.specs.{Lists.at, Problem.Problem, Problem.pair, Problem.is_pair, Problem.with_symmetries, Verdict.accepted, Verdict.refused, Verdict.is_accepted, Inner.WellFormed.WellFormed}
use Rattle.order.specs.{Order.Ordering, Reordered.symmetry_in, Reordered.reordered}
use Rattle.block.specs.Block.{variable_table, in_block, ordering_table, block_tables, block_verdict, tables_lent, block_lent, in_lent}
use Rattle.block.specs.Inner.BlockSets.{Reorders, BlockIn}
use Rattle.block.proofs.{Tables.Passes, Block.row_passes, BlockReordered.accepted_reordered}
use Rattle.model.proofs.Accepted.{accepted_is}

pub lent_none : (p : Problem) (l : List ℕ) → length l ≡ 0 → accepted ≡ block_lent p l
unfolding block_lent
lent_none p [] e = refl
lent_none p (x ∷ l) e = absurd (omega arith)

pub lent_other : (p : Problem) (l : List ℕ) → (length l ≡ 0 → ⊥) → (length l ≡ 2 → ⊥) → refused 36 0 ≡ block_lent p l
unfolding block_lent
lent_other p [] f g = absurd (f refl)
lent_other p (x ∷ []) f g = refl
lent_other p (x ∷ y ∷ []) f g = absurd (g refl)
lent_other p (x ∷ y ∷ z ∷ l) f g = refl

pub lent_two : (p : Problem) (l : List ℕ) → length l ≡ 2 → block_verdict p (get_or l 0 0) (get_or l 1 0) ≡ block_lent p l
unfolding block_lent
lent_two p [] e = absurd (omega arith)
lent_two p (x ∷ []) e = absurd (omega arith)
lent_two p (x ∷ y ∷ []) e = refl
lent_two p (x ∷ y ∷ z ∷ l) e = absurd (omega arith)

pub inside_other : (l : List ℕ) → (length l ≡ 2 → ⊥) → (x : ℕ) → in_lent l x ≡ false
unfolding in_lent
inside_other [] g x = refl
inside_other (y ∷ []) g x = refl
inside_other (y ∷ z ∷ []) g x = absurd (g refl)
inside_other (y ∷ z ∷ u ∷ l) g x = refl

pub inside_two : (l : List ℕ) → length l ≡ 2 → (x : ℕ) → in_block (get_or l 0 0) (get_or l 1 0) x ≡ in_lent l x
unfolding in_lent
inside_two [] e x = absurd (omega arith)
inside_two (y ∷ []) e x = absurd (omega arith)
inside_two (y ∷ z ∷ []) e x = refl
inside_two (y ∷ z ∷ u ∷ l) e x = absurd (omega arith)

-- ---- the tables that it adds
pub tables_pass : (p : Problem) → WellFormed p → (block : List ℕ) → T (is_accepted (block_lent p block)) → (g : List ℕ) → Memᴰ g (tables_lent p block) → Passes p g
unfolding tables_lent block_lent
tables_pass p w [] h g i = absurd (Memᴰ-not_nil i)
tables_pass p w (first ∷ []) h g i = absurd (Memᴰ-not_nil i)
tables_pass p w (first ∷ m ∷ []) h g i = row_passes p w first m (accepted_is (block_verdict p first m) h) g i
tables_pass p w (first ∷ m ∷ x ∷ more) h g i = absurd (Memᴰ-not_nil i)

-- they don't look at the other symmetries
pub tables_other : (p : Problem) (gs : List (List ℕ)) (block : List ℕ) → tables_lent (with_symmetries p gs) block ≡ tables_lent p block
unfolding tables_lent block_tables ordering_table variable_table is_pair pair
tables_other p gs [] = refl
tables_other p gs (first ∷ []) = refl
tables_other p gs (first ∷ m ∷ []) = refl
tables_other p gs (first ∷ m ∷ x ∷ more) = refl

-- ---- a test that agrees with a block's on the variables serves as well
pub block_same : (p : Problem) (block block' : ℕ → Bool) (gs : List (List ℕ)) → ((x : ℕ) → x < p.variables → block x ≡ block' x) → BlockIn p block gs → BlockIn p block' gs
block_same p block block' gs e b = record {
  equal = λ x y l k s t. b.equal x y l k (back x l s) (back y k t);
  own = b.own;
  each = λ g i. ⊎_elim inl (λ r. inr (again g r)) (b.each g i);
  trade = λ x y l k f s t. b.trade x y l k f (back x l s) (back y k t);
}
  where
    back : (x : ℕ) → x < p.variables → T (block' x) → T (block x)
    back x l t = subst T (sym (e x l)) t

    again : (g : List ℕ) → Reorders p block g → Reorders p block' g
    again g r = record {
      image = r.image;
      moved = r.moved;
      variable = r.variable;
      injective = r.injective;
      only = λ x l f. let q = r.only x l f in (subst T (e x l) q.0, subst T (e (r.image x) (r.variable x l)) q.1);
    }

-- no block: any test that holds of no variable
pub block_none : (p : Problem) (block : ℕ → Bool) → ((x : ℕ) → x < p.variables → T (block x) → ⊥) → BlockIn p block p.symmetries
block_none p block f = record {
  equal = λ x y l k s t. absurd (f x l s);
  own = λ g i. i;
  each = λ g i. inl i;
  trade = λ x y l k d s t. absurd (f x l s);
}

-- the block of the reordered problem: the positions of its variables
module _ (p : Problem) (w : WellFormed p) (order : List ℕ) (o : Ordering p.variables order) where
  pub lent_reordered : (block : List ℕ) → T (is_accepted (block_lent p block)) → BlockIn (reordered order p) (λ i. in_lent block (at order i))
      (map (symmetry_in order p) (p.symmetries ++ tables_lent p block))
  unfolding block_lent tables_lent in_lent
  lent_reordered [] h =
      subst (λ (gs : List (List ℕ)). BlockIn (reordered order p) (λ i. false) (map (symmetry_in order p) gs)) (sym (append-nil p.symmetries))
      (block_none (reordered order p) (λ i. false) (λ i l t. t))
  lent_reordered (first ∷ []) h = absurd h
  lent_reordered (first ∷ m ∷ []) h = accepted_reordered p w order o first m (accepted_is (block_verdict p first m) h)
  lent_reordered (first ∷ m ∷ x ∷ more) h = absurd h
