-- All tables together. Assumes nothing.
use Rattle.model.specs.Kit.{◌≡◌, refl, sym, ap, ap₂, ◌∙◌, subst, Bool, true, false, List, ℕ, suc, ◌+◌, ◌*◌, ◌/◌, ◌%◌, ◌^◌, ◌≤◌, ◌<◌, lt_of_lt_of_le, arith, T, ltb, length, set, length-set, ltb-true}
use Rattle.model.specs.Kit.{ltb-false}
use Rattle.model.specs.{Lists.at, Lists.either, ValueSets.has, Problem.Problem, Inner.WellFormed.WellFormed, Inner.Filling.Filled}
use lib.Pow.{pow_mono}
use Rattle.model.proofs.{Lists.at_set, Lists.at_set_other, Sets.has_lt, Sets.has_mask, Sets.has_at_lt}
use Rattle.arrays.specs.Inner.Places.{INITIAL, SCOPES, VARIABLES, VALUES, CONSTRAINTS, SYMMETRIES, LINKED, BY_ROWS, OTHERS, LOOSE, LOOKS}
use Rattle.arrays.specs.{Inner.Layout.Numbers, Inner.Tables.goes, Inner.Tables.Rows, Inner.Tables.Linked}
use Rattle.arrays_tables.specs.{Inner.Index.Compact, Inner.Index.Made, Inner.Steps.Worded, Inner.Steps.SymmetriesStored, Inner.Steps.LinkedFirst}
use Rattle.arrays_tables.specs.Inner.Steps.{LinkNumbers, RowsSource, LooseTo, LooseSet, LookScopes}
use Rattle.arrays_tables.proofs.{Initial.initial_is, LookScopes.look_scopes_from, LookScopes.looks_up, ImageTables.image_tables}

-- ---- what the numbers before LINKED say, where these stay
pub numbers_kept : (p : Problem) (old new : List ℕ) → WellFormed p → ((j : ℕ) → j < LINKED → at new j ≡ at old j) → Numbers p old → Numbers p new
numbers_kept p old new wf k nb = record {
  touching = λ x c l h. ap (λ (n : ℕ). has n c) (k x (omega arith)) ∙ nb.touching x c l h;
  touching_few = λ x l. subst (λ (n : ℕ). n < 2 ^ length p.constraints) (sym (k x (omega arith))) (nb.touching_few x l);
  initial = λ x l. k (INITIAL + x) (omega (arith, wf.few)) ∙ nb.initial x l;
  unused = λ x h l. k (INITIAL + x) (omega arith) ∙ nb.unused x h l;
  arity = λ c h. ap (λ (n : ℕ). n % 256) (k (SCOPES + c) (omega (arith, wf.most))) ∙ nb.arity c h;
  scope = λ c i h l. ap (λ (n : ℕ). n / 256 ^ suc i % 256) (k (SCOPES + c) (omega (arith, wf.most))) ∙ nb.scope c i h l;
  variables = k VARIABLES (omega arith) ∙ nb.variables;
  values = k VALUES (omega arith) ∙ nb.values;
  constraints = k CONSTRAINTS (omega arith) ∙ nb.constraints;
  symmetries = k SYMMETRIES (omega arith) ∙ nb.symmetries;
}

-- ---- a loose variable's values
either_swap : (a b : Bool) → T (either a b) → T (either b a)
either_swap true true t = tt
either_swap true false t = tt
either_swap false true t = tt
either_swap false false t = t

module _ (p : Problem) (wf : WellFormed p) (numbers tables : List ℕ) (nb : Numbers p numbers) (rows : Rows p tables) where
  narrow : (x v : ℕ) → T (has (at p.initial x) v) → (x < p.variables) × (v < 16)
  narrow x v t =
      let l : x < p.variables = (let q = has_at_lt p.initial x v t in omega (arith, wf.sized)) in
      (l, has_lt 16 (at p.initial x) v (lt_of_lt_of_le (wf.narrow x l) (pow_mono wf.sixteen)) t)

  row_goes : (x v y w : ℕ) → x < p.variables → v < 16 → y < p.variables → w < 16 → has (at tables (256 * x + y + 16 * v)) w ≡ goes p x v y w
  row_goes x v y w hx hv hy hw =
      let e : 256 * x + y + 16 * v ≡ 256 * x + 16 * v + y = omega arith in
      ap (λ (n : ℕ). has n w) (ap (at tables) e ∙ rows x v y (omega (arith, wf.few)) hv (omega (arith, wf.few))) ∙ has_mask 16 (goes p x v y) w hw

  loose_goes : (x u v y w : ℕ) → LooseTo numbers tables x (at numbers VARIABLES) → u < v → T (has (at p.initial x) u) → T (has (at p.initial x) v) → T (has (at p.initial y) w) → T
      (either (goes p x u y w) (goes p x v y w))
  loose_goes x u v y w s l a b c =
      let hu = narrow x u a in
      let hv = narrow x v b in
      let hw = narrow y w c in
      let n : y < at numbers VARIABLES = omega (arith, nb.variables, hw.0) in
      let t = s.goes u v y w n l hv.1 (subst (λ (z : ℕ). T (has z u)) (sym (initial_is p numbers wf nb x hu.0)) a)
      (subst (λ (z : ℕ). T (has z v)) (sym (initial_is p numbers wf nb x hu.0)) b) hw.1 (subst (λ (z : ℕ). T (has z w)) (sym (initial_is p numbers wf nb y hw.0)) c) in
      subst T (ap₂ either (row_goes x u y w hu.0 hu.1 hw.0 hw.1) (row_goes x v y w hu.0 hv.1 hw.0 hw.1)) t

  loose_is : (x u v y w : ℕ) → LooseTo numbers tables x (at numbers VARIABLES) → T (has (at p.initial x) u) → T (has (at p.initial x) v) → (u ≡ v → ⊥) → T (has (at p.initial y) w) → T
      (either (goes p x u y w) (goes p x v y w))
  loose_is x u v y w s a b n c = go (ltb u v) refl
    where
      go : (t : Bool) → ltb u v ≡ t → T (either (goes p x u y w) (goes p x v y w))
      go true e = loose_goes x u v y w s (ltb-true u v e) a b c
      go false e = let l = ltb-false u v e in either_swap (goes p x v y w) (goes p x u y w) (loose_goes x v u y w s (omega arith) b a c)

-- ---- the end
module _ (p : Problem) (n0 supports images t0 : List ℕ) (c : Compact p n0 supports images t0) (n1 : List ℕ) (l : LinkNumbers n0 n1) where
  numbered_1 : Numbers p n1
  numbered_1 = numbers_kept p n0 n1 c.well_formed l.kept c.compiled.numbered

  pub rows_source : RowsSource p n1 supports
  rows_source = record { numbered = numbered_1; supported = c.compiled.supported; well_formed = c.well_formed; linked = l.linked p c.compiled.numbered c.well_formed }

  module _ (t1 : List ℕ) (rows : (length t1 ≡ length t0) × ((q : Problem) → RowsSource q n1 supports → Rows q t1)) (r : ℕ) (loose : LooseSet n1 t1 (at n1 VARIABLES) r)
      (n2 : List ℕ) (looks : Filled (λ k. LOOKS + k) (LookScopes (set n1 LOOSE r)) 13 (set n1 LOOSE r) n2)
      (n4 : List ℕ) (lanes : Worded supports n2 n4) (t2 : List ℕ) (stored : SymmetriesStored n4 images (at n4 VARIABLES) (at n4 SYMMETRIES) t1 t2) where
    low : (j : ℕ) → j < LOOSE → at n4 j ≡ at n1 j
    low j h = lanes.kept j (omega arith) ∙ looks.other j (λ v k e. omega arith) ∙ at_set_other n1 LOOSE r j (λ e. omega arith)

    kept : (j : ℕ) → j < LINKED → at n4 j ≡ at n0 j
    kept j h = low j (omega arith) ∙ l.kept j h

    at_loose : at n4 LOOSE ≡ r
    at_loose = lanes.kept LOOSE (omega arith) ∙ looks.other LOOSE (λ v k e. omega arith) ∙ at_set n1 LOOSE r (omega (arith, l.size, c.numbers_length))

    numbered : Numbers p n4
    numbered = numbers_kept p n0 n4 c.well_formed kept c.compiled.numbered

    first_at : (j : ℕ) → j < LOOSE → at n4 j ≡ at (set n1 LOOSE 0) j
    first_at j h = low j h ∙ sym (at_set_other n1 LOOSE 0 j (λ e. omega arith))

    linked : Linked p n4
    linked = record {
      by_rows = λ k h. ap (λ (n : ℕ). has n k) (first_at BY_ROWS (omega arith)) ∙ g.by_rows k h;
      linked = λ x k h b t. subst (λ (n : ℕ). T (has n x)) (sym (first_at LINKED (omega arith))) (g.linked x k h b t);
      linked_few = λ x t. g.linked_few x (subst (λ (n : ℕ). T (has n x)) (first_at LINKED (omega arith)) t);
      touching = λ x k h m. ap (λ (n : ℕ). has n k) (first_at (OTHERS + x) (omega arith)) ∙ g.touching x k h m;
      touching_few = λ x h. subst (λ (n : ℕ). n < 2 ^ length p.constraints) (sym (first_at (OTHERS + x) (omega arith))) (g.touching_few x h);
      loose = λ x u v y w t a b n d. loose_is p c.well_formed n1 t1 numbered_1 (rows.1 p rows_source) x u v y w (loose.loose x (subst (λ (z : ℕ). T (has z x)) at_loose t)) a b n d;
    }
      where
        g : LinkedFirst p n1
        g = l.linked p c.compiled.numbered c.well_formed

    pub made : Made p n0 supports t0 n4 t2
    made = record {
      indexed = record {
        numbered = numbered;
        supported = c.compiled.supported;
        linked = linked;
        rowed = λ x v y hx hv hy. stored.kept.low (256 * x + 16 * v + y) (omega arith) ∙ rows.1 p rows_source x v y hx hv hy;
        worded = lanes.words;
        looks = λ k j h t. looks_up p n1 k (at n2 (LOOKS + k)) numbered_1 (look_scopes_from n1 (set n1 LOOSE r) k (at n2 (LOOKS + k)) (λ i l. at_set_other n1 LOOSE r i (λ e. omega arith))
            (omega (arith, numbered_1.constraints, c.well_formed.most)) (looks.here k h)) j
            (subst (λ (z : ℕ). T (has z j)) (lanes.kept (LOOKS + k) (omega arith)) t);
        image_tables = image_tables p n4 images t1 t2 c.well_formed numbered c.compiled.imaged stored;
      };
      kept = kept;
      numbers_length = lanes.size ∙ looks.size ∙ length-set n1 LOOSE r ∙ l.size;
      tables_length = stored.kept.size ∙ rows.0;
    }

-- ---- what the functions ask
module _ (p : Problem) (n0 supports images t0 : List ℕ) (c : Compact p n0 supports images t0) where
  pub bounds : (at n0 VARIABLES ≤ 12) × (at n0 CONSTRAINTS ≤ 32) × (at n0 SYMMETRIES ≤ 16)
  bounds = (
    omega (arith, c.compiled.numbered.variables, c.well_formed.few),
    omega (arith, c.compiled.numbered.constraints, c.well_formed.most),
    omega
        (arith, c.compiled.numbered.symmetries, c.symmetries),
  )

  module _ (n1 : List ℕ) (l : LinkNumbers n0 n1) where
    pub link_bounds : (at n1 VARIABLES ≤ 12) × (at n1 CONSTRAINTS ≤ 32) × (at n1 SYMMETRIES ≤ 16)
    link_bounds = (omega (arith, bounds.0, l.kept VARIABLES (omega arith)), omega (arith, bounds.1, l.kept CONSTRAINTS (omega arith)), omega (arith, bounds.2, l.kept SYMMETRIES (omega arith)))

    module _ (r : ℕ) where
      pub looks_bounds : at (set n1 LOOSE r) CONSTRAINTS ≤ 32
      looks_bounds = omega (arith, link_bounds.1, at_set_other n1 LOOSE r CONSTRAINTS (λ e. omega arith))

      module _ {P : ℕ → ℕ → Type 0} {n2 : List ℕ} (k : Filled (λ i. LOOKS + i) P 13 (set n1 LOOSE r) n2) where
        pub lanes_bounds : {supports n4 : List ℕ} → Worded supports n2 n4 → (at n4 VARIABLES ≤ 12) × (at n4 SYMMETRIES ≤ 16)
        lanes_bounds {n4 = n4} s = (omega (arith, link_bounds.0, same VARIABLES (omega arith)), omega (arith, link_bounds.2, same SYMMETRIES (omega arith)))
          where
            same : (j : ℕ) → j < LOOSE → at n4 j ≡ at n1 j
            same j h = s.kept j (omega arith) ∙ k.other j (λ v i e. omega arith) ∙ at_set_other n1 LOOSE r j (λ e. omega arith)
