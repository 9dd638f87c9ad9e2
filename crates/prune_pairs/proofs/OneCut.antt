-- One cut by the set of a variable: the values that go are no loss, and those that stay go together with a value of that set. Assumes nothing.
use Rattle.model.specs.Kit.{◌≡◌, refl, sym, ◌∙◌, subst, Bool, true, false, ◌⊎◌, inl, inr, ⊎_elim, List, ℕ, ◌+◌, ◌*◌, ◌/◌, ◌^◌, ◌≤◌, ◌<◌, lt_of_le_of_lt, arith, ℕ_discrete, dec_lt, T, length, bit_and}
use Rattle.model.specs.Kit.{and_le_l, eq-eqb}
use Rattle.std.specs.Prelude.{Option, None, Some}
use Rattle.model.specs.{Lists.at, Lists.tabulate, ValueSets.has, ValueSets.without_mask, ValueSets.lowest_of, ValueSets.Inside, Problem.Problem, Inner.Pruning.Sets}
use Rattle.model.specs.Inner.Pruning.{Prunes}
use Rattle.model.proofs.{Lists.T_of, Lists.TExt, Lists.either_e, Lists.at_out, Lists.at_ext, Lists.at_tabulate, Lists.length_tabulate, Sets.has_lt, Sets.has_at_lt, Sets.mask_lt, Sets.mask_ext}
use Rattle.model.proofs.{Sets.member, Sets.empty_i, Masks.contains_op, Members.has_0, Members.and_i, Members.and_e, Members.rest_begin, Members.lowest_left, Lowest.without_i, Lowest.without_e}
use Rattle.model.proofs.{Firsts.take_length, Firsts.take_at, Firsts.take_e, Firsts.take_i, Firsts.take_full, Firsts.full_take, Prune.Removal, Prunes.prunes_none, Prunes.removal_prunes}
use Rattle.arrays.specs.{Inner.Tables.goes, Inner.Pruning.Arc, Inner.Pruning.sets_of}
use Rattle.prune_pairs.specs.Inner.Links.{Dead}
use Rattle.prune_pairs.specs.Inner.Steps.{Narrow, Cover, Covered, Spared, CutOrKept, CutDead, CutDown, CutToCover, CanCut, ArcLeft, CutBy}
use Rattle.prune_pairs.proofs.{Covers.narrow_at, Covers.row, Covers.row_cover, Partners.goes_free, Partners.goes_kept, Partners.row_goes_e, Partners.row_goes_i, Partners.narrow}

pub bit_in : (s v : ℕ) → bit_and (s / 2 ^ v) 1 ≡ 1 → T (has s v)
bit_in s v e = T_of (has s v) (sym (contains_op s v) ∙ eq-eqb (bit_and (s / 2 ^ v) 1) 1 e)

module _ {p : Problem} {tables ds : List ℕ} {loose x first : ℕ} (r : CanCut p tables ds loose x first) where
  abbrev n : ℕ
  n = p.variables

  few : p.variables ≤ 12
  few = r.well_formed.few

  sixteen : p.variables ≤ 16
  sixteen = omega (arith, few)

  s : Sets 16 ds
  s = r.given.sixteen

  pub x_lt : x < 12
  x_lt = omega (arith, r.known, few)

  set_some : at ds x ≡ 0 → ⊥
  set_some = full_take n ds s sixteen r.given.full x r.known

  set_small : at ds x < 2 ^ 16
  set_small = s.1 x

  pub ready_narrow : Narrow tables (256 * x) 256
  ready_narrow = narrow p tables r.rowed x x_lt

  value : (v : ℕ) → T (has (at ds x) v) → v < 16
  value v t = has_lt 16 (at ds x) v set_small t

  -- the set's lowest value
  abbrev low : ℕ
  low = lowest_of (at ds x)

  low_in : T (has (at ds x) low) × (low < 16)
  low_in = lowest_left (at ds x) (at ds x) low (rest_begin 16 (at ds x) set_small) set_some refl

  pub low_lt : (v : ℕ) → v ≡ low → v < 16
  low_lt v e = omega (arith, low_in.1)

  -- ---- nothing to do
  stays : Arc p (sets_of p ds) x → ArcLeft p ds ds x 0
  stays a = record {
    lessened = record {
      ways = λ prefix. prunes_none p prefix (sets_of p ds);
      sixteen = s;
      full = r.given.full;
      less = λ y v t. t;
      kept = λ y q. refl;
      few = λ y t. absurd (has_0 y t);
    };
    changed = λ y t. absurd (has_0 y t);
    arc = a;
  }

  -- x is loose and has two values
  pub by_loose : T (has loose x) → (without_mask (at ds x) low ≡ 0 → ⊥) → ArcLeft p ds ds x 0
  by_loose t m = stays arc
    where
      other : (v : ℕ) × (v < 16) × T (has (without_mask (at ds x) low) v)
      other = member (without_mask (at ds x) low) (mask_lt 16 _) m

      v : ℕ
      v = other.0

      two : T (has (at ds x) v) × (v ≡ low → ⊥)
      two = without_e (at ds x) low v other.2

      here : (z : ℕ) → T (has (at ds x) z) → T (has (at (sets_of p ds) x) z)
      here z q = take_i n ds s sixteen x z r.known q

      arc : Arc p (sets_of p ds) x
      arc y w q =
          ⊎_elim (λ g. (low, (here low low_in.0, g))) (λ g. (v, (here v two.0, g)))
          (either_e (goes p x low y w) (goes p x v y w)
          (r.loosely low v y w t (r.given.inside x low (here low low_in.0)) (r.given.inside x v (here v two.0)) (λ e. two.1 (sym e)) (r.given.inside y w q)))

  -- ---- the cover
  module _ {cover : List ℕ} (c : Cover tables x (at ds x) cover) where
    -- a value of the cover goes together with a value of x's set
    partner : (y w : ℕ) → y < 16 → T (has (at cover y) w) → (v : ℕ) × (T (has (at ds x) v) × T (goes p x v y w))
    partner y w l t =
        let q = c.cover_e y w l t in
        (q.0, (q.1, row_goes_e p tables r.rowed x x_lt q.0 y w (value q.0 q.1) l q.2))

    pub by_covered : Covered ds cover → ArcLeft p ds ds x 0
    by_covered h = stays (λ y w t.
        let q = take_e n ds s sixteen y w t in
        let v = partner y w (omega (arith, q.0, few)) (h y w q.1) in
        (v.0, (take_i n ds s sixteen x v.0 r.known v.1.0, v.1.1)))

    -- and the other way round
    covers : (v y w : ℕ) → y < 16 → T (has (at ds x) v) → T (has (at ds y) w) → T (goes p x v y w) → T (has (at cover y) w)
    covers v y w l t q g = c.cover_i v y w l t (row_goes_i p tables r.rowed x x_lt v y w (value v t) l (has_lt 16 (at ds y) w (s.1 y) q) g)

    some_value : (v : ℕ) × (v < 16) × T (has (at ds x) v)
    some_value = member (at ds x) set_small set_some

    -- the cover has all of x's own set, and of sets of no variable
    own : (y w : ℕ) → y < 16 → (y ≡ x) ⊎ (p.variables ≤ y) → T (has (at ds y) w) → T (has (at cover y) w)
    own y w l o t = covers some_value.0 y w l some_value.2 t (goes_free p r.well_formed x some_value.0 y w r.known o)

    abbrev cut_at : ℕ → ℕ
    cut_at y = bit_and (at ds y) (at cover y)

    -- a set inside the cover is not cut
    covered_same : (y : ℕ) → ((w : ℕ) → T (has (at ds y) w) → T (has (at cover y) w)) → cut_at y ≡ at ds y
    covered_same y f =
        mask_ext 16 (cut_at y) (at ds y) (lt_of_le_of_lt (and_le_l (at ds y) (at cover y)) (s.1 y)) (s.1 y)
        (λ w b. TExt (has (cut_at y) w) (has (at ds y) w) (λ t. (and_e (at ds y) (at cover y) w t).0) (λ t. and_i (at ds y) (at cover y) w t (f w t)))

    own_same : (y : ℕ) → y < 16 → (y ≡ x) ⊎ (p.variables ≤ y) → cut_at y ≡ at ds y
    own_same y l o = covered_same y (λ w. own y w l o)

    -- nor is one of the first variables, whose values go together with those of x
    settled_same : Spared ds cover first
    settled_same y h l = go (dec_lt y n)
      where
        go : Dec (y < n) → cut_at y ≡ at ds y
        go (yes i) = covered_same y (λ w t. covers some_value.0 y w (omega arith) some_value.2 t (r.settled some_value.0 y w h i some_value.2 t))
        go (no o) = own_same y (omega arith) (inr (omega arith))

    -- p's sets, cut down to the cover: only values go that a round takes too
    abbrev fs : List ℕ
    fs = tabulate n cut_at

    fs_at : (y : ℕ) → y < n → at fs y ≡ cut_at y
    fs_at y l = at_tabulate n cut_at y l

    fs_sets : Sets n fs
    fs_sets = (length_tabulate n cut_at, λ y. go y (dec_lt y n))
      where
        go : (y : ℕ) → Dec (y < n) → at fs y < 2 ^ 16
        go y (yes l) = subst (λ (z : ℕ). z < 2 ^ 16) (sym (fs_at y l)) (lt_of_le_of_lt (and_le_l (at ds y) (at cover y)) (s.1 y))
        go y (no m) = subst (λ (z : ℕ). z < 2 ^ 16) (sym (at_out fs y (let e = length_tabulate n cut_at in omega arith))) (omega arith)

    removal : (prefix : List ℕ) → Removal p prefix (sets_of p ds) fs
    removal prefix = record {
      sets = fs_sets;
      less = λ y w t.
          let l : y < n = subst (λ (k : ℕ). y < k) (length_tabulate n cut_at) (has_at_lt fs y w t) in
          take_i n ds s sixteen y w l (and_e (at ds y) (at cover y) w (subst (λ (z : ℕ). T (has z w)) (fs_at y l) t)).0;
      spared = λ y w t k.
          let q = take_e n ds s sixteen y w t in
          let g = goes_kept p r.well_formed (sets_of p ds) x y w some_value.0 (take_i n ds s sixteen x some_value.0 r.known some_value.2) k.rows in
          let v = take_e n ds s sixteen x g.0 g.1.0 in
          subst (λ (z : ℕ). T (has z w)) (sym (fs_at y q.0))
          (and_i (at ds y) (at cover y) w q.1 (covers g.0 y w (omega (arith, q.0, few)) v.1 q.1 g.1.1));
    }

    ways : (prefix : List ℕ) → Prunes p prefix (sets_of p ds) fs
    ways prefix = removal_prunes p prefix (sets_of p ds) fs (removal prefix)

    module _ {es : List ℕ} (k : CutOrKept ds cover es) where
      es_sets : Sets 16 es
      es_sets = (
        k.sized,
        λ y. ⊎_elim (λ e. subst (λ (z : ℕ). z < 2 ^ 16) (sym e) (lt_of_le_of_lt (and_le_l (at ds y) (at cover y)) (s.1 y))) (λ e. subst (λ (z : ℕ). z < 2 ^ 16) (sym e) (s.1 y)) (k.each y),
      )

      es_less : Inside es ds
      es_less y w t = ⊎_elim (λ e. (and_e (at ds y) (at cover y) w (subst (λ (z : ℕ). T (has z w)) e t)).0) (λ e. subst (λ (z : ℕ). T (has z w)) e t) (k.each y)

    cut_dead : {es : List ℕ} → CutDead ds cover es → Dead p ds es
    cut_dead {es} k = record {
      ended = (fs, (ways, empty_i fs y (subst (λ (m : ℕ). y < m) (sym (length_tabulate n cut_at)) l) (fs_at y l ∙ k.dead.2)));
      sixteen = es_sets k.so_far;
      less = es_less k.so_far;
    }
      where
        y : ℕ
        y = k.dead.0

        l : y < n
        l = go (dec_lt y n)
          where
            go : Dec (y < n) → y < n
            go (yes h) = h
            go (no m) = absurd (k.dead.3 (sym (own_same y (omega (arith, k.dead.1)) (inr (omega arith))) ∙ k.dead.2))

    module _ {es : List ℕ} {a : ℕ} (k : CutDown ds cover es a) where
      es_at : (y : ℕ) → y < 12 → at es y ≡ cut_at y
      es_at y l = k.cut y l

      sets : Sets 16 es
      sets = es_sets k.so_far

      is_cut : sets_of p es ≡ fs
      is_cut =
          at_ext (sets_of p es) fs (take_length n es sets sixteen ∙ sym (length_tabulate n cut_at))
          (λ y l. let h : y < n = subst (λ (j : ℕ). y < j) (take_length n es sets sixteen) l in take_at n es sets sixteen y h ∙ es_at y (omega (arith, h, few)) ∙ sym (fs_at y h))

      es_full : (y : ℕ) → y < n → at es y ≡ 0 → ⊥
      es_full y l z = go (has a y) refl
        where
          go : (b : Bool) → has a y ≡ b → ⊥
          go true q = (k.changed y (T_of (has a y) q)).2 z
          go false q = full_take n ds s sixteen r.given.full y l (sym (k.kept y q) ∙ z)

      es_few : (y : ℕ) → T (has a y) → y < n
      es_few y t = go (dec_lt y n)
        where
          q : (y < 12) × (at es y ≡ at ds y → ⊥) × (at es y ≡ 0 → ⊥)
          q = k.changed y t

          go : Dec (y < n) → y < n
          go (yes h) = h
          go (no o) = absurd (q.1 (es_at y q.0 ∙ own_same y (omega (arith, q.0)) (inr (omega arith))))

      arc : Arc p (sets_of p es) x
      arc y w t =
          let q = take_e n es sets sixteen y w t in
          let l : y < 12 = omega (arith, q.0, few) in
          let v = partner y w (omega arith) (and_e (at ds y) (at cover y) w (subst (λ (z : ℕ). T (has z w)) (es_at y l) q.1)).1 in
          (v.0, (take_i n es sets sixteen x v.0 r.known (subst (λ (z : ℕ). T (has z v.0)) (sym (es_at x x_lt ∙ own_same x (omega (arith, x_lt)) (inl refl))) v.1.0), v.1.1))

      cut_left : ArcLeft p ds es x a
      cut_left = record {
        lessened = record {
          ways = λ prefix. subst (Prunes p prefix (sets_of p ds)) (sym is_cut) (ways prefix);
          sixteen = sets;
          full = take_full n es sets sixteen es_full;
          less = es_less k.so_far;
          kept = k.kept;
          few = es_few;
        };
        changed = λ y t. (k.changed y t).1;
        arc = arc;
      }

    pub by_cut : (es : List ℕ) (a : Option ℕ) → CutToCover ds cover es a → CutBy p ds es x a
    by_cut es None k = cut_dead k
    by_cut es (Some a) k = cut_left k

  -- ---- x has one value v: the cover is its row
  module _ {v : ℕ} (e : v ≡ low) (z : without_mask (at ds x) low ≡ 0) (fits : 256 * x + 16 * v + 16 ≤ length tables) where
    one : (u : ℕ) → T (has (at ds x) u) → Dec (u ≡ low) → u ≡ v
    one u t (yes q) = q ∙ sym e
    one u t (no n) = absurd (has_0 u (subst (λ (m : ℕ). T (has m u)) z (without_i (at ds x) low u set_small t n)))

    row_covers : Cover tables x (at ds x) (row tables (256 * x + 16 * v))
    row_covers = row_cover tables x (at ds x) v fits (narrow_at tables x v (low_lt v e) ready_narrow) (subst (λ (u : ℕ). T (has (at ds x) u)) (sym e) low_in.0) (λ u t. one u t (ℕ_discrete u low))

    pub row_spared : Spared ds (row tables (256 * x + 16 * v)) first
    row_spared = settled_same row_covers

    pub by_row : (es : List ℕ) (a : Option ℕ) → CutToCover ds (row tables (256 * x + 16 * v)) es a → CutBy p ds es x a
    by_row es a k = by_cut row_covers es a k
