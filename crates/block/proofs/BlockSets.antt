-- What the orderings of a block say at a prefix: its variables ascend, and nothing else. So a pruner cuts the later block variables and needs no filter for the orderings. Assumes nothing.
use Rattle.model.specs.Kit.{◌≡◌, refl, sym, ap, ◌∙◌, subst, Bool, false, not, List, [], ◌∷◌, ◌++◌, Memᴰ, ⊎_elim, ◌↔◌, ℕ, zero, suc, ◌/◌, ◌%◌, ◌^◌, ◌≤◌, ◌<◌, not-suc-le-zero, le_of_suc-le-suc}
use Rattle.model.specs.Kit.{ℕ_discrete, dec_lt, arith, T, eqb, ltb, eqb→eq, eqb_refl, ltb→lt, lt→ltb, T_not, not_T, length, get_or, set, length-append}
use Rattle.model.specs.{Lists.both, Lists.at, ValueSets.has, ValueSets.mask_of, ValueSets.members, ValueSets.any_empty, ValueSets.Inside, Problem.Problem, Problem.pair, Problem.assignments}
use Rattle.model.specs.{Problem.with_symmetries, Nogood.Entry, Nogood.obeys, Nogood.filtered, Search.entries_at, Search.nogoods_of, Search.pruned, Search.narrowed, Search.sets_at, Search.is_live}
use Rattle.model.specs.{Search.is_plan, Claims.Consistent, Claims.Drawn, Inner.Pruning.Sets, Inner.Pruning.closed, Inner.Pruning.Way, Inner.Pruning.Prunes, Inner.WellFormed.WellFormed}
use native.Mathlib.Nat.{le_refl}
use lib.Seq.{get_or-set_same, get_or-set_other}
use Rattle.block.specs.{Inner.BlockSets.Reorders, Inner.BlockSets.Trades, Inner.BlockSets.BlockIn, Inner.BlockSets.lost_after, Inner.BlockSets.cut_after, Inner.Claims.Ascends}
use Rattle.model.proofs.Lists.{of_not, not_of, T_of, both_i, both_l, both_r, keep_i, keep_e, get_d_at, at_out, at_append, at_seam, at_tabulate, length_tabulate, stable}
use Rattle.model.proofs.Sets.{members_i, members_e, mask_i, mask_e, mask_lt, inside_antisym, has_at_lt, has_lt, member, empty_i}
use Rattle.model.proofs.Prune.{Kept, fixed_i, fixed_e, narrowed_e, Sized, largest, Removal, way_removal, sets_at_live, value_live, live_is, live_closed}
use Rattle.model.proofs.{Counting.twice, Masks.has_one, Assignments.drawn_i, Assignments.drawn_e, Assignments.drawn_through, Filter.filtered_i, Filter.filtered_e, Filter.filtered_sets}
use Rattle.model.proofs.{Filter.filtered_inside, Obey.meets_in, Obey.smaller_in, Obey.prefix_e, Obey.prefix_not, Consistent.consistent_e, Consistent.consistent_inside, Consistent.live_consistent}
use Rattle.model.proofs.{Consistent.dead_empty, Tree.well_sized, Child.child_start}
use Rattle.model.proofs.Pairs as P
use Rattle.model.proofs.More as M

-- ---- along a permutation of variables that ascend, the first difference is not downwards
module _ (n j : ℕ) (inside : j < n) (a image : ℕ → ℕ) (block : ℕ → Bool)
    (variable : (x : ℕ) → x < n → image x < n)
    (injective : (x y : ℕ) → x < n → y < n → image x ≡ image y → x ≡ y)
    (only : (x : ℕ) → x < n → (image x ≡ x → ⊥) → T (block x) × T (block (image x)))
    (up : (x y : ℕ) → T (block x) → T (block y) → x < y → x ≤ j → y < n → a x ≤ a y)
    (same : (i : ℕ) → i < j → a (image i) ≡ a i) (less : a (image j) < a j) where
  -- the images of j: image j, then its image, ..
  walk : ℕ → ℕ
  walk zero = j
  walk (suc i) = image (walk i)

  -- a variable up to j whose image has a value below j's goes to one before j
  before : (x : ℕ) → x ≤ j → a (image x) < a j → image x < j
  before x l q = go (dec_lt (image x) j) (ℕ_discrete (image x) j)
    where
      self : T (block j)
      self = (only j inside (λ e. absurd (let z : a (image j) ≡ a j = ap a e in omega arith))).0

      go : Dec (image x < j) → Dec (image x ≡ j) → image x < j
      go (yes b) c = b
      go (no b) (yes c) = absurd (let z : a (image x) ≡ a j = ap a c in omega arith)
      go (no b) (no c) =
          let x< : x < n = omega arith in
          let t = (only x x< (λ e. c (omega arith))).1 in
          absurd (let z : a j ≤ a (image x) = up j (image x) self t (omega arith) (le_refl j) (variable x x<) in omega arith)

  low : (i : ℕ) → (walk (suc i) < j) × (a (walk (suc i)) < a j)
  unfolding walk
  low zero = (before j (le_refl j) less, less)
  low (suc i) =
      let h = low i in
      let l = h.0 in
      let e = same (walk (suc i)) l in
      let q : a (image (walk (suc i))) < a j = subst (λ (v : ℕ). v < a j) (sym e) h.1 in
      (before (walk (suc i)) (omega arith) q, q)

  bounded : (i : ℕ) → walk i < suc j
  unfolding walk
  bounded zero = omega arith
  bounded (suc i) = let l = (low i).0 in omega arith

  apart : (i k : ℕ) → i < k → walk i ≡ walk k → ⊥
  unfolding walk
  apart i zero l e = omega arith
  apart zero (suc k) l e = let q = (low k).0 in omega arith
  apart (suc i) (suc k) l e =
      let b = bounded i in
      let c = bounded k in
      apart i k (le_of_suc-le-suc l) (injective (walk i) (walk k) (omega arith) (omega arith) e)

  pub never_down : ⊥
  never_down = let r = twice walk (suc j) bounded in apart r.0 r.1 r.2 r.3

-- ---- one symmetry and one list of sets at a prefix
module _ (p : Problem) (w : WellFormed p) (prefix : List ℕ) where
  -- a symmetry that takes (x, v) to (y, v) meets an assignment in that pair where the assignment has v at y
  meets_e : (g a : List ℕ) (x y v : ℕ) → x < p.variables → T (has (at p.initial x) v) → at g (pair p x v) ≡ pair p y v → y < length a → T (meets_in p g prefix a x v) → at a y ≡ v
  meets_e g a x y v l t e b m =
      let small = P.init_lt p w.narrow x v l t in
      let z : at g (pair p x v) / p.values ≡ y = ap (λ (q : ℕ). q / p.values) e ∙ P.pair_div p y v small in
      let r : at g (pair p x v) % p.values ≡ v = ap (λ (q : ℕ). q % p.values) e ∙ P.pair_mod p y v small in
      sym (get_d_at a y 16 b) ∙ eqb→eq (get_or a y 16) v (subst (λ (k : ℕ). T (eqb (get_or a y 16) k)) r (subst (λ (k : ℕ). T (eqb (get_or a k 16) (at g (pair p x v) % p.values))) z m))

  meets_i : (g a : List ℕ) (x y v : ℕ) → x < p.variables → T (has (at p.initial x) v) → at g (pair p x v) ≡ pair p y v → y < length a → at a y ≡ v → T (meets_in p g prefix a x v)
  meets_i g a x y v l t e b q =
      let small = P.init_lt p w.narrow x v l t in
      let z : at g (pair p x v) / p.values ≡ y = ap (λ (q : ℕ). q / p.values) e ∙ P.pair_div p y v small in
      let r : at g (pair p x v) % p.values ≡ v = ap (λ (q : ℕ). q % p.values) e ∙ P.pair_mod p y v small in
      subst (λ (k : ℕ). T (eqb (get_or a k 16) (at g (pair p x v) % p.values))) (sym z)
      (subst (λ (k : ℕ). T (eqb (get_or a y 16) k)) (sym r) (subst (λ (k : ℕ). T (eqb k v)) (sym (get_d_at a y 16 b ∙ q)) (eqb_refl v)))

  module _ (ds : List ℕ) (sized : length ds ≡ p.variables) (inner : Inside ds (narrowed prefix p.initial)) where
    -- an assignment drawn from the sets has the prefix's values, and only values of the initial sets
    drawn_has : (a : List ℕ) → Drawn ds a → (x : ℕ) → x < p.variables → T (has (at p.initial x) (at a x)) × (x < length prefix → at a x ≡ at prefix x)
    drawn_has a d x l = narrowed_e prefix p.initial x (at a x) (inner x (at a x) (d.1 x (subst (λ (n : ℕ). x < n) (sym sized) l)))

    -- A, enough: every assignment drawn from sets that ascend obeys the nogoods of every symmetry that reorders the block
    pub ascending_obeys : (block : ℕ → Bool) (g : List ℕ) → Reorders p block g → Ascends block prefix ds → (a : List ℕ) → Memᴰ a (assignments ds) → T (obeys a (nogoods_of p g prefix))
    ascending_obeys block g o up a m = stable (obeys a (nogoods_of p g prefix)) (λ h. broken (prefix_not p g prefix a h))
      where
        d : Drawn ds a
        d = drawn_e ds a m

        long : length a ≡ p.variables
        long = d.0 ∙ sized

        value : (x : ℕ) → x < p.variables → T (has (at ds x) (at a x))
        value x l = d.1 x (subst (λ (n : ℕ). x < n) (sym sized) l)

        image_lt : (x : ℕ) → x < p.variables → o.image x < length a
        image_lt x l = subst (λ (n : ℕ). o.image x < n) (sym long) (o.variable x l)

        broken : (j : ℕ) × (v : ℕ) × (j < length prefix) × ((i : ℕ) → i < j → T (meets_in p g prefix a i (at prefix i))) × Memᴰ v (smaller_in p g prefix a j) × T (meets_in p g prefix a j v) → ⊥
        broken (j, v, b, eqs, i, t) =
            let k = keep_e (λ u. ltb u (at prefix j)) (members (at p.initial j)) v i in
            let s = (members_e (at p.initial j) v k.0).1 in
            let j< : j < p.variables = subst (λ (n : ℕ). j < n) w.sized (has_at_lt p.initial j v s) in
            let own : (x : ℕ) → x < p.variables → x < length prefix → at a x ≡ at prefix x = λ x l c. (drawn_has a d x l).1 c in
            let there : at a (o.image j) ≡ v = meets_e g a j (o.image j) v j< s (o.moved j v j< s) (image_lt j j<) t in
            let below : v < at prefix j = ltb→lt v (at prefix j) k.1 in
            never_down p.variables j j< (at a) o.image block o.variable o.injective o.only
            (λ x y bx by l c e. subst (λ (u : ℕ). u ≤ at a y) (sym (own x (omega arith) (omega arith))) (up x y (at a y) bx by l (omega arith) (value y e)))
            (λ x l. let x< : x < p.variables = omega arith in
            let q = own x x< (omega arith) in
            let u : T (has (at p.initial x) (at prefix x)) = subst (λ (z : ℕ). T (has (at p.initial x) z)) q (drawn_has a d x x<).0 in
            meets_e g a x (o.image x) (at prefix x) x< u (o.moved x (at prefix x) x< u) (image_lt x x<) (eqs x l) ∙ sym q)
            (let q = own j j< b in omega arith)

    -- so its filter takes nothing from them
    pub ascending_same : (block : ℕ → Bool) (g : List ℕ) → Reorders p block g → Ascends block prefix ds → ((x : ℕ) → at ds x < 2 ^ 16) → any_empty ds ≡ false → filtered ds (nogoods_of p g prefix) ≡ ds
    ascending_same block g o up small some =
        inside_antisym (length ds) (filtered ds (nogoods_of p g prefix)) ds (filtered_sets ds (nogoods_of p g prefix)) (refl, small) (filtered_inside ds (nogoods_of p g prefix))
        (λ x v t.
        let r = drawn_through ds (λ y. (small y, λ l e. of_not (any_empty ds) some (empty_i ds y l e))) x v t in
        let m = drawn_i ds r.0 small r.1 in
        filtered_i ds (nogoods_of p g prefix) x v r.0 (has_at_lt ds x v t) m (ascending_obeys block g o up r.0 m) r.2)

    -- B, needed: what the filter of a trade leaves at the later variable is no smaller than the prefix's value at the earlier
    pub trade_above : (x y v : ℕ) (g : List ℕ) → Trades p x y g → at p.initial x ≡ at p.initial y → x < y → x < length prefix → T (has (at (filtered ds (nogoods_of p g prefix)) y) v)
        → at prefix x ≤ v
    trade_above x y v g o equal l b t = go (dec_lt v (at prefix x))
      where
        go : Dec (v < at prefix x) → at prefix x ≤ v
        go (no q) = omega arith
        go (yes q) =
            let r = filtered_e ds (nogoods_of p g prefix) y v t in
            let a = r.0 in
            let d = drawn_e ds a r.1 in
            let y< : y < p.variables = subst (λ (n : ℕ). y < n) sized (has_at_lt ds y v (filtered_inside ds (nogoods_of p g prefix) y v t)) in
            let x< : x < p.variables = omega arith in
            let long : length a ≡ p.variables = d.0 ∙ sized in
            let hy : T (has (at p.initial y) v) = subst (λ (u : ℕ). T (has (at p.initial y) u)) r.3 (drawn_has a d y y<).0 in
            let hx : T (has (at p.initial x) v) = subst (λ (s : ℕ). T (has s v)) (sym equal) hy in
            let v< : v < 16 = (let c = P.init_lt p w.narrow x v x< hx in let f = w.sixteen in omega arith) in
            absurd (prefix_e p g prefix a r.2 x v b
            (λ i c. let i< : i < p.variables = omega arith in
            let s = drawn_has a d i i< in
            let e : at a i ≡ at prefix i = s.1 (omega arith) in
            let u : T (has (at p.initial i) (at prefix i)) = subst (λ (z : ℕ). T (has (at p.initial i) z)) e s.0 in
            meets_i g a i i (at prefix i) i< u (o.rest i (at prefix i) i< (λ z. omega arith) (λ z. omega arith) u) (subst (λ (n : ℕ). i < n) (sym long) i<) e)
            (keep_i (λ u. ltb u (at prefix x)) (members (at p.initial x)) v (members_i (at p.initial x) v v< hx) (lt→ltb v (at prefix x) q))
            (meets_i g a x y v x< hx (o.there v hx) (subst (λ (n : ℕ). y < n) (sym long) y<) r.3))

-- sets that are consistent, none of them empty: the prefix is live, and they lie inside its sets
consistent_live : (p : Problem) (prefix : List ℕ) → Sized p → (es : List ℕ) → Consistent (λ x. x) p prefix es → any_empty es ≡ false → T (is_live p prefix) × Inside es (sets_at p prefix)
consistent_live p prefix s es c some =
    let t = stable (is_live p prefix) (λ f. of_not (any_empty es) some (dead_empty p prefix s (not_of (is_live p prefix) f) es c)) in
    (t, consistent_inside p prefix s t es c)

-- ---- the cut
module _ (block : ℕ → Bool) (x v : ℕ) (ds : List ℕ) where
  abbrev lost : ℕ → ℕ → Bool
  lost y u = lost_after block x v y u

  pub length_cut : length (cut_after block x v ds) ≡ length ds
  unfolding cut_after
  length_cut = length_tabulate (length ds) _

  at_cut : (y : ℕ) → y < length ds → at (cut_after block x v ds) y ≡ mask_of (λ u. both (has (at ds y) u) (not (lost y u)))
  unfolding cut_after
  at_cut y l = at_tabulate (length ds) (λ y. mask_of (λ u. both (has (at ds y) u) (not (lost y u)))) y l

  pub cut_sets : (n : ℕ) → length ds ≡ n → Sets n (cut_after block x v ds)
  cut_sets n e = (length_cut ∙ e, λ y. pick y (dec_lt y (length ds)))
    where
      pick : (y : ℕ) → Dec (y < length ds) → at (cut_after block x v ds) y < 2 ^ 16
      pick y (yes l) = subst (λ (s : ℕ). s < 2 ^ 16) (sym (at_cut y l)) (mask_lt 16 _)
      pick y (no l) = subst (λ (s : ℕ). s < 2 ^ 16) (sym (at_out (cut_after block x v ds) y (let e = length_cut in omega arith))) (omega arith)

  pub cut_e : (y u : ℕ) → T (has (at (cut_after block x v ds) y) u) → T (has (at ds y) u) × (T (block x) → T (block y) → x < y → v ≤ u)
  cut_e y u t =
      let l : y < length ds = subst (λ (n : ℕ). y < n) length_cut (has_at_lt (cut_after block x v ds) y u t) in
      let m = (mask_e (λ u. both (has (at ds y) u) (not (lost y u))) u (subst (λ (s : ℕ). T (has s u)) (at_cut y l) t)).1 in
      (both_l (has (at ds y) u) (not (lost y u)) m, λ bx by h. go (T_not (lost y u) (both_r (has (at ds y) u) (not (lost y u)) m)) bx by h (dec_lt u v))
    where
      go : (T (lost y u) → ⊥) → T (block x) → T (block y) → x < y → Dec (u < v) → v ≤ u
      go f bx by h (yes q) = absurd (f (both_i (both (block x) (block y)) (both (ltb x y) (ltb u v)) (both_i (block x) (block y) bx by) (both_i (ltb x y) (ltb u v) (lt→ltb x y h) (lt→ltb u v q))))
      go f bx by h (no q) = omega arith

  pub cut_i : (y u : ℕ) → u < 16 → T (has (at ds y) u) → (T (block x) → T (block y) → x < y → v ≤ u) → T (has (at (cut_after block x v ds) y) u)
  cut_i y u b t h =
      subst (λ (s : ℕ). T (has s u)) (sym (at_cut y (has_at_lt ds y u t)))
      (mask_i (λ u. both (has (at ds y) u) (not (lost y u))) u b (both_i (has (at ds y) u) (not (lost y u)) t (not_T (lost y u) (λ q.
      let k = both_l (both (block x) (block y)) (both (ltb x y) (ltb u v)) q in
      let r = both_r (both (block x) (block y)) (both (ltb x y) (ltb u v)) q in
      let c : v ≤ u = h (both_l (block x) (block y) k) (both_r (block x) (block y) k) (ltb→lt x y (both_l (ltb x y) (ltb u v) r)) in
      let d : u < v = ltb→lt u v (both_r (ltb x y) (ltb u v) r) in
      omega arith))))

-- what ascends ascends as sets shrink
pub ascends_less : (block : ℕ → Bool) (prefix ds es : List ℕ) → Inside es ds → Ascends block prefix ds → Ascends block prefix es
ascends_less block prefix ds es h up x y v bx by l k t = up x y v bx by l k (h y v t)

-- ---- the problem with the block's symmetries, whole, beside the problem p without them
module _ (p : Problem) (w : WellFormed p) (block : ℕ → Bool) (gs : List (List ℕ)) (b : BlockIn p block gs) where
  abbrev pub whole : Problem
  whole = with_symmetries p gs

  same_sized : Sized whole
  same_sized = well_sized p w

  nogoods_same : (g prefix : List ℕ) → nogoods_of whole g prefix ≡ nogoods_of p g prefix
  nogoods_same = M.nogoods_same p gs same_sized b.own

  module _ (prefix : List ℕ) where
    -- what a round with the block's filters keeps ascends
    pub kept_above : (ds : List ℕ) → length ds ≡ p.variables → Inside ds (narrowed prefix p.initial) →
        (x y v : ℕ) → T (block x) → T (block y) → x < y → x < length prefix → Kept whole prefix ds y v → at prefix x ≤ v
    kept_above ds sized inner x y v bx by l c k =
        let y< : y < p.variables = subst (λ (n : ℕ). y < n) sized (has_at_lt ds y v k.member) in
        let x< : x < p.variables = omega arith in
        let r = b.trade x y x< y< (λ e. omega arith) bx by in
        trade_above p w prefix ds sized inner x y v r.0 r.2 (b.equal x y x< y< bx by) l c
        (subst (λ (es : List Entry). T (has (at (filtered ds es) y) v)) (nogoods_same r.0 prefix) (k.filters r.0 r.1))

    -- and is kept without them
    pub kept_own : (ds : List ℕ) (x v : ℕ) → Kept whole prefix ds x v → Kept p prefix ds x v
    kept_own = M.kept_less p gs same_sized b.own prefix

    -- and back, where the sets ascend and none is empty
    pub kept_whole : (ds : List ℕ) → Sets p.variables ds → Inside ds (narrowed prefix p.initial) → Ascends block prefix ds → any_empty ds ≡ false → (x v : ℕ) → Kept p prefix ds x v
        → Kept whole prefix ds x v
    kept_whole ds sets inner up some x v k = record {
      member = k.member;
      rows = k.rows;
      filters = λ g m. subst (λ (es : List Entry). T (has (at (filtered ds es) x) v)) (sym (nogoods_same g prefix))
          (⊎_elim {C = T (has (at (filtered ds (nogoods_of p g prefix)) x) v)} (λ i. k.filters g i)
          (λ o. subst (λ (es : List ℕ). T (has (at es x) v)) (sym (ascending_same p w prefix ds sets.0 inner block g o up sets.1 some)) k.member) (b.each g m));
    }

    -- C: in paper 01's words, sets of which none is empty are consistent with the block's symmetries exactly if they are so without them and ascend
    pub consistent_block : (ds : List ℕ) → any_empty ds ≡ false → Consistent (λ x. x) whole prefix ds ↔ (Consistent (λ x. x) p prefix ds × Ascends block prefix ds)
    unfolding nogoods_of entries_at
    consistent_block ds some = (there, λ c. back c.0 c.1)
      where
        there : Consistent (λ x. x) whole prefix ds → Consistent (λ x. x) p prefix ds × Ascends block prefix ds
        there c =
            let r = consistent_e whole prefix ds c in (
              record {
                sized = c.sized;
                sixteen = c.sixteen;
                inside = c.inside;
                given = c.given;
                rows = c.rows;
                filters = λ g m. subst (λ (es : List Entry). filtered ds es ≡ ds) (nogoods_same g prefix) (c.filters g (b.own g m));
              },
              λ x y v bx by l k t. kept_above ds c.sized r.1 x y v bx by l k (fixed_e whole prefix ds r.2 y v t),
            )

        back : Consistent (λ x. x) p prefix ds → Ascends block prefix ds → Consistent (λ x. x) whole prefix ds
        back c up =
            let r = consistent_e p prefix ds c in
            record {
              sized = c.sized;
              sixteen = c.sixteen;
              inside = c.inside;
              given = c.given;
              rows = c.rows;
              filters = λ g m. subst (λ (es : List Entry). filtered ds es ≡ ds) (sym (nogoods_same g prefix))
                  (⊎_elim {C = filtered ds (nogoods_of p g prefix) ≡ ds} (c.filters g) (λ o. ascending_same p w prefix ds c.sized r.1 block g o up c.sixteen some) (b.each g m));
            }

    -- the sets at a live prefix ascend, and are consistent without the block's symmetries
    pub live_ascends : T (is_live whole prefix) → Consistent (λ x. x) p prefix (sets_at whole prefix) × Ascends block prefix (sets_at whole prefix)
    live_ascends t = (consistent_block (sets_at whole prefix) (subst (λ (ds : List ℕ). any_empty ds ≡ false) (sym (sets_at_live whole prefix (live_closed whole prefix t)))
        (live_closed whole prefix t))).0 (live_consistent whole prefix same_sized t)

    -- and they are the largest such sets
    pub ascending_inside : (es : List ℕ) → Consistent (λ x. x) p prefix es → Ascends block prefix es → any_empty es ≡ false → T (is_live whole prefix) × Inside es (sets_at whole prefix)
    ascending_inside es c up some = consistent_live whole prefix same_sized es ((consistent_block es some).1 (c, up)) some

    -- ---- for a pruner: Way is that of the whole problem, what it does is that of p
    -- the cut takes nothing that a round of the whole search keeps
    pub cut_removal : (ds : List ℕ) → Sets p.variables ds → Inside ds (narrowed prefix p.initial) → (x : ℕ) → x < length prefix → Removal whole prefix ds (cut_after block x (at prefix x) ds)
    cut_removal ds sets inner x l = record {
      sets = cut_sets block x (at prefix x) ds p.variables sets.0;
      less = λ y v t. (cut_e block x (at prefix x) ds y v t).0;
      spared = λ y v t k. cut_i block x (at prefix x) ds y v (has_lt 16 (at ds y) v (sets.1 y) t) t (λ bx by h. kept_above ds sets.0 inner x y v bx by h l k);
    }

    pub way_cut : (es : List ℕ) → Way whole prefix es → (x : ℕ) → x < length prefix → Way whole prefix (cut_after block x (at prefix x) es)
    way_cut es y x l = way_removal whole prefix same_sized es (cut_after block x (at prefix x) es) y (cut_removal es y.sets y.inside x l)

    -- a step of pruning without the block's symmetries
    pub way_prunes_own : (ds es : List ℕ) → Prunes p prefix ds es → Way whole prefix ds → Way whole prefix es
    way_prunes_own ds es r y =
        let l = largest whole prefix same_sized in
        let cs = closed whole prefix in
        record {
          sets = r.sets y.sets;
          inside = λ x v t. y.inside x v (r.less x v t);
          over = r.keeps y.sets cs l.sets.0 (fixed_i p prefix cs l.sets (λ x v t. kept_own cs x v (fixed_e whole prefix cs l.fixed x v t))) y.over;
        }

    -- sets that ascend, where a round without the block's filters takes nothing away: no round does
    pub fixed_whole : (es : List ℕ) → Sets p.variables es → Inside es (narrowed prefix p.initial) → Ascends block prefix es → any_empty es ≡ false → pruned p prefix es ≡ es
        → pruned whole prefix es ≡ es
    fixed_whole es sets inner up some e = fixed_i whole prefix es sets (λ x v t. kept_whole es sets inner up some x v (fixed_e p prefix es e x v t))

    -- the plans with the block are the plans without it that ascend along it
    pub plan_block : T (is_plan whole prefix) ↔ (T (is_plan p prefix) × ((x y : ℕ) → T (block x) → T (block y) → x < y → y < p.variables → at prefix x ≤ at prefix y))
    unfolding is_plan
    plan_block = (there, λ c. back c.0 c.1)
      where
        full : Bool
        full = eqb (length prefix) p.variables

        none_empty : (q : Problem) → T (is_live q prefix) → any_empty (sets_at q prefix) ≡ false
        none_empty q t = subst (λ (ds : List ℕ). any_empty ds ≡ false) (sym (sets_at_live q prefix (live_closed q prefix t))) (live_closed q prefix t)

        there : T (both full (is_live whole prefix)) → T (both full (is_live p prefix)) × ((x y : ℕ) → T (block x) → T (block y) → x < y → y < p.variables → at prefix x ≤ at prefix y)
        there t =
            let k = both_l full (is_live whole prefix) t in
            let long : length prefix ≡ p.variables = eqb→eq (length prefix) p.variables k in
            let a = both_r full (is_live whole prefix) t in
            let c = live_ascends a in
            let ds = sets_at whole prefix in
            let some = none_empty whole a in (
              both_i full (is_live p prefix) k (consistent_live p prefix (well_sized p w) ds c.0 some).0,
              λ x y bx by l h.
                  let y< : y < length ds = subst (λ (n : ℕ). y < n) (sym c.0.sized) h in
                  let u = member (at ds y) (c.0.sixteen y) (λ e. of_not (any_empty ds) some (empty_i ds y y< e)) in
                  subst (λ (v : ℕ). at prefix x ≤ v) (c.0.given y u.0 (omega arith) u.2) (c.1 x y u.0 bx by l (omega arith) u.2),
            )

        back : T (both full (is_live p prefix)) → ((x y : ℕ) → T (block x) → T (block y) → x < y → y < p.variables → at prefix x ≤ at prefix y) → T (both full (is_live whole prefix))
        back t up =
            let k = both_l full (is_live p prefix) t in
            let long : length prefix ≡ p.variables = eqb→eq (length prefix) p.variables k in
            let a = both_r full (is_live p prefix) t in
            let ds = sets_at p prefix in
            let c = live_consistent p prefix (well_sized p w) a in
            both_i full (is_live whole prefix) k (ascending_inside ds c
            (λ x y v bx by l h u.
            let y< : y < p.variables = subst (λ (n : ℕ). y < n) c.sized (has_at_lt ds y v u) in
            subst (λ (z : ℕ). at prefix x ≤ z) (sym (c.given y v (omega arith) u)) (up x y bx by l y<)) (none_empty p a)).0

  -- ---- from node to node
  -- at the root nothing is settled
  pub root_ascends : (ds : List ℕ) → Ascends block [] ds
  root_ascends ds x y v bx by l c t = absurd (not-suc-le-zero c)

  -- the child with value v: from the parent's sets with the next variable fixed and the later block variables cut
  module _ (prefix : List ℕ) (v : ℕ) (t : T (has (at (sets_at whole prefix) (length prefix)) v)) where
    abbrev pub fixed_next : List ℕ
    fixed_next = set (sets_at whole prefix) (length prefix) (2 ^ v)

    long : length (prefix ++ (v ∷ [])) ≡ suc (length prefix)
    long = length-append prefix (v ∷ []) ∙ omega arith

    parent_live : T (is_live whole prefix)
    parent_live = T_of (is_live whole prefix) (live_is whole prefix ∙ ap not (value_live whole prefix (length prefix) v t))

    fixed_inside : Inside fixed_next (sets_at whole prefix)
    unfolding at
    fixed_inside y u q = go (ℕ_discrete y (length prefix)) q
      where
        go : Dec (y ≡ length prefix) → T (has (at fixed_next y) u) → T (has (at (sets_at whole prefix) y) u)
        go (yes e) q =
            let here : at fixed_next y ≡ 2 ^ v = ap (at fixed_next) e ∙ get_or-set_same (sets_at whole prefix) (length prefix) (2 ^ v) 0 (has_at_lt (sets_at whole prefix) (length prefix) v t) in
            let i : u ≡ v = eqb→eq u v (subst T (has_one v u) (subst (λ (s : ℕ). T (has s u)) here q)) in
            subst (λ (z : ℕ). T (has (at (sets_at whole prefix) z) u)) (sym e) (subst (λ (k : ℕ). T (has (at (sets_at whole prefix) (length prefix)) k)) (sym i) t)
        go (no e) q = subst (λ (s : ℕ). T (has s u)) (get_or-set_other (sets_at whole prefix) (length prefix) y (2 ^ v) 0 e) q

    pub child_way : Way whole (prefix ++ (v ∷ [])) (cut_after block (length prefix) v fixed_next)
    child_way =
        subst (λ (u : ℕ). Way whole (prefix ++ (v ∷ [])) (cut_after block (length prefix) u fixed_next)) (at_seam prefix v [])
        (way_cut (prefix ++ (v ∷ [])) fixed_next (child_start whole prefix v same_sized t) (length prefix) (omega (arith, long)))

    pub child_ascends : Ascends block (prefix ++ (v ∷ [])) (cut_after block (length prefix) v fixed_next)
    child_ascends x y u bx by l c q = go (ℕ_discrete x (length prefix))
      where
        r : T (has (at fixed_next y) u) × (T (block (length prefix)) → T (block y) → length prefix < y → v ≤ u)
        r = cut_e block (length prefix) v fixed_next y u q

        go : Dec (x ≡ length prefix) → at (prefix ++ (v ∷ [])) x ≤ u
        go (yes e) = subst (λ (k : ℕ). k ≤ u) (sym (ap (at (prefix ++ (v ∷ []))) e ∙ at_seam prefix v [])) (r.1 (subst (λ (z : ℕ). T (block z)) e bx) by (omega arith))
        go (no e) =
            let x< : x < length prefix = omega (arith, long) in
            subst (λ (k : ℕ). k ≤ u) (sym (at_append prefix (v ∷ []) x x<)) ((live_ascends prefix parent_live).1 x y u bx by l x< (fixed_inside y u r.0))
