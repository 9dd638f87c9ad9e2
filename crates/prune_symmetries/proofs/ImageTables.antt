-- The cuts that the table's sets make are the level's disequalities. Assumes nothing.
use Rattle.model.specs.Kit.{◌≡◌, refl, sym, ap, ap₂, ◌∙◌, subst, Bool, true, false, not, List, [], ◌∷◌, ◌++◌, map, Memᴰ, Memᴰ-head, Memᴰ-tail, Memᴰ-not_nil, ℕ, ◌+◌, ◌-◌, ◌*◌, ◌/◌}
use Rattle.model.specs.Kit.{◌%◌, ◌^◌, ◌≤◌, ◌<◌, lt_of_lt_of_le, lt_of_le_of_lt, dec_lt, arith, and_le_l, T, eqb, ltb, eqb→eq, length, take, get_or, length-take-le, eq-eqb}
use Rattle.model.specs.Nogood.{Entry, is, obeys_from, obeys}
use Rattle.model.specs.{Lists.at, Lists.any, Lists.both, ValueSets.has, ValueSets.members, ValueSets.Inside, Problem.Problem, Problem.pair, Problem.symmetry_at, Inner.WellFormed.GoodSymmetry}
use Rattle.model.proofs.Lists.{T_of, not_of, of_not, of_T, TExt, both_i, both_l, both_r, any_i, any_e, keep_e, get_d_at, at_out, at_take, mem_get_d, both_less}
use Rattle.model.proofs.{Sets.has_none, Sets.has_lt, Sets.has_at_lt, Sets.mask_i, Sets.mask_e, Sets.mask_lt, Sets.mask_ext, Sets.members_e, Masks.has_and, Masks.has_not}
use Rattle.arrays.specs.Inner.Tables.{image_of, smaller}
use Rattle.filter.specs.{Inner.Scan.models, Marks.Vacuous}
use Rattle.filter.proofs.Marks.{vacuous_nil, vacuous_append, vacuous_disequality, obeying_vacuous}
use Rattle.prune_symmetries.specs.Inner.Levels.{cuts_at, image_at, cut_of, lower, cuts, CutsMade, NoneObeys, Tabled, Level, Missed, Taken, CutResult}
use Rattle.prune_symmetries.proofs.Levels.{variable_is}
use Rattle.model.proofs.Pairs
use Rattle.model.proofs.Symmetry
use Rattle.filter.proofs.Scan
use Rattle.filter.proofs.Front

-- ---- disequalities of pairs
-- they say nothing of sets that have none of the pairs
cuts_vacuous : (ds : List ℕ) (im : ℕ → ℕ) (us : List ℕ) → ((u : ℕ) → Memᴰ u us → (im u / 16 < length ds) × (T (has (at ds (im u / 16)) (im u % 16)) → ⊥)) → Vacuous ds (map (λ u. cut_of (im u)) us)
cuts_vacuous ds im [] h = vacuous_nil ds
cuts_vacuous ds im (u ∷ us) h =
    let g = h u (Memᴰ-head refl) in
    vacuous_append ds (cut_of (im u) ∷ []) (map (λ w. cut_of (im w)) us) (vacuous_disequality ds (im u / 16) (im u % 16) g.0 g.1) (cuts_vacuous ds im us (λ w m. h w (Memᴰ-tail m)))

-- an assignment that obeys them has none of the pairs
cuts_e : (a : List ℕ) (im : ℕ → ℕ) (us : List ℕ) (fs : List Entry) → T (obeys a (map (λ u. cut_of (im u)) us ++ fs)) → ((u : ℕ) → Memᴰ u us → T (is a (im u / 16) (im u % 16)) → ⊥) × T (obeys a fs)
unfolding obeys_from
cuts_e a im [] fs t = (λ u m. absurd (Memᴰ-not_nil m), t)
cuts_e a im (u ∷ us) fs t =
    let b = is a (im u / 16) (im u % 16) in
    let rest = obeys a (map (λ w. cut_of (im w)) us ++ fs) in
    let r = cuts_e a im us fs (both_r (not b) rest t) in
    (λ w m. pick w (both_l (not b) rest t) r.0 m, r.1)
  where
    no : (b : Bool) → T (not b) → T b → ⊥
    no true n t = n
    no false n t = t

    pick : (w : ℕ) → T (not (is a (im u / 16) (im u % 16))) → ((w : ℕ) → Memᴰ w us → T (is a (im w / 16) (im w % 16)) → ⊥) → Memᴰ w (u ∷ us) → T (is a (im w / 16) (im w % 16)) → ⊥
    pick w n r (Memᴰ-head e) q = no (is a (im u / 16) (im u % 16)) n (subst (λ (z : ℕ). T (is a (im z / 16) (im z % 16))) e q)
    pick w n r (Memᴰ-tail m) q = r w m q

-- rs is ss without the pairs
record WithoutPairs (ss : List ℕ) (im : ℕ → ℕ) (us rs : List ℕ) : Type 0 where
  size : length rs ≡ length ss
  gone : (u : ℕ) → Memᴰ u us → (im u / 16 < length ss) × (T (has (at rs (im u / 16)) (im u % 16)) → ⊥)
  kept : (y w : ℕ) → y < length ss → w < 16 → T (has (at ss y) w) → ((u : ℕ) → Memᴰ u us → im u / 16 ≡ y → im u % 16 ≡ w → ⊥) → T (has (at rs y) w)
  less : Inside rs ss

module _ {ss : List ℕ} {im : ℕ → ℕ} {us rs : List ℕ} (t : WithoutPairs ss im us rs) where
  pairs_vacuous : Vacuous rs (map (λ u. cut_of (im u)) us)
  pairs_vacuous = cuts_vacuous rs im us (λ u m. let g = t.gone u m in (subst (λ (n : ℕ). im u / 16 < n) (sym t.size) g.0, g.1))

  pairs_same : (fs : List Entry) (q : List ℕ → Bool) → models ss (map (λ u. cut_of (im u)) us ++ fs) q ≡ models rs fs q
  pairs_same fs q =
      TExt (models ss (es ++ fs) q) (models rs fs q)
      (λ m. let r = Scan.models_e ss (es ++ fs) q m in
      let c = cuts_e r.0 im us fs r.3 in
      Scan.models_i rs fs q r.0 (
        r.1.0 ∙ sym t.size,
        λ y l. let k = subst (λ (n : ℕ). y < n) t.size l in let d = r.1.1 y k in (
          d.0,
          t.kept y (at r.0 y) k d.0 d.1
              (λ u i e f. c.0 u i (T_of (is r.0 (im u / 16) (im u % 16))
              (ap₂ eqb (ap (λ (z : ℕ). get_or r.0 z 16) e ∙ get_d_at r.0 y 16 (subst (λ (n : ℕ). y < n) (sym r.1.0) k)) f ∙ eq-eqb (at r.0 y) (at r.0 y) refl))),
        ),
      )
      r.2 c.1)
      (λ m. let r = Scan.models_e rs (es ++ fs) q (subst T (sym (ap (any q) (obeying_vacuous rs es fs pairs_vacuous))) m) in
      Scan.models_i ss (es ++ fs) q r.0
      (r.1.0 ∙ t.size, λ y l. let d = r.1.1 y (subst (λ (n : ℕ). y < n) (sym t.size) l) in (d.0, t.less y (at r.0 y) d.1))
      r.2 r.3)
    where
      es : List Entry
      es = map (λ u. cut_of (im u)) us

-- ---- the images
module _ {p : Problem} {tables : List ℕ} {e : ℕ} (w : Tabled p tables e) (x v : ℕ) (h : x < p.variables) (t : T (has (at p.initial x) v)) where
  pub image_inside : image_of p e x v / 16 < p.variables
  image_inside =
      let g = symmetry_at p e in
      let good : GoodSymmetry p g = w.well_formed.symmetric g (mem_get_d p.symmetries e [] w.symmetry) in
      subst (λ (n : ℕ). n < p.variables) (sym (variable_is p w.well_formed e x v))
      (Pairs.is_pair_var p w.well_formed (at g (pair p x v)) (Symmetry.to_pair p w.well_formed g good (pair p x v) (Pairs.is_pair_i p w.well_formed.narrow x v h t)))

  pub value_lt : v < 16
  value_lt = lt_of_lt_of_le (Pairs.init_lt p w.well_formed.narrow x v h t) w.well_formed.sixteen

  pub image_asks : (e < 16) × (x < 12) × (v < 16)
  image_asks = (omega (arith, w.symmetry, w.few), omega (arith, h, w.well_formed.few), value_lt)

  pub image_is : (y : ℕ) → y ≡ at tables (image_at e x v) → y ≡ image_of p e x v
  image_is y q = q ∙ w.image_tables.own e x v w.symmetry h t

-- ---- the tables
both_all : (b c : Bool) → c ≡ false → both b (not c) ≡ b
both_all true c e = ap not e
both_all false c e = refl

module _ {p : Problem} {ss tables : List ℕ} {e x v : ℕ} (w : Level p ss tables e x v) where
  abbrev us : List ℕ
  us = lower p x v

  abbrev im : ℕ → ℕ
  im u = image_of p e x u

  abbrev first : ℕ
  first = cuts_at e x v

  pub first_lt : (e < 16) × (x < 12) × (v < 16)
  first_lt = image_asks w.tabled x v w.variable w.value

  inside : (u : ℕ) → Memᴰ u us → im u / 16 < p.variables
  inside u m = image_inside w.tabled x u w.variable (members_e (at p.initial x) u (keep_e (λ z. ltb z v) (members (at p.initial x)) u m).0).1

  table_at_lem : (y : ℕ) → y < 16 → at tables (first + y) ≡ smaller p e x v y
  table_at_lem y l = w.tabled.image_tables.cuts e x v y w.tabled.symmetry w.variable w.value l

  taken_i : (u : ℕ) → Memᴰ u us → T (has (smaller p e x v (im u / 16)) (im u % 16))
  taken_i u m =
      let q : im u ≡ 16 * (im u / 16) + im u % 16 = omega arith in
      mask_i (λ c. any (λ z. eqb (im z) (16 * (im u / 16) + c)) us) (im u % 16) (omega arith)
      (any_i (λ z. eqb (im z) (16 * (im u / 16) + im u % 16)) us u m (T_of (eqb (im u) (16 * (im u / 16) + im u % 16)) (eq-eqb (im u) (16 * (im u / 16) + im u % 16) q)))

  taken_e : (y c : ℕ) → T (has (smaller p e x v y) c) → (u : ℕ) × Memᴰ u us × (im u / 16 ≡ y) × (im u % 16 ≡ c)
  taken_e y c t =
      let r = mask_e (λ b. any (λ z. eqb (im z) (16 * y + b)) us) c t in
      let a = any_e (λ z. eqb (im z) (16 * y + c)) us r.1 in
      let q : im a.0 ≡ 16 * y + c = eqb→eq (im a.0) (16 * y + c) a.2 in
      let l = r.0 in
      (a.0, a.1, omega arith, omega arith)

  -- the sets without the table's
  abbrev WithoutTable : List ℕ → Type 0
  WithoutTable rs = (y c : ℕ) → y < 16 → c < 16 → has (at rs y) c ≡ both (has (at ss y) c) (not (has (smaller p e x v y) c))

  module _ (rs : List ℕ) (n : length rs ≡ 16) (b : (y : ℕ) → at rs y < 2 ^ 16) (s : WithoutTable rs) where
    variable_lt : (y : ℕ) → y < p.variables → y < 16
    variable_lt y l = omega (arith, w.held.live.few)

    beyond : (y : ℕ) → p.variables ≤ y → at rs y ≡ at ss y
    beyond y l = go (dec_lt y 16)
      where
        go : Dec (y < 16) → at rs y ≡ at ss y
        go (yes h) =
            mask_ext 16 (at rs y) (at ss y) (b y) (w.held.live.small y)
            (λ c k. s y c h k ∙ both_all (has (at ss y) c) (has (smaller p e x v y) c)
            (not_of (has (smaller p e x v y) c) (λ t. let r = taken_e y c t in let i = inside r.0 r.1 in let q = r.2 in omega arith)))
        go (no h) = at_out rs y (omega arith) ∙ sym (at_out ss y (omega (arith, w.held.live.sixteen)))

    size : length (take p.variables rs) ≡ p.variables
    size = length-take-le p.variables rs (omega (arith, w.held.live.few))

    without_pairs : WithoutPairs (take p.variables ss) im us (take p.variables rs)
    without_pairs =
        let len = Front.front_length w.held.live in
        record {
          size = size ∙ sym len;
          gone = λ u m. let i = inside u m in (
            subst (λ (k : ℕ). im u / 16 < k) (sym len) i,
            λ t. let r = subst T (s (im u / 16) (im u % 16) (variable_lt (im u / 16) i) (omega arith)) (subst (λ (z : ℕ). T (has z (im u % 16))) (at_take p.variables rs (im u / 16) i) t) in
                of_not (not (has (smaller p e x v (im u / 16)) (im u % 16))) (ap not (of_T (has (smaller p e x v (im u / 16)) (im u % 16)) (taken_i u m)))
                (both_r (has (at ss (im u / 16)) (im u % 16)) (not (has (smaller p e x v (im u / 16)) (im u % 16))) r),
          );
          kept = λ y c l h t no. let i = subst (λ (k : ℕ). y < k) len l in
              subst (λ (z : ℕ). T (has z c)) (sym (at_take p.variables rs y i))
              (subst T (sym (s y c (variable_lt y i) h))
              (both_i (has (at ss y) c) (not (has (smaller p e x v y) c)) (subst (λ (z : ℕ). T (has z c)) (at_take p.variables ss y i) t)
              (T_of (not (has (smaller p e x v y) c)) (ap not (not_of (has (smaller p e x v y) c) (λ q. let r = taken_e y c q in no r.0 r.1 r.2 r.3))))));
          less = λ y c t. let i = subst (λ (k : ℕ). y < k) size (has_at_lt (take p.variables rs) y c t) in
              let t' = subst (λ (z : ℕ). T (has z c)) (at_take p.variables rs y i) t in
              subst (λ (z : ℕ). T (has z c)) (sym (at_take p.variables ss y i))
              (both_l (has (at ss y) c) (not (has (smaller p e x v y) c)) (subst T (s y c (variable_lt y i) (has_lt 16 (at rs y) c (b y) t')) t'));
        }

    table_made : ((y : ℕ) → y < 16 → at rs y ≡ 0 → ⊥) → CutsMade p.variables ss (cuts p e x v) rs
    table_made full =
        record {
          passed = λ fs. record {
            live = record { few = w.held.live.few; sixteen = n; small = b; full = λ y l. full y (variable_lt y l) };
            less = without_pairs.less;
            unused = beyond;
            same = pairs_same without_pairs fs;
          };
          vacuous = pairs_vacuous without_pairs;
        }

    table_none : (y : ℕ) → y < 16 → at rs y ≡ 0 → NoneObeys p.variables ss (cuts p e x v)
    table_none y h z fs q = pairs_same without_pairs fs q ∙ go (dec_lt y p.variables)
      where
        go : Dec (y < p.variables) → models (take p.variables rs) fs q ≡ false
        go (yes l) = Scan.at_empty (take p.variables rs) y fs q (subst (λ (k : ℕ). y < k) (sym size) l) (at_take p.variables rs y l ∙ z)
        go (no l) = let o : ◌≡◌ {A = ℕ} 0 1 = sym z ∙ beyond y (omega arith) ∙ w.held.unused y (omega arith) h in absurd (omega arith)

  -- ---- what the functions answer
  pub cut_missed : (r : Bool) → Missed r ss tables (cuts_at e x v) → r ≡ false → CutResult false p.variables ss (cuts p e x v) ss
  cut_missed r m q =
      table_made ss w.held.live.sixteen w.held.live.small
      (λ y c l k. both_less (has (at ss y) c) (has (smaller p e x v y) c)
      (ap (λ (z : ℕ). both (has (at ss y) c) (has z c)) (sym (table_at_lem y l)) ∙ sym (has_and (at ss y) (at tables (first + y)) c) ∙ ap (λ (z : ℕ). has z c) (m q y l) ∙ has_none c))
      (λ y l z. nonempty y l z (dec_lt y p.variables))
    where
      nonempty : (y : ℕ) → y < 16 → at ss y ≡ 0 → Dec (y < p.variables) → ⊥
      nonempty y l z (yes h) = w.held.live.full y h z
      nonempty y l z (no h) = let o : ◌≡◌ {A = ℕ} 0 1 = sym z ∙ w.held.unused y (omega arith) l in omega arith

  pub cut_taken : (rs : List ℕ) (r : Bool) → Taken ss tables (cuts_at e x v) rs r → CutResult r p.variables ss (cuts p e x v) rs
  cut_taken rs r t = go r t
    where
      sixteen : length rs ≡ 16
      sixteen = t.sixteen ∙ w.held.live.sixteen

      small : (y : ℕ) → at rs y < 2 ^ 16
      small y = pick (dec_lt y 16)
        where
          pick : Dec (y < 16) → at rs y < 2 ^ 16
          pick (yes l) = subst (λ (z : ℕ). z < 2 ^ 16) (sym (t.each y l)) (lt_of_le_of_lt (and_le_l (at ss y) _) (w.held.live.small y))
          pick (no l) = subst (λ (z : ℕ). z < 2 ^ 16) (sym (at_out rs y (omega (arith, sixteen)))) (omega arith)

      without_table : WithoutTable rs
      without_table y c l k =
          ap (λ (z : ℕ). has z c) (t.each y l) ∙ has_and (at ss y) ((2 ^ 16 - 1) - at tables (first + y)) c
          ∙ ap (both (has (at ss y) c)) (ap (λ (z : ℕ). has ((2 ^ 16 - 1) - z) c) (table_at_lem y l) ∙ has_not 16 (smaller p e x v y) c (mask_lt 16 _) k)

      go : (r : Bool) → Taken ss tables first rs r → CutResult r p.variables ss (cuts p e x v) rs
      go true t = let g = t.empty refl in table_none rs sixteen small without_table g.0 g.1 g.2
      go false t = table_made rs sixteen small without_table (t.full refl)
