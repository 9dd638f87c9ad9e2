-- The turns of the loops that decode the tables. Assumes nothing.
use Rattle.model.specs.Kit.{◌≡◌, refl, sym, ap, ap₂, ◌∙◌, subst, subst₂, Bool, true, false, List, [], Memᴰ-map, Memᴰ-of_map, ℕ, suc, ◌+◌, ◌*◌, ◌/◌, ◌%◌, ◌≤◌, ◌<◌, arith, not-suc-le-zero}
use Rattle.model.specs.Kit.{mul-le-mul_right, suc-mul, add-one, T, eqb, ltb, ltb→lt, eqb→eq, length, set, eqb-true, eqb-false}
use Rattle.model.specs.Sheet.{header_of, word, table_at, problem_of, permutes_pairs, distinct}
use Rattle.model.specs.{Lists.at, Lists.all, Lists.below, ValueSets.has, Problem.Problem, Problem.is_pair, Problem.pair, Problem.symmetry_at, Inner.Filling.Filled}
use mathlib.Core.Bool.{false≢true}
use lib.Arith.{digits_lt, digits_div, digits_mod}
use Rattle.model.proofs.{Lists.both_l, Lists.all_e, Lists.all_i, Lists.below_i, Lists.below_e, Lists.length_below, Lists.T_of, Lists.of_T, Accepted.at_words, Filling.filled_turn}
use Rattle.arrays.specs.{Inner.Layout.Images, Inner.Layout.pair_code_of, Inner.Places.IMAGES}
use Rattle.sheet_table.proofs.Codes.{code_small, code_inj}
use Rattle.sheet.specs.Inner.Decoding.{Decodable, Decoded, permuting, TablesDecoded}
use Rattle.sheet.proofs.{Any.get_d_below, Stating.FormPassed, TablesTurn.table_offset, TablesTurn.table_room}

-- ---- one table
-- the images of the first k pair numbers, and nothing else changed
abbrev pub DecodedTo : List ℕ → ℕ → ℕ → ℕ → ℕ → List ℕ → List ℕ → Type 0
DecodedTo b from d base k old new = Filled (λ q. base + pair_code_of d q) (λ q w. w ≡ pair_code_of d (word b (from + 2 * q))) k old new

module _ (b : List ℕ) (from count d base : ℕ) (old : List ℕ) (f : Decodable b from count d base old) where
  -- what is asked of a pair number to have a code
  pub coded : (q : ℕ) → q < count → (1 ≤ d) × (d ≤ 16) × (q < 12 * d)
  coded q l = (f.some, f.few, omega (arith, f.small))

  pub decode_more : (k y slot code : ℕ) (new : List ℕ) → k < count → y ≡ word b (from + 2 * k) → (slot ≡ pair_code_of d k) × (slot < 192) → code ≡ pair_code_of d y →
      DecodedTo b from d base k old new → DecodedTo b from d base (k + 1) old (set new (base + slot) code)
  decode_more k y slot code new l ey es ec t =
      filled_turn (λ q. base + pair_code_of d q) _ old new k (base + slot) code t (ap (λ (x : ℕ). base + x) es.0) (omega (arith, es.1, f.room, f.sized))
      (λ v m e. let z : v ≡ k = code_inj v k d f.some f.few (let w : pair_code_of d v ≡ pair_code_of d k = omega arith in w) in omega arith) (ec ∙ ap (pair_code_of d) ey)

pub decode_end : (b : List ℕ) (from count d base k : ℕ) (old new : List ℕ) → count ≤ k → k ≤ count → DecodedTo b from d base k old new → Decoded b from count d base old new
decode_end b from count d base k old new l m t = record { sized = t.size; images = λ q h. t.here q (omega arith); others = λ i n. t.other i (λ q h. n q (omega arith)) }

-- ---- all tables
is_lt : (p : Problem) (y : ℕ) → T (is_pair p y) → y < p.variables * p.values
unfolding is_pair
is_lt p y t = ltb→lt y (p.variables * p.values) (both_l (ltb y (p.variables * p.values)) (has (at p.initial (y / p.values)) (y % p.values)) t)

-- a permuted table holds pair numbers
inside : (p : Problem) (g : List ℕ) → T (permutes_pairs p g) → (q : ℕ) → q < p.variables * p.values → at g q < p.variables * p.values
unfolding permutes_pairs
inside p g t q l =
    go (is_pair p q)
    (all_e (λ q. elim (is_pair p q) [ true ↦ is_pair p (at g q) | false ↦ eqb (at g q) q ]) (below (p.variables * p.values))
    (both_l (all (λ q. elim (is_pair p q) [ true ↦ is_pair p (at g q) | false ↦ eqb (at g q) q ]) (below (p.variables * p.values))) (distinct g) t) q (below_i (p.variables * p.values) q l))
  where
    go : (s : Bool) → T (elim s [ true ↦ is_pair p (at g q) | false ↦ eqb (at g q) q ]) → at g q < p.variables * p.values
    go true u = is_lt p (at g q) u
    go false u = let e : at g q ≡ q = eqb→eq (at g q) q u in omega arith

table_at_lem : (b : List ℕ) (e q : ℕ) → q < (header_of b).variables * (header_of b).values → at (table_at b (header_of b) e) q ≡ word b (table_offset b e + 2 * q)
unfolding table_at
table_at_lem b e q h = at_words b (table_offset b e) ((header_of b).variables * (header_of b).values) q h

-- question 15 to a table
abbrev pub permuted_at : List ℕ → ℕ → Bool
permuted_at b e = permutes_pairs (problem_of b) (table_at b (header_of b) e)

in_table : (b : List ℕ) (e : ℕ) → permuted_at b e ≡ true → (q : ℕ) → q < (header_of b).variables * (header_of b).values →
    word b (table_offset b e + 2 * q) < (header_of b).variables * (header_of b).values
unfolding problem_of
in_table b e t q h = subst (λ (y : ℕ). y < (header_of b).variables * (header_of b).values) (table_at_lem b e q h) (inside (problem_of b) (table_at b (header_of b) e) (T_of (permuted_at b e) t) q h)

-- to all of them
pub permuted_all : (b : List ℕ) → ((e : ℕ) → e < (header_of b).symmetries → permuted_at b e ≡ true) → permuting b ≡ true
unfolding problem_of
permuted_all b h =
    of_T (permuting b)
    (all_i (permutes_pairs (problem_of b)) (problem_of b).symmetries
    (λ g m. let r = Memᴰ-of_map (table_at b (header_of b)) (below (header_of b).symmetries) m in
    subst (λ (t : List ℕ). T (permutes_pairs (problem_of b) t)) r.2 (T_of (permuted_at b r.0) (h r.0 (below_e (header_of b).symmetries r.0 r.1)))))

pub permuted_each : (b : List ℕ) → permuting b ≡ true → (e : ℕ) → e < (header_of b).symmetries → permuted_at b e ≡ true
unfolding problem_of
permuted_each b t e l =
    of_T (permuted_at b e) (all_e (permutes_pairs (problem_of b)) (problem_of b).symmetries (T_of (permuting b) t) (table_at b (header_of b) e)
    (Memᴰ-map (table_at b (header_of b)) (below_i (header_of b).symmetries e l)))

pub permuted_not : (b : List ℕ) (e : ℕ) → e < (header_of b).symmetries → permuted_at b e ≡ false → permuting b ≡ false
permuted_not b e l n = go (permuting b) refl
  where
    go : (s : Bool) → permuting b ≡ s → permuting b ≡ false
    go true q = q ∙ sym (permuted_each b q e l) ∙ n
    go false q = q

-- the first e tables pass question 15 and were decoded, and the next stands at an offset
pub record ImagesTo (b : List ℕ) (e o : ℕ) (new : List ℕ) : Type 0 where
  pub here : o ≡ table_offset b e
  pub sized : length new ≡ IMAGES
  pub permuted : (f : ℕ) → f < e → permuted_at b f ≡ true
  pub images : (f q : ℕ) → f < e → q < (header_of b).variables * (header_of b).values → at new (192 * f + pair_code_of (header_of b).values q) ≡ pair_code_of (header_of b).values
      (word b (table_offset b f + 2 * q))

pub images_none : (b : List ℕ) (o : ℕ) (new : List ℕ) → o ≡ (header_of b).third → length new ≡ IMAGES → ImagesTo b 0 o new
images_none b o new e s =
    record {
      here = (let z : table_offset b 0 ≡ (header_of b).third = omega arith in e ∙ sym z);
      sized = s;
      permuted = λ f l. absurd (not-suc-le-zero l);
      images = λ f q l. absurd (not-suc-le-zero l);
    }

module _ (b : List ℕ) (v : FormPassed b) (e o : ℕ) (new : List ℕ) (t : ImagesTo b e o new) (l : e < (header_of b).symmetries) (count d : ℕ) (ed : d ≡ (header_of b).values)
    (ec : count ≡ (header_of b).variables * (header_of b).values) (z : permuted_at b e ≡ true) where
  product : (header_of b).variables * (header_of b).values ≤ 12 * (header_of b).values
  product = mul-le-mul_right (header_of b).values v.fits.few

  pub decodable : Decodable b o count d (192 * e) new
  decodable =
      record {
        some = omega (arith, v.fits.one);
        few = omega (arith, v.fits.sixteen);
        small = omega (arith, product);
        whole = omega (arith, t.here, table_room b e v.filled l);
        room = omega (arith, v.fits.symmetries);
        sized = t.sized;
        pairs = λ q m. subst₂ (λ (x y : ℕ). word b (x + 2 * q) < y) (sym t.here) (sym ec) (in_table b e z q (omega arith));
      }

  pub images_more : (next : List ℕ) → Decoded b o count d (192 * e) new next → ImagesTo b (e + 1) (o + 2 * count) next
  images_more next u =
      let nd = (header_of b).variables * (header_of b).values in
      let w : suc e * nd ≡ e * nd + nd = suc-mul e nd in
      let z : (e + 1) * nd ≡ e * nd + nd = ap (λ (x : ℕ). x * nd) (add-one e) ∙ w in
      record {
        here = omega (arith, t.here);
        sized = u.sized ∙ t.sized;
        permuted = λ f m. asked f m (eqb f e) refl;
        images = λ g q m h. slot g q m h (eqb g e) refl;
      }
    where
      asked : (f : ℕ) → f < e + 1 → (s : Bool) → eqb f e ≡ s → permuted_at b f ≡ true
      asked f m true x = ap (permuted_at b) (eqb-true f e x) ∙ z
      asked f m false x = let n : f ≡ e → ⊥ = eqb-false f e x in t.permuted f (omega arith)

      slot : (g q : ℕ) → g < e + 1 → q < (header_of b).variables * (header_of b).values → (s : Bool) → eqb g e ≡ s →
          at next (192 * g + pair_code_of (header_of b).values q) ≡ pair_code_of (header_of b).values
          (word b (table_offset b g + 2 * q))
      slot g q m h true x =
          let y : g ≡ e = eqb-true g e x in
          ap₂ (λ (i j : ℕ). at next (192 * i + pair_code_of j q)) y (sym ed) ∙ u.images q (omega arith)
          ∙ ap₂ (λ (i j : ℕ). pair_code_of j (word b (i + 2 * q))) (t.here ∙ ap (table_offset b) (sym y)) ed
      slot g q m h false x =
          let n : g ≡ e → ⊥ = eqb-false g e x in
          let s = code_small q (header_of b).values v.fits.one v.fits.sixteen (omega (arith, product)) in
          u.others (192 * g + pair_code_of (header_of b).values q) (λ r l z. omega arith) ∙ t.images g q (omega arith) h

-- ---- the pair of a variable and a value
pair_code : (x w d : ℕ) → w < d → pair_code_of d (x * d + w) ≡ 16 * x + w
pair_code x w d l = ap₂ (λ (i j : ℕ). 16 * i + j) (digits_div x l) (digits_mod x l)

symmetry_is : (b : List ℕ) (e : ℕ) → e < (header_of b).symmetries → symmetry_at (problem_of b) e ≡ table_at b (header_of b) e
unfolding problem_of
symmetry_is b e l = get_d_below (table_at b (header_of b)) (header_of b).symmetries e [] l

images_all : (b : List ℕ) (e o : ℕ) (new : List ℕ) → (header_of b).symmetries ≤ e → ImagesTo b e o new → Images (problem_of b) new
unfolding problem_of pair
images_all b e o new l t g x w hg hx hw =
    let n = (header_of b).variables in
    let d = (header_of b).values in
    let q = x * d + w in
    let hg' : g < (header_of b).symmetries = subst (λ (i : ℕ). g < i) (length_below (table_at b (header_of b)) (header_of b).symmetries) hg in
    let hq : q < n * d = digits_lt hx hw in
    let image : at (symmetry_at (problem_of b) g) q ≡ word b (table_offset b g + 2 * q) = ap (λ (r : List ℕ). at r q) (symmetry_is b g hg') ∙ table_at_lem b g q hq in
    ap (at new) (let z : 192 * g + 16 * x + w ≡ 192 * g + pair_code_of d q = (let y = pair_code x w d hw in omega arith) in z)
    ∙ t.images g q (omega arith) hq ∙ ap (pair_code_of d) (sym image)

pub tables_decoded : (b : List ℕ) (e o : ℕ) (new : List ℕ) → (header_of b).symmetries ≤ e → ImagesTo b e o new → TablesDecoded b new true
tables_decoded b e o new l t = record { answers = sym (permuted_all b (λ f m. t.permuted f (omega arith))); imaged = λ _. images_all b e o new l t; sized = t.sized }

pub tables_not : (b : List ℕ) (e o : ℕ) (new : List ℕ) → e < (header_of b).symmetries → ImagesTo b e o new → permuted_at b e ≡ false → TablesDecoded b new false
tables_not b e o new l t n = record { answers = sym (permuted_not b e l n); imaged = λ x. absurd (false≢true x); sized = t.sized }
