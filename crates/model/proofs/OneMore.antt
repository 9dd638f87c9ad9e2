-- A sheet with one exchange more states the same problem with one symmetry more. Assumes nothing.
use Rattle.model.specs.Kit.{◌≡◌, refl, ap, ap₂, ◌∙◌, subst, List, ◌∷◌, ◌++◌, map, append_assoc, Memᴰ, Memᴰ-tail, Memᴰ-append_left, ⊎_elim, ℕ, zero, suc, ◌+◌, ◌-◌, ◌*◌, ◌/◌, ◌%◌, ◌≤◌}
use Rattle.model.specs.Kit.{◌<◌, mul-le-mul_right, arith, T, length, take, drop, length-append, length-take, length-drop, get_or-take, get_or-drop}
use Rattle.model.specs.Sheet.{Header, word, words, header_of, scope_at, rows_at, after_at, constraints_verdict, constraints_from, table_at, problem_of, verdict_of}
use Rattle.model.specs.{Lists.below, Lists.up_from, Lists.at, Problem.Constraint, Problem.with_symmetries, Verdict.Verdict, Verdict.is_accepted, Claims.size_with, Claims.OneMore, Claims.exchange_in}
use Rattle.model.specs.{Bytes.two_bytes}
use mathlib.Core.List.Memᴰ
use Rattle.model.proofs.Lists.{map_shift, at_skip, at_append, below_e, up_from_e, up_from_add, map_append, map_ext, length_below}
use Rattle.model.proofs.Accepted.{Passed, passed, constraint_asked}

-- ---- elements of joined lists
pub at_left : (xs ys : List ℕ) (n i : ℕ) → length xs ≡ n → i < n → at (xs ++ ys) i ≡ at xs i
at_left xs ys n i e h = at_append xs ys i (omega arith)

pub after_low : (b : List ℕ) (o : ℕ) → 16 ≤ o → 16 ≤ after_at b o
unfolding after_at
after_low b o h = omega arith

-- ---- the same bytes give the same numbers
-- two sheets agree on the bytes from lo up to hi
abbrev pub Agree : List ℕ → List ℕ → ℕ → ℕ → Type 0
Agree b c lo hi = (i : ℕ) → lo ≤ i → i < hi → at c i ≡ at b i

pub word_same : (b c : List ℕ) (o o' : ℕ) → at c o ≡ at b o' → at c (o + 1) ≡ at b (o' + 1) → word c o ≡ word b o'
unfolding word
word_same b c o o' e f = ap₂ (λ (x y : ℕ). x + 256 * y) e f

pub words_same : (b c : List ℕ) (o o' k : ℕ) → ((i : ℕ) → i < k → word c (o + 2 * i) ≡ word b (o' + 2 * i)) → words c o k ≡ words b o' k
unfolding words
words_same b c o o' k h = map_ext (λ i. word c (o + 2 * i)) (λ i. word b (o' + 2 * i)) (below k) (λ i m. h i (below_e k i m))

module _ (b c : List ℕ) (lo hi : ℕ) (agree : Agree b c lo hi) where
  pub word_agree : (o : ℕ) → lo ≤ o → o + 2 ≤ hi → word c o ≡ word b o
  word_agree o h l = word_same b c o o (agree o h (omega arith)) (agree (o + 1) (omega arith) (omega arith))

  pub words_agree : (o k : ℕ) → lo ≤ o → o + 2 * k ≤ hi → words c o k ≡ words b o k
  words_agree o k h l = words_same b c o o k (λ i m. word_agree (o + 2 * i) (omega arith) (omega arith))

-- the constraints up to an end
module _ (b c : List ℕ) (end : ℕ) (agree : Agree b c 16 end) where
  module _ (o : ℕ) (low : 16 ≤ o) (head : o + 4 ≤ end) (tail : after_at b o ≤ end) where
    pub arity : word c o ≡ word b o
    arity = word_agree b c 16 end agree o low (omega arith)

    pub count : word c (o + 2) ≡ word b (o + 2)
    count = word_agree b c 16 end agree (o + 2) (omega arith) (omega arith)

    pub after_agree : after_at c o ≡ after_at b o
    unfolding after_at
    after_agree = ap₂ (λ (a r : ℕ). o + 4 + 2 * a + 2 * (r * a)) arity count

    pub scope_agree : scope_at c o ≡ scope_at b o
    unfolding scope_at after_at
    scope_agree = ap (words c (o + 4)) arity ∙ words_agree b c 16 end agree (o + 4) (word b o) (omega arith) (omega arith)

    pub rows_agree : rows_at c o ≡ rows_at b o
    unfolding rows_at after_at
    rows_agree =
        let a = word b o in
        let r = word b (o + 2) in
        ap₂ (λ (x y : ℕ). map (λ i. words c (o + 4 + 2 * x + 2 * (i * x)) x) (below y)) arity count
        ∙ map_ext (λ i. words c (o + 4 + 2 * a + 2 * (i * a)) a) (λ i. words b (o + 4 + 2 * a + 2 * (i * a)) a) (below r)
        (λ i m. words_agree b c 16 end agree (o + 4 + 2 * a + 2 * (i * a)) a (omega arith) (omega (arith, mul-le-mul_right a (below_e r i m))))

  pub constraints_agree : (h : Header) → h.third ≡ end → (k i o : ℕ) (v : Verdict) → 16 ≤ o → T (is_accepted (constraints_verdict b h k i o v)) → constraints_from c k o ≡ constraints_from b k o
  unfolding constraints_verdict constraints_from
  constraints_agree h e zero i o v low t = refl
  constraints_agree h e (suc k) i o v low t =
      let q = constraint_asked b h i o (constraints_verdict b h k (suc i) (after_at b o) v) t in
      let head : o + 4 ≤ end = subst (λ (z : ℕ). o + 4 ≤ z) e q.0.head in
      let tail : after_at b o ≤ end = subst (λ (z : ℕ). after_at b o ≤ z) e q.0.tail in
      ap₂ (λ (x : Constraint) (r : List Constraint). x ∷ r)
      (ap₂ (λ (x : List ℕ) (r : List (List ℕ)). record { scope = x; rows = r }) (scope_agree o low head tail) (rows_agree o low head tail))
      (ap (constraints_from c k) (after_agree o low head tail) ∙ constraints_agree h e k (suc i) (after_at b o) v (after_low b o low) q.1)

-- ---- the bytes of the longer sheet
pub word_of : (l : List ℕ) (o v : ℕ) → at l o ≡ v % 256 → at l (o + 1) ≡ v / 256 → word l o ≡ v
unfolding word
word_of l o v e f = omega arith

module _ (b c t : List ℕ) (k : ℕ) (more : OneMore b c k t) (ok : Passed b) where
  abbrev n : ℕ
  n = (header_of b).variables * (header_of b).values

  abbrev third : ℕ
  third = (header_of b).third

  cut : ℕ
  cut = third + k * length t

  table : length t ≡ 2 * n
  table = more.1

  cut_low : 16 ≤ cut
  unfolding cut
  cut_low = omega (arith, ok.header.second, ok.header.ordered)

  third_cut : third ≤ cut
  unfolding cut
  third_cut = omega arith

  cut_high : cut ≤ length b
  unfolding cut
  cut_high =
      let e : k * length t ≡ k * (2 * n) = ap (λ (x : ℕ). k * x) table in
      let l : k * (2 * n) ≤ (header_of b).symmetries * (2 * n) = mul-le-mul_right (2 * n) more.0 in
      omega (arith, ok.fits, ok.header.whole)

  abbrev up : ℕ
  up = (header_of b).symmetries + 1

  abbrev size : ℕ
  size = size_with b t

  l1 : length (take 6 b) ≡ 6
  l1 = length-take 6 b ∙ omega (arith, ok.header.long)

  l3 : length (take 6 (drop 8 b)) ≡ 6
  l3 = length-take 6 (drop 8 b) ∙ omega (arith, ok.header.long, length-drop 8 b)

  l5 : length (take (cut - 16) (drop 16 b)) ≡ cut - 16
  l5 = length-take (cut - 16) (drop 16 b) ∙ omega (arith, cut_high, length-drop 16 b)

  -- what is left of it from each seam on
  e6 : List ℕ
  e6 = t ++ drop cut b

  e5 : List ℕ
  e5 = take (cut - 16) (drop 16 b) ++ e6

  e4 : List ℕ
  e4 = two_bytes size ++ e5

  e3 : List ℕ
  e3 = take 6 (drop 8 b) ++ e4

  e2 : List ℕ
  e2 = two_bytes up ++ e3

  whole : c ≡ take 6 b ++ e2
  unfolding e2 e3 e4 e5 e6 cut
  whole = more.2 ∙ simp append_assoc

  at2 : (i : ℕ) → 6 ≤ i → at c i ≡ at e2 (i - 6)
  at2 i h = ap (λ (l : List ℕ). at l i) whole ∙ at_skip (take 6 b) e2 6 i l1 h

  at3 : (i : ℕ) → 8 ≤ i → at c i ≡ at e3 (i - 8)
  unfolding e2
  at3 i h = at2 i (omega arith) ∙ at_skip (two_bytes up) e3 2 (i - 6) refl (omega arith) ∙ ap (at e3) (omega arith)

  at4 : (i : ℕ) → 14 ≤ i → at c i ≡ at e4 (i - 14)
  unfolding e3
  at4 i h = at3 i (omega arith) ∙ at_skip (take 6 (drop 8 b)) e4 6 (i - 8) l3 (omega arith) ∙ ap (at e4) (omega arith)

  at5 : (i : ℕ) → 16 ≤ i → at c i ≡ at e5 (i - 16)
  unfolding e4
  at5 i h = at4 i (omega arith) ∙ at_skip (two_bytes size) e5 2 (i - 14) refl (omega arith) ∙ ap (at e5) (omega arith)

  at6 : (i : ℕ) → cut ≤ i → at c i ≡ at e6 (i - cut)
  unfolding e5
  at6 i h =
      let q = cut_low in
      at5 i (omega arith) ∙ at_skip (take (cut - 16) (drop 16 b)) e6 (cut - 16) (i - 16) l5 (omega arith) ∙ ap (at e6) (omega arith)

  -- the bytes, part by part
  front : Agree b c 0 6
  unfolding at
  front i h l = ap (λ (l : List ℕ). at l i) whole ∙ at_left (take 6 b) e2 6 i l1 l ∙ get_or-take 6 b i 0 l

  raised : word c 6 ≡ up
  unfolding e2 at
  raised = word_of c 6 up (at2 6 (omega arith)) (at2 7 (omega arith))

  middle : Agree b c 8 14
  unfolding e3 at
  middle i h l =
      at3 i h ∙ at_left (take 6 (drop 8 b)) e4 6 (i - 8) l3 (omega arith) ∙ get_or-take 6 (drop 8 b) (i - 8) 0 (omega arith) ∙ get_or-drop 8 b (i - 8) 0 ∙ ap (at b) (omega arith)

  body : Agree b c 16 cut
  unfolding e5 at
  body i h l =
      at5 i h ∙ at_left (take (cut - 16) (drop 16 b)) e6 (cut - 16) (i - 16) l5 (omega arith) ∙ get_or-take (cut - 16) (drop 16 b) (i - 16) 0 (omega arith)
      ∙ get_or-drop 16 b (i - 16) 0 ∙ ap (at b) (omega arith)

  inserted : (i : ℕ) → i < length t → at c (cut + i) ≡ at t i
  unfolding e6
  inserted i h = at6 (cut + i) (omega arith) ∙ at_left t (drop cut b) (length t) (cut + i - cut) refl (omega arith) ∙ ap (at t) (omega arith)

  behind : (i : ℕ) → at c (cut + length t + i) ≡ at b (cut + i)
  unfolding e6 at
  behind i =
      at6 (cut + length t + i) (omega arith) ∙ at_skip t (drop cut b) (length t) (cut + length t + i - cut) refl (omega arith) ∙ get_or-drop cut b (cut + length t + i - cut - length t) 0 ∙ ap (at b)
      (omega arith)

  -- the header
  pub same_variables : (header_of c).variables ≡ (header_of b).variables
  unfolding header_of
  same_variables = word_agree b c 0 6 front 0 (omega arith) (omega arith)

  pub same_values : (header_of c).values ≡ (header_of b).values
  unfolding header_of
  same_values = word_agree b c 0 6 front 2 (omega arith) (omega arith)

  same_constraints : (header_of c).constraints ≡ (header_of b).constraints
  unfolding header_of
  same_constraints = word_agree b c 0 6 front 4 (omega arith) (omega arith)

  more_symmetries : (header_of c).symmetries ≡ up
  unfolding header_of
  more_symmetries = raised

  same_second : (header_of c).second ≡ (header_of b).second
  unfolding header_of
  same_second = word_agree b c 8 14 middle 10 (omega arith) (omega arith)

  same_third : (header_of c).third ≡ (header_of b).third
  unfolding header_of
  same_third = word_agree b c 8 14 middle 12 (omega arith) (omega arith)

  same_first : (header_of c).first ≡ (header_of b).first
  unfolding header_of
  same_first = word_agree b c 8 14 middle 8 (omega arith) (omega arith)

  longer_size : (header_of c).size ≡ size_with b t
  unfolding header_of e4 at
  longer_size = word_of c 14 size (at4 14 (omega arith)) (at4 15 (omega arith))

  pub header_more : header_of c ≡ record {
    variables = (header_of b).variables;
    values = (header_of b).values;
    constraints = (header_of b).constraints;
    symmetries = (header_of b).symmetries + 1;
    first = (header_of b).first;
    second = (header_of b).second;
    third = (header_of b).third;
    size = size_with b t;
  }
  header_more = λ i. record {
    variables = same_variables i;
    values = same_values i;
    constraints = same_constraints i;
    symmetries = more_symmetries i;
    first = same_first i;
    second = same_second i;
    third = same_third i;
    size = longer_size i;
  }

  pub length_more : length c ≡ length b + length t
  unfolding e2 e3 e4 e5 e6
  length_more =
      ap length whole ∙ length-append (take 6 b) e2
      ∙ ap₂ (λ (x y : ℕ). x + suc (suc y)) l1
      (length-append (take 6 (drop 8 b)) e4 ∙ ap₂ (λ (x y : ℕ). x + suc (suc y)) l3
      (length-append (take (cut - 16) (drop 16 b)) e6 ∙ ap₂ (λ (x y : ℕ). x + y) l5 (length-append t (drop cut b) ∙ ap (λ (y : ℕ). length t + y) (length-drop cut b))))
      ∙ omega (arith, cut_low, cut_high)

  -- sets and constraints
  pub below_third : Agree b c 16 (header_of b).third
  below_third i h l = body i h (omega (arith, third_cut))

  pub same_initial : words c 16 (header_of c).variables ≡ words b 16 (header_of b).variables
  same_initial = ap (words c 16) same_variables ∙ words_agree b c 16 third below_third 16 (header_of b).variables (omega arith) (omega (arith, ok.header.second, ok.header.ordered))

  pub same_rules : constraints_from c (header_of c).constraints (header_of c).second ≡ constraints_from b (header_of b).constraints (header_of b).second
  same_rules =
      ap₂ (constraints_from c) same_constraints same_second
      ∙ constraints_agree b c third below_third (header_of b) refl (header_of b).constraints 0 (header_of b).second ok.walked.0 (omega (arith, ok.header.second)) ok.walked.1

  -- the tables
  pub added : List ℕ
  added = words t 0 n

  table_c : (i : ℕ) → table_at c (header_of c) i ≡ words c (third + 2 * (i * n)) n
  unfolding table_at
  table_c i = ap₂ (λ (o m : ℕ). words c (o + 2 * (i * m)) m) same_third (ap₂ (λ (x y : ℕ). x * y) same_variables same_values)

  cut_is : (m : ℕ) → third + 2 * ((k + m) * n) ≡ cut + 2 * (m * n)
  unfolding cut
  cut_is m = let e : k * length t ≡ k * (2 * n) = ap (λ (x : ℕ). k * x) table in omega arith

  table_before : (i : ℕ) → i < k → table_at c (header_of c) i ≡ table_at b (header_of b) i
  unfolding table_at
  table_before i h =
      let l : suc i * n ≤ k * n = mul-le-mul_right n h in
      table_c i ∙ words_agree b c 16 cut body (third + 2 * (i * n)) n (omega (arith, ok.header.second, ok.header.ordered)) (omega (arith, cut_is 0))

  word_inserted : (j : ℕ) → j < n → word c (third + 2 * (k * n) + 2 * j) ≡ word t (0 + 2 * j)
  word_inserted j h =
      let e = cut_is 0 in
      let q = table in
      let e1 : third + 2 * (k * n) + 2 * j ≡ cut + 2 * j = omega arith in
      let e2 : third + 2 * (k * n) + 2 * j + 1 ≡ cut + (2 * j + 1) = omega arith in
      let z1 : 2 * j ≡ 0 + 2 * j = omega arith in
      let z2 : 2 * j + 1 ≡ 0 + 2 * j + 1 = omega arith in
      word_same t c (third + 2 * (k * n) + 2 * j) (0 + 2 * j)
      (ap (at c) e1 ∙ inserted (2 * j) (omega arith) ∙ ap (at t) z1)
      (ap (at c) e2 ∙ inserted (2 * j + 1) (omega arith) ∙ ap (at t) z2)

  table_at_lem : table_at c (header_of c) k ≡ added
  unfolding added
  table_at_lem = table_c k ∙ words_same t c (third + 2 * (k * n)) 0 n word_inserted

  word_behind : (m j : ℕ) → word c (third + 2 * (suc (k + m) * n) + 2 * j) ≡ word b (third + 2 * ((k + m) * n) + 2 * j)
  word_behind m j =
      let e = cut_is m in
      let q = table in
      let x = 2 * (m * n) + 2 * j in
      let e1 : third + 2 * (suc (k + m) * n) + 2 * j ≡ cut + length t + x = omega arith in
      let e2 : third + 2 * (suc (k + m) * n) + 2 * j + 1 ≡ cut + length t + (x + 1) = omega arith in
      let z1 : cut + x ≡ third + 2 * ((k + m) * n) + 2 * j = omega arith in
      let z2 : cut + (x + 1) ≡ third + 2 * ((k + m) * n) + 2 * j + 1 = omega arith in
      word_same b c (third + 2 * (suc (k + m) * n) + 2 * j) (third + 2 * ((k + m) * n) + 2 * j)
      (ap (at c) e1 ∙ behind x ∙ ap (at b) z1) (ap (at c) e2 ∙ behind (x + 1) ∙ ap (at b) z2)

  table_after : (i : ℕ) → k ≤ i → table_at c (header_of c) (suc i) ≡ table_at b (header_of b) i
  unfolding table_at
  table_after i h =
      let e : k + (i - k) ≡ i = omega arith in
      table_c (suc i)
      ∙ subst (λ (x : ℕ). words c (third + 2 * (suc x * n)) n ≡ words b (third + 2 * (x * n)) n) e
      (words_same b c (third + 2 * (suc (k + (i - k)) * n)) (third + 2 * ((k + (i - k)) * n)) n (λ j l. word_behind (i - k) j))

  -- the symmetries before the inserted one, and those behind it
  pub before : List (List ℕ)
  before = map (table_at b (header_of b)) (below k)

  pub after : List (List ℕ)
  after = map (table_at b (header_of b)) (up_from k ((header_of b).symmetries - k))

  pub length_before : length before ≡ k
  unfolding before
  length_before = length_below (table_at b (header_of b)) k

  pub added_is : added ≡ exchange_in b t
  unfolding added
  added_is = refl

  -- the tables of k + m symmetries, in two parts
  parted : {A : Type 0} (f : ℕ → A) (m : ℕ) → map f (below (k + m)) ≡ map f (below k) ++ map f (up_from k m)
  unfolding below
  parted {A} f m =
      let z : 0 + k ≡ k = omega arith in
      ap (map f) (up_from_add 0 k m) ∙ map_append f (up_from 0 k) (up_from (0 + k) m) ∙ ap (λ (x : ℕ). map f (up_from 0 k) ++ map f (up_from x m)) z

  pub old_tables : map (table_at b (header_of b)) (below (header_of b).symmetries) ≡ before ++ after
  unfolding before after
  old_tables =
      let h = more.0 in
      let e : (header_of b).symmetries ≡ k + ((header_of b).symmetries - k) = omega arith in
      ap (λ (x : ℕ). map (table_at b (header_of b)) (below x)) e ∙ parted (table_at b (header_of b)) ((header_of b).symmetries - k)

  pub new_tables : map (table_at c (header_of c)) (below (header_of c).symmetries) ≡ before ++ (added ∷ after)
  unfolding before after up_from
  new_tables =
      let f = table_at b (header_of b) in
      let f' = table_at c (header_of c) in
      let m = (header_of b).symmetries - k in
      let h = more.0 in
      let q = more_symmetries in
      let e : (header_of c).symmetries ≡ k + suc m = omega arith in
      ap (λ (x : ℕ). map f' (below x)) e ∙ parted f' (suc m)
      ∙ ap₂ (λ (xs ys : List (List ℕ)). xs ++ ys) (map_ext f' f (below k) (λ i l. table_before i (below_e k i l)))
      (ap₂ (λ (x : List ℕ) (r : List (List ℕ)). x ∷ r) table_at_lem (map_shift f' k m ∙ map_ext (λ i. f' (suc i)) f (up_from k m) (λ i l. table_after i (up_from_e k m i l).0)))

  pub longer : problem_of c ≡ with_symmetries (problem_of b) (before ++ (added ∷ after))
  unfolding problem_of
  longer = λ i. record { variables = same_variables i; values = same_values i; initial = same_initial i; constraints = same_rules i; symmetries = new_tables i }

  pub old : (problem_of b).symmetries ≡ before ++ after
  unfolding problem_of
  old = old_tables

-- one table more, anywhere
kept_among : (xs ys : List (List ℕ)) (g h : List ℕ) → Memᴰ h (xs ++ ys) → Memᴰ h (xs ++ (g ∷ ys))
kept_among xs ys g h m = ⊎_elim {C = Memᴰ h (xs ++ (g ∷ ys))} (λ k. Memᴰ-append_left (g ∷ ys) k) (λ k. Memᴰ.append_right xs (Memᴰ-tail k)) (Memᴰ.append_cases xs m)

-- the longer sheet states the same problem with further symmetries
pub one_more : (b c t : List ℕ) (k : ℕ) → OneMore b c k t → T (is_accepted (verdict_of b))
    → (gs : List (List ℕ)) × ((g : List ℕ) → Memᴰ g (problem_of b).symmetries → Memᴰ g gs) × (problem_of c ≡ with_symmetries (problem_of b) gs)
one_more b c t k more acc =
    let ok = passed b acc in
    let xs = before b c t k more ok in
    let ys = after b c t k more ok in
    let h = added b c t k more ok in
    (xs ++ (h ∷ ys), λ g m. kept_among xs ys h g (subst (Memᴰ g) (old b c t k more ok) m), longer b c t k more ok)
