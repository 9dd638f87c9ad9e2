-- A scope's number says how many names it has, and which. Assumes nothing.
use Rattle.model.specs.Kit.{◌≡◌, refl, sym, ap, ◌∙◌, subst, List, [], ◌∷◌, ℕ, suc, ◌+◌, ◌*◌, ◌/◌, ◌%◌, ◌^◌, ◌≤◌, ◌<◌, ℕ_discrete, arith, length, set, length-set}
use Rattle.model.specs.{Lists.at, ValueSets.has}
use Rattle.model.proofs.Lists.{list_1, list_2, list_3, at_set, at_set_other}
use Rattle.arrays.specs.{Inner.Layout.place, Inner.Layout.arity_in, Inner.Layout.variable_in, Inner.Places.NUMBERS}
use Rattle.arrays_order.specs.Inner.Steps.{Narrow, Sorting, Framed, Scope, ScopeMoved, Renamed}

module _ (stands : List ℕ) (w : ℕ) (names : List ℕ) (s : Scope stands w names) where
  name_at : (i : ℕ) → i < length names → (a x : ℕ) → a ≡ variable_in w i → x ≡ at stands a → at names i ≡ x
  name_at i l a x e f = sym (s.name i l) ∙ ap (at stands) (sym e) ∙ sym f

  small : (i x : ℕ) → i < length names → at names i ≡ x → x < 16
  small i x l e = subst (λ (z : ℕ). z < 16) e (s.small i l)

  unlike : (i j x y : ℕ) → i < length names → j < length names → (i ≡ j → ⊥) → at names i ≡ x → at names j ≡ y → x ≡ y → ⊥
  unlike i j x y k l n e f q = n (s.apart i j k l (e ∙ q ∙ sym f))

  -- by the arity n, the variables a, b, .. and their names x, y, ..
  module _ (n : ℕ) (is : n ≡ arity_in w) (a x : ℕ) (ea : a ≡ variable_in w 0) (ex : x ≡ at stands a) where
    name_0 : at names 0 ≡ x
    name_0 = name_at 0 s.some a x ea ex

    pub scope_one : n ≡ 1 → (x < 16) × (names ≡ x ∷ [])
    scope_one e = (small 0 x s.some name_0, list_1 names x (sym s.arity ∙ sym is ∙ e) name_0)

    module _ (b y : ℕ) (eb : b ≡ variable_in w 1) (ey : y ≡ at stands b) where
      pub scope_two : n ≡ 2 → (x < 16) × (y < 16) × (x ≡ y → ⊥) × (names ≡ x ∷ y ∷ [])
      scope_two e =
          let l : 2 ≤ length names = omega (arith, s.arity) in
          let q = name_at 1 l b y eb ey in
          (small 0 x s.some name_0, small 1 y l q, unlike 0 1 x y s.some l (λ q. omega arith) name_0 q, list_2 names x y (sym s.arity ∙ sym is ∙ e) name_0 q)

      pub scope_three : (d z : ℕ) → d ≡ variable_in w 2 → z ≡ at stands d → (n ≡ 1 → ⊥) → (n ≡ 2 → ⊥) →
          (x < 16) × (y < 16) × (z < 16) × (x ≡ y → ⊥) × (x ≡ z → ⊥) × (y ≡ z → ⊥) × (names ≡ x ∷ y ∷ z ∷ [])
      scope_three d z ed ez f g =
          let l : length names ≡ 3 = omega (arith, s.arity, s.some, s.few) in
          let k : 2 ≤ length names = omega arith in
          let m : 3 ≤ length names = omega arith in
          let q = name_at 1 k b y eb ey in
          let r = name_at 2 m d z ed ez in (
            small 0 x s.some name_0,
            small 1 y k q,
            small 2 z m r,
            unlike 0 1 x y s.some k (λ q. omega arith) name_0 q,
            unlike 0 2 x z s.some m (λ q. omega arith) name_0 r,
            unlike 1 2 y z k m (λ q. omega arith) q r,
            list_3 names x y z l name_0 q r,
          )

pub for_names : (names sure : List ℕ) (base : ℕ) (old new : List ℕ) (r : ℕ) → names ≡ sure → Sorting sure base old new r → Sorting names base old new r
for_names names sure base old new r e q = subst (λ (l : List ℕ). Sorting l base old new r) (sym e) q

-- ---- one constraint after another
-- where a row's set stands
place_lt : (vs : List ℕ) → length vs ≤ 2 → ((i : ℕ) → i < length vs → at vs i < 16) → place vs < 256
unfolding at
place_lt [] h l = omega arith
place_lt (a ∷ []) h l = let k : a < 16 = l 0 (omega arith) in omega arith
place_lt (a ∷ b ∷ []) h l = let k : a < 16 = l 0 (omega arith) in let m : b < 16 = l 1 (omega arith) in omega arith
place_lt (a ∷ b ∷ c ∷ vs) h l = absurd (omega arith)

-- only the block counts
block : (names : List ℕ) (base : ℕ) (old new old' new' : List ℕ) (r r' : ℕ) → length names ≤ 3 → r' ≡ r → ((j : ℕ) → j < 256 → at old' (base + j) ≡ at old (base + j)) →
    ((j : ℕ) → j < 256 → at new' (base + j) ≡ at new (base + j)) → Sorting names base old new r → Sorting names base old' new' r'
block names base old new old' new' r r' few e h k q = record {
  sorted = q.sorted;
  ascends = q.ascends;
  same = q.same;
  long = q.long;
  arity = ap (λ (z : ℕ). z % 256) e ∙ q.arity;
  scope = λ i l. ap (λ (z : ℕ). z / 256 ^ suc i % 256) e ∙ q.scope i l;
  meant = λ Q m vs a l.
      let s : length vs ≤ 2 = omega (arith, q.long) in
      k (place vs) (place_lt vs s l) ∙ q.meant Q (λ us b n. let t : length us ≤ 2 = omega arith in sym (h (place us) (place_lt us t n)) ∙ m us b n) vs a l;
}

narrow_same : (d base : ℕ) (old new : List ℕ) → ((j : ℕ) → j < 256 → at new (base + j) ≡ at old (base + j)) → Narrow d base old → Narrow d base new
narrow_same d base old new h s = record {
  first = λ a b l k m. h (16 * a + b) (omega arith) ∙ s.first a b l k m;
  second = λ a b l k m. h (16 * a + b) (omega arith) ∙ s.second a b l k m;
  last = λ a b v l k m n. ap (λ (z : ℕ). has z v) (h (16 * a + b) (omega arith)) ∙ s.last a b v l k m n;
}

module _ (stands numbers supports : List ℕ) where
  pub renamed_begin : Renamed stands 0 numbers supports numbers supports
  renamed_begin = record { moved = λ k h. absurd (omega arith); other = λ j h. refl; rest = λ j h. refl; numbers_size = refl; supports_size = refl }

  pub renamed_turn : (c r : ℕ) (numbers' mid new : List ℕ) → c < 32 → length numbers ≡ NUMBERS → Renamed stands c numbers supports numbers' mid →
      ScopeMoved stands (at numbers' (32 + c)) (256 * c) mid new r → Framed (256 * c) mid new → Renamed stands (c + 1) numbers supports (set numbers' (32 + c) r) new
  renamed_turn c r numbers' mid new h long q s f = record {
    moved = λ k l. moved k l (ℕ_discrete k c);
    other = λ j n. at_set_other numbers' (32 + c) r j (λ e. n c (omega arith) (sym e)) ∙ q.other j (λ k l e. n k (omega arith) e);
    rest = λ j l. f.high j (omega arith) ∙ q.rest j (omega arith);
    numbers_size = length-set numbers' (32 + c) r ∙ q.numbers_size;
    supports_size = f.size ∙ q.supports_size;
  }
    where
      same_number : at numbers' (32 + c) ≡ at numbers (32 + c)
      same_number = q.other (32 + c) (λ k l e. omega arith)

      stored : at (set numbers' (32 + c) r) (32 + c) ≡ r
      stored = at_set numbers' (32 + c) r (omega (arith, q.numbers_size))

      moved : (k : ℕ) → k < c + 1 → Dec (k ≡ c) → ScopeMoved stands (at numbers (32 + k)) (256 * k) supports new (at (set numbers' (32 + c) r) (32 + k))
      moved k l (yes e) = subst (λ (z : ℕ). ScopeMoved stands (at numbers (32 + z)) (256 * z) supports new (at (set numbers' (32 + c) r) (32 + z))) (sym e)
          (λ names t. block names (256 * c) mid new supports new r (at (set numbers' (32 + c) r) (32 + c)) t.few stored
          (λ j n. sym (q.rest (256 * c + j) (omega arith))) (λ j n. refl) (s names (subst (λ (z : ℕ). Scope stands z names) (sym same_number) t)))
      moved k l (no e) =
          let i : k < c = omega arith in
          λ names t. block names (256 * k) supports mid supports new (at numbers' (32 + k)) (at (set numbers' (32 + c) r) (32 + k)) t.few
          (at_set_other numbers' (32 + c) r (32 + k) (λ z. omega arith))
          (λ j n. refl) (λ j n. f.low (256 * k + j) (omega arith)) (q.moved k i names t)

  -- the next scope and its table are still as they were
  pub scope_still : (d c : ℕ) (numbers' mid : List ℕ) → Renamed stands c numbers supports numbers' mid → (names : List ℕ) × Scope stands (at numbers (32 + c)) names ×
      (length names ≡ 3 → Narrow d (256 * c) supports) →
      (names : List ℕ) × Scope stands (at numbers' (32 + c)) names × (length names ≡ 3 → Narrow d (256 * c) mid)
  scope_still d c numbers' mid q s = (
    s.0,
    subst (λ (z : ℕ). Scope stands z s.0) (sym (q.other (32 + c) (λ k l e. omega arith))) s.1,
    λ e. narrow_same d (256 * c) supports mid (λ j l. q.rest (256 * c + j) (omega arith)) (s.2 e),
  )

  pub renamed_end : (c i : ℕ) (numbers' new : List ℕ) → c ≤ i → i ≤ c → Renamed stands i numbers supports numbers' new → Renamed stands c numbers supports numbers' new
  renamed_end c i numbers' new h l q = let e : i ≡ c = omega arith in subst (λ (z : ℕ). Renamed stands z numbers supports numbers' new) e q
