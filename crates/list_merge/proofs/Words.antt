-- Rows compared by words of four bytes. Assumes nothing.
use Rattle.model.specs.Kit.{◌≡◌, refl, sym, ap, ap₂, ◌∙◌, Bool, true, false, List, ◌∷◌, ℕ, zero, suc, ◌+◌, ◌*◌, ◌≤◌, ◌<◌, add-one, arith, ltb, length, drop, get_or, below_more, ltb-true, ltb-false}
use Rattle.model.specs.Lists.{earlier}
use native.Mathlib.Nat.{le_antisymm}
use lib.ListN.{drop_of_length-le}
use lib.Seq.{drop-cons}
use borrow.Author.Count.{below_none}
use Rattle.model.proofs.Lists.{T_of, of_T, not_of, earlier_lt, earlier_asym}
use Rattle.list_merge.specs.Inner.Inner.{way_of, eight_of, word_of, Number, Long, Decides}
use Rattle.list_merge.proofs.Reading.{earlier_same}

-- two rows compared from a place on
abbrev pub from : List ℕ → List ℕ → ℕ → Bool
from a b k = earlier (drop k a) (drop k b)

abbrev Bytes : List ℕ → Type 0
Bytes l = (i : ℕ) → get_or l i 0 < 256

module _ (a b : List ℕ) (k j : ℕ) (next : j ≡ k + 1) (ha : k < length a) (hb : k < length b) where
  here : from a b k ≡ earlier (get_or a k 0 ∷ drop j a) (get_or b k 0 ∷ drop j b)
  here = ap₂ earlier (cut a ha) (cut b hb)
    where
      cut : (l : List ℕ) → k < length l → drop k l ≡ get_or l k 0 ∷ drop j l
      cut l h = drop-cons l k 0 h ∙ ap (λ (m : ℕ). get_or l k 0 ∷ drop m l) (sym (next ∙ add-one k))

  step_eq : get_or a k 0 ≡ get_or b k 0 → from a b k ≡ from a b j
  step_eq e = here ∙ earlier_same (get_or a k 0) (get_or b k 0) (drop j a) (drop j b) e

  step_lt : (get_or b k 0 < get_or a k 0 → ⊥) → (get_or a k 0 ≡ get_or b k 0 → from a b j ≡ true) → from a b k ≡ true
  step_lt ne go = cases (ltb (get_or a k 0) (get_or b k 0)) refl (ltb (get_or b k 0) (get_or a k 0)) refl
    where
      cases : (p : Bool) → ltb (get_or a k 0) (get_or b k 0) ≡ p → (q : Bool) → ltb (get_or b k 0) (get_or a k 0) ≡ q → from a b k ≡ true
      cases true e q f = here ∙ of_T _ (earlier_lt (get_or a k 0) (get_or b k 0) (drop j a) (drop j b) (ltb-true _ _ e))
      cases false e true f = absurd (ne (ltb-true _ _ f))
      cases false e false f = let z : get_or a k 0 ≡ get_or b k 0 = le_antisymm (ltb-false _ _ f) (ltb-false _ _ e) in step_eq z ∙ go z

-- rows that agree before a place are compared from it on
pub agree : (a b : List ℕ) (k : ℕ) → ((i : ℕ) → i < k → get_or a i 0 ≡ get_or b i 0) → k ≤ length a → k ≤ length b → earlier a b ≡ from a b k
agree a b zero h la lb = refl
agree a b (suc k) h la lb =
    agree a b k (λ i l. h i (omega arith)) (omega arith) (omega arith) ∙ step_eq a b k (suc k) (sym (add-one k)) (omega arith) (omega arith) (h k (omega arith))

module _ (a b : List ℕ) (sa : Bytes a) (sb : Bytes b) (k : ℕ) (la : k + 4 ≤ length a) (lb : k + 4 ≤ length b) where
  word_lt : word_of a k < word_of b k → from a b k ≡ true
  unfolding word_of
  word_lt h =
      step_lt a b k (k + 1) refl (omega arith) (omega arith) (λ g. omega (arith, sb (k + 1), sb (k + 2), sb (k + 3)))
      (λ e. step_lt a b (k + 1) (k + 2) (omega arith) (omega arith) (omega arith) (λ g. omega (arith, sb (k + 2), sb (k + 3)))
      (λ f. step_lt a b (k + 2) (k + 3) (omega arith) (omega arith) (omega arith) (λ g. omega (arith, sb (k + 3)))
      (λ g. step_lt a b (k + 3) (k + 4) (omega arith) (omega arith) (omega arith) (λ i. omega arith) (λ i. absurd (omega arith)))))

pub word_bytes : (a b : List ℕ) → Bytes a → Bytes b → (k : ℕ) → word_of a k ≡ word_of b k →
    (get_or a k 0 ≡ get_or b k 0) × (get_or a (k + 1) 0 ≡ get_or b (k + 1) 0) × (get_or a (k + 2) 0 ≡ get_or b (k + 2) 0) × (get_or a (k + 3) 0 ≡ get_or b (k + 3) 0)
unfolding word_of
word_bytes a b sa sb k e =
    let x₁ = sa (k + 1) in let x₂ = sa (k + 2) in let x₃ = sa (k + 3) in
    let y₁ = sb (k + 1) in let y₂ = sb (k + 2) in let y₃ = sb (k + 3) in
    (omega arith, omega arith, omega arith, omega arith)

past : (a b : List ℕ) (k : ℕ) → length a ≤ k → from a b k ≡ false
unfolding earlier
past a b k h = ap (λ (l : List ℕ). earlier l (drop k b)) (drop_of_length-le a {i = k} h)

-- four bytes decide, unless they are the last and agree
pub word_way : (a b : List ℕ) → Bytes a → Bytes b → (n k : ℕ) → length a ≡ n → length b ≡ n → k + 4 ≤ n → (word_of a k ≡ word_of b k → k + 4 ≡ n) → from a b k ≡ ltb (word_of a k) (word_of b k)
word_way a b sa sb n k ea eb fits last = cases (ltb (word_of a k) (word_of b k)) refl (ltb (word_of b k) (word_of a k)) refl
  where
    la : k + 4 ≤ length a
    la = omega arith

    lb : k + 4 ≤ length b
    lb = omega arith

    at_end : word_of a k ≡ word_of b k → from a b k ≡ false
    at_end e =
        let w = word_bytes a b sa sb k e in
        step_eq a b k (k + 1) refl (omega arith) (omega arith) w.0
        ∙ step_eq a b (k + 1) (k + 2) (omega arith) (omega arith) (omega arith) w.1
        ∙ step_eq a b (k + 2) (k + 3) (omega arith) (omega arith) (omega arith) w.2
        ∙ step_eq a b (k + 3) (k + 4) (omega arith) (omega arith) (omega arith) w.3
        ∙ past a b (k + 4) (omega (arith, last e))

    cases : (p : Bool) → ltb (word_of a k) (word_of b k) ≡ p → (q : Bool) → ltb (word_of b k) (word_of a k) ≡ q → from a b k ≡ p
    cases true e q f = word_lt a b sa sb k la lb (ltb-true _ _ e)
    cases false e true f = not_of (from a b k) (λ t. earlier_asym (drop k a) (drop k b) t (T_of _ (word_lt b a sb sa k lb la (ltb-true _ _ f))))
    cases false e false f = at_end (le_antisymm (ltb-false _ _ f) (ltb-false _ _ e))

-- ---- eight bytes
peel : (x y u v : ℕ) → x < 256 → y < 256 → x + u * 256 ≡ y + v * 256 → (x ≡ y) × (u ≡ v)
peel x y u v hx hy e = (omega arith, omega arith)

module _ (a b : List ℕ) where
  abbrev Same : ℕ → Type 0
  Same i = get_or a i 0 ≡ get_or b i 0

  four_same : Same 0 → Same 1 → Same 2 → Same 3 → (i : ℕ) → i < 4 → Same i
  four_same p q r s = below_more Same 3 (below_more Same 2 (below_more Same 1 (below_more Same 0 (below_none Same) p) q) r) s

  eight_same : Bytes a → Bytes b → eight_of a ≡ eight_of b → (i : ℕ) → i < 8 → Same i
  unfolding eight_of
  eight_same sa sb e =
      let tail : List ℕ → ℕ → ℕ → ℕ = λ (l : List ℕ) (i u : ℕ). get_or l i 0 + u * 256 in
      let p₀ = peel (get_or a 0 0) (get_or b 0 0) (tail a 1 (tail a 2 (tail a 3 (tail a 4 (tail a 5 (tail a 6 (get_or a 7 0)))))))
      (tail b 1 (tail b 2 (tail b 3 (tail b 4 (tail b 5 (tail b 6 (get_or b 7 0))))))) (sa 0) (sb 0) (omega arith) in
      let p₁ = peel (get_or a 1 0) (get_or b 1 0) (tail a 2 (tail a 3 (tail a 4 (tail a 5 (tail a 6 (get_or a 7 0)))))) (tail b 2 (tail b 3 (tail b 4 (tail b 5 (tail b 6 (get_or b 7 0)))))) (sa 1)
      (sb 1)
      p₀.1 in
      let p₂ = peel (get_or a 2 0) (get_or b 2 0) (tail a 3 (tail a 4 (tail a 5 (tail a 6 (get_or a 7 0))))) (tail b 3 (tail b 4 (tail b 5 (tail b 6 (get_or b 7 0))))) (sa 2) (sb 2) p₁.1 in
      let p₃ = peel (get_or a 3 0) (get_or b 3 0) (tail a 4 (tail a 5 (tail a 6 (get_or a 7 0)))) (tail b 4 (tail b 5 (tail b 6 (get_or b 7 0)))) (sa 3) (sb 3) p₂.1 in
      let p₄ = peel (get_or a 4 0) (get_or b 4 0) (tail a 5 (tail a 6 (get_or a 7 0))) (tail b 5 (tail b 6 (get_or b 7 0))) (sa 4) (sb 4) p₃.1 in
      let p₅ = peel (get_or a 5 0) (get_or b 5 0) (tail a 6 (get_or a 7 0)) (tail b 6 (get_or b 7 0)) (sa 5) (sb 5) p₄.1 in
      let p₆ = peel (get_or a 6 0) (get_or b 6 0) (get_or a 7 0) (get_or b 7 0) (sa 6) (sb 6) p₅.1 in
      below_more Same 7 (below_more Same 6 (below_more Same 5 (below_more Same 4 (four_same p₀.0 p₁.0 p₂.0 p₃.0) p₄.0) p₅.0) p₆.0) p₆.1

  -- ---- which four bytes decide
  pub last_four : Bytes a → Bytes b → (n : ℕ) → 8 ≤ n → n ≤ 12 → eight_of a ≡ eight_of b → (m : ℕ) → m + 4 ≡ n → Decides n a b m
  last_four sa sb n some most e m q = record { fits = omega arith; before = λ i h. eight_same sa sb e i (omega arith); last = λ z. q }

  pub second_four : Bytes a → Bytes b → (n : ℕ) → 8 ≤ n → (eight_of a ≡ eight_of b → ⊥) → word_of a 0 ≡ word_of b 0 → Decides n a b 4
  unfolding eight_of
  second_four sa sb n some ne e =
      let w = word_bytes a b sa sb 0 e in
      record {
        fits = omega arith;
        before = four_same w.0 w.1 w.2 w.3;
        last = λ z. let v = word_bytes a b sa sb 4 z in absurd (ne (omega (arith, w.0, w.1, w.2, w.3, v.0, v.1, v.2, v.3)));
      }

-- ---- the comparison
pub words_way : (n : ℕ) (a b : List ℕ) → Long n a b → (r x y : ℕ) → Decides n a b r → Number a (word_of a r) x → Number b (word_of b r) y →
    way_of (ltb x y) (ltb y x) ≡ way_of (earlier a b) (earlier b a)
words_way n a b l r x y d p q = ap₂ way_of (one a b x y l.first l.second d.before d.last p q) (one b a y x l.second l.first (λ i h. sym (d.before i h)) (λ z. d.last (sym z)) q p)
  where
    one : (a b : List ℕ) (x y : ℕ) → length a ≡ n → length b ≡ n → ((i : ℕ) → i < r → get_or a i 0 ≡ get_or b i 0) → (word_of a r ≡ word_of b r → r + 4 ≡ n) → Number a (word_of a r) x → Number b
        (word_of b r) y → ltb x y ≡ earlier a b
    one a b x y ea eb h last p q =
        ap₂ ltb p.is q.is ∙ sym (word_way a b p.bytes q.bytes n r ea eb d.fits last) ∙ sym (agree a b r h (omega (arith, d.fits)) (omega (arith, d.fits)))
