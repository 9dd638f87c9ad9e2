-- Numbers that stand one after another, and the bytes that they are. Assumes nothing.
use Rattle.model.specs.Kit.{◌≡◌, refl, sym, ap, ap₂, ◌∙◌, List, [], ◌∷◌, ◌++◌, map, ℕ, zero, suc, ◌+◌, ◌*◌, ◌/◌, ◌%◌, ◌<◌, arith, length, get_or}
use Rattle.model.specs.{Lists.flat, Lists.up_from, Lists.below, Lists.at, Bytes.two_bytes, Sheet.word, Sheet.words}
use native.Mathlib.Nat.{zero-mul}
use Rattle.model.proofs.Lists.{up_from_add, map_append, map_ext, map_shift}
use Rattle.sheet_small.proofs.Lists.{from_below}

pub words_append : (b : List ℕ) (o j k : ℕ) → words b o (j + k) ≡ words b o j ++ words b (o + 2 * j) k
unfolding words below
words_append b o j k =
    ap (map (λ i. word b (o + 2 * i))) (up_from_add 0 j k)
    ∙ map_append (λ i. word b (o + 2 * i)) (up_from 0 j) (up_from (0 + j) k)
    ∙ ap (λ (l : List ℕ). words b o j ++ l)
    (from_below (λ i. word b (o + 2 * i)) (0 + j) k
    ∙ map_ext (λ i. word b (o + 2 * (0 + j + i))) (λ i. word b (o + 2 * j + 2 * i)) (up_from 0 k) (λ i m. let e : o + 2 * (0 + j + i) ≡ o + 2 * j + 2 * i = omega arith in ap (word b) e))

-- k lists of a numbers each
pub flat_words : (b : List ℕ) (o a k : ℕ) → flat (map (λ i. words b (o + 2 * (i * a)) a) (below k)) ≡ words b o (k * a)
unfolding flat below up_from words
flat_words b o a zero = sym (ap (words b o) (zero-mul a))
flat_words b o a (suc k) =
    let e : o + 2 * (0 * a) ≡ o = omega arith in
    let f : suc k * a ≡ a + k * a = omega arith in
    ap₂ (λ (x y : List ℕ). x ++ y) (ap (λ (i : ℕ). words b i a) e)
    (ap flat (map_shift (λ i. words b (o + 2 * (i * a)) a) 0 k ∙ map_ext (λ i. words b (o + 2 * (suc i * a)) a) (λ i. words b (o + 2 * a + 2 * (i * a)) a) (up_from 0 k)
    (λ i m. let g : o + 2 * (suc i * a) ≡ o + 2 * a + 2 * (i * a) = omega arith in ap (λ (p : ℕ). words b p a) g))
    ∙ flat_words b (o + 2 * a) a k)
    ∙ sym (ap (words b o) f ∙ words_append b o a (k * a))

-- numbers below 256 determine their bytes
pub bytes_of : (n : ℕ) (b : List ℕ) → length b ≡ 2 * n → ((i : ℕ) → i < n → word b (0 + 2 * i) < 256) → b ≡ flat (map two_bytes (words b 0 n))
unfolding words flat below up_from word at
bytes_of zero [] e h = refl
bytes_of zero (x ∷ b) e h = absurd (omega arith)
bytes_of (suc n) [] e h = absurd (omega arith)
bytes_of (suc n) (x ∷ []) e h = absurd (omega arith)
bytes_of (suc n) (x ∷ y ∷ b) e h =
    let k = h 0 (omega arith) in
    let low : x ≡ (x + 256 * y) % 256 = omega arith in
    let high : y ≡ (x + 256 * y) / 256 = omega arith in
    let rest = bytes_of n b (omega arith) (λ i l. omega (arith, h (suc i) (omega arith), later i)) in
    ap₂ (λ (p : ℕ) (l : List ℕ). p ∷ l) low
    (ap₂ (λ (p : ℕ) (l : List ℕ). p ∷ l) high
    (rest ∙ ap (λ (l : List ℕ). flat (map two_bytes l)) (sym (map_shift (λ i. word (x ∷ y ∷ b) (0 + 2 * i)) 0 n ∙ map_ext (λ i. word (x ∷ y ∷ b) (0 + 2 * suc i)) (λ i. word b (0 + 2 * i))
    (up_from 0 n) (λ i m. later i)))))
  where
    later : (i : ℕ) → word (x ∷ y ∷ b) (0 + 2 * suc i) ≡ word b (0 + 2 * i)
    later i =
        let e : 0 + 2 * suc i ≡ suc (suc (0 + 2 * i)) = omega arith in
        let f : suc (suc (0 + 2 * i)) + 1 ≡ suc (suc (0 + 2 * i + 1)) = omega arith in
        ap (word (x ∷ y ∷ b)) e ∙ ap (λ (k : ℕ). get_or b (0 + 2 * i) 0 + 256 * get_or (x ∷ y ∷ b) k 0) f
