-- Decimal digits: the last digit, and how many there are. Laws of `digits`. Assumes nothing.
use Rattle.model.specs.Kit.{◌≡◌, refl, sym, ap, ◌∙◌, subst, ◌⊎◌, inl, inr, ⊎_elim, Bool, true, false, List, [], ◌∷◌, ◌++◌, ℕ, zero, suc, ◌+◌, ◌/◌, ◌%◌, ◌^◌, ◌≤◌, ◌<◌, arith, lt-ltb, le-ltb, ltb-true}
use Rattle.model.specs.Kit.{ltb-false, ltb, length, length-append}
use Rattle.model.specs.Written.{Written}
use native.Mathlib.Nat.{pow-succ'}
use Rattle.report.specs.Report.{digits, decimal}
use Rattle.model.proofs.Written.{written_then}

pub below_ten : (n : ℕ) → (n < 10) ⊎ (10 ≤ n)
below_ten n = go (ltb n 10) refl
  where
    go : (b : Bool) → ltb n 10 ≡ b → (n < 10) ⊎ (10 ≤ n)
    go true e = inl (ltb-true n 10 e)
    go false e = inr (ltb-false n 10 e)

pub digits_one : (k n : ℕ) → n < 10 → digits (suc k) n ≡ (48 + n) ∷ []
unfolding digits
digits_one k n h = ap {B = List ℕ} (λ (b : Bool). elim b [ true ↦ (48 + n) ∷ [] | false ↦ digits k (n / 10) ++ ((48 + n % 10) ∷ []) ]) (lt-ltb n 10 h)

pub digits_more : (k n : ℕ) → 10 ≤ n → digits (suc k) n ≡ digits k (n / 10) ++ ((48 + n % 10) ∷ [])
unfolding digits
digits_more k n h = ap {B = List ℕ} (λ (b : Bool). elim b [ true ↦ (48 + n) ∷ [] | false ↦ digits k (n / 10) ++ ((48 + n % 10) ∷ []) ]) (le-ltb n 10 h)

-- a number below 10 ^ (k + 1) has its digits in k + 1 places: one place more changes nothing
pub digits_enough : (k n : ℕ) → n < 10 ^ suc k → digits (suc (suc k)) n ≡ digits (suc k) n
digits_enough zero n h = digits_one 1 n h ∙ sym (digits_one 0 n h)
digits_enough (suc k) n h = ⊎_elim (small n) (large (digits_enough k) n h) (below_ten n)
  where
    small : (n : ℕ) → n < 10 → digits (suc (suc (suc k))) n ≡ digits (suc (suc k)) n
    small n l = digits_one (suc (suc k)) n l ∙ sym (digits_one (suc k) n l)

    large : ((m : ℕ) → m < 10 ^ suc k → digits (suc (suc k)) m ≡ digits (suc k) m) → (n : ℕ) → n < 10 ^ suc (suc k) → 10 ≤ n → digits (suc (suc (suc k))) n ≡ digits (suc (suc k)) n
    large ih n h g =
        digits_more (suc (suc k)) n g
        ∙ ap (λ (l : List ℕ). l ++ ((48 + n % 10) ∷ [])) (ih (n / 10) (omega (arith, pow-succ' 10 (suc k))))
        ∙ sym (digits_more (suc k) n g)

-- as many digits as places at most, and for a number below 10 ^ (k + 1) at most k + 1
pub digits_most : (f n : ℕ) → length (digits f n) ≤ f
unfolding digits
digits_most zero n = omega arith
digits_most (suc f) n = ⊎_elim (λ l. small l) (λ l. large (digits_most f (n / 10)) l) (below_ten n)
  where
    small : n < 10 → length (digits (suc f) n) ≤ suc f
    small l = omega (arith, ap length (digits_one f n l))

    large : length (digits f (n / 10)) ≤ f → 10 ≤ n → length (digits (suc f) n) ≤ suc f
    large ih l = omega (arith, ap length (digits_more f n l), length-append (digits f (n / 10)) ((48 + n % 10) ∷ []))

-- ---- decimal
pub decimal_one : (n : ℕ) → n < 10 → decimal n ≡ (48 + n) ∷ []
unfolding decimal
decimal_one n h = digits_one 19 n h

pub decimal_more : (n : ℕ) → 10 ≤ n → n < 2 ^ 64 → decimal n ≡ decimal (n / 10) ++ ((48 + n % 10) ∷ [])
unfolding decimal
decimal_more n g h = digits_more 19 n g ∙ ap (λ (l : List ℕ). l ++ ((48 + n % 10) ∷ [])) (sym (digits_enough 18 (n / 10) (omega arith)))

pub decimal_most : (n : ℕ) → length (decimal n) ≤ 20
unfolding decimal
decimal_most n = digits_most 20 n

-- a number below 10 ^ (k + 1) has at most k + 1 digits
pub decimal_below : (k n : ℕ) → n < 10 ^ suc k → length (decimal n) ≤ suc k
unfolding decimal digits
decimal_below k n h = go 20 k n h
  where
    go : (f k n : ℕ) → n < 10 ^ suc k → length (digits f n) ≤ suc k
    go zero k n h = omega arith
    go (suc f) zero n h = omega (arith, ap length (digits_one f n h))
    go (suc f) (suc k) n h = ⊎_elim (λ l. omega (arith, ap length (digits_one f n l))) (λ l. omega
        (arith, ap length (digits_more f n l), length-append (digits f (n / 10)) ((48 + n % 10) ∷ []), go f k (n / 10) (omega (arith, pow-succ' 10 (suc k))))) (below_ten n)

pub length_one : (n : ℕ) → n < 10 → length (decimal n) ≡ 1
length_one n h = ap length (decimal_one n h)

pub length_more : (n : ℕ) → 10 ≤ n → n < 2 ^ 64 → length (decimal n) ≡ length (decimal (n / 10)) + 1
length_more n g h = ap length (decimal_more n g h) ∙ length-append (decimal (n / 10)) ((48 + n % 10) ∷ [])

pub length_two : (n : ℕ) → 10 ≤ n → n < 100 → length (decimal n) ≡ 2
length_two n g h = length_more n g (omega arith) ∙ ap (λ (k : ℕ). k + 1) (length_one (n / 10) (omega arith))

pub length_three : (n : ℕ) → 100 ≤ n → n < 1000 → length (decimal n) ≡ 3
length_three n g h = length_more n (omega arith) (omega arith) ∙ ap (λ (k : ℕ). k + 1) (length_two (n / 10) (omega arith) (omega arith))

-- ---- a number put by its digits
pub put_one : {d : List ℕ} {at n : ℕ} {e : List ℕ} {r : ℕ} → n < 10 → Written d at ((48 + n) ∷ []) e r → Written d at (decimal n) e r
put_one {d} {at} {n} {e} {r} h w = subst (λ (l : List ℕ). Written d at l e r) (sym (decimal_one n h)) w

pub put_more : {d : List ℕ} {at n : ℕ} {e : List ℕ} {r : ℕ} {f : List ℕ} {s : ℕ} → 10 ≤ n → n < 2 ^ 64 → at + length (decimal n) ≤ length d → Written d at (decimal (n / 10)) e r → Written e r
    ((48 + n % 10) ∷ []) f s → Written d at (decimal n) f s
put_more {d} {at} {n} {e} {r} {f} {s} g h fits v w =
    subst (λ (l : List ℕ). Written d at l f s) (sym (decimal_more n g h)) (written_then (omega (arith, length_more n g h, v.ends)) v w)
