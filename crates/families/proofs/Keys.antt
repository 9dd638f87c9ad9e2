-- Keys: equal for equal rows alone, and made digit by digit in any order. Assumes nothing.
use Rattle.model.specs.Kit.{◌≡◌, refl, sym, ap, ap₂, ◌∙◌, subst, ℕ, zero, suc, ◌+◌, ◌-◌, ◌*◌, ◌%◌, ◌^◌, ◌≤◌, ◌<◌, mul-le-mul, mod-eq_of_lt, ℕ_discrete, arith}
use native.Mathlib.Nat.{pow-succ', pow-le-pow_right, mul_left_comm}
use Rattle.families.specs.Inner.Numbered.{key_of}

-- the first n are digits
abbrev pub Digits : ℕ → (ℕ → ℕ) → Type 0
Digits n f = (x : ℕ) → x < n → f x < 16

pub key_next : (n : ℕ) (f : ℕ → ℕ) → key_of (n + 1) f ≡ 16 * key_of n f + f n
unfolding key_of
key_next n f = let e : n + 1 ≡ suc n = omega arith in ap (λ (m : ℕ). key_of m f) e

pub key_ext : (n : ℕ) (f g : ℕ → ℕ) → ((x : ℕ) → x < n → f x ≡ g x) → key_of n f ≡ key_of n g
unfolding key_of
key_ext zero f g h = refl
key_ext (suc n) f g h = ap₂ (λ (k v : ℕ). 16 * k + v) (key_ext n f g (λ x l. h x (omega arith))) (h n (omega arith))

pub key_none : (n : ℕ) → key_of n (λ x. 0) ≡ 0
unfolding key_of
key_none zero = refl
key_none (suc n) = let e = key_none n in omega arith

key_below : (n : ℕ) (f : ℕ → ℕ) → Digits n f → key_of n f < 16 ^ n
unfolding key_of
key_below zero f d = omega arith
key_below (suc n) f d =
    let a = key_below n f (λ x l. d x (omega arith)) in
    let b = d n (omega arith) in
    let c = pow-succ' 16 n in
    omega arith

-- twelve digits of four bits
pub key_small : (n : ℕ) (f : ℕ → ℕ) → n ≤ 12 → Digits n f → key_of n f < 281474976710656
key_small n f l d =
    let a = key_below n f d in
    let b : 16 ^ n ≤ 16 ^ 12 = pow-le-pow_right {n = 16} (omega arith) l in
    omega arith

pub key_same : (n : ℕ) (f g : ℕ → ℕ) → Digits n f → Digits n g → key_of n f ≡ key_of n g → (x : ℕ) → x < n → f x ≡ g x
unfolding key_of
key_same zero f g df dg e x l = absurd (omega arith)
key_same (suc n) f g df dg e x l = go (key_same n f g (λ y k. df y (omega arith)) (λ y k. dg y (omega arith)) parts.0 x) (ℕ_discrete x n)
  where
    parts : (key_of n f ≡ key_of n g) × (f n ≡ g n)
    parts = let a = df n (omega arith) in let b = dg n (omega arith) in (omega arith, omega arith)

    go : (x < n → f x ≡ g x) → Dec (x ≡ n) → f x ≡ g x
    go ih (yes q) = subst (λ (z : ℕ). f z ≡ g z) (sym q) parts.1
    go ih (no q) = ih (omega arith)

-- ---- a digit put where there was 0
four_bits : (k : ℕ) → 2 ^ (4 * suc k) ≡ 16 * 2 ^ (4 * k)
four_bits k =
    let e : 4 * suc k ≡ suc (suc (suc (suc (4 * k)))) = omega arith in
    let a = pow-succ' 2 (4 * k) in
    let b = pow-succ' 2 (suc (4 * k)) in
    let c = pow-succ' 2 (suc (suc (4 * k))) in
    let d = pow-succ' 2 (suc (suc (suc (4 * k)))) in
    let z : 2 ^ suc (suc (suc (suc (4 * k)))) ≡ 16 * 2 ^ (4 * k) = omega arith in
    ap (λ (m : ℕ). 2 ^ m) e ∙ z

pub key_put : (n : ℕ) (f g : ℕ → ℕ) (y : ℕ) → y < n → f y ≡ 0 → ((x : ℕ) → (x ≡ y → ⊥) → g x ≡ f x) → key_of n g ≡ key_of n f + g y * 2 ^ (4 * (n - 1 - y))
unfolding key_of
key_put zero f g y l z h = absurd (omega arith)
key_put (suc n) f g y l z h = go (λ k. key_put n f g y k z h) (ℕ_discrete y n)
  where
    go : (y < n → key_of n g ≡ key_of n f + g y * 2 ^ (4 * (n - 1 - y))) → Dec (y ≡ n) → 16 * key_of n g + g n ≡ 16 * key_of n f + f n + g y * 2 ^ (4 * (suc n - 1 - y))
    go ih (yes q) =
        let a : key_of n g ≡ key_of n f = key_ext n g f (λ x k. h x (λ e. omega arith)) in
        let b : g n ≡ g y = ap g (sym q) in
        let c : f n ≡ 0 = ap f (sym q) ∙ z in
        let d : 4 * (suc n - 1 - y) ≡ 0 = omega arith in
        let e : g y * 2 ^ (4 * (suc n - 1 - y)) ≡ g y * 1 = ap (λ (m : ℕ). g y * 2 ^ m) d in
        omega arith
    go ih (no q) =
        let a = ih (omega arith) in
        let b : g n ≡ f n = h n (λ e. q (sym e)) in
        let c : suc n - 1 - y ≡ suc (n - 1 - y) = omega arith in
        let d : g y * 2 ^ (4 * (suc n - 1 - y)) ≡ g y * (16 * 2 ^ (4 * (n - 1 - y))) = ap (λ (m : ℕ). g y * 2 ^ (4 * m)) c ∙ ap (λ (m : ℕ). g y * m) (four_bits (n - 1 - y)) in
        let e = mul_left_comm (g y) 16 (2 ^ (4 * (n - 1 - y))) in
        omega arith

-- the code's shift
pub digit_small : (n y v : ℕ) → n ≤ 12 → v < 16 → v * 2 ^ (4 * (n - 1 - y)) < 281474976710656
digit_small n y v l h =
    let a : 2 ^ (4 * (n - 1 - y)) ≤ 2 ^ 44 = pow-le-pow_right {n = 2} (omega arith) (let z : 4 * (n - 1 - y) ≤ 44 = omega arith in z) in
    let b : v * 2 ^ (4 * (n - 1 - y)) ≤ 15 * 2 ^ 44 = mul-le-mul (let z : v ≤ 15 = omega arith in z) a in
    omega arith

pub digit_shifted : (n y v : ℕ) → n ≤ 12 → v < 16 → v * 2 ^ (4 * (n - 1 - y)) % 2 ^ 64 ≡ v * 2 ^ (4 * (n - 1 - y))
digit_shifted n y v l h = let a = digit_small n y v l h in mod-eq_of_lt (let z : v * 2 ^ (4 * (n - 1 - y)) < 2 ^ 64 = omega arith in z)
