-- The low bits of a sum of two parts, and the high ones. Assumes nothing.
use Rattle.model.specs.Kit.{◌≡◌, sym, ap, ◌∙◌, ℕ, zero, suc, ◌+◌, ◌*◌, ◌/◌, ◌%◌, ◌^◌, ◌<◌, not-suc-le-zero, le_of_suc-le-suc, arith, eqb}
use Rattle.model.specs.ValueSets.{has}
use native.Mathlib.Nat.{mul_assoc}
use Rattle.model.proofs.{Sets.has_zero, Sets.has_suc, Sets.pow2, Masks.has_shr}

-- ---- the bits below a number, and those from it on
pub low_bits : (k a b w : ℕ) → w < k → has (2 ^ k * a + b) w ≡ has b w
low_bits zero a b w h = absurd (not-suc-le-zero h)
low_bits (suc k) a b zero h =
    let e : 2 ^ suc k * a ≡ 2 * (2 ^ k * a) = ap (λ (n : ℕ). n * a) (pow2 k) ∙ mul_assoc 2 (2 ^ k) a in
    let q : (2 ^ suc k * a + b) % 2 ≡ b % 2 = omega arith in
    has_zero (2 ^ suc k * a + b) ∙ ap (λ (n : ℕ). eqb n 1) q ∙ sym (has_zero b)
low_bits (suc k) a b (suc w) h =
    let e : 2 ^ suc k * a ≡ 2 * (2 ^ k * a) = ap (λ (n : ℕ). n * a) (pow2 k) ∙ mul_assoc 2 (2 ^ k) a in
    let q : (2 ^ suc k * a + b) / 2 ≡ 2 ^ k * a + b / 2 = omega arith in
    has_suc (2 ^ suc k * a + b) w ∙ ap (λ (n : ℕ). has n w) q ∙ low_bits k a (b / 2) w (le_of_suc-le-suc h) ∙ sym (has_suc b w)

pub high_bits : (a b j : ℕ) → b < 256 → has (256 * a + b) (8 + j) ≡ has a j
high_bits a b j h =
    let e : (256 * a + b) / 2 ^ 8 ≡ a = omega arith in
    sym (has_shr (256 * a + b) 8 j) ∙ ap (λ (n : ℕ). has n j) e
