-- A byte further for each place. Assumes nothing.
use Rattle.model.specs.Kit.{◌≡◌, refl, sym, ap, ◌∙◌, ℕ, zero, suc, ◌+◌, ◌*◌, ◌/◌, ◌%◌, ◌^◌, arith}
use native.Mathlib.Nat.{pow-suc}
use lib.Pow.{pow-add}
use Rattle.arrays.proofs.scope_at.Goals as goal

pow_256 : (i : ℕ) → 256 ^ suc i ≡ 2 ^ (8 * i + 8)
pow_256 zero = refl
pow_256 (suc i) =
    pow-suc 256 (suc i) ∙ ap (λ (n : ℕ). n * 256) (pow_256 i) ∙ sym (pow-add 2 (8 * i + 8) 8) ∙ ap (λ (n : ℕ). 2 ^ n) (let e : 8 * i + 8 + 8 ≡ 8 * suc i + 8 = omega arith in e)

pub returns : goal.returns
returns c = ap (λ (m : ℕ). c.args.w / m % 256) (sym (pow_256 c.args.i))
