-- `list_length`: at most 4,096 plans of at most twelve bytes. Assumes nothing.
use Rattle.model.specs.Kit.{ap₂, ℕ, ◌*◌, ◌≤◌, mul-le-mul, arith, rules}
use Rattle.desk_slots.proofs.list_length.Goals as goal

pub overflow_mul-result : goal.overflow_mul-result
overflow_mul-result c =
    let x : c.bounded.result ≤ 4096 = omega (arith, c.bounded.ensures) in
    let y : c.bounded-2.result ≤ 12 = omega (arith, c.bounded-2.ensures) in
    let e : c.bounded.result * c.bounded-2.result ≤ 4096 * 12 = mul-le-mul x y in
    search (rules, e)

pub returns : goal.returns
returns c =
    let x : c.bounded.result ≤ 4096 = omega (arith, c.bounded.ensures) in
    let y : c.bounded-2.result ≤ 12 = omega (arith, c.bounded-2.ensures) in
    (ap₂ (λ (i j : ℕ). i * j) c.bounded.ensures c.bounded-2.ensures, mul-le-mul x y)
