use Rattle.model.specs.Kit.{◌≡◌, ℕ, ◌-◌, ◌*◌, ◌/◌, ◌%◌, ◌^◌, ◌≤◌, ◌<◌, length}
use Rattle.model.specs.Lists.{at}
use Rattle.families.proofs.weigh.Given as goal

abbrev pub invariant-loop-c : goal.invariant-loop-c
invariant-loop-c l = (l.c ≤ l.end) × (length l.weights ≡ 192) × ((d : ℕ) → d < l.c → at l.weights d ≡ d % 16 * 2 ^ (4 * (l.variables - 1 - d / 16)))
