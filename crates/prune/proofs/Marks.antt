-- Marks that are unchanged are still right. Assumes nothing.
use Rattle.model.specs.Kit.{◌≡◌, sym, subst, List, ℕ, suc, ◌+◌, ◌*◌, ◌≤◌, ◌<◌, arith, length}
use Rattle.model.specs.{Lists.at, Problem.Problem, Problem.with_symmetries, Search.sets_at}
use Rattle.arrays.specs.Inner.Places.{MARKS}
use Rattle.prune_symmetries.specs.Inner.Levels.{Mark}
use Rattle.prune.specs.Inner.Node.{Marked}

pub marked_on : (p : Problem) (gs : List (List ℕ)) (work work' prefix : List ℕ) (k : ℕ) → length p.symmetries ≤ 16 → ((i : ℕ) → 16 ≤ i → i < 16 * suc (suc k) → at work' i ≡ at work i)
    → Marked p gs work prefix k → Marked p gs work' prefix k
marked_on p gs work work' prefix k f e h = λ x l. subst (Mark p (sets_at (with_symmetries p gs) prefix) prefix x) (sym (e (16 * k + MARKS + x) (omega arith) (omega arith))) (h x l)
