-- A law of model's definitions: a dead prefix has no node below. Assumes nothing.
use Rattle.model.specs.Kit.{◌≡◌, refl, sym, ap, ◌∙◌, false, List, [], ◌∷◌, ◌++◌, map, ℕ, zero, suc, length, not-false}
use Rattle.model.specs.{Lists.at, Lists.flat, ValueSets.members, ValueSets.any_empty, Problem.Problem, Search.sets_at, Search.is_live, Search.nodes_below, Inner.Pruning.closed}
use Rattle.model.proofs.{Sets.members_of_none, Sets.at_zeros, Prune.sets_at_dead, Prune.live_is}

-- ---- a dead prefix
dead_sets : (p : Problem) (prefix : List ℕ) (x : ℕ) → is_live p prefix ≡ false → at (sets_at p prefix) x ≡ 0
dead_sets p prefix x d =
    ap (λ (l : List ℕ). at l x) (sets_at_dead p prefix (not-false (any_empty (closed p prefix)) (sym (live_is p prefix) ∙ d))) ∙ at_zeros (closed p prefix) x

pub dead_below : (p : Problem) (k : ℕ) (prefix : List ℕ) → is_live p prefix ≡ false → nodes_below p k prefix ≡ []
unfolding nodes_below flat
dead_below p zero prefix d = refl
dead_below p (suc k) prefix d =
    ap (λ (s : ℕ). flat (map (λ v. (prefix ++ (v ∷ [])) ∷ nodes_below p k (prefix ++ (v ∷ []))) (members s))) (dead_sets p prefix (length prefix) d)
    ∙ ap (λ (l : List ℕ). flat (map (λ v. (prefix ++ (v ∷ [])) ∷ nodes_below p k (prefix ++ (v ∷ []))) l)) members_of_none
