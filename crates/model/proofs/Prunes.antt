-- Steps of pruning: they compose, and sets on the way stay on it. Assumes nothing.
use Rattle.model.specs.Kit.{sym, ◌∙◌, List, ℕ}
use Rattle.model.specs.{Problem.Problem, Inner.Pruning.Prunes}
use Rattle.model.proofs.Prune.{kept_mono, fixed_e, Removal}

module _ (p : Problem) (prefix : List ℕ) where
  pub prunes_none : (ds : List ℕ) → Prunes p prefix ds ds
  prunes_none ds = record { sets = λ s. s; less = λ x v t. t; keeps = λ s cs l e i. i }

  pub prunes_then : (ds es fs : List ℕ) → Prunes p prefix ds es → Prunes p prefix es fs → Prunes p prefix ds fs
  prunes_then ds es fs a b = record {
    sets = λ s. b.sets (a.sets s);
    less = λ x v t. a.less x v (b.less x v t);
    keeps = λ s cs l e i. b.keeps (a.sets s) cs l e (a.keeps s cs l e i);
  }

  pub removal_prunes : (ds es : List ℕ) → Removal p prefix ds es → Prunes p prefix ds es
  removal_prunes ds es r = record {
    sets = λ s. r.sets;
    less = r.less;
    keeps = λ s cs l e i x v t. r.spared x v (i x v t) (kept_mono p prefix cs ds (l ∙ sym s.0) i x v (fixed_e p prefix cs e x v t));
  }
