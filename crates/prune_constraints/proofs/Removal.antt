-- One constraint over the first n of sixteen sets, and one constraint's pruning as a removal at any prefix. Assumes nothing.
use Rattle.model.specs.Kit.{sym, List, Memᴰ, ℕ, ◌≤◌, ◌<◌, arith, take}
use Rattle.model.specs.{Lists.at, Problem.Problem, Problem.Constraint, Inner.Pruning.Sets, Inner.Pruning.Prunes, Inner.WellFormed.WellFormed}
use Rattle.model.proofs.{Sets.has_lt, Firsts.take_at, Firsts.take_sets, Firsts.take_e, Firsts.take_i, Firsts.take_inside, Prune.supported_mono, Prunes.removal_prunes}
use Rattle.arrays.specs.Inner.Pruning.{Fixed}
use Rattle.prune_constraints.specs.Inner.Revised.{revised}
use Rattle.prune_constraints.proofs.Rows.{revised_e, revised_i, revised_sets, fixed_kept}

-- ---- a constraint over the first n of the sets takes nothing from them exactly if it takes nothing from all sixteen
module _ (n : ℕ) (ds : List ℕ) (s : Sets 16 ds) (h : n ≤ 16) (c : Constraint) (i : (x : ℕ) → Memᴰ x c.scope → x < n) where
  pub fixed_take : Fixed ds c → Fixed (take n ds) c
  fixed_take f = fixed_kept c ds (take n ds) f (λ y m. take_at n ds s h y (i y m))

  pub fixed_all : Fixed (take n ds) c → Fixed ds c
  fixed_all f = fixed_kept c (take n ds) ds f (λ y m. sym (take_at n ds s h y (i y m)))

-- ---- the removal
module _ (p : Problem) (w : WellFormed p) (c : Constraint) (m : Memᴰ c p.constraints) (ds : List ℕ) (s : Sets 16 ds) where
  few : p.variables ≤ 16
  few = omega (arith, w.few)

  after : Sets 16 (revised ds c)
  after = revised_sets ds c 16 s.0

  pub revised_prunes : (prefix : List ℕ) → Prunes p prefix (take p.variables ds) (take p.variables (revised ds c))
  revised_prunes prefix = removal_prunes p prefix (take p.variables ds) (take p.variables (revised ds c)) record {
    sets = take_sets p.variables (revised ds c) after few;
    less = λ x v t. let r = take_e p.variables (revised ds c) after few x v t in take_i p.variables ds s few x v r.0 (revised_e ds c x v r.1).0;
    spared = λ x v t k.
        let r = take_e p.variables ds s few x v t in
        take_i p.variables (revised ds c) after few x v r.0
        (revised_i ds c x v (has_lt 16 (at ds x) v (s.1 x) r.1) r.1 (supported_mono (take p.variables ds) ds (take_inside p.variables ds s few) x v c (k.rows c m)));
  }
