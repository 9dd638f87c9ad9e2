-- The sets at a prefix in paper 01's words: the largest in which every value has its rows and no filter takes anything away. Assumes nothing.
use Rattle.model.specs.Kit.{◌≡◌, refl, sym, ◌∙◌, subst, false, List, ℕ, T, length, replicate, not-false}
use Rattle.model.specs.{Lists.at, ValueSets.has, ValueSets.any_empty, ValueSets.Inside, Problem.Problem, Nogood.Entry, Nogood.filtered, Search.entries_at, Search.nogoods_of, Search.pruned}
use Rattle.model.specs.{Search.narrowed, Search.sets_at, Search.is_live, Claims.Consistent, Inner.Pruning.Sets, Inner.Pruning.closed}
use Rattle.model.proofs.Prune.{supported_i, supported_e, Kept, fixed_i, fixed_e, narrowed_i, narrowed_e, Sized, Largest, largest, sets_at_live, sets_at_none, live_is, live_closed}
use Rattle.model.proofs.{Lists.T_of, Sets.has_lt, Sets.inside_antisym, Sets.empty_inside, Filter.filtered_sets, Filter.filtered_inside}

-- a filter that keeps each value takes nothing away
filter_same : (n : ℕ) (ds : List ℕ) (es : List Entry) → Sets n ds → ((x v : ℕ) → T (has (at ds x) v) → T (has (at (filtered ds es) x) v)) → filtered ds es ≡ ds
filter_same n ds es s h = inside_antisym (length ds) (filtered ds es) ds (filtered_sets ds es) (refl, s.1) (filtered_inside ds es) h

pub consistent_e : (p : Problem) (prefix es : List ℕ) → Consistent (λ x. x) p prefix es → Sets p.variables es × Inside es (narrowed prefix p.initial) × (pruned p prefix es ≡ es)
unfolding nogoods_of entries_at
consistent_e p prefix es c = (
  s,
  λ x v t. narrowed_i prefix p.initial x v (has_lt 16 (at es x) v (c.sixteen x) t) (c.inside x v t) (λ l. c.given x v l t),
  fixed_i p prefix es s (λ x v t. record {
    member = t;
    rows = λ r m. supported_i es x v r (λ i. c.rows r m x v i t);
    filters = λ g m. subst (λ (l : List ℕ). T (has (at l x) v)) (sym (c.filters g m)) t;
  }),
)
  where
    s : Sets p.variables es
    s = (c.sized, c.sixteen)

pub largest_consistent : (p : Problem) (prefix ds : List ℕ) → Largest p prefix ds → Consistent (λ x. x) p prefix ds
unfolding nogoods_of entries_at
largest_consistent p prefix ds l = record {
  sized = l.sets.0;
  sixteen = l.sets.1;
  inside = λ x v t. (narrowed_e prefix p.initial x v (l.inside x v t)).0;
  given = λ x v i t. (narrowed_e prefix p.initial x v (l.inside x v t)).1 i;
  rows = λ c m x v i t. supported_e ds x v c i ((kept x v t).rows c m);
  filters = λ g m. filter_same p.variables ds (nogoods_of p g prefix) l.sets (λ x v t. (kept x v t).filters g m);
}
  where
    kept : (x v : ℕ) → T (has (at ds x) v) → Kept p prefix ds x v
    kept = fixed_e p prefix ds l.fixed

pub live_consistent : (p : Problem) (prefix : List ℕ) → Sized p → T (is_live p prefix) → Consistent (λ x. x) p prefix (sets_at p prefix)
live_consistent p prefix s t = subst (Consistent (λ x. x) p prefix) (sym (sets_at_live p prefix (live_closed p prefix t))) (largest_consistent p prefix (closed p prefix) (largest p prefix s))

-- such sets lie inside the largest
inside_closed : (p : Problem) (prefix : List ℕ) → Sized p → (es : List ℕ) → Consistent (λ x. x) p prefix es → Sets p.variables es × Inside es (closed p prefix)
inside_closed p prefix s es c = let r = consistent_e p prefix es c in (r.0, (largest p prefix s).above es r.0.0 r.1 r.2)

pub consistent_inside : (p : Problem) (prefix : List ℕ) → Sized p → T (is_live p prefix) → (es : List ℕ) → Consistent (λ x. x) p prefix es → Inside es (sets_at p prefix)
consistent_inside p prefix s l es c x v t = subst (λ (ds : List ℕ). T (has (at ds x) v)) (sym (sets_at_live p prefix (live_closed p prefix l))) ((inside_closed p prefix s es c).1 x v t)

pub dead_empty : (p : Problem) (prefix : List ℕ) → Sized p → is_live p prefix ≡ false → (es : List ℕ) → Consistent (λ x. x) p prefix es → T (any_empty es)
dead_empty p prefix s e es c =
    let r = inside_closed p prefix s es c in
    empty_inside p.variables es (closed p prefix) r.0 (largest p prefix s).sets r.1 (T_of (any_empty (closed p prefix)) (not-false (any_empty (closed p prefix)) (sym (live_is p prefix) ∙ e)))

pub dead_none : (p : Problem) (prefix : List ℕ) → Sized p → is_live p prefix ≡ false → sets_at p prefix ≡ replicate p.variables 0
dead_none p prefix s e = sets_at_none p prefix s (not-false (any_empty (closed p prefix)) (sym (live_is p prefix) ∙ e))
