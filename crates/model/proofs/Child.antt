-- A child's sets lie inside its parent's, so a program may start from the parent's sets with the next variable fixed. Assumes nothing.
use Rattle.model.specs.Kit.{◌≡◌, refl, sym, ap, ◌∙◌, subst, true, List, [], ◌∷◌, ◌++◌, ℕ, suc, ◌^◌, ◌<◌, ℕ_discrete, arith, T, eqb, eqb→eq, eqb_refl, length, set, length-append, length-set}
use Rattle.model.specs.Kit.{pow-lt}
use Rattle.model.specs.{Lists.at, ValueSets.has, ValueSets.Inside, Problem.Problem, Nogood.Entry, Nogood.obeys, Search.nogoods_of, Search.narrowed, Search.sets_at}
use lib.Seq.{get_or-set_same, get_or-set_other}
use Rattle.model.specs.Inner.Pruning.{closed, Way}
use Rattle.model.proofs.Prune.{Kept, fixed_i, fixed_e, narrowed_i, narrowed_e, Sized, start_sets, Largest, largest, sets_at_live, value_live, sets_at_mono}
use Rattle.model.proofs.{Lists.at_append, Lists.at_seam, Sets.has_lt, Sets.has_at_lt, Masks.has_one, Filter.filtered_i, Filter.filtered_e, Filter.obeys_front, Tree.nogoods_append}

-- ---- a longer prefix
module _ (p : Problem) (prefix more : List ℕ) (s : Sized p) where
  narrowed_longer : Inside (narrowed (prefix ++ more) p.initial) (narrowed prefix p.initial)
  narrowed_longer x v t =
      let b : v < 16 = has_lt 16 (at (narrowed (prefix ++ more) p.initial) x) v ((start_sets p (prefix ++ more) s).1 x) t in
      let r = narrowed_e (prefix ++ more) p.initial x v t in
      narrowed_i prefix p.initial x v b r.0 (λ l. r.1 (omega (arith, length-append prefix more)) ∙ at_append prefix more x l)

  kept_longer : (ds : List ℕ) (x v : ℕ) → Kept p (prefix ++ more) ds x v → Kept p prefix ds x v
  kept_longer ds x v k = record {
    member = k.member;
    rows = k.rows;
    filters = λ g m.
        let r = filtered_e ds (nogoods_of p g (prefix ++ more)) x v (k.filters g m) in
        filtered_i ds (nogoods_of p g prefix) x v r.0 (has_at_lt ds x v k.member) r.1
        (obeys_front true r.0 (nogoods_of p g prefix) _ (subst (λ (es : List Entry). T (obeys r.0 es)) (nogoods_append p g prefix more) r.2)) r.3;
  }

  -- its sets lie inside those of the shorter
  pub child_inside : Inside (closed p (prefix ++ more)) (closed p prefix)
  child_inside =
      let k = largest p (prefix ++ more) s in
      let ds = closed p (prefix ++ more) in
      (largest p prefix s).above ds k.sets.0 (λ x v t. narrowed_longer x v (k.inside x v t))
      (fixed_i p prefix ds k.sets (λ x v t. kept_longer ds x v (fixed_e p (prefix ++ more) ds k.fixed x v t)))

  pub child_sets : Inside (sets_at p (prefix ++ more)) (sets_at p prefix)
  child_sets = sets_at_mono p p (prefix ++ more) prefix s s refl child_inside

-- ---- the child with value v
-- starting from the parent's sets with the next variable fixed is a good start
pub child_start : (p : Problem) (prefix : List ℕ) (v : ℕ) → Sized p → T (has (at (sets_at p prefix) (length prefix)) v) → Way p (prefix ++ (v ∷ [])) (set (sets_at p prefix) (length prefix) (2 ^ v))
unfolding at
child_start p prefix v s t = record {
  sets = (length-set ds j m ∙ k.sets.0, λ x. small x (ℕ_discrete x j));
  inside = λ x u q. inner x u (ℕ_discrete x j) q;
  over = λ x u q. outer x u (ℕ_discrete x j) q;
}
  where
    j : ℕ
    j = length prefix

    m : ℕ
    m = 2 ^ v

    ds : List ℕ
    ds = sets_at p prefix

    e : ds ≡ closed p prefix
    e = sets_at_live p prefix (value_live p prefix j v t)

    k : Largest p prefix ds
    k = subst (Largest p prefix) (sym e) (largest p prefix s)

    child : List ℕ
    child = prefix ++ (v ∷ [])

    long : length child ≡ suc j
    long = length-append prefix (v ∷ []) ∙ omega arith

    here : (x : ℕ) → x ≡ j → at (set ds j m) x ≡ m
    here x q = ap (at (set ds j m)) q ∙ get_or-set_same ds j m 0 (has_at_lt ds j v t)

    there : (x : ℕ) → (x ≡ j → ⊥) → at (set ds j m) x ≡ at ds x
    there x n = get_or-set_other ds j x m 0 n

    small : (x : ℕ) → Dec (x ≡ j) → at (set ds j m) x < 2 ^ 16
    small x (yes q) = subst (λ (z : ℕ). z < 2 ^ 16) (sym (here x q)) (pow-lt (has_lt 16 (at ds j) v (k.sets.1 j) t))
    small x (no n) = subst (λ (z : ℕ). z < 2 ^ 16) (sym (there x n)) (k.sets.1 x)

    -- v is the one member of m
    alone : (u : ℕ) → T (has m u) → u ≡ v
    alone u h = eqb→eq u v (subst T (has_one v u) h)

    bound : (x u : ℕ) → T (has (at ds x) u) → u < 16
    bound x u h = has_lt 16 (at ds x) u (k.sets.1 x) h

    inner : (x u : ℕ) → Dec (x ≡ j) → T (has (at (set ds j m) x) u) → T (has (at (narrowed child p.initial) x) u)
    inner x u (yes q) h =
        let i : u ≡ v = alone u (subst (λ (z : ℕ). T (has z u)) (here x q) h) in
        let h' : T (has (at ds x) u) = subst (λ (z : ℕ). T (has (at ds z) u)) (sym q) (subst (λ (w : ℕ). T (has (at ds j) w)) (sym i) t) in
        narrowed_i child p.initial x u (bound x u h') (narrowed_e prefix p.initial x u (k.inside x u h')).0 (λ l. i ∙ sym (ap (at child) q ∙ at_seam prefix v []))
    inner x u (no n) h =
        let h' : T (has (at ds x) u) = subst (λ (z : ℕ). T (has z u)) (there x n) h in
        let r = narrowed_e prefix p.initial x u (k.inside x u h') in
        narrowed_i child p.initial x u (bound x u h') r.0 (λ l. let i : x < j = omega (arith, long) in r.1 i ∙ sym (at_append prefix (v ∷ []) x i))

    outer : (x u : ℕ) → Dec (x ≡ j) → T (has (at (closed p child) x) u) → T (has (at (set ds j m) x) u)
    outer x u (yes q) h =
        let r = narrowed_e child p.initial x u ((largest p child s).inside x u h) in
        let i : u ≡ v = r.1 (omega (arith, long)) ∙ ap (at child) q ∙ at_seam prefix v [] in
        subst (λ (z : ℕ). T (has z u)) (sym (here x q)) (subst T (sym (has_one v u)) (subst (λ (w : ℕ). T (eqb u w)) i (eqb_refl u)))
    outer x u (no n) h = subst (λ (z : ℕ). T (has z u)) (sym (there x n)) (subst (λ (l : List ℕ). T (has (at l x) u)) (sym e) (child_inside p prefix (v ∷ []) s x u h))
