-- More symmetries: smaller sets, fewer nodes, fewer plans; and a run that finishes still finishes. Assumes nothing.
use Rattle.model.specs.Kit.{◌≡◌, refl, sym, subst, List, [], ◌∷◌, ◌++◌, Memᴰ, ℕ, zero, suc, ◌≤◌, mul-le-mul_right, T, eqb, length}
use Rattle.model.specs.{Lists.keep, Lists.at, ValueSets.has, ValueSets.Inside, Problem.Problem, Problem.pair, Problem.with_symmetries, Nogood.Entry, Nogood.filtered, Search.entries_at}
use Rattle.model.specs.{Search.nogoods_of, Search.pruned, Search.sets_at, Search.is_live, Search.nodes_below, Search.nodes, Search.is_plan, Run.finished, Run.result_of, Inner.Pruning.closed}
use mathlib.Core.List.{Sublistᴰ}
use native.Mathlib.Nat.{le_trans}
use Rattle.model.proofs.Lists.{both_i, both_l, both_r, sublist_keep, sublist_length, sublist_flat_map}
use Rattle.model.proofs.Prune.{Kept, pruned_i, pruned_e, pruned_inside, pruned_sets, Sized, largest, sets_at_mono, live_mono}
use Rattle.model.proofs.{Sets.inside_antisym, Sets.members_sub, Runs.finished_rows, Runs.finished_fits, Runs.finishes}

module _ (p : Problem) (gs : List (List ℕ)) (s : Sized p) (h : (g : List ℕ) → Memᴰ g p.symmetries → Memᴰ g gs) where
  pub nogoods_same : (g prefix : List ℕ) → nogoods_of (with_symmetries p gs) g prefix ≡ nogoods_of p g prefix
  unfolding nogoods_of entries_at pair
  nogoods_same g prefix = refl

  pub kept_less : (prefix ds : List ℕ) (x v : ℕ) → Kept (with_symmetries p gs) prefix ds x v → Kept p prefix ds x v
  kept_less prefix ds x v k = record {
    member = k.member;
    rows = k.rows;
    filters = λ g m. subst (λ (l : List Entry). T (has (at (filtered ds l) x) v)) (nogoods_same g prefix) (k.filters g (h g m));
  }

  pub pruned_less : (prefix ds : List ℕ) → Inside (pruned (with_symmetries p gs) prefix ds) (pruned p prefix ds)
  pruned_less prefix ds x v t = let r = pruned_e (with_symmetries p gs) prefix ds x v t in pruned_i p prefix ds x v r.0 r.1 (kept_less prefix ds x v r.2)

  pub closed_less : (prefix : List ℕ) → Inside (closed (with_symmetries p gs) prefix) (closed p prefix)
  closed_less prefix =
      let q = with_symmetries p gs in
      let k = largest q prefix s in
      let ds = closed q prefix in
      (largest p prefix s).above ds k.sets.0 k.inside
      (inside_antisym p.variables (pruned p prefix ds) ds (pruned_sets p prefix ds) k.sets (pruned_inside p prefix ds)
      (λ x v t. pruned_less prefix ds x v (subst (λ (l : List ℕ). T (has (at l x) v)) (sym k.fixed) t)))

  -- the sets at a prefix
  pub sets_at_less : (prefix : List ℕ) → Inside (sets_at (with_symmetries p gs) prefix) (sets_at p prefix)
  sets_at_less prefix = sets_at_mono (with_symmetries p gs) p prefix prefix s s refl (closed_less prefix)

  pub live_less : (prefix : List ℕ) → T (is_live (with_symmetries p gs) prefix) → T (is_live p prefix)
  live_less prefix = live_mono (with_symmetries p gs) p prefix prefix s s refl (closed_less prefix)

  -- the nodes
  nodes_below_less : (k : ℕ) (prefix : List ℕ) → Sublistᴰ (nodes_below (with_symmetries p gs) k prefix) (nodes_below p k prefix)
  unfolding nodes_below
  nodes_below_less zero prefix = Sublistᴰ.slnil
  nodes_below_less (suc k) prefix =
      sublist_flat_map (λ v. (prefix ++ (v ∷ [])) ∷ nodes_below (with_symmetries p gs) k (prefix ++ (v ∷ []))) (λ v. (prefix ++ (v ∷ [])) ∷ nodes_below p k (prefix ++ (v ∷ [])))
      (members_sub (at (sets_at (with_symmetries p gs) prefix) (length prefix)) (at (sets_at p prefix) (length prefix)) (sets_at_less prefix (length prefix)))
      (λ v. Sublistᴰ.cons-cons refl (nodes_below_less k (prefix ++ (v ∷ []))))

  pub nodes_less : Sublistᴰ (nodes (with_symmetries p gs)) (nodes p)
  unfolding nodes
  nodes_less = nodes_below_less p.variables []

  -- the plans
  pub plan_less : (a : List ℕ) → T (is_plan (with_symmetries p gs) a) → T (is_plan p a)
  unfolding is_plan
  plan_less a t =
      let b = eqb (length a) p.variables in
      both_i b (is_live p a) (both_l b (is_live (with_symmetries p gs) a) t) (live_less a (both_r b (is_live (with_symmetries p gs) a) t))

  pub plans_less : Sublistᴰ (keep (is_plan (with_symmetries p gs)) (nodes (with_symmetries p gs))) (keep (is_plan p) (nodes p))
  plans_less = sublist_keep (is_plan (with_symmetries p gs)) (is_plan p) nodes_less plan_less

-- the runs of p' against a finished run of p: a finished one lists no other plan and makes no more nodes, and under the same limit and room it is finished
abbrev pub FewerIn : Problem → Problem → Type 0
FewerIn p p' =
    (limit room plans made : ℕ) → (result_of p limit room).ending ≡ finished plans made →
    ((limit' room' plans' made' : ℕ) → (result_of p' limit' room').ending ≡ finished plans' made' →
    Sublistᴰ (result_of p' limit' room').rows (result_of p limit room).rows × (made' ≤ made))
    × ((plans' : ℕ) × (made' : ℕ) × ((result_of p' limit room).ending ≡ finished plans' made'))

pub fewer : (p : Problem) (gs : List (List ℕ)) → Sized p → ((g : List ℕ) → Memᴰ g p.symmetries → Memᴰ g gs) → FewerIn p (with_symmetries p gs)
fewer p gs s h limit room plans made e =
    let q = with_symmetries p gs in
    let r = finished_rows p limit room plans made e in
    let f = finished_fits p limit room plans made e in
    let n = sublist_length (nodes_less p gs s h) in
    let m = sublist_length (plans_less p gs s h) in (
      λ limit' room' plans' made' e'.
          let r' = finished_rows q limit' room' plans' made' e' in (
            subst (λ (l : List (List ℕ)). Sublistᴰ l (result_of p limit room).rows) (sym r'.0)
                (subst (λ (l : List (List ℕ)). Sublistᴰ (keep (is_plan q) (nodes q)) l) (sym r.0) (plans_less p gs s h)),
            subst (λ (k : ℕ). k ≤ made) (sym r'.2) (subst (λ (k : ℕ). length (nodes q) ≤ k) (sym r.2) n),
          ),
      (length (keep (is_plan q) (nodes q)), length (nodes q), finishes q limit room (le_trans n f.0) (le_trans (mul-le-mul_right p.variables m) f.1)),
    )
