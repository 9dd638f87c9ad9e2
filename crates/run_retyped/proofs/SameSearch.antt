-- Paper 02, #109, problems: two that have the same symmetries, in whatever order, have the same sets, nodes, plans and runs. Assumes nothing.
use Rattle.model.specs.Kit.{◌≡◌, refl, sym, ap, ◌∙◌, subst, Bool, true, false, not, List, [], ◌∷◌, ◌++◌, map, Memᴰ, ◌↔◌, ℕ, zero, suc, ◌*◌, T, eqb, leb, length}
use Rattle.model.specs.Search.{entries_at, nogoods_of, pruned, narrowed, rounds, sets_at, is_live, nodes_below, nodes, is_plan}
use Rattle.model.specs.{Lists.at, Lists.same, Lists.both, Lists.flat, ValueSets.has, ValueSets.members, ValueSets.any_empty, Problem.Problem, Problem.pair, Problem.with_symmetries, Nogood.Entry}
use Rattle.model.specs.{Nogood.filtered, Run.Result, Run.spent, Run.full, Run.search, Run.result_of}
use Rattle.run_retyped.specs.Retyped.{SameSearch}
use Rattle.model.proofs.{Lists.map_ext, Sets.inside_antisym, Prune.Kept, Prune.pruned_i, Prune.pruned_e, Prune.pruned_sets}

-- ---- problems that differ only in the order of their symmetries
-- Neither the order nor the number of times that one is named matters, so each is among the others' is all that is asked.
pub record SameSymmetries (p q : Problem) : Type 0 where
  pub variables : q.variables ≡ p.variables
  pub values : q.values ≡ p.values
  pub initial : q.initial ≡ p.initial
  pub constraints : q.constraints ≡ p.constraints
  pub symmetries : (g : List ℕ) → Memᴰ g p.symmetries ↔ Memᴰ g q.symmetries

-- ---- one round
nogoods_same : (p : Problem) (gs : List (List ℕ)) (g prefix : List ℕ) → nogoods_of (with_symmetries p gs) g prefix ≡ nogoods_of p g prefix
unfolding nogoods_of entries_at pair
nogoods_same p gs g prefix = refl

kept_by : (p : Problem) (gs hs : List (List ℕ)) → ((g : List ℕ) → Memᴰ g hs → Memᴰ g gs) → (prefix ds : List ℕ) (x v : ℕ) → Kept (with_symmetries p gs) prefix ds x v → Kept
    (with_symmetries p hs) prefix ds x v
kept_by p gs hs h prefix ds x v k = record {
  member = k.member;
  rows = k.rows;
  filters = λ g m. subst (λ (l : List Entry). T (has (at (filtered ds l) x) v)) (nogoods_same p gs g prefix ∙ sym (nogoods_same p hs g prefix)) (k.filters g (h g m));
}

module _ (p : Problem) (gs : List (List ℕ)) (h : (g : List ℕ) → Memᴰ g p.symmetries ↔ Memᴰ g gs) where
  abbrev q : Problem
  q = with_symmetries p gs

  pruned_same : (prefix ds : List ℕ) → pruned q prefix ds ≡ pruned p prefix ds
  pruned_same prefix ds =
      inside_antisym p.variables (pruned q prefix ds) (pruned p prefix ds) (pruned_sets q prefix ds) (pruned_sets p prefix ds)
      (λ x v t. let r = pruned_e q prefix ds x v t in pruned_i p prefix ds x v r.0 r.1 (kept_by p gs p.symmetries (λ g. (h g).0) prefix ds x v r.2))
      (λ x v t. let r = pruned_e p prefix ds x v t in pruned_i q prefix ds x v r.0 r.1 (kept_by p p.symmetries gs (λ g. (h g).1) prefix ds x v r.2))

  rounds_same : (prefix : List ℕ) (k : ℕ) (ds : List ℕ) → rounds q prefix k ds ≡ rounds p prefix k ds
  unfolding rounds
  rounds_same prefix zero ds = refl
  rounds_same prefix (suc k) ds =
      ap (λ (next : List ℕ). elim (same ds next) [ true ↦ ds | false ↦ rounds q prefix k next ]) (pruned_same prefix ds)
      ∙ go (rounds_same prefix k (pruned p prefix ds)) (same ds (pruned p prefix ds))
    where
      go : rounds q prefix k (pruned p prefix ds) ≡ rounds p prefix k (pruned p prefix ds) → (b : Bool) →
          ◌≡◌ {A = List ℕ} (elim b [ true ↦ ds | false ↦ rounds q prefix k (pruned p prefix ds) ]) (elim b [ true ↦ ds | false ↦ rounds p prefix k (pruned p prefix ds) ])
      go ih true = refl
      go ih false = ih

  sets_same : (prefix : List ℕ) → sets_at q prefix ≡ sets_at p prefix
  unfolding sets_at
  sets_same prefix = ap (λ (ds : List ℕ). elim (any_empty ds) [ true ↦ map (λ s. 0) ds | false ↦ ds ]) (rounds_same prefix (p.variables * 16) (narrowed prefix p.initial))

  live_same : (prefix : List ℕ) → is_live q prefix ≡ is_live p prefix
  unfolding is_live
  live_same prefix = ap (λ (ds : List ℕ). not (any_empty ds)) (sets_same prefix)

  below_same : (k : ℕ) (prefix : List ℕ) → nodes_below q k prefix ≡ nodes_below p k prefix
  unfolding nodes_below
  below_same zero prefix = refl
  below_same (suc k) prefix =
      ap (λ (ds : List ℕ). flat (map (λ v. (prefix ++ (v ∷ [])) ∷ nodes_below q k (prefix ++ (v ∷ []))) (members (at ds (length prefix))))) (sets_same prefix)
      ∙ ap flat (map_ext (λ v. (prefix ++ (v ∷ [])) ∷ nodes_below q k (prefix ++ (v ∷ []))) (λ v. (prefix ++ (v ∷ [])) ∷ nodes_below p k (prefix ++ (v ∷ [])))
      (members (at (sets_at p prefix) (length prefix)))
      (λ v m. ap (λ (l : List (List ℕ)). (prefix ++ (v ∷ [])) ∷ l) (below_same k (prefix ++ (v ∷ [])))))

  nodes_same : nodes q ≡ nodes p
  unfolding nodes
  nodes_same = below_same p.variables []

  plan_same : (node : List ℕ) → is_plan q node ≡ is_plan p node
  unfolding is_plan
  plan_same node = ap (both (eqb (length node) p.variables)) (live_same node)

  search_same : (limit room : ℕ) (ts : List (List ℕ)) (made : ℕ) (rows : List (List ℕ)) → search q limit room ts made rows ≡ search p limit room ts made rows
  unfolding search
  search_same limit room [] made rows = refl
  search_same limit room (t ∷ ts) made rows =
      ap (step (search q limit room ts (suc made) rows) (search q limit room ts (suc made) (rows ++ (t ∷ []))) (eqb made limit)) (plan_same t)
      ∙ go (search_same limit room ts (suc made) rows) (search_same limit room ts (suc made) (rows ++ (t ∷ []))) (eqb made limit) (is_plan p t) (leb (suc (length rows) * p.variables) room)
    where
      S : Result
      S = record { ending = spent (length rows) made; rows = rows }

      F : Result
      F = record { ending = full (length rows) (suc made); rows = rows }

      step : Result → Result → Bool → Bool → Result
      step N Y b c = elim b [ true ↦ S | false ↦ elim c [ false ↦ N | true ↦ elim (leb (suc (length rows) * p.variables) room) [ false ↦ F | true ↦ Y ] ] ]

      go : {N N' Y Y' : Result} → N ≡ N' → Y ≡ Y' → (b c d : Bool) →
          ◌≡◌ {A = Result} (elim b [ true ↦ S | false ↦ elim c [ false ↦ N | true ↦ elim d [ false ↦ F | true ↦ Y ] ] ])
          (elim b [ true ↦ S | false ↦ elim c [ false ↦ N' | true ↦ elim d [ false ↦ F | true ↦ Y' ] ] ])
      go e f true c d = refl
      go e f false false d = e
      go e f false true false = refl
      go e f false true true = f

  result_same : (limit room : ℕ) → result_of q limit room ≡ result_of p limit room
  unfolding result_of
  result_same limit room = ap (λ (l : List (List ℕ)). search q limit room l 0 []) nodes_same ∙ search_same limit room (nodes p) 0 []

pub same_search : (p q : Problem) → SameSymmetries p q → SameSearch p q
same_search p q s = subst (SameSearch p) (sym whole) (record { sets = sets_same p gs h; live = live_same p gs h; plans = plan_same p gs h; tree = nodes_same p gs h; results = result_same p gs h })
  where
    gs : List (List ℕ)
    gs = q.symmetries

    h : (g : List ℕ) → Memᴰ g p.symmetries ↔ Memᴰ g gs
    h = s.symmetries

    whole : q ≡ with_symmetries p gs
    whole = λ i. record { variables = s.variables i; values = s.values i; initial = s.initial i; constraints = s.constraints i; symmetries = gs }
