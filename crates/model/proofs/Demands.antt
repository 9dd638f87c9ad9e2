-- What the filter leaves, what question 16 shows and what the sets at a prefix are (specs/Claims), proved of every sheet. Assumes nothing.
use Rattle.model.specs.Kit.{◌≡◌, refl, sym, ap, ap₂, ◌∙◌, subst, ◌↔◌, List, [], ◌∷◌, ◌++◌, Memᴰ, Memᴰ-head, Memᴰ-tail, append_assoc, ℕ, ◌^◌, ◌<◌, arith, T, length, take, drop}
use Rattle.model.specs.Kit.{replicate, length-replicate}
use Rattle.model.specs.{Lists.keep, Lists.flat, Lists.at, Lists.earlier, ValueSets.has, Problem.Problem, Problem.assignments, Verdict.Verdict, Verdict.accepted, Verdict.refused}
use Rattle.model.specs.{Verdict.is_accepted, Verdict.refusal, Verdict.answered, Verdict.reply, Sheet.verdict_of, Sheet.problem_of, Nogood.filtered, Nogood.Entry, Nogood.obeys, Run.written}
use Rattle.model.specs.{Run.listed_plans, Search.sets_at, Search.is_live, Claims.Drawn, Claims.SymmetriesRespect, Claims.Largest, Claims.is_leader, Claims.leaders, Inner.WellFormed.WellFormed}
use mathlib.Core.Logic.{∥∥₁_elim}
use lib.Dec.{T_prop}
use lib.Seq.{take_at, drop_at}
use Rattle.model.specs.Inner.WellFormed.{Respected}
use Rattle.model.proofs.{Lists.not_of, Lists.keep_ext, Lists.at_ext, Lists.at_replicate, Lists.never, Sets.has_none, Sets.mask_ext, Assignments.drawn_i, Assignments.drawn_e}
use Rattle.model.proofs.{Filter.length_filtered, Filter.filtered_i, Filter.filtered_e, Filter.filtered_sets, Prune.Sized, Consistent.live_consistent, Consistent.consistent_inside}
use Rattle.model.proofs.{Consistent.dead_none, Consistent.dead_empty, Tree.plan_test, Tree.well_sized, Accepted.Passed, Accepted.passed, Leaders.leader_is}

-- ---- what a caller holds: the rows that the run listed
listed_back : (n : ℕ) (rows : List (List ℕ)) (rest : List ℕ) → ((r : List ℕ) → Memᴰ r rows → length r ≡ n) → listed_plans n (length rows) (flat rows ++ rest) ≡ rows
unfolding listed_plans flat
listed_back n [] rest h = refl
listed_back n (r ∷ rows) rest h =
    let e = h r (Memᴰ-head refl) in
    let a = append_assoc r (flat rows) rest in
    ap₂ (λ (x : List ℕ) (y : List (List ℕ)). x ∷ y) (ap (take n) a ∙ take_at r (flat rows ++ rest) n e)
    (ap (λ (l : List ℕ). listed_plans n (length rows) l) (ap (drop n) a ∙ drop_at r (flat rows ++ rest) n e) ∙ listed_back n rows rest (λ s m. h s (Memᴰ-tail m)))

pub read_back : (n : ℕ) (rows : List (List ℕ)) (out : List ℕ) (k : ℕ) → k ≡ length rows → ((r : List ℕ) → Memᴰ r rows → length r ≡ n) → listed_plans n k (written rows out) ≡ rows
unfolding written
read_back n rows out k e h = ap (λ (j : ℕ). listed_plans n j (written rows out)) e ∙ listed_back n rows (drop (length (flat rows)) out) h

-- a reply is by the verdict: an answer where nothing is refused, else the refusal
pub reply_so : {A : Type 0} (v : Verdict) (x a : A) → reply v x ≡ answered a → (v ≡ accepted) × (x ≡ a)
reply_so accepted x a h = (refl, cc)
reply_so (refused number item) x a h = never (cc)

pub reply_refused : {A : Type 0} (v : Verdict) (x : A) (number item : ℕ) → reply v x ≡ refusal number item → v ≡ refused number item
reply_refused accepted x number item h = never (cc)
reply_refused (refused n i) x number item h = cc

-- an accepted sheet states a well-formed problem
pub of_accepted : (b : List ℕ) → verdict_of b ≡ accepted → Passed b
of_accepted b h = passed b (subst (λ (v : Verdict). T (is_accepted v)) (sym h) tt)

-- ---- the filter
-- a value stays exactly if some assignment from the sets uses it and obeys every nogood
pub filter_keeps : (ds : List ℕ) (es : List Entry) → ((x : ℕ) → at ds x < 2 ^ 16) → (x v : ℕ) → x < length ds →
    T (has (at (filtered ds es) x) v) ↔ ∥ ((a : List ℕ) × Drawn ds a × T (obeys a es) × (at a x ≡ v)) ∥₁
filter_keeps ds es s x v l = (
  λ t. let r = filtered_e ds es x v t in ∣ (r.0, drawn_e ds r.0 r.1, r.2, r.3) ∣₁,
  λ h. ∥∥₁_elim h (T_prop (has (at (filtered ds es) x) v)) (λ r. filtered_i ds es x v r.0 l (drawn_i ds r.0 s r.1) r.2 r.3),
)

-- without such an assignment every set is empty
pub filter_empties : (ds : List ℕ) (es : List Entry) → ((x : ℕ) → at ds x < 2 ^ 16) → ((a : List ℕ) → Drawn ds a → T (obeys a es) → ⊥) → filtered ds es ≡ replicate (length ds) 0
filter_empties ds es s none =
    at_ext (filtered ds es) (replicate (length ds) 0) (length_filtered ds es ∙ sym (length-replicate (length ds) 0))
    (λ x l. mask_ext 16 (at (filtered ds es) x) (at (replicate (length ds) 0) x) ((filtered_sets ds es).1 x) (subst (λ (n : ℕ). n < 2 ^ 16) (sym (at_replicate (length ds) x)) (omega arith))
    (λ v b. not_of (has (at (filtered ds es) x) v) (λ t. let r = filtered_e ds es x v t in none r.0 (drawn_e ds r.0 r.1) r.2) ∙ sym
    (ap (λ (n : ℕ). has n v) (at_replicate (length ds) x) ∙ has_none v)))

-- ---- question 16
pub symmetries_respect : SymmetriesRespect
symmetries_respect b h g m = let q = of_accepted b h in ((q.well.symmetric g m).permutes, q.respected.respectful g m)

-- ---- the sets at a prefix
pub sets_largest : (b : List ℕ) (prefix : List ℕ) → verdict_of b ≡ accepted → Largest (λ x. x) (problem_of b) prefix (is_live (problem_of b) prefix) (sets_at (problem_of b) prefix)
sets_largest b prefix h =
    (λ l. (live_consistent (problem_of b) prefix s l, consistent_inside (problem_of b) prefix s l), λ e. (dead_none (problem_of b) prefix s e, dead_empty (problem_of b) prefix s e))
  where
    s : Sized (problem_of b)
    s = well_sized (problem_of b) (of_accepted b h).well

-- ---- the plans of the tree are the leaders
pub same_test : (p : Problem) → WellFormed p → Respected p → keep (plan_test p) (assignments p.initial) ≡ leaders p
same_test p w r = keep_ext (plan_test p) (is_leader earlier p) (assignments p.initial) (λ s m. sym (leader_is p w r s))
