-- Laws of obeying and of the exact filter: what it keeps, inside, monotone, idempotent, nothing for empty lists. Assumes nothing.
use Rattle.model.specs.Kit.{◌≡◌, refl, sym, ◌∙◌, subst, Bool, true, false, not, List, [], ◌∷◌, ◌++◌, Memᴰ, ℕ, ◌^◌, ◌≤◌, ◌<◌, arith, T, eqb, eqb→eq, eqb_refl, length, get_or}
use Rattle.model.specs.Nogood.{Entry, equality, disequality, is, obeys_from, obeys, obeying, used, filtered}
use Rattle.model.specs.{Lists.both, Lists.any, Lists.at, ValueSets.any_empty, ValueSets.has, ValueSets.mask_of, ValueSets.Inside, Problem.assignments, Inner.Pruning.Sets}
use Rattle.model.proofs.Lists.{of_not, both_i, both_l, both_r, keep_i, keep_e, any_i, any_e, at_tabulate, length_tabulate, get_d_at, at_out}
use Rattle.model.proofs.Sets.{empty_i, mask_i, mask_e, mask_lt, members_e, inside_antisym, has_at_lt}
use Rattle.model.proofs.Assignments.{drawn_through, assign_e, drawn_i, drawn_e, assign_mono}

-- ---- obeying: the entries in front
pub obeys_front : (h : Bool) (a : List ℕ) (es fs : List Entry) → T (obeys_from h a (es ++ fs)) → T (obeys_from h a es)
unfolding obeys_from
obeys_front h a [] fs t = tt
obeys_front h a (equality x v ∷ es) fs t = obeys_front (both h (is a x v)) a es fs t
obeys_front h a (disequality x v ∷ es) fs t =
    let c = not (both h (is a x v)) in
    both_i c (obeys_from h a es) (both_l c (obeys_from h a (es ++ fs)) t) (obeys_front h a es fs (both_r c (obeys_from h a (es ++ fs)) t))

-- ---- the filter: a value stays exactly if some assignment drawn from the sets obeys and has it
pub length_filtered : (ds : List ℕ) (es : List Entry) → length (filtered ds es) ≡ length ds
unfolding filtered used
length_filtered ds es = length_tabulate (length ds) _

at_filtered : (ds : List ℕ) (es : List Entry) (x : ℕ) → x < length ds → at (filtered ds es) x ≡ mask_of (λ v. any (λ a. is a x v) (obeying ds es))
unfolding filtered used
at_filtered ds es x h = at_tabulate (length ds) (λ y. mask_of (λ v. any (λ a. is a y v) (obeying ds es))) x h

pub filtered_i : (ds : List ℕ) (es : List Entry) (x v : ℕ) (a : List ℕ) → x < length ds → Memᴰ a (assignments ds) → T (obeys a es) → at a x ≡ v → T (has (at (filtered ds es) x) v)
unfolding obeying
filtered_i ds es x v a l m o e =
    let r = assign_e ds a m in
    let q = members_e (at ds x) (at a x) (r.1 x l) in
    let g : get_or a x 16 ≡ v = get_d_at a x 16 (subst (λ (n : ℕ). x < n) (sym r.0) l) ∙ e in
    subst (λ (s : ℕ). T (has s v)) (sym (at_filtered ds es x l))
    (mask_i (λ w. any (λ b. is b x w) (obeying ds es)) v (subst (λ (n : ℕ). n < 16) e q.0)
    (any_i (λ b. is b x v) (obeying ds es) a (keep_i (λ b. obeys b es) (assignments ds) a m o) (subst (λ (n : ℕ). T (eqb n v)) (sym g) (eqb_refl v))))

pub filtered_e : (ds : List ℕ) (es : List Entry) (x v : ℕ) → T (has (at (filtered ds es) x) v) → (a : List ℕ) × Memᴰ a (assignments ds) × T (obeys a es) × (at a x ≡ v)
unfolding obeying
filtered_e ds es x v t =
    let l : x < length ds = subst (λ (n : ℕ). x < n) (length_filtered ds es) (has_at_lt (filtered ds es) x v t) in
    let q = mask_e (λ w. any (λ b. is b x w) (obeying ds es)) v (subst (λ (s : ℕ). T (has s v)) (at_filtered ds es x l) t) in
    let r = any_e (λ b. is b x v) (obeying ds es) q.1 in
    let k = keep_e (λ b. obeys b es) (assignments ds) r.0 r.1 in
    let n = assign_e ds r.0 k.0 in
    (r.0, k.0, k.1, sym (get_d_at r.0 x 16 (subst (λ (j : ℕ). x < j) (sym n.0) l)) ∙ eqb→eq (get_or r.0 x 16) v r.2)

pub filtered_sets : (ds : List ℕ) (es : List Entry) → Sets (length ds) (filtered ds es)
filtered_sets ds es = (length_filtered ds es, go)
  where
    go : (x : ℕ) → at (filtered ds es) x < 2 ^ 16
    go x = pick (lib.Dec.ltb x (length ds)) refl
      where
        pick : (b : Bool) → lib.Dec.ltb x (length ds) ≡ b → at (filtered ds es) x < 2 ^ 16
        pick true e = subst (λ (s : ℕ). s < 2 ^ 16) (sym (at_filtered ds es x (borrow.Author.Tests.ltb-true x (length ds) e))) (mask_lt 16 _)
        pick false e = subst (λ (s : ℕ). s < 2 ^ 16) (sym (at_out (filtered ds es) x (subst (λ (n : ℕ). n ≤ x) (sym (length_filtered ds es)) (borrow.Author.Tests.ltb-false x (length ds) e))))
            (omega arith)

pub filtered_inside : (ds : List ℕ) (es : List Entry) → Inside (filtered ds es) ds
filtered_inside ds es x v t =
    let r = filtered_e ds es x v t in
    let l : x < length ds = subst (λ (n : ℕ). x < n) (length_filtered ds es) (has_at_lt (filtered ds es) x v t) in
    subst (λ (w : ℕ). T (has (at ds x) w)) r.3 ((drawn_e ds r.0 r.1).1 x l)

pub filtered_mono : (ds fs : List ℕ) (es : List Entry) → length ds ≡ length fs → Inside ds fs → Inside (filtered ds es) (filtered fs es)
filtered_mono ds fs es e h x v t =
    let r = filtered_e ds es x v t in
    let l : x < length ds = subst (λ (n : ℕ). x < n) (length_filtered ds es) (has_at_lt (filtered ds es) x v t) in
    filtered_i fs es x v r.0 (subst (λ (n : ℕ). x < n) e l) (assign_mono ds fs r.0 e h r.1) r.2 r.3

-- what is drawn from the sets and obeys is drawn from what the filter leaves
pub filtered_drawn : (ds : List ℕ) (es : List Entry) (a : List ℕ) → Memᴰ a (assignments ds) → T (obeys a es) → Memᴰ a (assignments (filtered ds es))
filtered_drawn ds es a m o =
    let r = assign_e ds a m in
    drawn_i (filtered ds es) a (filtered_sets ds es).1 (r.0 ∙ sym (length_filtered ds es), λ x l. filtered_i ds es x (at a x) a (subst (λ (n : ℕ). x < n) (length_filtered ds es) l) m o refl)

pub filtered_idem : (ds : List ℕ) (es : List Entry) → filtered (filtered ds es) es ≡ filtered ds es
filtered_idem ds es =
    inside_antisym (length ds) (filtered (filtered ds es) es) (filtered ds es)
    (subst (λ (n : ℕ). Sets n (filtered (filtered ds es) es)) (length_filtered ds es) (filtered_sets (filtered ds es) es)) (filtered_sets ds es)
    (filtered_inside (filtered ds es) es)
    (λ x v t. let r = filtered_e ds es x v t in filtered_i (filtered ds es) es x v r.0 (has_at_lt (filtered ds es) x v t) (filtered_drawn ds es r.0 r.1 r.2) r.2 r.3)

-- empty lists take nothing from non-empty sets
pub filtered_none : (ds : List ℕ) → ((x : ℕ) → at ds x < 2 ^ 16) → any_empty ds ≡ false → filtered ds [] ≡ ds
unfolding obeys_from
filtered_none ds small some =
    inside_antisym (length ds) (filtered ds []) ds (filtered_sets ds []) (refl, small) (filtered_inside ds [])
    (λ x v t.
    let r = drawn_through ds (λ y. (small y, λ l e. of_not (any_empty ds) some (empty_i ds y l e))) x v t in
    filtered_i ds [] x v r.0 (has_at_lt ds x v t) (drawn_i ds r.0 small r.1) tt r.2)
