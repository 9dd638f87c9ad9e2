-- Twelve counts of two lists, place by place (specs/Parts, `added`). Assumes nothing.
use Rattle.model.specs.Kit.{◌≡◌, refl, sym, ap, ap₂, ◌∙◌, subst, Bool, true, false, List, [], ◌++◌, ℕ, ◌+◌, ◌≤◌, ◌<◌, arith, eqb, ltb, length, replicate, length-append, ltb-true, ltb-false}
use Rattle.model.specs.{Lists.at, Lists.keep, Lists.tabulate, Run.counts_by}
use Rattle.model.proofs.{Lists.keep_append, Lists.length_tabulate, Lists.at_tabulate, Lists.at_ext, Lists.at_out, Tally.length_counts, Tally.at_counts}
use Rattle.run_cut.specs.Parts.{added}

pub length_added : (xs ys : List ℕ) → length (added xs ys) ≡ 12
unfolding added
length_added xs ys = length_tabulate 12 (λ x. at xs x + at ys x)

pub at_added : (xs ys : List ℕ) (x : ℕ) → x < 12 → at (added xs ys) x ≡ at xs x + at ys x
unfolding added
at_added xs ys x h = at_tabulate 12 (λ x. at xs x + at ys x) x h

-- a list with these twelve
pub is_added : (xs ys zs : List ℕ) → length zs ≡ 12 → ((x : ℕ) → x < 12 → at zs x ≡ at xs x + at ys x) → zs ≡ added xs ys
is_added xs ys zs e h = at_ext zs (added xs ys) (e ∙ sym (length_added xs ys)) (λ x l. let m : x < 12 = omega arith in h x m ∙ sym (at_added xs ys x m))

pub added_assoc : (xs ys zs : List ℕ) → added (added xs ys) zs ≡ added xs (added ys zs)
added_assoc xs ys zs = is_added xs (added ys zs) (added (added xs ys) zs) (length_added (added xs ys) zs) (λ x l.
    let a = at_added (added xs ys) zs x l in
    let b = at_added xs ys x l in
    let c = at_added ys zs x l in
    omega arith)

-- ---- of two lists, one behind the other
pub counts_append : {A : Type 0} (f : A → ℕ) (l m : List A) (x : ℕ) → at (counts_by f (l ++ m)) x ≡ at (counts_by f l) x + at (counts_by f m) x
counts_append {A} f l m x = go (ltb x 12) refl
  where
    out : (k : List A) → 12 ≤ x → at (counts_by f k) x ≡ 0
    out k h = at_out (counts_by f k) x (subst (λ (n : ℕ). n ≤ x) (sym (length_counts f k)) h)

    go : (b : Bool) → ltb x 12 ≡ b → at (counts_by f (l ++ m)) x ≡ at (counts_by f l) x + at (counts_by f m) x
    go true e =
        let h = ltb-true x 12 e in
        at_counts f (l ++ m) x h ∙ ap length (keep_append (λ a. eqb (f a) x) l m) ∙ length-append (keep (λ a. eqb (f a) x) l) (keep (λ a. eqb (f a) x) m)
        ∙ sym (ap₂ (λ (i j : ℕ). i + j) (at_counts f l x h) (at_counts f m x h))
    go false e =
        let h : 12 ≤ x = let z = ltb-false x 12 e in omega arith in
        out (l ++ m) h ∙ sym (ap₂ (λ (i j : ℕ). i + j) (out l h) (out m h))

pub counts_added : {A : Type 0} (f : A → ℕ) (l m : List A) → added (counts_by f l) (counts_by f m) ≡ counts_by f (l ++ m)
counts_added f l m = sym (is_added (counts_by f l) (counts_by f m) (counts_by f (l ++ m)) (length_counts f (l ++ m)) (λ x h. counts_append f l m x))

pub counts_none : {A : Type 0} (f : A → ℕ) → counts_by f [] ≡ replicate 12 0
unfolding counts_by tabulate keep
counts_none f = refl
